use Rattle.std.proofs.Common.{rules, tests}
use Rattle.std.proofs.lemmas.Iterator.Consumers.{YieldsList-from_first}
use Rattle.std.proofs.lemmas.Iterator.Search.{any_from_yields_List}
use Rattle.http_wire.specs.TargetPath.{is_dots}
use Rattle.http_wire.specs.Pieces.{pieces_left}
use Rattle.http_wire.proofs.target_path.has_dots.Goals as goal

pub returns : goal.returns
returns c =
    any_from_yields_List is_dots _ _ _ c.any.ensures.ran
    (YieldsList-from_first (λ x. x.now) pieces_left _ c.new.ensures) (λ x b q k. search (rules, tests))
