use Rattle.std.proofs.Common.{rules, tests}
use Rattle.std.proofs.lemmas.Iterator.Consumers.{YieldsList-from_first}
use Rattle.std.proofs.lemmas.Iterator.Search.{any_from_yields_List}
use Rattle.httparse.specs.Grammar.{trim_ows}
use Rattle.http_wire.specs.FieldValues.{is_same_word}
use Rattle.http_wire.specs.Pieces.{pieces_left}
use Rattle.http_wire.proofs.field_values.has_item.Goals as goal

pub returns : goal.returns
returns c =
    any_from_yields_List (λ piece. is_same_word (trim_ows piece) c.args.word.now) _ _ _ c.any.ensures.ran
    (YieldsList-from_first (λ x. x.now) pieces_left _ c.new.ensures) (λ x b q k. search (rules, tests))
