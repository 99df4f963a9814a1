use Rattle.std.proofs.lemmas.List.{take_rest}
use Rattle.http_wire.specs.Continuation.{ending}
use Rattle.http_wire.proofs.continuation.ending_from.Goals as goal

pub returns : goal.returns
unfolding ending
returns c = take_rest ending c.args.skip
