use Rattle.std.proofs.Common.{arith, subst, length}
use Rattle.std.proofs.lemmas.List.{take_all}
use Rattle.http_wire.specs.ChunkedBody.{IsLessBody}
use Rattle.http_wire.proofs.BodyReadingLemmas.{less_nothing, body_front_at}
use Rattle.http_wire.proofs.body_reading.shortest.Goals as goal

pub loop-high-init : goal.loop-high-init
loop-high-init c = record {
  ordered = omega arith;
  in_range = omega arith;
  below = less_nothing;
  above = λ g. c.requires.whole (subst IsLessBody (take_all (length c.args.bytes.now) c.args.bytes.now (omega arith)) g);
}

pub returns-clause-front : goal.returns-clause-front
returns-clause-front c =
    body_front_at c.loop-high.low c.loop-high.high c.args.bytes.now c.loop-high.invariant.ordered c.loop-high.invariant.in_range (omega arith)
    c.loop-high.invariant.below c.loop-high.invariant.above
