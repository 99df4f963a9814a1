use Rattle.std.proofs.Common.{arith}
use Rattle.level_order.proofs.HeightLemmas.{heights_end, raised_count}
use Rattle.level_order.proofs.heights.heights_of.Goals as goal

pub returns-in-None : goal.returns-in-None
returns-in-None c = record {
  sound = c.in_ok-raise_all.ensures.sound;
  all = rw c.deref-in-loop-round.ensures.value at (rw c.in-None.is at c.in_ok-first_open.ensures);
}

pub loop-round-preserved : goal.loop-round-preserved
loop-round-preserved c =
    let found = rw c.deref-in-loop-round.ensures.value at (rw c.in-Some.is at c.in_ok-first_open.ensures) in
    (c.in_ok-raise-in-Some.ensures.raised.sound, omega (arith, c.loop-round.invariant.1, raised_count c.args.first c.args.links.now c.loop-round.heights.items c.raise_all.new.heights.items c.loop-round.invariant.0 c.in_ok-raise_all.ensures, c.in_ok-raise-in-Some.ensures.more found.0 found.1))

pub returns : goal.returns
returns c = heights_end c.args.first c.args.links.now c.loop-round.heights.items c.loop-round.invariant.0 (omega (arith, c.loop-round.invariant.1))
