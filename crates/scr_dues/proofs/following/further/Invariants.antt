use Rattle.std.proofs.Common.{◌≡◌, ◌+◌}
use Rattle.scr_dues.specs.Makings.{HoldsUpTo}
use Rattle.scr_dues.proofs.following.further.Given as goal

abbrev pub invariant-loop-reference : goal.invariant-loop-reference
invariant-loop-reference l = record {
  holds : HoldsUpTo l.instance l.references l.known;
  same : l.known.instance ≡ l.fn.making.instance;
  place : l.known.place ≡ l.fn.making.place + l.reference-index;
}
