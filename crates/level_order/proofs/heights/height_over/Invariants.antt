use Rattle.std.proofs.Common.{◌≡◌, drop}
use Rattle.level_order.specs.Heights.{height_over}
use Rattle.level_order.proofs.HeightLemmas.{joined}
use Rattle.level_order.proofs.heights.height_over.Given as goal

abbrev pub invariant-loop-place : goal.invariant-loop-place
invariant-loop-place l = height_over l.rise l.places l.heights ≡ joined l.highest (height_over l.rise (drop l.place-index l.places) l.heights)
