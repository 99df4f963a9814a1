use Rattle.std.proofs.Common.{◌≡◌, ◌++◌, drop, map}
use Rattle.wiring_reader.specs.Parts.{head_of}
use Rattle.wiring_reader.proofs.parts.heads_of.Given as goal

abbrev pub invariant-loop-place : goal.invariant-loop-place
invariant-loop-place l = l.heads.items ++ map head_of (drop l.place l.documents) ≡ map head_of l.documents
