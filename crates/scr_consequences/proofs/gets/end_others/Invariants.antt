use Rattle.std.proofs.Common.{◌≡◌, length}
use Rattle.std.specs.Prelude.{filter}
use Rattle.scr_consequences.specs.Gets.{use_stands}
use Rattle.scr_consequences.proofs.gets.end_others.Given as goal

abbrev pub invariant-loop-row : goal.invariant-loop-row
invariant-loop-row l = filter (use_stands l.now) l.uses ≡ filter (use_stands l.now) l.initial.uses

abbrev pub decreases-loop-row : goal.decreases-loop-row
decreases-loop-row l = length l.uses
