use Rattle.std.proofs.Common.{◌≡◌, take}
use Rattle.std.specs.Prelude.{filter}
use Rattle.scr_consequences.specs.Gets.{use_stands}
use Rattle.scr_consequences.proofs.gets.first_ended.Given as goal

abbrev pub invariant-loop-row : goal.invariant-loop-row
invariant-loop-row l = filter (use_stands l.now) (take l.row-index l.uses) ≡ take l.row-index l.uses
