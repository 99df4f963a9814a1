use Rattle.std.proofs.Common.{◌≡◌, ◌+◌, ◌*◌, ◌≤◌, length, true}
use Rattle.script_shell.specs.Loads.{lines_of_load, load_setting}
use Rattle.script_shell.specs.Rests.{HasNothingDue}
use Rattle.script_shell.proofs.Loading.{LoadedSoFar}
use Rattle.script_shell.proofs.load_run.run_lines_of.Given as goal

abbrev pub invariant-loop-line : goal.invariant-loop-line
invariant-loop-line g l = record {
  loaded : LoadedSoFar (load_setting g.K.Kinds.refuses g.K.Kinds.next) (lines_of_load l.fn.load) l.lines l.initial.platform l.platform l.answered;
  rested : l.rested ≡ true → HasNothingDue l.platform;
  total : l.answered.lines + length l.lines ≡ 2 * l.fn.load.bundles + l.fn.load.commands;
  accepted : l.answered.accepted ≤ l.answered.lines;
  refused : l.answered.refused ≤ l.answered.lines;
}

abbrev pub decreases-loop-line : goal.decreases-loop-line
decreases-loop-line g l = length l.lines
