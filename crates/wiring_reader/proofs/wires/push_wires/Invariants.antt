use Rattle.std.proofs.Common.{◌≡◌, ◌++◌, drop, map}
use Rattle.bundle_wiring.specs.ByNeed.{wired_of}
use Rattle.wiring_reader.specs.Lines.{wire_lines_of}
use Rattle.wiring_reader.proofs.wires.push_wires.Given as goal

abbrev pub invariant-loop-wired : goal.invariant-loop-wired
invariant-loop-wired l = l.lines.items ++ wire_lines_of l.bundle (map wired_of (drop l.wired-index l.needs)) ≡ l.initial.lines.items ++ wire_lines_of l.bundle (map wired_of l.needs)
