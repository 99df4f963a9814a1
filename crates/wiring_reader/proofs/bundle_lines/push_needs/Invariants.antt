use Rattle.std.proofs.Common.{◌≡◌, ◌++◌, drop, map}
use Rattle.bundle_wiring.specs.ByNeed.{wired_of}
use Rattle.wiring_reader.specs.Lines.{need_line_of}
use Rattle.wiring_reader.proofs.bundle_lines.push_needs.Given as goal

abbrev pub invariant-loop-wired : goal.invariant-loop-wired
invariant-loop-wired l = l.lines.items ++ map need_line_of (map wired_of (drop l.wired-index l.needs)) ≡ l.initial.lines.items ++ map need_line_of (map wired_of l.needs)
