use Rattle.std.proofs.Common.{◌≡◌, ◌++◌, drop, map}
use Rattle.bundle_wiring.specs.ByNeed.{wired_of}
use Rattle.wiring_reader.specs.Lines.{head_lines, paired}
use Rattle.wiring_reader.proofs.lines.push_heads.Given as goal

abbrev pub invariant-loop-place : goal.invariant-loop-place
invariant-loop-place l =
    l.lines.items ++ paired head_lines (drop l.place l.heads) (map (map wired_of) (drop l.place l.wired))
    ≡ l.initial.lines.items ++ paired head_lines l.heads (map (map wired_of) l.wired)
