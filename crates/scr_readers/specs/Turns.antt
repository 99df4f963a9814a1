-- The turns of a journal, kept beside it. Our own.
use Rattle.std.specs.Prelude.{◌≡◌, ℕ, ◌+◌, List, [], ◌∷◌}
use Rattle.scr_world.specs.declared.lines.TurnLine.{TurnLine}

-- the turns are numbered from this number on
abbrev pub AreCounted : ℕ → List TurnLine → Type 0
AreCounted number [] = Unit {0}
AreCounted number (line ∷ lines) = (line.turn ≡ number) × AreCounted (number + 1) lines
