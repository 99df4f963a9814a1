-- The fronts of what a session notes. Our own.
use Rattle.std.specs.Prelude.{◌≤◌, ℕ, List, [], ◌∷◌}
use Rattle.session_shell.specs.declared.item.SessionItem.{SessionItem}
use Rattle.session_shell.specs.declared.item.SessionItem.TheVariants.{Line as OfLine}

abbrev pub front_in : SessionItem → ℕ
front_in (OfLine front reply nested) = front

-- the fronts of these items begin here, never fall, and end there
abbrev pub Rising : ℕ → List SessionItem → ℕ → Type 0
Rising from [] to = from ≤ to
Rising from (item ∷ items) to = (from ≤ front_in item) × Rising (front_in item) items to
