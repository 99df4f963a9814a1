-- What is always true of the rows of listeners: their numbers were given, each is above those before it.
use Rattle.std.specs.Prelude.{ℕ, ◌<◌, ◌≤◌, ◌==◌, List, Bool}
use Rattle.std.specs.List.{All, AllPairs}
use Rattle.service_listeners.specs.declared.listener.Listener.{Listener}

abbrev pub has_number : ℕ → Listener → Bool
has_number number l = l.number == number

-- each listener has a lower number than those behind it
abbrev pub AreRising : List Listener → Type 0
AreRising rows = AllPairs (λ (l m : Listener). l.number < m.number) rows

-- their numbers are from 1 on and were given
abbrev pub IsGiven : ℕ → Listener → Type 0
IsGiven numbered l = (0 < l.number) × (l.number ≤ numbered)

abbrev pub AreNumbered : ℕ → List Listener → Type 0
AreNumbered numbered rows = AreRising rows × All (IsGiven numbered) rows
