-- What a save of the listeners holds, and when a table has only gained since. Our own.
use Rattle.std.specs.Prelude.{◌≡◌, ℕ, List, [], ◌∷◌, ◌++◌, length, map, take}
use Rattle.service_listeners.specs.declared.listener.Listener.{Listener}
use Rattle.service_listeners.specs.declared.listener.ServiceEvent.{ServiceEvent}
use Rattle.service_listeners.specs.Listening.{ListenerTable}

-- how many events each listener was told, and how many numbers were given
pub record SavedListeners : Type 0 where
  pub told : List ℕ
  pub numbered : ℕ

abbrev pub count_told : Listener → ℕ
count_told l = length l.events

abbrev pub saved_of : ListenerTable → SavedListeners
saved_of t = record { told = map count_told t.rows; numbered = t.numbered }

-- a listener that was told no more than so many
abbrev pub with_first : ℕ → Listener → Listener
with_first count l = record l { events = take count l.events }

-- the first listeners, each told no more than so many
abbrev pub cut_to : List Listener → List ℕ → List Listener
cut_to [] counts = []
cut_to (l ∷ ls) [] = []
cut_to (l ∷ ls) (n ∷ ns) = with_first n l ∷ cut_to ls ns

-- the table with the first listeners, as many as were saved, each told no more than it was, and the numbers that were given
abbrev pub gone_back : SavedListeners → ListenerTable → ListenerTable
gone_back saved t = record { rows = cut_to t.rows saved.told; numbered = saved.numbered }

-- the listeners are those that were there, each perhaps told more, and then others
abbrev pub HaveGrown : List Listener → List Listener → Type 0
HaveGrown [] now = Unit {0}
HaveGrown (l ∷ ls) [] = ⊥
HaveGrown (l ∷ ls) (m ∷ ms) = ((more : List ServiceEvent) × (m ≡ record l { events = l.events ++ more })) × HaveGrown ls ms
