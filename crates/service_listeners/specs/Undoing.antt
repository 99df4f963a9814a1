-- What undoes a change of the listeners. Our own.
use Rattle.std.specs.Ordering.{is_lt, nat_cmp}
use Rattle.std.specs.Prelude.{ℕ, ◌-◌, ◌==◌, List, [], ◌∷◌, Bool, filter, length, map, not, take}
use Rattle.prop_map.specs.Words.{insert_by}
use Rattle.service_listeners.specs.declared.listener.Listener.{Listener}
use Rattle.service_listeners.specs.Listening.{Change, ListenerTable, events_for}
use Rattle.service_listeners.specs.Numbers.{has_number}

-- a listener without what it was told last, which was of this change
abbrev pub untold : Change → Listener → Listener
untold change l = record l { events = take (length l.events - length (events_for l.filter change)) l.events }

-- no listener was told of this change, of which all were told last
abbrev pub without_change : Change → ListenerTable → ListenerTable
without_change change t = record t { rows = map (untold change) t.rows }

abbrev pub has_lower_number : Listener → Listener → Bool
has_lower_number l m = is_lt (nat_cmp l.number m.number)

-- a listener in the place of the one of its number, or where it belongs
abbrev pub with_row : Listener → List Listener → List Listener
with_row l rows = insert_by has_lower_number l (filter (λ (m : Listener). not (has_number l.number m)) rows)

-- a listener that was removed, at its place again
abbrev pub with_listener : Listener → ListenerTable → ListenerTable
with_listener l t = record t { rows = with_row l t.rows }

-- ---- all listeners of a bundle

-- listeners that were removed, and for how many listeners there is room
pub record Kept : Type 0 where
  pub listeners : List Listener
  pub room : ℕ

abbrev pub listeners_of : ℕ → ListenerTable → List Listener
listeners_of bundle t = filter (λ (l : Listener). l.bundle == bundle) t.rows

-- rows among which each of some listeners is put, the last one first
abbrev pub with_rows : List Listener → List Listener → List Listener
with_rows [] rows = rows
with_rows (l ∷ more) rows = with_row l (with_rows more rows)

-- listeners that were removed, and at its place among them each that stands
abbrev pub with_listeners : List Listener → ListenerTable → ListenerTable
with_listeners kept t = record t { rows = with_rows t.rows kept }
