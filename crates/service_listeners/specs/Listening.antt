-- Events of services, and who is told of them. OSGi Core 8, chapter 5 "Service Layer"; the section stands at each group of words. Numbers are our own.
use Rattle.std.specs.Prelude.{ℕ, ◌+◌, ◌==◌, List, [], ◌∷◌, ◌++◌, map, not, filter, find, flat_map, Option, Some, None, if◌then◌else◌}
use Rattle.ldap_filter.specs.Matching.{matches}
use Rattle.ldap_filter.specs.Trees.{Tree}
use Rattle.service_registry.specs.declared.row.ServiceRow.{ServiceRow}
use Rattle.service_listeners.specs.declared.listener.Listener.{Listener}
use Rattle.service_listeners.specs.declared.listener.ServiceEvent.{ServiceEvent}

-- ---- the table

-- the listeners by number, and how many numbers were given
pub record ListenerTable : Type 0 where
  pub rows : List Listener
  pub numbered : ℕ

abbrev pub no_listeners : ListenerTable
no_listeners = record { rows = []; numbered = 0 }

abbrev pub listener_of : List Listener → ℕ → Option Listener
listener_of rows number = find (λ (l : Listener). l.number == number) rows

-- ---- what a listener is told ("Service Events")

-- a service before and after something happened to it: it came, it left, or its properties were set
abbrev pub Change : Type 0
Change = Option ServiceRow × Option ServiceRow

abbrev pub one_event : ℕ → ℕ → List ServiceEvent
one_event value service = record { value = value; service = service } ∷ []

-- MODIFIED 2 where the new properties match, MODIFIED_ENDMATCH 8 where only the old ones did
abbrev pub events_of_set : Tree → ServiceRow → ServiceRow → List ServiceEvent
events_of_set filter old new = if matches filter new.properties then one_event 2 new.id else (if matches filter old.properties then one_event 8 new.id else [])

-- what a listener with this filter is told of a change: REGISTERED 1, UNREGISTERING 4, or as above
abbrev pub events_for : Tree → Change → List ServiceEvent
events_for filter (None, None) = []
events_for filter (None, Some new) = if matches filter new.properties then one_event 1 new.id else []
events_for filter (Some old, None) = if matches filter old.properties then one_event 4 old.id else []
events_for filter (Some old, Some new) = events_of_set filter old new

-- a listener that was told of these changes
abbrev pub with_changes : List Change → Listener → Listener
with_changes changes l = record l { events = l.events ++ flat_map (events_for l.filter) changes }

-- all were told of these changes
abbrev pub after_changes : List Change → ListenerTable → ListenerTable
after_changes changes t = record t { rows = map (with_changes changes) t.rows }

-- ---- who listens ("Service Listeners")

abbrev pub after_listen : ℕ → Tree → ListenerTable → ListenerTable
after_listen bundle filter t = record {
  rows = t.rows ++ record { number = t.numbered + 1; bundle = bundle; filter = filter; events = [] } ∷ [];
  numbered = t.numbered + 1;
}

-- a listener is removed; its number isn't given again
abbrev pub after_unlisten : ℕ → ListenerTable → ListenerTable
after_unlisten number t = record t { rows = filter (λ (l : Listener). not (l.number == number)) t.rows }

-- the listeners of a bundle are removed
abbrev pub without_listeners_of : ℕ → ListenerTable → ListenerTable
without_listeners_of bundle t = record t { rows = filter (λ (l : Listener). not (l.bundle == bundle)) t.rows }
