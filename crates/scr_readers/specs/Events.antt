-- What a listener was told. OSGi Core 8, chapter 5, "Service Events"; positions are our own.
use Rattle.std.specs.Prelude.{ℕ, List, [], Bool, drop, is_some}
use Rattle.std.specs.Option.{option_map_or}
use Rattle.service_listeners.specs.declared.listener.Listener.{Listener}
use Rattle.service_listeners.specs.declared.listener.ServiceEvent.{ServiceEvent}
use Rattle.service_listeners.specs.Listening.{listener_of}
use Rattle.scr_world.specs.declared.world.World.{World}

abbrev pub has_listener : World → ℕ → Bool
has_listener w listener = is_some (listener_of w.listeners.rows listener)

-- what a listener was told behind the first so many events
abbrev pub events_told : World → ℕ → ℕ → List ServiceEvent
events_told w listener position = drop position (option_map_or (λ (l : Listener). l.events) (listener_of w.listeners.rows listener) [])
