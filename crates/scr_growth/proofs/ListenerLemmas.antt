-- Listeners that were told more.
use Rattle.std.proofs.Common.{◌∷◌, [], List, refl}
use Rattle.std.specs.Prelude.{flat_map, map}
use Rattle.service_listeners.specs.Listening.{Change, events_for, with_changes}
use Rattle.service_listeners.specs.Saves.{HaveGrown}
use Rattle.service_listeners.specs.declared.listener.Listener.{Listener}

pub grown_by : (cs : List Change) (rows : List Listener) → HaveGrown rows (map (with_changes cs) rows)
grown_by cs [] = tt
grown_by cs (l ∷ ls) = ((flat_map (events_for l.filter) cs, refl), grown_by cs ls)
