-- Whether a component configuration has a wanted key, as the code finds it: whoever desires or has got its service is looked at, and not each key. Our own.
use Rattle.std.specs.Prelude.{ℕ, ◌==◌, ◌&&◌, ◌||◌, Bool, false, not}
use Rattle.std.specs.List.{list_any}
use Rattle.component_dto.specs.declared.description.Reference.{Reference}
use Rattle.component_state.specs.declared.component.Component.{Component}
use Rattle.component_state.specs.declared.open_period.OpenPeriod.{OpenPeriod}
use Rattle.component_state.specs.Components.{consumer_for}
use Rattle.prop_map.specs.Words.{has, with_places}
use Rattle.scr_world.specs.declared.instance.Instance.{Instance}
use Rattle.scr_world.specs.declared.world.World.{World}
use Rattle.scr_world.specs.Views.{bundle_of_instance, desired_unless_ending, ends, references_in}
use Rattle.scr_world.specs.Wanted.{consumers_of, is_immediate}
use Rattle.use_counts.specs.declared.uses.UseRow.{UseRow}

-- an instance, that ends or doesn't, desires a service for a reference with its place
abbrev pub desires_for : Bool → World → Instance → ℕ → ℕ × Reference → Bool
desires_for ending w i service r = has (desired_unless_ending ending w i r.0 r.1) service

abbrev pub desires_here : Bool → World → Instance → ℕ → Bool
desires_here ending w i service = list_any (desires_for ending w i service) (with_places 0 (references_in w i))

-- there can be an instance for those that a bundle's uses are for
abbrev pub serves_users : World → Component → ℕ → Bool
serves_users w c bundle = has (consumers_of w c) (consumer_for c bundle)

-- a living instance asks for the service
abbrev pub asks : World → Component → ℕ → Instance → Bool
asks w c service i = serves_users w c (bundle_of_instance w i) && desires_here (ends w i) w i service

-- a bundle has got it
abbrev pub gets : World → Component → ℕ → UseRow → Bool
gets w c service u = (u.service == service) && serves_users w c u.bundle

abbrev pub is_asked_for : World → Component → ℕ → Bool
is_asked_for w c service = not (service == 0) && (list_any (gets w c service) w.uses || (desires_here false w w.whiteboard service || list_any (asks w c service) w.instances))

abbrev pub is_wanted_here : World → Component → OpenPeriod → Bool
is_wanted_here w c p = is_immediate c || is_asked_for w c p.row.id
