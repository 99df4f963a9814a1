-- The changes of commands that make a platform again. Our own.
use Rattle.std.specs.Prelude.{◌≡◌, ℕ, suc, List, [], ◌∷◌, ◌++◌, codes, flat_map, slice_get}
use Rattle.std.specs.Prelude.{Bool, true, false, Option, Some, None}
use Rattle.bundle_doc.specs.declared.document.BundleDoc.{BundleDoc}
use Rattle.prop_map.specs.declared.properties.Property.{Property}
use Rattle.scr_world.specs.declared.command.Command.{Command}
use Rattle.scr_world.specs.declared.command.Command.TheVariants.{Install, Start, Configure, ConfigureFactory}
use Rattle.world_keeper.specs.declared.change.Change.{Change}
use Rattle.world_keeper.specs.declared.change.Change.TheVariants.{Install as Installed, Started, Configured}
use Rattle.world_reopening.specs.Readings.{document_in, properties_in}

abbrev pub location_in : Command → List (List ℕ)
location_in (Install doc) = doc.location ∷ []
location_in _ = []

-- the locations that commands install, in order: the first becomes bundle 1 of an empty platform
abbrev pub locations_of : List Command → List (List ℕ)
locations_of commands = flat_map location_in commands

abbrev IsOwn : List ℕ → List Property → List ℕ → Option (List ℕ) → List ℕ → Type 0
IsOwn pid properties kept_pid None text = (kept_pid ≡ pid) × (properties_in text ≡ Some properties)
IsOwn pid properties kept_pid (Some factory) text = ⊥

abbrev IsOfFactory : List ℕ → List ℕ → List Property → List ℕ → Option (List ℕ) → List ℕ → Type 0
IsOfFactory factory name properties kept_pid None text = ⊥
IsOfFactory factory name properties kept_pid (Some kept_factory) text =
    (kept_factory ≡ factory) × (kept_pid ≡ factory ++ codes "~" ++ name) × (properties_in text ≡ Some properties)

-- the document is the one of the text, with this location
abbrev IsRead : BundleDoc → List ℕ → List ℕ → Type 0
IsRead doc location text =
    (there : BundleDoc) × (document_in text ≡ Some there) × (doc ≡ record there { location = location })

-- the bundle of this number is at this location
abbrev IsNumberOf : List (List ℕ) → ℕ → List ℕ → Type 0
IsNumberOf locations bundle location = (place : ℕ) × (bundle ≡ suc place) × (slice_get locations place ≡ Some location)

-- the change is the one that the command makes, by locations and PIDs
abbrev pub IsChangeOf : List (List ℕ) → Command → Change → Type 0
IsChangeOf locations (Configure pid properties) (Configured kept_pid factory text) =
    IsOwn pid properties kept_pid factory text
IsChangeOf locations (ConfigureFactory factory name properties) (Configured kept_pid kept_factory text) =
    IsOfFactory factory name properties kept_pid kept_factory text
IsChangeOf locations (Install doc) (Installed location text) = IsRead doc location text
IsChangeOf locations (Start bundle) (Started location so) = IsNumberOf locations bundle location × (so ≡ true)
IsChangeOf locations _ _ = ⊥

abbrev pub AreChangesOf : List (List ℕ) → List Command → List Change → Type 0
AreChangesOf locations [] [] = Unit {0}
AreChangesOf locations [] (change ∷ changes) = ⊥
AreChangesOf locations (command ∷ commands) [] = ⊥
AreChangesOf locations (command ∷ commands) (change ∷ changes) =
    IsChangeOf locations command change × AreChangesOf locations commands changes
