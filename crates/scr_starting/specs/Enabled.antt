-- Components that are enabled already, so that an enable leaves the flags of their bundle. OSGi Compendium 8, chapter 112, "Enabled".
use Rattle.std.specs.Prelude.{ℕ, ◌==◌, ◌&&◌, ◌||◌, List, [], ◌∷◌, Bool, false, length, nat_le, not}
use Rattle.std.specs.List.{list_all}
use Rattle.std.specs.Str.{bytes_eq}
use Rattle.component_dto.specs.declared.description.Description.{Description}
use Rattle.scr_world.specs.Replies.{is_enabled}
use Rattle.scr_world.specs.declared.contents.Contents.{Contents}
use Rattle.scr_world.specs.declared.world.World.{World}

-- a description of this name isn't enabled
abbrev pub has_disabled : List ℕ → List Description → List Bool → Bool
has_disabled name [] flags = false
has_disabled name (d ∷ ds) [] = false
has_disabled name (d ∷ ds) (f ∷ fs) = (bytes_eq d.name name && not f) || has_disabled name ds fs

-- each description of this name is enabled, and each flag is that of a description
abbrev pub are_enabled : List ℕ → List Description → List Bool → Bool
are_enabled name ds fs = nat_le (length fs) (length ds) && not (has_disabled name ds fs)

-- an enable of this name in this bundle leaves what a bundle holds
abbrev pub stays_enabled : ℕ → List ℕ → Contents → Bool
stays_enabled bundle name c = not (c.bundle == bundle) || are_enabled name c.document.descriptions c.enabled

-- the component of this name is enabled, and no description of this name is left to enable
abbrev pub is_all_enabled : World → ℕ → List ℕ → Bool
is_all_enabled w bundle name = is_enabled w bundle name && list_all (stays_enabled bundle name) w.documents
