-- References that are told apart by their names. OSGi Compendium 8, chapter 112, "Reference Element" (`name`).
use Rattle.std.specs.Prelude.{◌≡◌, None}
use Rattle.std.specs.List.{Contains}
use Rattle.component_dto.specs.TextLists.{first_repeated}
use Rattle.component_dto.specs.declared.description.Description.{Description}
use Rattle.scr_world.specs.Documents.{reference_names}
use Rattle.scr_world.specs.Tables.{descriptions_of}
use Rattle.scr_world.specs.declared.world.World.{World}

-- no two references of a description that is installed have one name: so it is in every document that was read
abbrev pub HaveOwnNames : World → Type 0
HaveOwnNames w = (d : Description) → Contains (descriptions_of w.documents) d → first_repeated (reference_names d) ≡ None
