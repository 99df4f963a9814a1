-- What the definitions need of documents that weren't read. OSGi Compendium 8, chapter 112, Component Description.
use Rattle.std.specs.Prelude.{◌≡◌, ◌&&◌, ℕ, List, map, false, None}
use Rattle.std.specs.List.{Contains}
use Rattle.bundle_doc.specs.declared.document.BundleDoc.{BundleDoc}
use Rattle.component_dto.specs.declared.description.Description.{Description}
use Rattle.component_dto.specs.declared.description.Reference.{Reference}
use Rattle.component_dto.specs.TextLists.{first_repeated, has_text}
use Rattle.reference_match.specs.Needs.{condition_name}

abbrev pub reference_names : Description → List (List ℕ)
reference_names d = map (λ (r : Reference). r.name) d.references

abbrev pub description_names : BundleDoc → List (List ℕ)
description_names doc = map (λ (d : Description). d.name) doc.descriptions

-- no two references have one name, no PID and no interface is named twice, and where the satisfying condition is asked for implicitly no reference has its name
pub record IsWellFormedDescription (d : Description) : Type 0 where
  pub references : first_repeated (reference_names d) ≡ None
  pub pids : first_repeated d.configuration_pids ≡ None
  pub interfaces : first_repeated d.service_interfaces ≡ None
  pub implicit : (d.implicit && has_text (reference_names d) condition_name) ≡ false

-- no two descriptions have one name, and each is well formed: so is every document that was read
pub record IsWellFormed (doc : BundleDoc) : Type 0 where
  pub names : first_repeated (description_names doc) ≡ None
  pub descriptions : (d : Description) → Contains doc.descriptions d → IsWellFormedDescription d
