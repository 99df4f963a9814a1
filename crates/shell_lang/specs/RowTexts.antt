-- The rows that a reply tells, each on a line of its own. Our own form.
use Rattle.std.specs.Prelude.{ℕ, ◌+◌, List, [], ◌∷◌, ◌++◌, flat_map, codes, length}
use Rattle.std.specs.Fmt.{decimal, signed_decimal}
use Rattle.bundle_life.specs.declared.bundle.BundleEvent.{BundleEvent}
use Rattle.osgi_version.specs.Versions.{version_text}
use Rattle.service_listeners.specs.declared.listener.ServiceEvent.{ServiceEvent}
use Rattle.service_registry.specs.declared.row.ServiceRow.{ServiceRow}
use Rattle.service_registry.specs.Services.{ranking}
use Rattle.scr_world.specs.declared.lines.BundleLine.{BundleLine}
use Rattle.scr_world.specs.declared.lines.ComponentLine.{ComponentLine}
use Rattle.scr_world.specs.declared.lines.HeldLine.{HeldLine}
use Rattle.shell_lang.specs.JoinedTexts.{joined}
use Rattle.shell_lang.specs.declared.listener_line.ListenerLine.{ListenerLine}

-- a bundle's number, state and name, and a text of its version
abbrev pub versioned_text : BundleLine → List ℕ → List ℕ
versioned_text row version = decimal row.bundle ++ codes " " ++ decimal row.state ++ codes " " ++ row.name ++ codes " " ++ version ++ codes "\n"

-- a bundle's number, state, name and version
abbrev pub bundle_text : BundleLine → List ℕ
bundle_text row = versioned_text row (version_text row.version)

-- a component configuration's number, name and state
abbrev pub component_text : ComponentLine → List ℕ
component_text row = decimal row.configuration ++ codes " " ++ row.name ++ codes " " ++ decimal row.state ++ codes "\n"

-- an instance's number, a reference and a service that it holds for it
abbrev pub held_text : HeldLine → List ℕ
held_text row = decimal row.instance ++ codes " " ++ row.reference ++ codes " " ++ decimal row.service ++ codes "\n"

-- a service's number, its bundle, its interfaces with commas between them, and its ranking
abbrev pub registered_text : ServiceRow → List ℕ
registered_text row =
    decimal row.id ++ codes " " ++ decimal row.bundle ++ codes " " ++ joined (codes ",") row.interfaces ++ codes " " ++ signed_decimal (ranking row.properties) ++ codes "\n"

-- a listener's number, its bundle, and how many events it was told
abbrev pub listener_text : ListenerLine → List ℕ
listener_text row = decimal row.listener ++ codes " " ++ decimal row.bundle ++ codes " " ++ decimal row.told ++ codes "\n"

-- a number alone
abbrev pub number_text : ℕ → List ℕ
number_text number = decimal number ++ codes "\n"

-- what happened to a service, and its number
abbrev pub service_event_text : ServiceEvent → List ℕ
service_event_text event = decimal event.value ++ codes " " ++ decimal event.service ++ codes "\n"

-- what happened to a bundle, and its number
abbrev pub bundle_event_text : BundleEvent → List ℕ
bundle_event_text event = decimal event.value ++ codes " " ++ decimal event.bundle ++ codes "\n"

-- the number of rows, and a line for each
abbrev pub rows_text : {T : Type 0} → (T → List ℕ) → List T → List ℕ
rows_text text rows = codes "ok " ++ decimal (length rows) ++ codes "\n" ++ flat_map text rows

-- rows behind so many others, each behind its position
abbrev pub placed_text : {T : Type 0} → (T → List ℕ) → ℕ → List T → List ℕ
placed_text text before [] = []
placed_text text before (row ∷ rows) = decimal (before + 1) ++ codes " " ++ text row ++ placed_text text (before + 1) rows

-- the number of such rows, and a line for each
abbrev pub placed_rows_text : {T : Type 0} → (T → List ℕ) → ℕ → List T → List ℕ
placed_rows_text text before rows = codes "ok " ++ decimal (length rows) ++ codes "\n" ++ placed_text text before rows
