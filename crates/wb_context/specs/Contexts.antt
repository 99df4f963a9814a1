-- The context that a service is (OSGi Compendium 8, section 140.2, ServletContextHelper), and the built-in one.
use Rattle.std.specs.Prelude.{◌≡◌, ℕ, List, [], Bool, codes, Option, Some, None, Result, Ok, Err, pos, if◌then◌else◌}
use Rattle.prop_map.specs.declared.value.Value.{Value}
use Rattle.prop_map.specs.declared.value.Value.TheVariants.{Text}
use Rattle.prop_map.specs.Maps.{get, put}
use Rattle.service_registry.specs.declared.row.ServiceRow.{ServiceRow}
use Rattle.service_registry.specs.Services.{ranking}
use Rattle.wb_context.specs.declared.context.Context.{Context}
use Rattle.wb_context.specs.declared.context_fault.ContextFault.{ContextFault}
use Rattle.wb_context.specs.declared.context_fault.ContextFault.TheVariants.{BadContextName, BadContextPath, OutOfMemory}
use Rattle.wb_context.specs.ContextForms.{is_name, is_path}

abbrev pub name_key : List ℕ
name_key = codes "osgi.http.whiteboard.context.name"

abbrev pub path_key : List ℕ
path_key = codes "osgi.http.whiteboard.context.path"

-- the text at a key, where it passes a test
abbrev pub text_if : (List ℕ → Bool) → Option Value → Option (List ℕ)
text_if test (Some (Text text)) = if test text then Some text else None
text_if test _ = None

abbrev pub name_in : ServiceRow → Option (List ℕ)
name_in r = text_if is_name (get r.properties name_key)

abbrev pub path_in : ServiceRow → Option (List ℕ)
path_in r = text_if is_path (get r.properties path_key)

abbrev pub context_with : ServiceRow → Option (List ℕ) → Option (List ℕ) → Result Context ContextFault
context_with r None path = Err BadContextName
context_with r (Some name) None = Err BadContextPath
context_with r (Some name) (Some path) = Ok (record { service = r.id; name = name; path = path; properties = r.properties; ranking = ranking r.properties })

-- the context that a service is, or the first fault
abbrev pub context_of : ServiceRow → Result Context ContextFault
context_of r = context_with r (name_in r) (path_in r)

-- an answer tells what was read; want of memory is free
abbrev pub TellsContext : Result Context ContextFault → Result Context ContextFault → Type 0
TellsContext read (Ok context) = read ≡ Ok context
TellsContext read (Err BadContextName) = read ≡ Err BadContextName
TellsContext read (Err BadContextPath) = read ≡ Err BadContextPath
TellsContext read (Err OutOfMemory) = Unit {0}

-- the built-in context
abbrev pub default_name : List ℕ
default_name = codes "default"

abbrev pub default_context : Context
default_context = record {
  service = 0;
  name = default_name;
  path = codes "/";
  properties = put (put [] name_key (Text default_name)) path_key (Text (codes "/"));
  ranking = pos 0;
}
