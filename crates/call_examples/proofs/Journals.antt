-- Journals, written briefly, the oldest entry first.
use Rattle.std.specs.Prelude.{ℕ, ◌+◌, List, [], ◌∷◌, ◌++◌, true, false, None, codes}
use Rattle.prop_map.specs.declared.properties.Property.{Property}
use Rattle.prop_map.specs.declared.value.Value.TheVariants.{Text}
use Rattle.prop_map.specs.declared.reference_words.Cardinality.{Cardinality}
use Rattle.prop_map.specs.declared.reference_words.Policy.{Policy}
use Rattle.prop_map.specs.declared.reference_words.PolicyOption.TheVariants.{Reluctant}
use Rattle.component_dto.specs.declared.description.Description.{Description}
use Rattle.component_dto.specs.declared.description.Reference.{Reference}
use Rattle.component_dto.specs.declared.description.Scope.TheVariants.{Singleton}
use Rattle.component_dto.specs.declared.description.ConfigurationPolicy.TheVariants.{Optional}
use Rattle.bundle_doc.specs.declared.document.BundleDoc.{BundleDoc}
use Rattle.callback_orders.specs.declared.callback.Callback.{Callback}
use Rattle.callback_orders.specs.declared.callback.Callback.TheVariants.{Create, Bind, Unbind, Activate, Deactivate, Destroy}
use Rattle.callback_orders.specs.declared.callback.Outcome.TheVariants.{Done}
use Rattle.journal_core.specs.declared.entry.Entry.{Entry}
use Rattle.journal_core.specs.declared.entry.Opened.{Opened}
use Rattle.scr_world.specs.declared.command.Command.{Command}
use Rattle.scr_world.specs.declared.step.Step.{Step}
use Rattle.scr_world.specs.declared.step.Step.TheVariants.{Command as Commanded, Begin, End}

-- ---- documents

abbrev pub text : List ℕ → List ℕ → Property
text key value = record { key = key; value = Text value }

-- the pattern of a servlet, and what it answers by its class
abbrev pub pattern : List ℕ → Property
pattern value = text (codes "osgi.http.whiteboard.servlet.pattern") value

-- a component with a service and without more than is said
abbrev pub component : List ℕ → List ℕ → List ℕ → List Property → List Reference → Description
component name class interface properties references = record {
  name = name;
  scope = Singleton;
  implementation_class = class;
  default_enabled = true;
  immediate = false;
  service_interfaces = interface ∷ [];
  properties = properties;
  references = references;
  modified = None;
  configuration_policy = Optional;
  configuration_pids = name ∷ [];
  implicit = true;
}

-- the reference of a relay
abbrev pub next_on : List ℕ → Cardinality → Policy → List Reference
next_on interface cardinality policy = record {
  name = codes "next";
  interface_name = interface;
  cardinality = cardinality;
  policy = policy;
  policy_option = Reluctant;
  target = None;
  updated = None;
} ∷ []

abbrev pub document : List ℕ → List Description → BundleDoc
document location descriptions = record {
  location = location;
  name = location;
  version = record { major = 0; minor = 0; micro = 0; qualifier = [] };
  manifest = None;
  activator = None;
  descriptions = descriptions;
}

-- ---- entries

abbrev pub entry : Step → List ℕ → List Opened → List ℕ → Entry Step
entry step closed opened stopped = record { step = step; closed = closed; opened = opened; stopped = stopped }

-- a step that opens, closes and stops nothing
abbrev pub did : Step → Entry Step
did step = entry step [] [] []

abbrev pub asked : Command → Entry Step
asked command = did (Commanded command)

-- a component configuration opens with its service
abbrev pub with_service : ℕ → ℕ → Opened
with_service configuration service = record { configuration = configuration; service = service }

-- a command that opens component configurations, and one that closes them
abbrev pub opening : Command → List Opened → Entry Step
opening command opened = entry (Commanded command) [] opened []

abbrev pub closing : Command → List ℕ → Entry Step
closing command closed = entry (Commanded command) closed [] []

abbrev pub begun : ℕ → ℕ → ℕ → Callback → Entry Step
begun turn instance configuration callback = did (Begin turn instance configuration 0 callback [])

-- a turn by its number, its instance and the component configuration of that
abbrev pub turn : ℕ → ℕ → ℕ → Callback → List (Entry Step)
turn number instance configuration callback = begun number instance configuration callback ∷ did (End number Done) ∷ []

-- a Create that chooses a service for its static reference
abbrev pub choosing : ℕ → ℕ → ℕ → List ℕ → List (Entry Step)
choosing number instance configuration services =
    did (Begin number instance configuration 0 Create (record { reference = 0; services = services } ∷ []))
    ∷ did (End number Done) ∷ []

-- the first two turns of an instance without references
abbrev pub made : ℕ → ℕ → ℕ → List (Entry Step)
made number instance configuration =
    turn number instance configuration Create ++ turn (number + 1) instance configuration Activate

-- the whiteboard's instance binds what it holds
abbrev pub held : ℕ → List ℕ → ℕ → List (Entry Step)
held number reference service = turn number 0 0 (Bind reference service)

abbrev pub let_go : ℕ → ℕ → List (Entry Step)
let_go number service = turn number 0 0 (Unbind (codes "servlets") service)

-- the last two turns of an instance, which complete the stop of its bundle
abbrev pub unmade : ℕ → ℕ → ℕ → ℕ → List (Entry Step)
unmade number instance configuration bundle =
    turn number instance configuration Deactivate
    ++ (begun (number + 1) instance configuration Destroy ∷ entry (End (number + 1) Done) [] [] (bundle ∷ []) ∷ [])
