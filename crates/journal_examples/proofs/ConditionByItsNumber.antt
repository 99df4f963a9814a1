-- The platform's condition by the properties that every service has: its number and its bundle are 0, and its scope is that of a singleton. Derived by hand.
use Rattle.std.specs.Prelude.{◌≡◌, refl, List, [], ◌∷◌, codes, true, false, None}
use Rattle.prop_map.specs.declared.value.Value.TheVariants.{Text}
use Rattle.component_dto.specs.declared.description.Scope.TheVariants.{Singleton}
use Rattle.component_dto.specs.declared.description.ConfigurationPolicy.TheVariants.{Optional}
use Rattle.bundle_doc.specs.declared.document.BundleDoc.{BundleDoc}
use Rattle.scr_world.specs.declared.step.Step.TheVariants.{Command as Commanded}
use Rattle.scr_world.specs.declared.command.Command.TheVariants.{Install, Start}
use Rattle.scr_world.specs.Steps.{History}
use Rattle.scr_world.specs.declared.world.World.{World}
use Rattle.journal_examples.proofs.Laws.{laws}
use Rattle.journal_examples.proofs.Meanings.{legal_means}
use Rattle.scr_world.specs.Legal.{IsLegal}
use Rattle.journal_examples.proofs.Tests.{worlds, legal, states}
use Rattle.scr_world.specs.Worlds.{satisfied_in}
use Rattle.scr_world.specs.Room.{has_room}
use Rattle.scr_world.specs.Consequences.{stage_in, stage_of, stopped_in, stopped_by, shut_between}
use Rattle.scr_world.specs.Stepping.{world_after_step}
use Rattle.scr_world.specs.Lists.{world_after_entry, world_of}

abbrev doc1 : BundleDoc
doc1 = record { location = codes "l"; name = codes "l"; version = record { major = 0; minor = 0; micro = 0; qualifier = [] }; manifest = None; activator = None; descriptions = (record { name = codes "a"; scope = Singleton; implementation_class = codes "K"; default_enabled = true; immediate = false; service_interfaces = []; properties = (record { key = codes "osgi.ds.satisfying.condition.target"; value = Text (codes "(service.id=0)") } ∷ []); references = []; modified = None; configuration_policy = Optional; configuration_pids = (codes "a" ∷ []); implicit = true } ∷ record { name = codes "b"; scope = Singleton; implementation_class = codes "K"; default_enabled = true; immediate = false; service_interfaces = []; properties = (record { key = codes "osgi.ds.satisfying.condition.target"; value = Text (codes "(service.id=1)") } ∷ []); references = []; modified = None; configuration_policy = Optional; configuration_pids = (codes "b" ∷ []); implicit = true } ∷ record { name = codes "c"; scope = Singleton; implementation_class = codes "K"; default_enabled = true; immediate = false; service_interfaces = []; properties = (record { key = codes "osgi.ds.satisfying.condition.target"; value = Text (codes "(service.bundleid=0)") } ∷ []); references = []; modified = None; configuration_policy = Optional; configuration_pids = (codes "c" ∷ []); implicit = true } ∷ record { name = codes "d"; scope = Singleton; implementation_class = codes "K"; default_enabled = true; immediate = false; service_interfaces = []; properties = (record { key = codes "osgi.ds.satisfying.condition.target"; value = Text (codes "(service.bundleid=1)") } ∷ []); references = []; modified = None; configuration_policy = Optional; configuration_pids = (codes "d" ∷ []); implicit = true } ∷ record { name = codes "e"; scope = Singleton; implementation_class = codes "K"; default_enabled = true; immediate = false; service_interfaces = []; properties = (record { key = codes "osgi.ds.satisfying.condition.target"; value = Text (codes "(service.scope=singleton)") } ∷ []); references = []; modified = None; configuration_policy = Optional; configuration_pids = (codes "e" ∷ []); implicit = true } ∷ record { name = codes "f"; scope = Singleton; implementation_class = codes "K"; default_enabled = true; immediate = false; service_interfaces = []; properties = (record { key = codes "osgi.ds.satisfying.condition.target"; value = Text (codes "(objectClass=org.osgi.service.condition.Condition)") } ∷ []); references = []; modified = None; configuration_policy = Optional; configuration_pids = (codes "f" ∷ []); implicit = true } ∷ []) }

abbrev past0 : History
past0 = []

abbrev past1 : History
past1 = record { step = Commanded (Install doc1); closed = []; opened = []; stopped = [] } ∷ past0

abbrev past2 : History
past2 = record { step = Commanded (Start 1); closed = []; opened = (record { configuration = 1; service = 0 } ∷ record { configuration = 3; service = 0 } ∷ record { configuration = 5; service = 0 } ∷ record { configuration = 6; service = 0 } ∷ []); stopped = [] } ∷ past1

abbrev all : List World
all = worlds past2

is_legal : legal 4194304 past2 all ≡ true
unfolding world_after_entry world_of world_after_step stage_in stage_of stopped_in stopped_by shut_between has_room satisfied_in
is_legal = refl

stands_legal : IsLegal 4194304 past2
stands_legal = legal_means 4194304 past2 is_legal

-- those whose target the condition meets are satisfied
which_states : states all ≡ (((1, 4) ∷ (2, 2) ∷ (3, 4) ∷ (4, 2) ∷ (5, 4) ∷ (6, 4) ∷ []) ∷ [] ∷ [] ∷ [])
unfolding world_after_entry world_of world_after_step stage_in stage_of stopped_in stopped_by shut_between has_room satisfied_in
which_states = refl

laws_hold : laws past2 all ≡ true
unfolding world_after_entry world_of world_after_step stage_in stage_of stopped_in stopped_by shut_between has_room satisfied_in
laws_hold = refl
