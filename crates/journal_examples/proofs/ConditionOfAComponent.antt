-- A component that names the satisfying condition itself takes one that a component provides, and has its target; the PID of its one configuration is a text. Derived by hand.
use Rattle.std.specs.Prelude.{◌≡◌, refl, List, [], ◌∷◌, codes, true, false, Some, None, pos}
use Rattle.prop_map.specs.declared.value.Value.TheVariants.{Text, Whole}
use Rattle.prop_map.specs.declared.reference_words.Cardinality.TheVariants.{One}
use Rattle.prop_map.specs.declared.reference_words.Policy.TheVariants.{Dynamic}
use Rattle.prop_map.specs.declared.reference_words.PolicyOption.TheVariants.{Reluctant}
use Rattle.prop_map.specs.Maps.{get}
use Rattle.component_dto.specs.declared.description.Scope.TheVariants.{Singleton}
use Rattle.component_dto.specs.declared.description.ConfigurationPolicy.TheVariants.{Optional}
use Rattle.component_state.specs.Components.{properties_of}
use Rattle.bundle_doc.specs.declared.document.BundleDoc.{BundleDoc}
use Rattle.journal_examples.proofs.Trees.{tree_or_none}
use Rattle.scr_world.specs.declared.step.Step.TheVariants.{Command as Commanded}
use Rattle.scr_world.specs.declared.command.Command.TheVariants.{Install, Start, Configure}
use Rattle.scr_world.specs.Steps.{History}
use Rattle.scr_world.specs.declared.world.World.{World}
use Rattle.journal_examples.proofs.Laws.{laws}
use Rattle.journal_examples.proofs.Meanings.{legal_means}
use Rattle.scr_world.specs.Legal.{IsLegal}
use Rattle.journal_examples.proofs.Tests.{worlds, legal, states, newest, found_at_end}
use Rattle.scr_world.specs.Worlds.{satisfied_in}
use Rattle.scr_world.specs.Room.{has_room}
use Rattle.scr_world.specs.Consequences.{stage_in, stage_of, stopped_in, stopped_by, shut_between}
use Rattle.scr_world.specs.Stepping.{world_after_step}
use Rattle.scr_world.specs.Lists.{world_after_entry, world_of}

abbrev doc1 : BundleDoc
doc1 = record { location = codes "p"; name = codes "p"; version = record { major = 0; minor = 0; micro = 0; qualifier = [] }; manifest = None; activator = None; descriptions = (record { name = codes "p"; scope = Singleton; implementation_class = codes "K"; default_enabled = true; immediate = false; service_interfaces = (codes "org.osgi.service.condition.Condition" ∷ []); properties = (record { key = codes "osgi.condition.id"; value = Text (codes "ready") } ∷ []); references = []; modified = None; configuration_policy = Optional; configuration_pids = (codes "p" ∷ []); implicit = true } ∷ []) }

abbrev doc2 : BundleDoc
doc2 = record { location = codes "w"; name = codes "w"; version = record { major = 0; minor = 0; micro = 0; qualifier = [] }; manifest = None; activator = None; descriptions = (record { name = codes "w"; scope = Singleton; implementation_class = codes "K"; default_enabled = true; immediate = false; service_interfaces = (codes "W" ∷ []); properties = []; references = (record { name = codes "osgi.ds.satisfying.condition"; interface_name = codes "org.osgi.service.condition.Condition"; cardinality = One; policy = Dynamic; policy_option = Reluctant; target = Some (codes "(osgi.condition.id=ready)"); updated = None } ∷ []); modified = None; configuration_policy = Optional; configuration_pids = (codes "w" ∷ []); implicit = false } ∷ []) }

abbrev past0 : History
past0 = []

abbrev past1 : History
past1 = record { step = Commanded (Install doc1); closed = []; opened = []; stopped = [] } ∷ past0

abbrev past2 : History
past2 = record { step = Commanded (Start 1); closed = []; opened = (record { configuration = 1; service = 1 } ∷ []); stopped = [] } ∷ past1

abbrev past3 : History
past3 = record { step = Commanded (Install doc2); closed = []; opened = []; stopped = [] } ∷ past2

abbrev past4 : History
past4 = record { step = Commanded (Start 2); closed = []; opened = (record { configuration = 2; service = 2 } ∷ []); stopped = [] } ∷ past3

abbrev past5 : History
past5 = record { step = Commanded (Configure (codes "w") (record { key = codes "v"; value = Whole (pos 1) } ∷ [])); closed = []; opened = []; stopped = [] } ∷ past4

abbrev all : List World
all = worlds past5

is_legal : legal 4194304 past5 all ≡ true
unfolding world_after_entry world_of world_after_step stage_in stage_of stopped_in stopped_by shut_between has_room satisfied_in
is_legal = refl

stands_legal : IsLegal 4194304 past5
stands_legal = legal_means 4194304 past5 is_legal

which_states : states all ≡ (((1, 4) ∷ (2, 4) ∷ []) ∷ ((1, 4) ∷ (2, 4) ∷ []) ∷ ((1, 4) ∷ []) ∷ ((1, 4) ∷ []) ∷ [] ∷ [] ∷ [])
unfolding world_after_entry world_of world_after_step stage_in stage_of stopped_in stopped_by shut_between has_room satisfied_in
which_states = refl

-- the target of its own reference is the property, and that of the implicit one where there is none
by_its_target : found_at_end (tree_or_none (codes "(osgi.ds.satisfying.condition.target=*ready*)")) all ≡ (2 ∷ [])
unfolding world_after_entry world_of world_after_step stage_in stage_of stopped_in stopped_by shut_between has_room satisfied_in
by_its_target = refl

by_the_implicit_target : found_at_end (tree_or_none (codes "(osgi.ds.satisfying.condition.target=*true*)")) all ≡ (1 ∷ [])
unfolding world_after_entry world_of world_after_step stage_in stage_of stopped_in stopped_by shut_between has_room satisfied_in
by_the_implicit_target = refl

which_pid : get (properties_of (newest all).components 2) (codes "service.pid") ≡ Some (Text (codes "w"))
unfolding world_after_entry world_of world_after_step stage_in stage_of stopped_in stopped_by shut_between has_room satisfied_in
which_pid = refl

no_pid : get (properties_of (newest all).components 1) (codes "service.pid") ≡ None
unfolding world_after_entry world_of world_after_step stage_in stage_of stopped_in stopped_by shut_between has_room satisfied_in
no_pid = refl

laws_hold : laws past5 all ≡ true
unfolding world_after_entry world_of world_after_step stage_in stage_of stopped_in stopped_by shut_between has_room satisfied_in
laws_hold = refl
