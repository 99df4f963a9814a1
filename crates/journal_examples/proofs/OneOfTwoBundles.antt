-- One of two bundles stops, has another document and starts: the other keeps its document, its component configuration and its listener. Derived by hand.
use Rattle.std.specs.Prelude.{◌≡◌, refl, List, [], ◌∷◌, codes, map, true, false, None, Ok, Err}
use Rattle.component_dto.specs.declared.description.Scope.TheVariants.{Singleton}
use Rattle.component_dto.specs.declared.description.ConfigurationPolicy.TheVariants.{Optional}
use Rattle.bundle_doc.specs.declared.document.BundleDoc.{BundleDoc}
use Rattle.journal_examples.proofs.Trees.{tree_or_none}
use Rattle.scr_world.specs.declared.step.Step.TheVariants.{Command as Commanded}
use Rattle.scr_world.specs.declared.command.Command.TheVariants.{Install, Update, Start, Stop, Listen, Unlisten}
use Rattle.scr_world.specs.declared.reply.CoreFault.TheVariants.{NoListener}
use Rattle.scr_world.specs.declared.reply.Reply.TheVariants.{Done as IsDone}
use Rattle.service_registry.specs.declared.row.ServiceRow.{ServiceRow}
use Rattle.scr_world.specs.Readers.{service_lines}
use Rattle.scr_world.specs.Steps.{History}
use Rattle.scr_world.specs.declared.world.World.{World}
use Rattle.journal_examples.proofs.Laws.{laws}
use Rattle.journal_examples.proofs.Meanings.{legal_means}
use Rattle.scr_world.specs.Legal.{IsLegal}
use Rattle.journal_examples.proofs.Tests.{worlds, legal, newest, states, asked, replies, events_at_end, found_at_end}
use Rattle.scr_world.specs.Worlds.{satisfied_in}
use Rattle.scr_world.specs.Room.{has_room}
use Rattle.scr_world.specs.Consequences.{stage_in, stage_of, stopped_in, stopped_by, shut_between}
use Rattle.scr_world.specs.Stepping.{world_after_step}
use Rattle.scr_world.specs.Lists.{world_after_entry, world_of}

abbrev doc1 : BundleDoc
doc1 = record { location = codes "a"; name = codes "a"; version = record { major = 0; minor = 0; micro = 0; qualifier = [] }; manifest = None; activator = None; descriptions = (record { name = codes "a"; scope = Singleton; implementation_class = codes "K"; default_enabled = true; immediate = false; service_interfaces = (codes "A" ∷ []); properties = []; references = []; modified = None; configuration_policy = Optional; configuration_pids = (codes "a" ∷ []); implicit = true } ∷ []) }

abbrev doc2 : BundleDoc
doc2 = record { location = codes "b"; name = codes "b"; version = record { major = 0; minor = 0; micro = 0; qualifier = [] }; manifest = None; activator = None; descriptions = (record { name = codes "b"; scope = Singleton; implementation_class = codes "K"; default_enabled = true; immediate = false; service_interfaces = (codes "B" ∷ []); properties = []; references = []; modified = None; configuration_policy = Optional; configuration_pids = (codes "b" ∷ []); implicit = true } ∷ []) }

abbrev doc3 : BundleDoc
doc3 = record { location = codes "a"; name = codes "a"; version = record { major = 0; minor = 0; micro = 0; qualifier = [] }; manifest = None; activator = None; descriptions = (record { name = codes "e"; scope = Singleton; implementation_class = codes "K"; default_enabled = true; immediate = false; service_interfaces = (codes "E" ∷ []); properties = []; references = []; modified = None; configuration_policy = Optional; configuration_pids = (codes "e" ∷ []); implicit = true } ∷ []) }

abbrev past0 : History
past0 = []

abbrev past1 : History
past1 = record { step = Commanded (Install doc1); closed = []; opened = []; stopped = [] } ∷ past0

abbrev past2 : History
past2 = record { step = Commanded (Install doc2); closed = []; opened = []; stopped = [] } ∷ past1

abbrev past3 : History
past3 = record { step = Commanded (Start 2); closed = []; opened = (record { configuration = 1; service = 1 } ∷ []); stopped = [] } ∷ past2

abbrev past4 : History
past4 = record { step = Commanded (Listen 2 (tree_or_none (codes "(objectClass=*)"))); closed = []; opened = []; stopped = [] } ∷ past3

abbrev past5 : History
past5 = record { step = Commanded (Start 1); closed = []; opened = (record { configuration = 2; service = 2 } ∷ []); stopped = [] } ∷ past4

abbrev past6 : History
past6 = record { step = Commanded (Listen 1 (tree_or_none (codes "(objectClass=*)"))); closed = []; opened = []; stopped = [] } ∷ past5

abbrev past7 : History
past7 = record { step = Commanded (Stop 1); closed = (2 ∷ []); opened = []; stopped = (1 ∷ []) } ∷ past6

abbrev past8 : History
past8 = record { step = Commanded (Update 1 doc3); closed = []; opened = []; stopped = [] } ∷ past7

abbrev past9 : History
past9 = record { step = Commanded (Start 1); closed = []; opened = (record { configuration = 3; service = 3 } ∷ []); stopped = [] } ∷ past8

abbrev past10 : History
past10 = record { step = Commanded (Unlisten 1); closed = []; opened = []; stopped = [] } ∷ past9

abbrev all : List World
all = worlds past10

is_legal : legal 4194304 past10 all ≡ true
unfolding world_after_entry world_of world_after_step stage_in stage_of stopped_in stopped_by shut_between has_room satisfied_in
is_legal = refl

stands_legal : IsLegal 4194304 past10
stands_legal = legal_means 4194304 past10 is_legal

which_states : states all ≡ (((1, 4) ∷ (3, 4) ∷ []) ∷ ((1, 4) ∷ (3, 4) ∷ []) ∷ ((1, 4) ∷ []) ∷ ((1, 4) ∷ []) ∷ ((1, 4) ∷ (2, 4) ∷ []) ∷ ((1, 4) ∷ (2, 4) ∷ []) ∷ ((1, 4) ∷ []) ∷ ((1, 4) ∷ []) ∷ [] ∷ [] ∷ [] ∷ [])
unfolding world_after_entry world_of world_after_step stage_in stage_of stopped_in stopped_by shut_between has_room satisfied_in
which_states = refl

-- the listener of the stopped bundle has gone, and the other has heard all
which_listeners : replies 4194304 all (asked 9 (Unlisten 1) ∷ asked 9 (Unlisten 2) ∷ asked 10 (Unlisten 1) ∷ []) ≡ (Ok IsDone ∷ Err (NoListener 2) ∷ Err (NoListener 1) ∷ [])
unfolding world_after_entry world_of world_after_step stage_in stage_of stopped_in stopped_by shut_between has_room satisfied_in
which_listeners = refl

which_events : events_at_end 1 (worlds past9) ≡ (record { value = 1; service = 2 } ∷ record { value = 4; service = 2 } ∷ record { value = 1; service = 3 } ∷ [])
unfolding world_after_entry world_of world_after_step stage_in stage_of stopped_in stopped_by shut_between has_room satisfied_in
which_events = refl

which_found : found_at_end (tree_or_none (codes "(objectClass=*)")) all ≡ (1 ∷ 3 ∷ [])
unfolding world_after_entry world_of world_after_step stage_in stage_of stopped_in stopped_by shut_between has_room satisfied_in
which_found = refl

-- the service of a component is its bundle's, also where that isn't the first
whose_services : map (λ (r : ServiceRow). r.bundle) (service_lines (newest all)) ≡ (2 ∷ 1 ∷ [])
unfolding world_after_entry world_of world_after_step stage_in stage_of stopped_in stopped_by shut_between has_room satisfied_in
whose_services = refl

by_bundle : found_at_end (tree_or_none (codes "(service.bundleid=2)")) all ≡ (1 ∷ [])
unfolding world_after_entry world_of world_after_step stage_in stage_of stopped_in stopped_by shut_between has_room satisfied_in
by_bundle = refl

laws_hold : laws past10 all ≡ true
unfolding world_after_entry world_of world_after_step stage_in stage_of stopped_in stopped_by shut_between has_room satisfied_in
laws_hold = refl
