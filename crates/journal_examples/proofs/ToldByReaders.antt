-- What readers tell beside numbers and states: names, versions and the order of services; and the gate, the token and the room of a service with an instance. Derived by hand.
use Rattle.std.specs.Prelude.{◌≡◌, refl, ℕ, List, [], ◌∷◌, codes, true, false, Some, None}
use Rattle.component_dto.specs.declared.description.Scope.TheVariants.{Singleton}
use Rattle.component_dto.specs.declared.description.ConfigurationPolicy.TheVariants.{Optional}
use Rattle.bundle_doc.specs.declared.document.BundleDoc.{BundleDoc}
use Rattle.journal_examples.proofs.Trees.{tree_or_none}
use Rattle.callback_orders.specs.declared.callback.Callback.TheVariants.{Create, Activate, Deactivate, Destroy}
use Rattle.callback_orders.specs.declared.callback.Outcome.TheVariants.{Done}
use Rattle.scr_world.specs.declared.step.Step.TheVariants.{Command as Commanded, Begin, End, Drained, Got, Released}
use Rattle.scr_world.specs.declared.command.Command.TheVariants.{Install, Start, Stop, Register, Get}
use Rattle.scr_world.specs.Steps.{History}
use Rattle.scr_world.specs.declared.marks.Token.{Token}
use Rattle.scr_world.specs.declared.world.World.{World}
use Rattle.journal_examples.proofs.Laws.{laws}
use Rattle.journal_examples.proofs.Meanings.{legal_means}
use Rattle.scr_world.specs.Legal.{IsLegal}
use Rattle.journal_examples.proofs.Tests.{worlds, legal}
use Rattle.scr_world.specs.Worlds.{satisfied_in}
use Rattle.scr_world.specs.Room.{has_room, needed_by}
use Rattle.scr_world.specs.Consequences.{stage_in, stage_of, stopped_in, stopped_by, shut_between}
use Rattle.scr_world.specs.Stepping.{world_after_step}
use Rattle.scr_world.specs.Lists.{world_after_entry, world_of}
use Rattle.journal_examples.proofs.Tests.{newest}
use Rattle.std.specs.Prelude.{map, option_map}
use Rattle.component_state.specs.Components.{exists}
use Rattle.service_registry.specs.declared.row.ServiceRow.{ServiceRow}
use Rattle.scr_world.specs.Calls.{has_token, next_drain}
use Rattle.scr_world.specs.Consequences.{reopened_by}
use Rattle.scr_world.specs.Dues.{next_begin}
use Rattle.scr_world.specs.Readers.{bundle_events_after, bundle_lines, component_lines, found, service_lines}
use Rattle.scr_world.specs.Replies.{changes}

abbrev doc1 : BundleDoc
doc1 = record { location = codes "l"; name = codes "n"; version = record { major = 1; minor = 2; micro = 3; qualifier = codes "q" }; manifest = None; activator = None; descriptions = (record { name = codes "c"; scope = Singleton; implementation_class = codes "K"; default_enabled = true; immediate = false; service_interfaces = (codes "P" ∷ []); properties = []; references = []; modified = None; configuration_policy = Optional; configuration_pids = (codes "c" ∷ []); implicit = true } ∷ []) }

abbrev doc2 : BundleDoc
doc2 = record { location = codes "d"; name = codes "d"; version = record { major = 0; minor = 0; micro = 0; qualifier = [] }; manifest = None; activator = None; descriptions = [] }

abbrev past0 : History
past0 = []

abbrev past1 : History
past1 = record { step = Commanded (Install doc1); closed = []; opened = []; stopped = [] } ∷ past0

abbrev past2 : History
past2 = record { step = Commanded (Install doc2); closed = []; opened = []; stopped = [] } ∷ past1

abbrev past3 : History
past3 = record { step = Commanded (Start 2); closed = []; opened = []; stopped = [] } ∷ past2

abbrev past4 : History
past4 = record { step = Commanded (Register 2 (codes "X" ∷ []) []); closed = []; opened = []; stopped = [] } ∷ past3

abbrev past5 : History
past5 = record { step = Commanded (Start 1); closed = []; opened = (record { configuration = 1; service = 2 } ∷ []); stopped = [] } ∷ past4

abbrev past6 : History
past6 = record { step = Commanded (Get 2 2); closed = []; opened = []; stopped = [] } ∷ past5

abbrev past7 : History
past7 = record { step = Begin 1 1 1 0 Create []; closed = []; opened = []; stopped = [] } ∷ past6

abbrev past8 : History
past8 = record { step = End 1 Done; closed = []; opened = []; stopped = [] } ∷ past7

abbrev past9 : History
past9 = record { step = Begin 2 1 1 0 Activate []; closed = []; opened = []; stopped = [] } ∷ past8

abbrev past10 : History
past10 = record { step = End 2 Done; closed = []; opened = []; stopped = [] } ∷ past9

abbrev past11 : History
past11 = record { step = Got 2 2; closed = []; opened = []; stopped = [] } ∷ past10

abbrev past12 : History
past12 = record { step = Commanded (Stop 1); closed = (1 ∷ []); opened = []; stopped = [] } ∷ past11

abbrev past13 : History
past13 = record { step = Drained 1; closed = []; opened = []; stopped = [] } ∷ past12

abbrev past14 : History
past14 = record { step = Begin 3 1 1 0 Deactivate []; closed = []; opened = []; stopped = [] } ∷ past13

abbrev past15 : History
past15 = record { step = End 3 Done; closed = []; opened = []; stopped = [] } ∷ past14

abbrev past16 : History
past16 = record { step = Begin 4 1 1 0 Destroy []; closed = []; opened = []; stopped = [] } ∷ past15

abbrev past17 : History
past17 = record { step = End 4 Done; closed = []; opened = []; stopped = (1 ∷ []) } ∷ past16

abbrev all : List World
all = worlds past17

is_legal : legal 4194304 past17 all ≡ true
unfolding world_after_entry world_of world_after_step stage_in stage_of stopped_in stopped_by shut_between has_room satisfied_in
is_legal = refl

stands_legal : IsLegal 4194304 past17
stands_legal = legal_means 4194304 past17 is_legal

-- while its instance is active, and after its bundle was stopped
abbrev active : World
active = newest (worlds past11)

abbrev stopping : World
stopping = newest (worlds past12)

-- a component configuration has the name of its component, and a bundle its symbolic name and version
which_lines : component_lines active ≡ (record { configuration = 1; name = codes "c"; state = 8 } ∷ [])
unfolding world_after_entry world_of world_after_step stage_in stage_of stopped_in stopped_by shut_between has_room satisfied_in
which_lines = refl

which_bundles : bundle_lines stopping ≡ (record { bundle = 1; state = 16; name = codes "n"; version = record { major = 1; minor = 2; micro = 3; qualifier = codes "q" } } ∷ record { bundle = 2; state = 32; name = codes "d"; version = record { major = 0; minor = 0; micro = 0; qualifier = [] } } ∷ [])
unfolding world_after_entry world_of world_after_step stage_in stage_of stopped_in stopped_by shut_between has_room satisfied_in
which_bundles = refl

-- the events behind the sixth
which_events : bundle_events_after 6 stopping ≡ (record { value = 128; bundle = 1 } ∷ record { value = 2; bundle = 1 } ∷ record { value = 256; bundle = 1 } ∷ [])
unfolding world_after_entry world_of world_after_step stage_in stage_of stopped_in stopped_by shut_between has_room satisfied_in
which_events = refl

-- services by number, whoever registered them
which_services : map (λ (r : ServiceRow). r.id) (service_lines active) ≡ (1 ∷ 2 ∷ [])
unfolding world_after_entry world_of world_after_step stage_in stage_of stopped_in stopped_by shut_between has_room satisfied_in
which_services = refl

-- the target of the implicit reference is a property of the component, and so of its service
by_condition : found active (tree_or_none (codes "(osgi.ds.satisfying.condition.target=*osgi.condition.id=true*)")) ≡ (2 ∷ [])
unfolding world_after_entry world_of world_after_step stage_in stage_of stopped_in stopped_by shut_between has_room satisfied_in
by_condition = refl

-- what has ceased is there no more, though its instance lives
which_exist : map (exists active.components) (1 ∷ 2 ∷ []) ≡ (true ∷ false ∷ [])
unfolding world_after_entry world_of world_after_step stage_in stage_of stopped_in stopped_by shut_between has_room satisfied_in
which_exist = refl

has_ceased : exists stopping.components 1 ≡ false
unfolding world_after_entry world_of world_after_step stage_in stage_of stopped_in stopped_by shut_between has_room satisfied_in
has_ceased = refl

-- the gate of its slot is reopened as it becomes active, and is the next to be drained once it is shut
which_gate : reopened_by 2 Done (newest (worlds past9)) ≡ Some (record { slot = 0; generation = 1 })
unfolding world_after_entry world_of world_after_step stage_in stage_of stopped_in stopped_by shut_between has_room satisfied_in
which_gate = refl

no_gate : reopened_by 1 Done (newest (worlds past7)) ≡ None
unfolding world_after_entry world_of world_after_step stage_in stage_of stopped_in stopped_by shut_between has_room satisfied_in
no_gate = refl

which_drain : map next_drain (active ∷ stopping ∷ []) ≡ (None ∷ Some (record { slot = 0; generation = 1 }) ∷ [])
unfolding world_after_entry world_of world_after_step stage_in stage_of stopped_in stopped_by shut_between has_room satisfied_in
which_drain = refl

abbrev got : ℕ → ℕ → ℕ → Token
got place bundle service = record { place = place; bundle = bundle; service = service }

-- a get by token stands at the place of its entry, for its bundle and its service alone, and ends with its service
which_token : map (has_token active) (got 10 2 2 ∷ got 2 2 2 ∷ got 10 1 2 ∷ got 10 2 1 ∷ []) ≡ (true ∷ false ∷ false ∷ false ∷ [])
unfolding world_after_entry world_of world_after_step stage_in stage_of stopped_in stopped_by shut_between has_room satisfied_in
which_token = refl

no_token : has_token stopping (got 10 2 2) ≡ false
unfolding world_after_entry world_of world_after_step stage_in stage_of stopped_in stopped_by shut_between has_room satisfied_in
no_token = refl

-- a Create needs room for itself and its end
room_for_create : option_map (λ s. map (λ limit. has_room limit (newest (worlds past6)) (needed_by s)) (7 ∷ 8 ∷ [])) (next_begin (newest (worlds past6))) ≡ Some (false ∷ true ∷ [])
unfolding world_after_entry world_of world_after_step stage_in stage_of stopped_in stopped_by shut_between has_room satisfied_in
room_for_create = refl

-- what is reserved has its room in a journal that is full but for it: an end, a drain, a release
room_for_reserved : (has_room 11 (newest (worlds past9)) (needed_by (End 2 Done)) ∷ has_room 13 stopping (needed_by (Drained 1)) ∷ has_room 13 active (needed_by (Released 10)) ∷ []) ≡ (true ∷ true ∷ true ∷ [])
unfolding world_after_entry world_of world_after_step stage_in stage_of stopped_in stopped_by shut_between has_room satisfied_in
room_for_reserved = refl

-- a command changes something where it isn't refused, has an effect and finds room: what is reserved are a drain and a release
which_change : map (changes 4194304 active) (Start 2 ∷ Stop 2 ∷ Start 9 ∷ []) ≡ (false ∷ true ∷ false ∷ [])
unfolding world_after_entry world_of world_after_step stage_in stage_of stopped_in stopped_by shut_between has_room satisfied_in
which_change = refl

no_room : map (λ limit. changes limit active (Stop 2)) (13 ∷ 14 ∷ []) ≡ (false ∷ true ∷ [])
unfolding world_after_entry world_of world_after_step stage_in stage_of stopped_in stopped_by shut_between has_room satisfied_in
no_room = refl

laws_hold : laws past17 all ≡ true
unfolding world_after_entry world_of world_after_step stage_in stage_of stopped_in stopped_by shut_between has_room satisfied_in
laws_hold = refl
