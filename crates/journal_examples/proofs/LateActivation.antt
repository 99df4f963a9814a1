-- A bundle stops while an Activate is outstanding: its gate is reopened and shut in one entry. As an independent model of the platform has it.
use Rattle.std.specs.Prelude.{◌≡◌, refl, List, [], ◌∷◌, codes, map, true, false, Some, None}
use Rattle.prop_map.specs.declared.reference_words.Cardinality.TheVariants.{One}
use Rattle.prop_map.specs.declared.reference_words.Policy.TheVariants.{Static}
use Rattle.prop_map.specs.declared.reference_words.PolicyOption.TheVariants.{Reluctant}
use Rattle.component_dto.specs.declared.description.Scope.TheVariants.{Singleton}
use Rattle.component_dto.specs.declared.description.ConfigurationPolicy.TheVariants.{Optional}
use Rattle.bundle_doc.specs.declared.document.BundleDoc.{BundleDoc}
use Rattle.callback_orders.specs.declared.callback.Callback.TheVariants.{Create, Bind, Unbind, Activate, Deactivate, Destroy}
use Rattle.callback_orders.specs.declared.callback.Outcome.TheVariants.{Done}
use Rattle.scr_world.specs.declared.step.Step.TheVariants.{Command as Commanded, Begin, End, Drained}
use Rattle.scr_world.specs.declared.command.Command.TheVariants.{Install, Start, Stop}
use Rattle.scr_world.specs.Steps.{History}
use Rattle.scr_world.specs.declared.world.World.{World}
use Rattle.journal_examples.proofs.Gates.{gates, reopened_by_each, shut_by, some_of}
use Rattle.journal_examples.proofs.Meanings.{legal_means}
use Rattle.scr_world.specs.Legal.{IsLegal}
use Rattle.journal_examples.proofs.Tests.{worlds, legal, begins, states, quiet_ones}
use Rattle.scr_world.specs.Worlds.{satisfied_in}
use Rattle.scr_world.specs.Room.{has_room, reserved}
use Rattle.scr_world.specs.Consequences.{stage_in, stage_of, stopped_in, stopped_by, shut_between}
use Rattle.scr_world.specs.Stepping.{world_after_step}
use Rattle.scr_world.specs.Lists.{world_after_entry, world_of}

abbrev pub doc1 : BundleDoc
doc1 = record { location = (codes "p"); name = (codes "p"); version = record { major = 0; minor = 0; micro = 0; qualifier = [] }; manifest = None; activator = None; descriptions = (record { name = (codes "p"); scope = Singleton; implementation_class = (codes "P"); default_enabled = true; immediate = false; service_interfaces = ((codes "P") ∷ []); properties = []; references = []; modified = None; configuration_policy = Optional; configuration_pids = ((codes "p") ∷ []); implicit = true } ∷ []) }

abbrev pub doc2 : BundleDoc
doc2 = record { location = (codes "c"); name = (codes "c"); version = record { major = 0; minor = 0; micro = 0; qualifier = [] }; manifest = None; activator = None; descriptions = (record { name = (codes "c"); scope = Singleton; implementation_class = (codes "C"); default_enabled = true; immediate = true; service_interfaces = []; properties = []; references = (record { name = (codes "p"); interface_name = (codes "P"); cardinality = One; policy = Static; policy_option = Reluctant; target = None; updated = None } ∷ []); modified = None; configuration_policy = Optional; configuration_pids = ((codes "c") ∷ []); implicit = true } ∷ []) }

abbrev pub past0 : History
past0 = []

abbrev pub past1 : History
past1 = record { step = (Commanded (Install doc1)); closed = []; opened = []; stopped = [] } ∷ past0

abbrev pub past2 : History
past2 = record { step = (Commanded (Install doc2)); closed = []; opened = []; stopped = [] } ∷ past1

abbrev pub past3 : History
past3 = record { step = (Commanded (Start 2)); closed = []; opened = []; stopped = [] } ∷ past2

abbrev pub past4 : History
past4 = record { step = (Commanded (Start 1)); closed = []; opened = (record { configuration = 2; service = 1 } ∷ record { configuration = 1; service = 0 } ∷ []); stopped = [] } ∷ past3

abbrev pub past5 : History
past5 = record { step = (Begin 1 1 1 0 Create (record { reference = 0; services = (1 ∷ []) } ∷ [])); closed = []; opened = []; stopped = [] } ∷ past4

abbrev pub past6 : History
past6 = record { step = (End 1 Done); closed = []; opened = []; stopped = [] } ∷ past5

abbrev pub past7 : History
past7 = record { step = (Begin 2 2 2 0 Create []); closed = []; opened = []; stopped = [] } ∷ past6

abbrev pub past8 : History
past8 = record { step = (End 2 Done); closed = []; opened = []; stopped = [] } ∷ past7

abbrev pub past9 : History
past9 = record { step = (Begin 3 2 2 0 Activate []); closed = []; opened = []; stopped = [] } ∷ past8

abbrev pub past10 : History
past10 = record { step = (End 3 Done); closed = []; opened = []; stopped = [] } ∷ past9

abbrev pub past11 : History
past11 = record { step = (Begin 4 1 1 0 (Bind (codes "p") 1) []); closed = []; opened = []; stopped = [] } ∷ past10

abbrev pub past12 : History
past12 = record { step = (End 4 Done); closed = []; opened = []; stopped = [] } ∷ past11

abbrev pub past13 : History
past13 = record { step = (Begin 5 1 1 0 Activate []); closed = []; opened = []; stopped = [] } ∷ past12

abbrev pub past14 : History
past14 = record { step = (Commanded (Stop 2)); closed = (1 ∷ []); opened = []; stopped = [] } ∷ past13

abbrev pub past15 : History
past15 = record { step = (End 5 Done); closed = []; opened = []; stopped = [] } ∷ past14

abbrev pub past16 : History
past16 = record { step = (Drained 1); closed = []; opened = []; stopped = [] } ∷ past15

abbrev pub past17 : History
past17 = record { step = (Begin 6 1 1 0 Deactivate []); closed = []; opened = []; stopped = [] } ∷ past16

abbrev pub past18 : History
past18 = record { step = (End 6 Done); closed = []; opened = []; stopped = [] } ∷ past17

abbrev pub past19 : History
past19 = record { step = (Begin 7 1 1 0 (Unbind (codes "p") 1) []); closed = []; opened = []; stopped = [] } ∷ past18

abbrev pub past20 : History
past20 = record { step = (End 7 Done); closed = []; opened = []; stopped = [] } ∷ past19

abbrev pub past21 : History
past21 = record { step = (Begin 8 1 1 0 Destroy []); closed = []; opened = []; stopped = [] } ∷ past20

abbrev pub past22 : History
past22 = record { step = (End 8 Done); closed = []; opened = []; stopped = (2 ∷ []) } ∷ past21

abbrev all : List World
all = worlds past22

is_legal : legal 4194304 past22 all ≡ true
unfolding world_after_entry world_of world_after_step stage_in stage_of stopped_in stopped_by shut_between has_room satisfied_in
is_legal = refl

stands_legal : IsLegal 4194304 past22
stands_legal = legal_means 4194304 past22 is_legal

which_begin : begins all ≡ (None ∷ None ∷ Some (Begin 8 1 1 0 Destroy []) ∷ None ∷ Some (Begin 7 1 1 0 (Unbind (codes "p") 1) []) ∷ None ∷ Some (Begin 6 1 1 0 Deactivate []) ∷ None ∷ None ∷ None ∷ Some (Begin 5 1 1 0 Activate []) ∷ None ∷ Some (Begin 4 1 1 0 (Bind (codes "p") 1) []) ∷ None ∷ Some (Begin 3 2 2 0 Activate []) ∷ None ∷ Some (Begin 2 2 2 0 Create []) ∷ Some (Begin 2 2 2 0 Create []) ∷ Some (Begin 1 1 1 0 Create (record { reference = 0; services = (1 ∷ []) } ∷ [])) ∷ None ∷ None ∷ None ∷ None ∷ [])
unfolding world_after_entry world_of world_after_step stage_in stage_of stopped_in stopped_by shut_between has_room satisfied_in
which_begin = refl

which_states : states all ≡ (((2, 8) ∷ []) ∷ ((2, 8) ∷ []) ∷ ((2, 8) ∷ []) ∷ ((2, 8) ∷ []) ∷ ((2, 8) ∷ []) ∷ ((2, 8) ∷ []) ∷ ((2, 8) ∷ []) ∷ ((2, 8) ∷ []) ∷ ((2, 8) ∷ []) ∷ ((1, 4) ∷ (2, 8) ∷ []) ∷ ((1, 4) ∷ (2, 8) ∷ []) ∷ ((1, 4) ∷ (2, 8) ∷ []) ∷ ((1, 4) ∷ (2, 8) ∷ []) ∷ ((1, 4) ∷ (2, 4) ∷ []) ∷ ((1, 4) ∷ (2, 4) ∷ []) ∷ ((1, 4) ∷ (2, 4) ∷ []) ∷ ((1, 4) ∷ (2, 4) ∷ []) ∷ ((1, 4) ∷ (2, 4) ∷ []) ∷ ((1, 4) ∷ (2, 4) ∷ []) ∷ ((1, 2) ∷ []) ∷ [] ∷ [] ∷ [] ∷ [])
unfolding world_after_entry world_of world_after_step stage_in stage_of stopped_in stopped_by shut_between has_room satisfied_in
which_states = refl

which_quiet : quiet_ones all ≡ (true ∷ false ∷ false ∷ false ∷ false ∷ false ∷ false ∷ false ∷ false ∷ false ∷ false ∷ false ∷ false ∷ false ∷ false ∷ false ∷ false ∷ false ∷ false ∷ true ∷ true ∷ true ∷ true ∷ [])
unfolding world_after_entry world_of world_after_step stage_in stage_of stopped_in stopped_by shut_between has_room satisfied_in
which_quiet = refl

gate_keys : map gates all ≡ (((2, 1, 1) ∷ []) ∷ ((1, 0, 1) ∷ (2, 1, 1) ∷ []) ∷ ((1, 0, 1) ∷ (2, 1, 1) ∷ []) ∷ ((1, 0, 1) ∷ (2, 1, 1) ∷ []) ∷ ((1, 0, 1) ∷ (2, 1, 1) ∷ []) ∷ ((1, 0, 1) ∷ (2, 1, 1) ∷ []) ∷ ((1, 0, 1) ∷ (2, 1, 1) ∷ []) ∷ ((1, 0, 1) ∷ (2, 1, 1) ∷ []) ∷ ((1, 0, 0) ∷ (2, 1, 1) ∷ []) ∷ ((1, 0, 0) ∷ (2, 1, 1) ∷ []) ∷ ((1, 0, 0) ∷ (2, 1, 1) ∷ []) ∷ ((1, 0, 0) ∷ (2, 1, 1) ∷ []) ∷ ((1, 0, 0) ∷ (2, 1, 1) ∷ []) ∷ ((1, 0, 0) ∷ (2, 1, 0) ∷ []) ∷ ((1, 0, 0) ∷ (2, 1, 0) ∷ []) ∷ ((1, 0, 0) ∷ (2, 1, 0) ∷ []) ∷ ((1, 0, 0) ∷ []) ∷ ((1, 0, 0) ∷ []) ∷ [] ∷ [] ∷ [] ∷ [] ∷ [] ∷ [])
unfolding world_after_entry world_of world_after_step stage_in stage_of stopped_in stopped_by shut_between has_room satisfied_in
gate_keys = refl

shut_gates : some_of (shut_by all) ≡ ((14, ((0, 1) ∷ [])) ∷ [])
unfolding world_after_entry world_of world_after_step stage_in stage_of stopped_in stopped_by shut_between has_room satisfied_in
shut_gates = refl

reopened_gates : some_of (reopened_by_each past22 all) ≡ ((14, ((0, 1) ∷ [])) ∷ (9, ((1, 1) ∷ [])) ∷ [])
unfolding world_after_entry world_of world_after_step stage_in stage_of stopped_in stopped_by shut_between has_room satisfied_in
reopened_gates = refl

room : map reserved all ≡ (1 ∷ 2 ∷ 1 ∷ 2 ∷ 1 ∷ 2 ∷ 1 ∷ 2 ∷ 3 ∷ 3 ∷ 1 ∷ 2 ∷ 1 ∷ 2 ∷ 0 ∷ 1 ∷ 0 ∷ 1 ∷ 0 ∷ 0 ∷ 0 ∷ 0 ∷ 0 ∷ [])
unfolding world_after_entry world_of world_after_step stage_in stage_of stopped_in stopped_by shut_between has_room satisfied_in
room = refl
