-- A dynamic reference with a target: a service that the target doesn't match isn't bound, and is as soon as it matches. Derived by hand.
use Rattle.std.specs.Prelude.{◌≡◌, refl, List, [], ◌∷◌, codes, true, false, Some, None, pos}
use Rattle.prop_map.specs.declared.value.Value.TheVariants.{Whole}
use Rattle.prop_map.specs.declared.reference_words.Cardinality.TheVariants.{ZeroOrMore}
use Rattle.prop_map.specs.declared.reference_words.Policy.TheVariants.{Dynamic}
use Rattle.prop_map.specs.declared.reference_words.PolicyOption.TheVariants.{Reluctant}
use Rattle.component_dto.specs.declared.description.Scope.TheVariants.{Singleton}
use Rattle.component_dto.specs.declared.description.ConfigurationPolicy.TheVariants.{Optional}
use Rattle.bundle_doc.specs.declared.document.BundleDoc.{BundleDoc}
use Rattle.callback_orders.specs.declared.callback.Callback.TheVariants.{Create, Bind, Activate}
use Rattle.callback_orders.specs.declared.callback.Outcome.TheVariants.{Done}
use Rattle.scr_world.specs.declared.step.Step.TheVariants.{Command as Commanded, Begin, End}
use Rattle.scr_world.specs.declared.command.Command.TheVariants.{Install, Start, Register, SetProperties}
use Rattle.scr_world.specs.Steps.{History}
use Rattle.scr_world.specs.declared.world.World.{World}
use Rattle.journal_examples.proofs.Laws.{laws}
use Rattle.journal_examples.proofs.Meanings.{legal_means}
use Rattle.scr_world.specs.Legal.{IsLegal}
use Rattle.journal_examples.proofs.Tests.{worlds, legal, held_at_end, quiet_ones}
use Rattle.scr_world.specs.Worlds.{satisfied_in}
use Rattle.scr_world.specs.Room.{has_room}
use Rattle.scr_world.specs.Consequences.{stage_in, stage_of, stopped_in, stopped_by, shut_between}
use Rattle.scr_world.specs.Stepping.{world_after_step}
use Rattle.scr_world.specs.Lists.{world_after_entry, world_of}

abbrev doc1 : BundleDoc
doc1 = record { location = codes "a"; name = codes "a"; version = record { major = 0; minor = 0; micro = 0; qualifier = [] }; manifest = None; activator = None; descriptions = (record { name = codes "a"; scope = Singleton; implementation_class = codes "K"; default_enabled = true; immediate = true; service_interfaces = []; properties = []; references = (record { name = codes "x"; interface_name = codes "X"; cardinality = ZeroOrMore; policy = Dynamic; policy_option = Reluctant; target = Some (codes "(v=1)"); updated = None } ∷ []); modified = None; configuration_policy = Optional; configuration_pids = (codes "a" ∷ []); implicit = true } ∷ []) }

abbrev past0 : History
past0 = []

abbrev past1 : History
past1 = record { step = Commanded (Install doc1); closed = []; opened = []; stopped = [] } ∷ past0

abbrev past2 : History
past2 = record { step = Commanded (Start 1); closed = []; opened = (record { configuration = 1; service = 0 } ∷ []); stopped = [] } ∷ past1

abbrev past3 : History
past3 = record { step = Commanded (Register 1 (codes "X" ∷ []) (record { key = codes "v"; value = Whole (pos 2) } ∷ [])); closed = []; opened = []; stopped = [] } ∷ past2

abbrev past4 : History
past4 = record { step = Begin 1 1 1 0 Create []; closed = []; opened = []; stopped = [] } ∷ past3

abbrev past5 : History
past5 = record { step = End 1 Done; closed = []; opened = []; stopped = [] } ∷ past4

abbrev past6 : History
past6 = record { step = Begin 2 1 1 0 Activate []; closed = []; opened = []; stopped = [] } ∷ past5

abbrev past7 : History
past7 = record { step = End 2 Done; closed = []; opened = []; stopped = [] } ∷ past6

abbrev past8 : History
past8 = record { step = Commanded (SetProperties 1 1 (record { key = codes "v"; value = Whole (pos 1) } ∷ [])); closed = []; opened = []; stopped = [] } ∷ past7

abbrev past9 : History
past9 = record { step = Begin 3 1 1 0 (Bind (codes "x") 1) []; closed = []; opened = []; stopped = [] } ∷ past8

abbrev past10 : History
past10 = record { step = End 3 Done; closed = []; opened = []; stopped = [] } ∷ past9

abbrev all : List World
all = worlds past10

is_legal : legal 4194304 past10 all ≡ true
unfolding world_after_entry world_of world_after_step stage_in stage_of stopped_in stopped_by shut_between has_room satisfied_in
is_legal = refl

stands_legal : IsLegal 4194304 past10
stands_legal = legal_means 4194304 past10 is_legal

-- quiet while the service doesn't match, and again once it is bound
which_quiet : quiet_ones all ≡ (true ∷ false ∷ false ∷ true ∷ false ∷ false ∷ false ∷ false ∷ false ∷ true ∷ true ∷ [])
unfolding world_after_entry world_of world_after_step stage_in stage_of stopped_in stopped_by shut_between has_room satisfied_in
which_quiet = refl

which_held : held_at_end 1 all ≡ (record { instance = 1; reference = codes "x"; service = 1 } ∷ [])
unfolding world_after_entry world_of world_after_step stage_in stage_of stopped_in stopped_by shut_between has_room satisfied_in
which_held = refl

laws_hold : laws past10 all ≡ true
unfolding world_after_entry world_of world_after_step stage_in stage_of stopped_in stopped_by shut_between has_room satisfied_in
laws_hold = refl
