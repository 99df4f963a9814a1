-- A component without a service fails: a get of the platform's own service, whose number is 0, is still refused as of one that isn't there. Derived by hand.
use Rattle.std.specs.Prelude.{◌≡◌, refl, List, [], ◌∷◌, codes, true, None, Err}
use Rattle.component_dto.specs.declared.description.Scope.TheVariants.{Singleton}
use Rattle.component_dto.specs.declared.description.ConfigurationPolicy.TheVariants.{Optional}
use Rattle.bundle_doc.specs.declared.document.BundleDoc.{BundleDoc}
use Rattle.callback_orders.specs.declared.callback.Callback.TheVariants.{Create}
use Rattle.callback_orders.specs.declared.callback.Outcome.TheVariants.{Refused}
use Rattle.scr_world.specs.declared.step.Step.TheVariants.{Command as Commanded, Begin, End}
use Rattle.scr_world.specs.declared.command.Command.TheVariants.{Install, Start, Get}
use Rattle.scr_world.specs.declared.reply.CoreFault.TheVariants.{NoService}
use Rattle.scr_world.specs.Steps.{History}
use Rattle.scr_world.specs.declared.world.World.{World}
use Rattle.journal_examples.proofs.Laws.{laws}
use Rattle.journal_examples.proofs.Meanings.{legal_means}
use Rattle.scr_world.specs.Legal.{IsLegal}
use Rattle.journal_examples.proofs.Tests.{worlds, legal, states, asked, replies}
use Rattle.scr_world.specs.Worlds.{satisfied_in}
use Rattle.scr_world.specs.Room.{has_room}
use Rattle.scr_world.specs.Consequences.{stage_in, stage_of, stopped_in, stopped_by, shut_between}
use Rattle.scr_world.specs.Stepping.{world_after_step}
use Rattle.scr_world.specs.Lists.{world_after_entry, world_of}

abbrev doc1 : BundleDoc
doc1 = record { location = codes "a"; name = codes "a"; version = record { major = 0; minor = 0; micro = 0; qualifier = [] }; manifest = None; activator = None; descriptions = (record { name = codes "a"; scope = Singleton; implementation_class = codes "K"; default_enabled = true; immediate = true; service_interfaces = []; properties = []; references = []; modified = None; configuration_policy = Optional; configuration_pids = (codes "a" ∷ []); implicit = true } ∷ []) }

abbrev past0 : History
past0 = []

abbrev past1 : History
past1 = record { step = Commanded (Install doc1); closed = []; opened = []; stopped = [] } ∷ past0

abbrev past2 : History
past2 = record { step = Commanded (Start 1); closed = []; opened = (record { configuration = 1; service = 0 } ∷ []); stopped = [] } ∷ past1

abbrev past3 : History
past3 = record { step = Begin 1 1 1 0 Create []; closed = []; opened = []; stopped = [] } ∷ past2

abbrev past4 : History
past4 = record { step = End 1 Refused; closed = (1 ∷ []); opened = []; stopped = [] } ∷ past3

abbrev all : List World
all = worlds past4

is_legal : legal 4194304 past4 all ≡ true
unfolding world_after_entry world_of world_after_step stage_in stage_of stopped_in stopped_by shut_between has_room satisfied_in
is_legal = refl

stands_legal : IsLegal 4194304 past4
stands_legal = legal_means 4194304 past4 is_legal

which_states : states all ≡ (((1, 16) ∷ []) ∷ ((1, 4) ∷ []) ∷ ((1, 4) ∷ []) ∷ [] ∷ [] ∷ [])
unfolding world_after_entry world_of world_after_step stage_in stage_of stopped_in stopped_by shut_between has_room satisfied_in
which_states = refl

which_replies : replies 4194304 all (asked 4 (Get 1 0) ∷ asked 4 (Get 1 1) ∷ []) ≡ (Err (NoService 0) ∷ Err (NoService 1) ∷ [])
unfolding world_after_entry world_of world_after_step stage_in stage_of stopped_in stopped_by shut_between has_room satisfied_in
which_replies = refl

laws_hold : laws past4 all ≡ true
unfolding world_after_entry world_of world_after_step stage_in stage_of stopped_in stopped_by shut_between has_room satisfied_in
laws_hold = refl
