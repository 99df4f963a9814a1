-- A get makes a delayed component wanted, and its Create finds no memory: from then on a get of its service is refused so, and by no other answer. Its own `config`
-- opens it with another service, whose get by token fails by a refused Create. Of an inactive bundle a get is refused for its state first.
use Rattle.std.specs.Prelude.{◌≡◌, refl, List, [], ◌∷◌, codes, true, false, Some, None, Ok, Err, map}
use Rattle.std.proofs.Common.{sym, subst, ◌∙◌}
use Rattle.component_dto.specs.declared.description.Scope.TheVariants.{Singleton}
use Rattle.component_dto.specs.declared.description.ConfigurationPolicy.TheVariants.{Optional}
use Rattle.bundle_doc.specs.declared.document.BundleDoc.{BundleDoc}
use Rattle.callback_orders.specs.declared.callback.Callback.TheVariants.{Create}
use Rattle.callback_orders.specs.declared.callback.Outcome.TheVariants.{Refused, NoMemory}
use Rattle.journal_core.specs.declared.entry.Entry.{Entry}
use Rattle.scr_world.specs.declared.step.Step.{Step}
use Rattle.scr_world.specs.declared.step.Step.TheVariants.{Command as Commanded, Begin, End, Got}
use Rattle.scr_world.specs.declared.command.Command.TheVariants.{Install, Start, Stop, Get, Unget, Configure}
use Rattle.scr_world.specs.declared.reply.CoreFault.TheVariants.{NoBundle, WrongState, NoService, ActivationFailed, ActivationNoMemory}
use Rattle.scr_world.specs.declared.reply.Reply.TheVariants.{Uses as WithUses}
use Rattle.scr_world.specs.Steps.{History}
use Rattle.scr_world.specs.declared.world.World.{World}
use Rattle.scr_world.specs.Replies.{Replies, reply}
use Rattle.journal_examples.proofs.Laws.{laws}
use Rattle.journal_examples.proofs.Meanings.{legal_means, newest_is, wrong_means}
use Rattle.scr_world.specs.Legal.{Follows, IsLegal}
use Rattle.journal_examples.proofs.Tests.{worlds, legal, begins, states, asked, replies, newest, wanted_at}
use Rattle.scr_world.specs.Worlds.{satisfied_in}
use Rattle.scr_world.specs.Room.{has_room, reserved}
use Rattle.scr_world.specs.Consequences.{stage_in, stage_of, stopped_in, stopped_by, shut_between}
use Rattle.scr_world.specs.Stepping.{world_after_step}
use Rattle.scr_world.specs.Lists.{world_after_entry, world_of}

abbrev doc1 : BundleDoc
doc1 = record { location = (codes "p"); name = (codes "p"); version = record { major = 0; minor = 0; micro = 0; qualifier = [] }; manifest = None; activator = None; descriptions = (record { name = (codes "p"); scope = Singleton; implementation_class = (codes "K"); default_enabled = true; immediate = false; service_interfaces = ((codes "P") ∷ []); properties = []; references = []; modified = None; configuration_policy = Optional; configuration_pids = ((codes "p") ∷ []); implicit = true } ∷ []) }

abbrev doc2 : BundleDoc
doc2 = record { location = (codes "d"); name = (codes "d"); version = record { major = 0; minor = 0; micro = 0; qualifier = [] }; manifest = None; activator = None; descriptions = [] }

abbrev past0 : History
past0 = []

abbrev past1 : History
past1 = record { step = (Commanded (Install doc1)); closed = []; opened = []; stopped = [] } ∷ past0

abbrev past2 : History
past2 = record { step = (Commanded (Start 1)); closed = []; opened = (record { configuration = 1; service = 1 } ∷ []); stopped = [] } ∷ past1

abbrev past3 : History
past3 = record { step = (Commanded (Install doc2)); closed = []; opened = []; stopped = [] } ∷ past2

abbrev past4 : History
past4 = record { step = (Commanded (Start 2)); closed = []; opened = []; stopped = [] } ∷ past3

abbrev past5 : History
past5 = record { step = (Commanded (Get 2 1)); closed = []; opened = []; stopped = [] } ∷ past4

abbrev past6 : History
past6 = record { step = (Begin 1 1 1 0 Create []); closed = []; opened = []; stopped = [] } ∷ past5

abbrev past7 : History
past7 = record { step = (End 1 NoMemory); closed = (1 ∷ []); opened = []; stopped = [] } ∷ past6

abbrev past8 : History
past8 = record { step = (Commanded (Configure (codes "p") [])); closed = []; opened = (record { configuration = 1; service = 2 } ∷ []); stopped = [] } ∷ past7

abbrev past9 : History
past9 = record { step = (Got 2 2); closed = []; opened = []; stopped = [] } ∷ past8

abbrev past10 : History
past10 = record { step = (Begin 2 2 1 0 Create []); closed = []; opened = []; stopped = [] } ∷ past9

abbrev past11 : History
past11 = record { step = (End 2 Refused); closed = (1 ∷ []); opened = []; stopped = [] } ∷ past10

abbrev past12 : History
past12 = record { step = (Commanded (Stop 2)); closed = []; opened = []; stopped = (2 ∷ []) } ∷ past11

abbrev all : List World
all = worlds past12

is_legal : legal 4194304 past12 all ≡ true
unfolding world_after_entry world_of world_after_step stage_in stage_of stopped_in stopped_by shut_between has_room satisfied_in
is_legal = refl

stands_legal : IsLegal 4194304 past12
stands_legal = legal_means 4194304 past12 is_legal

which_begin : begins all ≡ (None ∷ None ∷ None ∷ (Some (Begin 2 2 1 0 Create [])) ∷ None ∷ None ∷ None ∷ (Some (Begin 1 1 1 0 Create [])) ∷ None ∷ None ∷ None ∷ None ∷ None ∷ [])
unfolding world_after_entry world_of world_after_step stage_in stage_of stopped_in stopped_by shut_between has_room satisfied_in
which_begin = refl

which_states : states all ≡ (((1, 16) ∷ []) ∷ ((1, 16) ∷ []) ∷ ((1, 4) ∷ []) ∷ ((1, 4) ∷ []) ∷ ((1, 4) ∷ []) ∷ ((1, 16) ∷ []) ∷ ((1, 4) ∷ []) ∷ ((1, 4) ∷ []) ∷ ((1, 4) ∷ []) ∷ ((1, 4) ∷ []) ∷ ((1, 4) ∷ []) ∷ [] ∷ [] ∷ [])
unfolding world_after_entry world_of world_after_step stage_in stage_of stopped_in stopped_by shut_between has_room satisfied_in
which_states = refl

which_wanted : wanted_at all ≡ ([] ∷ [] ∷ (record { configuration = 1; consumer = 0 } ∷ []) ∷ (record { configuration = 1; consumer = 0 } ∷ []) ∷ [] ∷ [] ∷ (record { configuration = 1; consumer = 0 } ∷ []) ∷ (record { configuration = 1; consumer = 0 } ∷ []) ∷ [] ∷ [] ∷ [] ∷ [] ∷ [] ∷ [])
unfolding world_after_entry world_of world_after_step stage_in stage_of stopped_in stopped_by shut_between has_room satisfied_in
which_wanted = refl

which_reserved : map (λ (w : World). reserved w) all ≡ (0 ∷ 0 ∷ 2 ∷ 1 ∷ 0 ∷ 0 ∷ 1 ∷ 0 ∷ 0 ∷ 0 ∷ 0 ∷ 0 ∷ 0 ∷ [])
unfolding world_after_entry world_of world_after_step stage_in stage_of stopped_in stopped_by shut_between has_room satisfied_in
which_reserved = refl

-- before the failure, after it, after the second one, and for a bundle that isn't active
before : replies 4194304 all (asked 3 (Get 2 1) ∷ asked 4 (Get 2 1) ∷ asked 5 (Get 2 1) ∷ asked 6 (Get 2 1) ∷ []) ≡ ((Err (WrongState 2)) ∷ (Ok (WithUses 1)) ∷ (Ok (WithUses 2)) ∷ (Ok (WithUses 2)) ∷ [])
unfolding world_after_entry world_of world_after_step stage_in stage_of stopped_in stopped_by shut_between has_room satisfied_in
before = refl

after : replies 4194304 all (asked 7 (Get 2 1) ∷ asked 7 (Get 1 1) ∷ asked 7 (Get 3 1) ∷ asked 7 (Get 2 2) ∷ asked 7 (Unget 2 1) ∷ asked 8 (Get 2 1) ∷ asked 8 (Get 2 2) ∷ []) ≡ ((Err (ActivationNoMemory 1)) ∷ (Err (ActivationNoMemory 1)) ∷ (Err (NoBundle 3)) ∷ (Err (NoService 2)) ∷ (Err (NoService 1)) ∷ (Err (ActivationNoMemory 1)) ∷ (Ok (WithUses 1)) ∷ [])
unfolding world_after_entry world_of world_after_step stage_in stage_of stopped_in stopped_by shut_between has_room satisfied_in
after = refl

at_end : replies 4194304 all (asked 11 (Get 2 1) ∷ asked 11 (Get 2 2) ∷ asked 12 (Get 2 1) ∷ asked 12 (Get 1 1) ∷ asked 12 (Get 1 2) ∷ []) ≡ ((Err (ActivationNoMemory 1)) ∷ (Err (ActivationFailed 2)) ∷ (Err (WrongState 4)) ∷ (Err (ActivationNoMemory 1)) ∷ (Err (ActivationFailed 2)) ∷ [])
unfolding world_after_entry world_of world_after_step stage_in stage_of stopped_in stopped_by shut_between has_room satisfied_in
at_end = refl

laws_hold : laws past12 all ≡ true
unfolding world_after_entry world_of world_after_step stage_in stage_of stopped_in stopped_by shut_between has_room satisfied_in
laws_hold = refl

-- ---- wrong answers

answered : reply 4194304 (newest (worlds past7)) (Get 2 1) ≡ Err (ActivationNoMemory 1)
unfolding world_after_entry world_of world_after_step stage_in stage_of stopped_in stopped_by shut_between has_room satisfied_in
answered = refl

told : Replies 4194304 (world_of past7) (Get 2 1) (Err (ActivationNoMemory 1))
told = subst (λ (w : World). Replies 4194304 w (Get 2 1) (Err (ActivationNoMemory 1))) (newest_is past7) answered

-- the service is only missing
as_missing : Replies 4194304 (world_of past7) (Get 2 1) (Err (NoService 1)) → ⊥
as_missing h = let both : Err (ActivationNoMemory 1) ≡ Err (NoService 1) = sym told ∙ h in cc

-- its Create was refused
as_refused : Replies 4194304 (world_of past7) (Get 2 1) (Err (ActivationFailed 1)) → ⊥
as_refused h = let both : Err (ActivationNoMemory 1) ≡ Err (ActivationFailed 1) = sym told ∙ h in cc

-- another instance failed
as_of_another : Replies 4194304 (world_of past7) (Get 2 1) (Err (ActivationNoMemory 2)) → ⊥
as_of_another h = let both : Err (ActivationNoMemory 1) ≡ Err (ActivationNoMemory 2) = sym told ∙ h in cc

-- it is got
as_got : Replies 4194304 (world_of past7) (Get 2 1) (Ok (WithUses 1)) → ⊥
as_got h = let both : Err (ActivationNoMemory 1) ≡ Ok (WithUses 1) = sym told ∙ h in cc

-- ---- wrong entries

-- the refused get is an entry
abbrev refused_get_entry : Entry Step
refused_get_entry = record { step = Commanded (Get 2 1); closed = []; opened = []; stopped = [] }

refused_get : Follows 4194304 refused_get_entry past7 → ⊥
unfolding world_after_entry world_of world_after_step stage_in stage_of stopped_in stopped_by shut_between has_room satisfied_in
refused_get = wrong_means 4194304 refused_get_entry past7 refl

-- so is a get by token
abbrev got_by_token_entry : Entry Step
got_by_token_entry = record { step = Got 2 1; closed = []; opened = []; stopped = [] }

got_by_token : Follows 4194304 got_by_token_entry past7 → ⊥
unfolding world_after_entry world_of world_after_step stage_in stage_of stopped_in stopped_by shut_between has_room satisfied_in
got_by_token = wrong_means 4194304 got_by_token_entry past7 refl

-- the failed one stays open
abbrev left_open_entry : Entry Step
left_open_entry = record { step = End 1 NoMemory; closed = []; opened = []; stopped = [] }

left_open : Follows 4194304 left_open_entry past6 → ⊥
unfolding world_after_entry world_of world_after_step stage_in stage_of stopped_in stopped_by shut_between has_room satisfied_in
left_open = wrong_means 4194304 left_open_entry past6 refl
