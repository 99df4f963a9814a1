-- A chain of relays, each before the one below: sixteen nested calls answer, and the seventeenth is one too many.
use Rattle.std.specs.Prelude.{refl, ℕ, ◌+◌, ◌≤◌, zero, suc, pred, List, [], ◌∷◌, ◌++◌, codes, decimal, None, Ok, Err}
use Rattle.std.specs.Fmt.{digits}
use Rattle.std.proofs.Common.{arith}
use Rattle.std.proofs.Math.Nat.{le_refl}
use Rattle.prop_map.specs.declared.reference_words.Cardinality.TheVariants.{One}
use Rattle.prop_map.specs.declared.reference_words.Policy.TheVariants.{Static}
use Rattle.component_dto.specs.declared.description.Description.{Description}
use Rattle.callback_orders.specs.declared.callback.Callback.TheVariants.{Create, Bind, Activate}
use Rattle.journal_core.specs.declared.entry.Entry.{Entry}
use Rattle.journal_core.specs.declared.entry.Opened.{Opened}
use Rattle.kind_trait.specs.declared.nested_reply.NestedReply.TheVariants.{Text}
use Rattle.call_moves.specs.declared.nested_call.NestedCall.{NestedCall}
use Rattle.demonstration_kinds.specs.Demonstrations.{next}
use Rattle.scr_world.specs.declared.command.Command.TheVariants.{Install, Start}
use Rattle.scr_world.specs.declared.step.Step.{Step}
use Rattle.scr_world.specs.declared.step.Step.TheVariants.{Got, Released}
use Rattle.scr_calls.specs.declared.call_fault.CallFault.TheVariants.{CallTooLong}
use Rattle.scr_calls.specs.Calls.{AnswersUse}
use Rattle.scr_calls.specs.Evaluates.{Rising, world_up_to}
use Rattle.call_examples.proofs.Journals.{asked, choosing, component, did, document, next_on, opening, turn, with_service}
use Rattle.call_examples.proofs.Asking.{got_at, inner, live_in}
use Rattle.scr_world.specs.Worlds.{satisfied_in}
use Rattle.scr_world.specs.Room.{has_room}
use Rattle.scr_world.specs.Consequences.{stage_in, stage_of, stopped_in, stopped_by, shut_between}
use Rattle.scr_world.specs.Stepping.{world_after_step}
use Rattle.scr_world.specs.Lists.{world_after_entry, world_of}
use Rattle.call_moves.specs.Evaluations.{after_moves, fronts_of}

-- ---- the documents: the echo provides I0, and the relay before Ik provides the next one

abbrev interface : ℕ → List ℕ
interface k = codes "I" ++ decimal k

abbrev relay_before : ℕ → Description
relay_before k =
    component (codes "r" ++ decimal (k + 1)) (codes "demo.Relay") (interface (k + 1)) []
    (next_on (interface k) One Static)

abbrev relays : ℕ → ℕ → List Description
relays k zero = []
relays k (suc n) = relay_before k ∷ relays (k + 1) n

-- component configurations from this one on, each with the service of its number
abbrev opened_from : ℕ → ℕ → List Opened
opened_from k zero = []
opened_from k (suc n) = with_service k k ∷ opened_from (k + 1) n

-- ---- the journal: the relay of the 17th service is got, so each of those below is made, and activated behind the one
-- below it

-- from a turn on, of a component configuration and all below it
abbrev creates : ℕ → ℕ → List (Entry Step)
creates number zero = []
creates number (suc zero) = turn number number 1 Create
creates number (suc (suc k)) = choosing number number (k + 2) ((k + 1) ∷ []) ++ creates (number + 1) (suc k)

-- from a turn on, of the component configuration above this one; so many instances are left, the last one first
abbrev activates : ℕ → ℕ → ℕ → List (Entry Step)
activates number k zero = []
activates number k (suc n) =
    turn number (suc n) (k + 1) (Bind (codes "next") k)
    ++ (turn (number + 1) (suc n) (k + 1) Activate ++ activates (number + 2) (k + 1) n)

abbrev journal : List (Entry Step)
journal =
    asked (Install (document (codes "b") (component (codes "e") (codes "demo.Echo") (interface 0) [] [] ∷ relays 0 17)))
    ∷ opening (Start 1) (opened_from 1 18) ∷ did (Got 1 17)
    ∷ (creates 1 17 ++ (turn 18 17 1 Activate ++ (activates 19 1 16
    ++ (did (Released 2) ∷ did (Got 1 18)
    ∷ (choosing 51 18 18 (17 ∷ []) ++ (turn 52 18 18 (Bind (codes "next") 17) ++ turn 53 18 18 Activate))))))

-- ---- the calls

abbrev in_brackets : ℕ → List ℕ
in_brackets zero = codes "hi"
in_brackets (suc k) = codes "<" ++ (in_brackets k ++ codes ">")

-- the nested calls of so many services, the last one first, each with its answer
abbrev answers_below : ℕ → ℕ → List NestedCall
answers_below front zero = []
answers_below front (suc k) = inner front (suc k) (codes "hi") (Text (in_brackets k)) ∷ answers_below front k

-- they are under way
abbrev under_way : NestedCall → NestedCall
under_way call = record call { reply = None }

below_rises : (front k to : ℕ) → front ≤ to → Rising front (fronts_of (answers_below front k)) to
below_rises front zero to low = low
below_rises front (suc k) to low = (le_refl front, below_rises front k to low)

sixteen : AnswersUse (world_up_to journal) next (got_at 2 1 17) (codes "hi") 103 103
    (Ok (record { front = 103; text = in_brackets 16; nested = answers_below 103 16 }))
unfolding after_moves world_after_entry world_of world_after_step stage_in stage_of stopped_in stopped_by shut_between has_room satisfied_in digits
sixteen = ((live_in (world_up_to journal 103) 1, refl, refl), (omega arith, below_rises 103 16 103 (omega arith)))

-- of the eighteenth service: sixteen calls wait, and the one that runs asks the echo
abbrev waiting_below : ℕ → ℕ → ℕ → List NestedCall
waiting_below front k zero = []
waiting_below front k (suc n) = under_way (inner front k (codes "hi") (Text [])) ∷ waiting_below front (pred k) n

waiting_rises : (front k n to : ℕ) → front ≤ to → Rising front (fronts_of (waiting_below front k n)) to
waiting_rises front k zero to low = low
waiting_rises front k (suc n) to low = (le_refl front, waiting_rises front (pred k) n to low)

seventeenth : AnswersUse (world_up_to journal) next (got_at 104 1 18) (codes "hi") 111 111
    (Err (CallTooLong 111 (waiting_below 111 17 16)))
unfolding after_moves world_after_entry world_of world_after_step stage_in stage_of stopped_in stopped_by shut_between has_room satisfied_in digits
seventeenth =
    ((live_in (world_up_to journal 111) 18, refl, refl), (omega arith, waiting_rises 111 17 16 111 (omega arith)))
