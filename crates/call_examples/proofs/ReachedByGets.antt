-- Whom calls by gets reach: an instance that isn't active yet, no object, nobody any more.
use Rattle.std.specs.Prelude.{refl, List, [], ◌∷◌, ◌++◌, codes, Ok, Err}
use Rattle.std.proofs.Common.{arith}
use Rattle.prop_map.specs.declared.reference_words.Cardinality.TheVariants.{ZeroOrOne}
use Rattle.prop_map.specs.declared.reference_words.Policy.TheVariants.{Dynamic}
use Rattle.callback_orders.specs.declared.callback.Callback.TheVariants.{Create, Bind, Activate}
use Rattle.callback_orders.specs.declared.callback.Outcome.TheVariants.{Refused}
use Rattle.journal_core.specs.declared.entry.Entry.{Entry}
use Rattle.kind_trait.specs.declared.nested_reply.NestedReply.TheVariants.{NoObject as HasNoObject}
use Rattle.demonstration_kinds.specs.Demonstrations.{next}
use Rattle.scr_world.specs.declared.command.Command.TheVariants.{Install, Register, Start}
use Rattle.scr_world.specs.declared.step.Step.{Step}
use Rattle.scr_world.specs.declared.step.Step.TheVariants.{End, Got, Released}
use Rattle.scr_calls.specs.declared.call_fault.CallFault.TheVariants.{Gone, NoObject, Pending}
use Rattle.scr_calls.specs.Calls.{AnswersUse}
use Rattle.scr_calls.specs.Evaluates.{world_up_to}
use Rattle.call_examples.proofs.Journals.{asked, begun, component, did, document, entry, next_on, opening, text, turn, with_service}
use Rattle.call_examples.proofs.Asking.{got_at, inner, live_in}
use Rattle.scr_world.specs.Worlds.{satisfied_in}
use Rattle.scr_world.specs.Room.{has_room}
use Rattle.scr_world.specs.Consequences.{stage_in, stage_of, stopped_in, stopped_by, shut_between}
use Rattle.scr_world.specs.Stepping.{world_after_step}
use Rattle.scr_world.specs.Lists.{world_after_entry, world_of}
use Rattle.call_moves.specs.Evaluations.{after_moves}

-- a relay that holds a service without an object
abbrev journal : List (Entry Step)
journal =
    asked (Install (document (codes "d") [])) ∷ asked (Start 1) ∷ asked (Register 1 (codes "P" ∷ []) [])
    ∷ asked (Install (document (codes "r")
    (component (codes "r") (codes "demo.Relay") (codes "R") [] (next_on (codes "P") ZeroOrOne Dynamic) ∷ [])))
    ∷ opening (Start 2) (with_service 1 2 ∷ []) ∷ did (Got 2 2)
    ∷ (turn 1 1 1 Create ++ (turn 2 1 1 (Bind (codes "next") 1) ++ (turn 3 1 1 Activate
    ++ (did (Got 2 1) ∷ did (Released 5) ∷ []))))

pending : AnswersUse (world_up_to journal) next (got_at 5 2 2) (codes "hi") 6 14 (Err (Pending 10))
unfolding after_moves world_after_entry world_of world_after_step stage_in stage_of stopped_in stopped_by shut_between has_room satisfied_in
pending = (refl, (omega arith, omega arith))

no_object_inside : AnswersUse (world_up_to journal) next (got_at 5 2 2) (codes "hi") 6 14
    (Ok (record { front = 12; text = codes "no-object"; nested = inner 12 1 (codes "hi") HasNoObject ∷ [] }))
unfolding after_moves world_after_entry world_of world_after_step stage_in stage_of stopped_in stopped_by shut_between has_room satisfied_in
no_object_inside = ((live_in (world_up_to journal 12) 1, refl, refl), (omega arith, (omega arith, omega arith)))

no_object : AnswersUse (world_up_to journal) next (got_at 12 2 1) (codes "hi") 13 14 (Err (NoObject 13))
unfolding after_moves world_after_entry world_of world_after_step stage_in stage_of stopped_in stopped_by shut_between has_room satisfied_in
no_object = (refl, (omega arith, omega arith))

released : AnswersUse (world_up_to journal) next (got_at 5 2 2) (codes "hi") 6 14 (Err (Gone 14))
unfolding after_moves world_after_entry world_of world_after_step stage_in stage_of stopped_in stopped_by shut_between has_room satisfied_in
released = (refl, (omega arith, omega arith))

-- ---- an activation that is refused takes the get away

abbrev failing : List (Entry Step)
failing =
    asked (Install (document (codes "p")
    (component (codes "p") (codes "P") (codes "P") (text (codes "refuse") (codes "activate") ∷ []) [] ∷ [])))
    ∷ opening (Start 1) (with_service 1 1 ∷ []) ∷ did (Got 1 1)
    ∷ (turn 1 1 1 Create ++ (begun 2 1 1 Activate ∷ entry (End 2 Refused) (1 ∷ []) [] [] ∷ []))

failed : AnswersUse (world_up_to failing) next (got_at 2 1 1) (codes "hi") 3 7 (Err (Gone 7))
unfolding after_moves world_after_entry world_of world_after_step stage_in stage_of stopped_in stopped_by shut_between has_room satisfied_in
failed = (refl, (omega arith, omega arith))
