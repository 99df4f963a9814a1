-- Component code that never stops to ask: 64 nested calls are made, one after the other, and the next is one too many.
use Rattle.std.specs.Prelude.{refl, List, [], ◌∷◌, ◌++◌, codes, Err, replicate, if◌then◌else◌}
use Rattle.std.specs.Str.{bytes_eq}
use Rattle.std.proofs.Common.{arith}
use Rattle.prop_map.specs.declared.reference_words.Cardinality.TheVariants.{ZeroOrOne}
use Rattle.prop_map.specs.declared.reference_words.Policy.TheVariants.{Dynamic}
use Rattle.callback_orders.specs.declared.callback.Callback.TheVariants.{Create, Bind, Activate}
use Rattle.journal_core.specs.declared.entry.Entry.{Entry}
use Rattle.kind_trait.specs.Meanings.{Answers, Calls}
use Rattle.kind_trait.specs.declared.nested_reply.NestedReply.TheVariants.{Text, NoService}
use Rattle.call_moves.specs.declared.nested_call.NestedCall.{NestedCall}
use Rattle.scr_world.specs.declared.command.Command.TheVariants.{Install, Start}
use Rattle.scr_world.specs.declared.step.Step.{Step}
use Rattle.scr_world.specs.declared.step.Step.TheVariants.{Got}
use Rattle.scr_calls.specs.declared.call_fault.CallFault.TheVariants.{CallTooLong}
use Rattle.scr_calls.specs.Calls.{AnswersUse}
use Rattle.scr_calls.specs.Evaluates.{world_up_to}
use Rattle.call_examples.proofs.Journals.{asked, component, did, document, made, next_on, opening, turn, with_service}
use Rattle.call_examples.proofs.Asking.{got_at, inner, live_in, same_front}
use Rattle.scr_world.specs.Worlds.{satisfied_in}
use Rattle.scr_world.specs.Room.{has_room}
use Rattle.scr_world.specs.Consequences.{stage_in, stage_of, stopped_in, stopped_by, shut_between}
use Rattle.scr_world.specs.Stepping.{world_after_step}
use Rattle.scr_world.specs.Lists.{world_after_entry, world_of}
use Rattle.call_moves.specs.Evaluations.{Meaning, after_moves}

-- a relay that asks whatever it was replied, and a service that answers what it is asked
abbrev asks_on : Meaning
asks_on class properties request replies =
    if bytes_eq class (codes "demo.Relay") then Calls (codes "next") request else Answers request

-- a relay whose provider stands, and one that nobody provides for
abbrev provided : List (Entry Step)
provided =
    asked (Install (document (codes "p") (component (codes "p") (codes "demo.Echo") (codes "P") [] [] ∷ [])))
    ∷ asked (Install (document (codes "r")
    (component (codes "r") (codes "demo.Relay") (codes "R") [] (next_on (codes "P") ZeroOrOne Dynamic) ∷ [])))
    ∷ opening (Start 1) (with_service 1 1 ∷ []) ∷ opening (Start 2) (with_service 2 2 ∷ []) ∷ did (Got 2 2)
    ∷ (turn 1 1 2 Create ++ (made 2 2 1 ++ (turn 4 1 2 (Bind (codes "next") 1) ++ turn 5 1 2 Activate)))

abbrev alone : List (Entry Step)
alone =
    asked (Install (document (codes "r")
    (component (codes "r") (codes "demo.Relay") (codes "R") [] (next_on (codes "P") ZeroOrOne Dynamic) ∷ [])))
    ∷ opening (Start 1) (with_service 1 1 ∷ []) ∷ did (Got 1 1) ∷ made 1 1 1

abbrev answered : NestedCall
answered = inner 15 1 (codes "hi") (Text (codes "hi"))

one_more_than_64 : AnswersUse (world_up_to provided) asks_on (got_at 4 2 2) (codes "hi") 15 15
    (Err (CallTooLong 15 (replicate 64 answered)))
unfolding after_moves world_after_entry world_of world_after_step stage_in stage_of stopped_in stopped_by shut_between has_room satisfied_in
one_more_than_64 =
    ((live_in (world_up_to provided 15) 1, refl, refl), (omega arith, same_front 64 answered 15 (omega arith)))

-- those that reach nobody count too
abbrev unanswered : NestedCall
unanswered = inner 7 0 (codes "hi") NoService

one_more_than_64_of_nobody : AnswersUse (world_up_to alone) asks_on (got_at 2 1 1) (codes "hi") 7 7
    (Err (CallTooLong 7 (replicate 64 unanswered)))
unfolding after_moves world_after_entry world_of world_after_step stage_in stage_of stopped_in stopped_by shut_between has_room satisfied_in
one_more_than_64_of_nobody =
    ((live_in (world_up_to alone 7) 1, refl, refl), (omega arith, same_front 64 unanswered 7 (omega arith)))
