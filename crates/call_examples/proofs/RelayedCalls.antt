-- A relay asks a nested call, before its provider's bundle stops, just behind the stop, and when it let go of the
-- service.
use Rattle.std.specs.Prelude.{refl, List, [], ◌∷◌, ◌++◌, codes, Ok, Err}
use Rattle.std.proofs.Common.{arith}
use Rattle.prop_map.specs.declared.properties.Property.{Property}
use Rattle.prop_map.specs.declared.reference_words.Cardinality.TheVariants.{ZeroOrOne}
use Rattle.prop_map.specs.declared.reference_words.Policy.TheVariants.{Dynamic}
use Rattle.bundle_doc.specs.declared.document.BundleDoc.{BundleDoc}
use Rattle.callback_orders.specs.declared.callback.Callback.TheVariants.{Create, Bind, Unbind, Activate}
use Rattle.journal_core.specs.declared.entry.Entry.{Entry}
use Rattle.kind_trait.specs.declared.nested_reply.NestedReply.TheVariants.{Text, NoService, Gone, Refused as SaysNo}
use Rattle.demonstration_kinds.specs.Demonstrations.{next}
use Rattle.scr_world.specs.declared.command.Command.TheVariants.{Install, Start, Stop}
use Rattle.scr_world.specs.declared.step.Step.{Step}
use Rattle.scr_world.specs.declared.step.Step.TheVariants.{Drained, Got}
use Rattle.scr_calls.specs.declared.call_fault.CallFault.TheVariants.{Refused}
use Rattle.scr_calls.specs.Calls.{AnswersUse}
use Rattle.scr_calls.specs.Evaluates.{world_up_to}
use Rattle.call_examples.proofs.Journals.{asked, closing, component, did, document, made, next_on, opening, text, turn, unmade, with_service}
use Rattle.call_examples.proofs.Asking.{got_at, inner, live_in}
use Rattle.scr_world.specs.Worlds.{satisfied_in}
use Rattle.scr_world.specs.Room.{has_room}
use Rattle.scr_world.specs.Consequences.{stage_in, stage_of, stopped_in, stopped_by, shut_between}
use Rattle.scr_world.specs.Stepping.{world_after_step}
use Rattle.scr_world.specs.Lists.{world_after_entry, world_of}
use Rattle.call_moves.specs.Evaluations.{after_moves}

-- an echo with these properties
abbrev provider : List Property → BundleDoc
provider properties = document (codes "p") (component (codes "p") (codes "demo.Echo") (codes "P") properties [] ∷ [])

abbrev relay : BundleDoc
relay = document (codes "r")
    (component (codes "r") (codes "demo.Relay") (codes "R") [] (next_on (codes "P") ZeroOrOne Dynamic) ∷ [])

-- up to the relay's activation
abbrev up : List Property → List (Entry Step)
up properties =
    asked (Install (provider properties)) ∷ asked (Install relay)
    ∷ opening (Start 1) (with_service 1 1 ∷ []) ∷ opening (Start 2) (with_service 2 2 ∷ []) ∷ did (Got 2 2)
    ∷ (turn 1 1 2 Create ++ (made 2 2 1 ++ (turn 4 1 2 (Bind (codes "next") 1) ++ turn 5 1 2 Activate)))

-- the provider's bundle stops behind it
abbrev journal : List (Entry Step)
journal =
    up []
    ++ (closing (Stop 1) (1 ∷ []) ∷ did (Drained 2) ∷ (turn 6 1 2 (Unbind (codes "next") 1) ++ unmade 7 2 1 1))

relayed : AnswersUse (world_up_to journal) next (got_at 4 2 2) (codes "hi") 5 23
    (Ok (record { front = 15; text = codes "<hi>"; nested = inner 15 1 (codes "hi") (Text (codes "hi")) ∷ [] }))
unfolding after_moves world_after_entry world_of world_after_step stage_in stage_of stopped_in stopped_by shut_between has_room satisfied_in
relayed = ((live_in (world_up_to journal 15) 1, refl, refl), (omega arith, (omega arith, omega arith)))

-- the nested call is decided behind the stop, and its instance is ending
gone_behind_the_stop : AnswersUse (world_up_to journal) next (got_at 4 2 2) (codes "hi") 5 23
    (Ok (record { front = 15; text = codes "gone"; nested = inner 16 1 (codes "hi") Gone ∷ [] }))
unfolding after_moves world_after_entry world_of world_after_step stage_in stage_of stopped_in stopped_by shut_between has_room satisfied_in
gone_behind_the_stop = ((live_in (world_up_to journal 15) 1, refl, refl), (omega arith, (omega arith, omega arith)))

no_service : AnswersUse (world_up_to journal) next (got_at 4 2 2) (codes "hi") 5 23
    (Ok (record { front = 23; text = codes "no-service"; nested = inner 23 0 (codes "hi") NoService ∷ [] }))
unfolding after_moves world_after_entry world_of world_after_step stage_in stage_of stopped_in stopped_by shut_between has_room satisfied_in
no_service = ((live_in (world_up_to journal 23) 1, refl, refl), (omega arith, (omega arith, omega arith)))

-- ---- a provider whose code refuses calls

abbrev refusing : List (Entry Step)
refusing = up (text (codes "refuse") (codes "call") ∷ []) ++ (did (Got 1 1) ∷ [])

refused_inside : AnswersUse (world_up_to refusing) next (got_at 4 2 2) (codes "hi") 16 16
    (Ok (record { front = 16; text = codes "refused"; nested = inner 16 1 (codes "hi") SaysNo ∷ [] }))
unfolding after_moves world_after_entry world_of world_after_step stage_in stage_of stopped_in stopped_by shut_between has_room satisfied_in
refused_inside = ((live_in (world_up_to refusing 16) 1, refl, refl), (omega arith, (omega arith, omega arith)))

refused : AnswersUse (world_up_to refusing) next (got_at 15 1 1) (codes "hi") 16 16 (Err (Refused 16 []))
unfolding after_moves world_after_entry world_of world_after_step stage_in stage_of stopped_in stopped_by shut_between has_room satisfied_in
refused = ((live_in (world_up_to refusing 16) 2, refl, refl), (omega arith, omega arith))
