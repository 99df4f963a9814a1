-- A nested call reaches the best service that is held for the reference, and not the first one that was bound.
use Rattle.std.specs.Prelude.{refl, ℕ, List, [], ◌∷◌, ◌++◌, codes, pos, Ok}
use Rattle.std.proofs.Common.{arith}
use Rattle.prop_map.specs.declared.properties.Property.{Property}
use Rattle.prop_map.specs.declared.value.Value.TheVariants.{Whole}
use Rattle.prop_map.specs.declared.reference_words.Cardinality.TheVariants.{ZeroOrMore}
use Rattle.prop_map.specs.declared.reference_words.Policy.TheVariants.{Dynamic}
use Rattle.component_dto.specs.declared.description.Description.{Description}
use Rattle.callback_orders.specs.declared.callback.Callback.TheVariants.{Create, Bind, Activate}
use Rattle.journal_core.specs.declared.entry.Entry.{Entry}
use Rattle.kind_trait.specs.declared.nested_reply.NestedReply.TheVariants.{Text}
use Rattle.demonstration_kinds.specs.Demonstrations.{next}
use Rattle.scr_world.specs.declared.command.Command.TheVariants.{Install, Start}
use Rattle.scr_world.specs.declared.step.Step.{Step}
use Rattle.scr_world.specs.declared.step.Step.TheVariants.{Got}
use Rattle.scr_calls.specs.Calls.{AnswersUse}
use Rattle.scr_calls.specs.Evaluates.{world_up_to}
use Rattle.call_examples.proofs.Journals.{asked, component, did, document, made, next_on, opening, text, turn, with_service}
use Rattle.call_examples.proofs.Asking.{got_at, inner, live_in}
use Rattle.scr_world.specs.Worlds.{satisfied_in}
use Rattle.scr_world.specs.Room.{has_room}
use Rattle.scr_world.specs.Consequences.{stage_in, stage_of, stopped_in, stopped_by, shut_between}
use Rattle.scr_world.specs.Stepping.{world_after_step}
use Rattle.scr_world.specs.Lists.{world_after_entry, world_of}
use Rattle.call_moves.specs.Evaluations.{after_moves}

abbrev provider : List ℕ → List Property → Description
provider name ranking = component name (codes "demo.Text") (codes "P") (ranking ++ (text (codes "text") name ∷ [])) []

abbrev providers : List Description
providers =
    provider (codes "p") []
    ∷ provider (codes "q") (record { key = codes "service.ranking"; value = Whole (pos 1) } ∷ []) ∷ []

abbrev journal : List (Entry Step)
journal =
    asked (Install (document (codes "p") providers))
    ∷ asked (Install (document (codes "r")
    (component (codes "r") (codes "demo.Relay") (codes "R") [] (next_on (codes "P") ZeroOrMore Dynamic) ∷ [])))
    ∷ opening (Start 1) (with_service 1 1 ∷ with_service 2 2 ∷ []) ∷ opening (Start 2) (with_service 3 3 ∷ [])
    ∷ did (Got 2 3)
    ∷ (turn 1 1 3 Create ++ (made 2 2 1 ++ (turn 4 1 3 (Bind (codes "next") 1)
    ++ (made 5 3 2 ++ (turn 7 1 3 (Bind (codes "next") 2) ++ turn 8 1 3 Activate)))))

better_one : AnswersUse (world_up_to journal) next (got_at 4 2 3) (codes "hi") 5 21
    (Ok (record { front = 21; text = codes "<q>"; nested = inner 21 2 (codes "hi") (Text (codes "q")) ∷ [] }))
unfolding after_moves world_after_entry world_of world_after_step stage_in stage_of stopped_in stopped_by shut_between has_room satisfied_in
better_one = ((live_in (world_up_to journal 21) 1, refl, refl), (omega arith, (omega arith, omega arith)))
