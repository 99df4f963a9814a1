-- A call that answers: the greeter has no property `text`, so its text is empty.
use Rattle.std.specs.Prelude.{refl, List, [], ◌∷◌, codes, Ok}
use Rattle.std.proofs.Common.{arith}
use Rattle.prop_map.specs.declared.reference_words.Cardinality.TheVariants.{ZeroOrOne}
use Rattle.prop_map.specs.declared.reference_words.Policy.TheVariants.{Dynamic}
use Rattle.journal_core.specs.declared.entry.Entry.{Entry}
use Rattle.scr_world.specs.declared.command.Command.TheVariants.{Install, Start}
use Rattle.scr_world.specs.declared.step.Step.{Step}
use Rattle.scr_world.specs.declared.step.Step.TheVariants.{Got}
use Rattle.demonstration_kinds.specs.Demonstrations.{next}
use Rattle.scr_calls.specs.Calls.{AnswersUse}
use Rattle.scr_calls.specs.Evaluates.{world_up_to}
use Rattle.call_examples.proofs.Journals.{asked, component, did, document, made, next_on, opening, text, with_service}
use Rattle.call_examples.proofs.Asking.{got_at, live_in}
use Rattle.scr_world.specs.Worlds.{satisfied_in}
use Rattle.scr_world.specs.Room.{has_room}
use Rattle.scr_world.specs.Consequences.{stage_in, stage_of, stopped_in, stopped_by, shut_between}
use Rattle.scr_world.specs.Stepping.{world_after_step}
use Rattle.scr_world.specs.Lists.{world_after_entry, world_of}
use Rattle.call_moves.specs.Evaluations.{after_moves}

abbrev journal : List (Entry Step)
journal =
    asked (Install (document (codes "g")
    (component (codes "g") (codes "com.acme.GreeterImpl") (codes "com.acme.Greeter")
    (text (codes "greeting") (codes "Hello") ∷ [])
    (next_on (codes "org.osgi.service.log.LoggerFactory") ZeroOrOne Dynamic) ∷ [])))
    ∷ opening (Start 1) (with_service 1 1 ∷ [])
    ∷ did (Got 1 1)
    ∷ made 1 1 1

call_answers : AnswersUse (world_up_to journal) next (got_at 2 1 1) (codes "hi") 3 7
    (Ok (record { front = 7; text = []; nested = [] }))
unfolding after_moves world_after_entry world_of world_after_step stage_in stage_of stopped_in stopped_by shut_between has_room satisfied_in
call_answers = ((live_in (world_up_to journal 7) 1, refl, refl), (omega arith, omega arith))
