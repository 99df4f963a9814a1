-- Servlets that were registered without an object: each request is answered 500, and routes tell them all the same.
use Rattle.std.specs.Prelude.{◌≡◌, refl, List, [], ◌∷◌, ◌++◌, codes}
use Rattle.prop_map.specs.declared.value.Value.TheVariants.{Texts}
use Rattle.journal_core.specs.declared.entry.Entry.{Entry}
use Rattle.demonstration_kinds.specs.Demonstrations.{next}
use Rattle.scr_world.specs.declared.command.Command.TheVariants.{Install, Register, Start}
use Rattle.scr_world.specs.declared.step.Step.{Step}
use Rattle.wb_routes.specs.Listing.{all_rows}
use Rattle.wb_routes.specs.declared.route_failure.RouteCause.TheVariants.{Shadowed, BadPattern}
use Rattle.scr_calls.specs.Answers.{AnswersRequest}
use Rattle.scr_calls.specs.Evaluates.{world_up_to}
use Rattle.scr_calls.specs.Servlets.{routing_in}
use Rattle.call_examples.proofs.Journals.{asked, document, held, pattern}
use Rattle.call_examples.proofs.Asking.{answer, request}
use Rattle.scr_world.specs.Worlds.{satisfied_in}
use Rattle.scr_world.specs.Room.{has_room}
use Rattle.scr_world.specs.Consequences.{stage_in, stage_of, stopped_in, stopped_by, shut_between}
use Rattle.scr_world.specs.Stepping.{world_after_step}
use Rattle.scr_world.specs.Lists.{world_after_entry, world_of}
use Rattle.call_moves.specs.Evaluations.{after_moves}

abbrev journal : List (Entry Step)
journal =
    asked (Install (document (codes "d") [])) ∷ asked (Start 1)
    ∷ asked (Register 1 (codes "javax.servlet.Servlet" ∷ []) (pattern (codes "/d") ∷ []))
    ∷ (held 1 (codes "servlets") 1
    ++ (asked (Register 1 (codes "javax.servlet.Servlet" ∷ [])
    (record { key = codes "osgi.http.whiteboard.servlet.pattern"; value = Texts (codes "/d" ∷ codes "x" ∷ []) } ∷ []))
    ∷ held 2 (codes "servlets") 2))

no_object : AnswersRequest (world_up_to journal) next (request (codes "GET") (codes "/d") [])
    (record { front = 5; service = 1; nested = []; answer = answer 500 0 [] })
unfolding after_moves world_after_entry world_of world_after_step stage_in stage_of stopped_in stopped_by shut_between has_room satisfied_in
no_object = (refl, (refl, refl))

rows : all_rows (routing_in (world_up_to journal 8)).tables
    ≡ record { path = codes "/"; pattern = codes "/d"; service = 1 } ∷ []
unfolding after_moves world_after_entry world_of world_after_step stage_in stage_of stopped_in stopped_by shut_between has_room satisfied_in
rows = refl

failures : (routing_in (world_up_to journal 8)).failures
    ≡ record { service = 2; pattern = codes "/d"; cause = Shadowed }
    ∷ record { service = 2; pattern = codes "x"; cause = BadPattern } ∷ []
unfolding after_moves world_after_entry world_of world_after_step stage_in stage_of stopped_in stopped_by shut_between has_room satisfied_in
failures = refl
