-- What a call comes to that gives no text, or too large a one: 500, and no service is named.
use Rattle.std.specs.Prelude.{◌≡◌, refl, ℕ, List, [], ◌∷◌, ◌++◌, codes, length, if◌then◌else◌, nat_le}
use Rattle.std.proofs.Common.{ap}
use Rattle.std.specs.Str.Lossy.{utf8_lossy}
use Rattle.call_moves.specs.Evaluations.{Declined, Said, TooLong, after_moves}
use Rattle.journal_core.specs.declared.entry.Entry.{Entry}
use Rattle.demonstration_kinds.specs.Demonstrations.{next}
use Rattle.http_wire.specs.declared.messages.Request.{Request}
use Rattle.scr_world.specs.declared.command.Command.TheVariants.{Install, Start}
use Rattle.scr_world.specs.declared.step.Step.{Step}
use Rattle.scr_calls.specs.Answers.{AnswersRequest, answer_by, answered, most_body}
use Rattle.scr_calls.specs.Evaluates.{world_up_to}
use Rattle.call_examples.proofs.Journals.{asked, component, document, held, made, opening, pattern, text, with_service}
use Rattle.call_examples.proofs.Asking.{answer, request}
use Rattle.scr_world.specs.Worlds.{satisfied_in}
use Rattle.scr_world.specs.Room.{has_room}
use Rattle.scr_world.specs.Consequences.{stage_in, stage_of, stopped_in, stopped_by, shut_between}
use Rattle.scr_world.specs.Stepping.{world_after_step}
use Rattle.scr_world.specs.Lists.{world_after_entry, world_of}

abbrev journal : List (Entry Step)
journal =
    asked (Install (document (codes "s")
    (component (codes "s") (codes "demo.Echo") (codes "javax.servlet.Servlet")
    (pattern (codes "/s") ∷ text (codes "refuse") (codes "call") ∷ []) [] ∷ [])))
    ∷ opening (Start 1) (with_service 1 1 ∷ []) ∷ (made 1 1 1 ++ held 3 (codes "servlets") 1)

refused : AnswersRequest (world_up_to journal) next (request (codes "GET") (codes "/s") [])
    (record { front = 8; service = 1; nested = []; answer = answer 500 0 [] })
unfolding after_moves world_after_entry world_of world_after_step stage_in stage_of stopped_in stopped_by shut_between has_room satisfied_in utf8_lossy
refused = (refl, (Declined, refl, refl))

too_long : (r : Request) (service : ℕ) → answer_by r service TooLong ≡ answered r 500 0 []
too_long r service = refl

-- a text of 65,536 bytes is answered, and one of 65,537 isn't
sized_by : (r : Request) (service : ℕ) (said : List ℕ) (size : ℕ) → length said ≡ size
    → answer_by r service (Said said)
    ≡ (if nat_le size most_body then answered r 200 service said else answered r 500 0 [])
sized_by r service said size is =
    ap (λ n. if nat_le n most_body then answered r 200 service said else answered r 500 0 []) is

largest : (r : Request) (service : ℕ) (said : List ℕ) → length said ≡ 65536
    → answer_by r service (Said said) ≡ answered r 200 service said
largest r service said is = sized_by r service said 65536 is

too_large : (r : Request) (service : ℕ) (said : List ℕ) → length said ≡ 65537
    → answer_by r service (Said said) ≡ answered r 500 0 []
too_large r service said is = sized_by r service said 65537 is
