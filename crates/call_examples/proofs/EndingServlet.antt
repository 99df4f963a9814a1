-- Requests to a servlet that stands, whose instance is ending, and that left.
use Rattle.std.specs.Prelude.{ℕ, zero, suc, slice_index, List, [], ◌∷◌, ◌++◌, codes, true}
use Rattle.std.proofs.Common.{◌≡◌, ◌<◌, refl, sym, ap, arith}
use Rattle.std.proofs.lemmas.Str.{IsUtf8-from_ascii, utf8_lossy-IsUtf8}
use Rattle.std.specs.Str.Lossy.{utf8_lossy}
use Rattle.bundle_doc.specs.declared.document.BundleDoc.{BundleDoc}
use Rattle.journal_core.specs.declared.entry.Entry.{Entry}
use Rattle.demonstration_kinds.specs.Demonstrations.{next}
use Rattle.call_moves.specs.Evaluations.{Said, after_moves}
use Rattle.http_wire.specs.declared.messages.Request.{Request}
use Rattle.http_wire.specs.declared.messages.Answered.{Answered}
use Rattle.scr_world.specs.declared.command.Command.TheVariants.{Install, Start, Stop}
use Rattle.scr_world.specs.declared.step.Step.{Step}
use Rattle.scr_world.specs.declared.step.Step.TheVariants.{Drained}
use Rattle.scr_calls.specs.Answers.{AnswersRequest, answer_by, servlet_text}
use Rattle.scr_calls.specs.Evaluates.{world_up_to}
use Rattle.call_examples.proofs.Journals.{asked, closing, component, did, document, held, let_go, made, opening, pattern, unmade, with_service}
use Rattle.call_examples.proofs.Asking.{answer, request}
use Rattle.scr_world.specs.Worlds.{satisfied_in}
use Rattle.scr_world.specs.Room.{has_room}
use Rattle.scr_world.specs.Consequences.{stage_in, stage_of, stopped_in, stopped_by, shut_between}
use Rattle.scr_world.specs.Stepping.{world_after_step}
use Rattle.scr_world.specs.Lists.{world_after_entry, world_of}

abbrev servlet : BundleDoc
servlet = document (codes "s")
    (component (codes "s") (codes "demo.Echo") (codes "javax.servlet.Servlet") (pattern (codes "/s") ∷ []) [] ∷ [])

abbrev journal : List (Entry Step)
journal =
    asked (Install servlet) ∷ opening (Start 1) (with_service 1 1 ∷ [])
    ∷ (made 1 1 1 ++ (held 3 (codes "servlets") 1
    ++ (closing (Stop 1) (1 ∷ []) ∷ did (Drained 1) ∷ (let_go 4 1 ++ unmade 5 1 1 1))))

answered : AnswersRequest (world_up_to journal) next (request (codes "GET") (codes "/s") [])
    (record { front = 8; service = 1; nested = []; answer = answer 200 1 (codes "GET /s\n") })
unfolding after_moves world_after_entry world_of world_after_step stage_in stage_of stopped_in stopped_by shut_between has_room satisfied_in utf8_lossy
answered = (refl, (Said (codes "GET /s\n"), refl, refl))

-- its body is behind a line feed
abbrev posted : Request
posted = request (codes "POST") (codes "/s") (codes "abc")

all_ascii : (i : ℕ) → slice_index (codes "abc") i < 128
all_ascii zero = let e : 97 < 128 = omega arith in e
all_ascii (suc zero) = let e : 98 < 128 = omega arith in e
all_ascii (suc (suc zero)) = let e : 99 < 128 = omega arith in e
all_ascii (suc (suc (suc i))) = let e : 0 < 128 = omega arith in e

posted_text : servlet_text posted ≡ codes "POST /s\nabc"
posted_text =
    ap (λ body. codes "POST /s\n" ++ body)
    (utf8_lossy-IsUtf8 (codes "abc") (IsUtf8-from_ascii (codes "abc") all_ascii))

with_its_body : AnswersRequest (world_up_to journal) next posted
    (record { front = 8; service = 1; nested = []; answer = answer 200 1 (codes "POST /s\nabc") })
unfolding after_moves world_after_entry world_of world_after_step stage_in stage_of stopped_in stopped_by shut_between has_room satisfied_in
with_its_body =
    (refl, (Said (servlet_text posted), refl, sym (ap (λ said. answer_by posted 1 (Said said)) posted_text)))

-- the servlet is told HEAD, and the answer says that its bytes are left out
abbrev of_head : Request
of_head = record (request (codes "HEAD") (codes "/s") []) { head_only = true; last = true }

abbrev answer_to_head : Answered
answer_to_head = record (answer 200 1 (codes "HEAD /s\n")) { head_only = true; last = true }

head_answered : AnswersRequest (world_up_to journal) next of_head
    (record { front = 8; service = 1; nested = []; answer = answer_to_head })
unfolding after_moves world_after_entry world_of world_after_step stage_in stage_of stopped_in stopped_by shut_between has_room satisfied_in utf8_lossy
head_answered = (refl, (Said (codes "HEAD /s\n"), refl, refl))

-- where nothing is held for the path
not_found : AnswersRequest (world_up_to journal) next (request (codes "GET") (codes "/t") [])
    (record { front = 8; service = 0; nested = []; answer = answer 404 0 [] })
unfolding after_moves world_after_entry world_of world_after_step stage_in stage_of stopped_in stopped_by shut_between has_room satisfied_in utf8_lossy
not_found = (refl, refl, refl)

ending : AnswersRequest (world_up_to journal) next (request (codes "GET") (codes "/s") [])
    (record { front = 10; service = 1; nested = []; answer = answer 503 0 [] })
unfolding after_moves world_after_entry world_of world_after_step stage_in stage_of stopped_in stopped_by shut_between has_room satisfied_in utf8_lossy
ending = (refl, (refl, refl))

gone : AnswersRequest (world_up_to journal) next (request (codes "GET") (codes "/s") [])
    (record { front = 16; service = 0; nested = []; answer = answer 404 0 [] })
unfolding after_moves world_after_entry world_of world_after_step stage_in stage_of stopped_in stopped_by shut_between has_room satisfied_in utf8_lossy
gone = (refl, refl, refl)
