-- What requests are answered. RFC 9110, section 15, has the statuses; their causes are our own.
use Rattle.std.specs.Prelude.{◌≡◌, ℕ, List, [], ◌∷◌, ◌++◌, length, Option, Some, None, nat_le, if◌then◌else◌}
use Rattle.std.specs.Str.Lossy.{utf8_lossy}
use Rattle.call_moves.specs.declared.nested_call.NestedCall.{NestedCall}
use Rattle.call_moves.specs.Evaluations.{Declined, Ended, Meaning, Said, TooLong}
use Rattle.http_wire.specs.declared.messages.Request.{Request}
use Rattle.http_wire.specs.declared.messages.Answered.{Answered}
use Rattle.scr_world.specs.declared.world.World.{World}
use Rattle.scr_calls.specs.declared.call.HallAnswer.{HallAnswer}
use Rattle.scr_calls.specs.Evaluates.{Evaluates}
use Rattle.scr_calls.specs.Servlets.{Reached, Objectless, Ending, Standing, choice, reached}

-- what a servlet is asked: the method, a blank, the target, a line feed, and the body, in which U+FFFD stands for what is no UTF-8
abbrev pub servlet_text : Request → List ℕ
servlet_text r = r.method ++ 32 ∷ (r.target ++ 10 ∷ utf8_lossy r.body)

-- an answer to a request
abbrev pub answered : Request → ℕ → ℕ → List ℕ → Answered
answered r status service body = record { status = status; service = service; body = body; last = r.last; head_only = r.head_only }

-- the greatest length of an answer's body
abbrev pub most_body : ℕ
most_body = 65536

-- the answer to what the call came to: 200 with its text, or 500 where the text is too large, the component code refuses, or the call is too long
abbrev pub answer_by : Request → ℕ → Ended → Answered
answer_by r service (Said text) = if nat_le (length text) most_body then answered r 200 service text else answered r 500 0 []
answer_by r service Declined = answered r 500 0 []
answer_by r service TooLong = answered r 500 0 []

module _ (world : ℕ → World) (next : Meaning) where
  -- the servlet's service has no object: 500; its instance is ending: 503; else what the call comes to
  abbrev pub AnswersAt : Request → ℕ → Reached → List NestedCall → Answered → Type 0
  AnswersAt r service Objectless nested answer = (nested ≡ []) × (answer ≡ answered r 500 0 [])
  AnswersAt r service Ending nested answer = (nested ≡ []) × (answer ≡ answered r 503 0 [])
  AnswersAt r service (Standing live) nested answer = (end : Ended) × Evaluates world next live (servlet_text r) nested end × (answer ≡ answer_by r service end)

  -- no servlet is chosen: 404
  abbrev pub AnswersFor : Request → World → Option ℕ → HallAnswer → Type 0
  AnswersFor r w None a = (a.service ≡ 0) × (a.nested ≡ []) × (a.answer ≡ answered r 404 0 [])
  AnswersFor r w (Some service) a = (a.service ≡ service) × AnswersAt r service (reached w service) a.nested a.answer

  -- a request is answered by the servlet that is chosen in the world at its front
  abbrev pub AnswersRequest : Request → HallAnswer → Type 0
  AnswersRequest r a = AnswersFor r (world a.front) (choice (world a.front) r.path) a
