-- Answers to requests. Our own; the statuses are those of RFC 9110, section 15.
use Rattle.std.specs.Prelude.{◌≡◌, ℕ, ◌⊎◌, List, [], ◌∷◌, flat_map, Result, Ok, true, false}
use Rattle.http_wire.specs.ResponseText.{response_text}
use Rattle.http_wire.specs.declared.messages.AnswerStop.{AnswerStop}
use Rattle.http_wire.specs.declared.messages.Answered.{Answered}
use Rattle.http_wire.specs.declared.messages.Request.{Request}

-- a status other than 200 that an answer to a request may have
abbrev pub IsFailure : ℕ → Type 0
IsFailure status = (status ≡ 404) ⊎ (status ≡ 500) ⊎ (status ≡ 503)

-- an answer that a request may have: a text of a service, or a failure with none
pub record IsAnswerTo (request : Request) (answer : Answered) : Type 0 where
  pub last : answer.last ≡ request.last
  pub head_only : answer.head_only ≡ request.head_only
  pub status : (answer.status ≡ 200) ⊎ (IsFailure answer.status × (answer.service ≡ 0) × (answer.body ≡ []))

-- the answer to a request that its bytes refuse
abbrev pub refusal_of : ℕ → Answered
refusal_of status = record { status = status; service = 0; body = []; last = true; head_only = false }

-- the texts of answers, one behind the other
abbrev pub texts_of : List Answered → List ℕ
texts_of answers = flat_map response_text answers

module _ {A : Type 0} (answers : A → Request → Result Answered AnswerStop → A → Type 0) where
  -- the requests were asked one after the other, and these are their answers
  abbrev pub Answers : A → List Request → List Answered → A → Type 0
  Answers before [] told after = (told ≡ []) × (after ≡ before)
  Answers before (r ∷ rs) told after =
      (answer : Answered) × (others : List Answered) × (between : A) × (told ≡ answer ∷ others) × answers before r (Ok answer) between × IsAnswerTo r answer × Answers between rs others after
