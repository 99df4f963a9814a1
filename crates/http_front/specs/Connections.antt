-- A connection that was served (RFC 9112, section 9; its ends are our own).
use Rattle.std.specs.Prelude.{◌≡◌, ℕ, ◌+◌, ◌⊎◌, List, [], ◌∷◌, ◌++◌, length, All, true, false, Result, Err}
use Rattle.std.specs.declared.option.Option.{Option}
use Rattle.std.specs.Io.KnownBytes.{Appends, Consumes}
use Rattle.http_wire.specs.declared.messages.AnswerStop.{AnswerStop}
use Rattle.http_wire.specs.declared.messages.Answered.{Answered}
use Rattle.http_wire.specs.declared.messages.Request.{Request}
use Rattle.http_front.specs.declared.connection.ConnectionEnd.{ConnectionEnd}
use Rattle.http_front.specs.declared.connection.ConnectionEnd.TheVariants.{EndOfInput, Closed, Truncated, ReadFault, WriteFault, NoMemory}
use Rattle.http_front.specs.declared.request_body.Coming.TheVariants.{Cut, Asked, Refused}
use Rattle.http_wire.specs.ResponseText.{response_text}
use Rattle.http_front.specs.Answers.{Answers, refusal_of, texts_of}
use Rattle.http_front.specs.Flows.{AppendsFront, Closes, TellsAll}
use Rattle.http_front.specs.Requests.{Asks, Comes}

-- none of the requests ends the connection
abbrev pub GoOn : List Request → Type 0
GoOn requests = All (λ r. r.last ≡ false) requests

-- the last of the requests ends the connection
pub record EndsItself (requests : List Request) : Type 0 where
  pub first : List Request
  pub last : Request
  pub are : requests ≡ first ++ last ∷ []
  pub ends : last.last ≡ true

-- the bytes are less than a request, or none
abbrev pub IsUnfinished : ℕ → List ℕ → Type 0
IsUnfinished number bytes = (bytes ≡ []) ⊎ Comes number bytes Cut []

-- the texts and that of a refusal were written as the last ones, or the sink failed, or no memory was there for it and nothing was written
abbrev pub ClosesRefused : Option (List ℕ) → Option (List ℕ) → List ℕ → ℕ → ConnectionEnd → Type 0
ClosesRefused written written' text status NoMemory = written' ≡ written
ClosesRefused written written' text status end = Closes written written' (text ++ response_text (refusal_of status)) end

-- the answers, and behind them that to a request that the rest refuses
pub record Refuses (requests : List Request) (rest : List ℕ) (answers told : List Answered) : Type 0 where
  pub go_on : GoOn requests
  pub status : ℕ
  pub comes : Comes (length requests + 1) rest (Refused status) []
  pub are : told ≡ answers ++ refusal_of status ∷ []

module _ {A : Type 0} (answers : A → Request → Result Answered AnswerStop → A → Type 0) where
  -- the answerer is as the last answer left it, or the next request found no memory
  abbrev pub Leaves : List Request → List ℕ → A → A → Type 0
  Leaves requests rest between after =
      (after ≡ between) ⊎ ((r : Request) × (behind : List ℕ) × (stop : AnswerStop) × Comes (length requests + 1) rest (Asked r) behind × answers between r (Err stop) after)

  -- How a connection ends, by the requests that were answered, their answers and the bytes behind them; what the source had left and what of it was read; the answerer behind the
  -- last answer and at the end; and what the sink was given before and at the end.
  abbrev pub Ends : ConnectionEnd → List Request → List Answered → List ℕ → Option (List ℕ) → List ℕ → A → A → Option (List ℕ) → Option (List ℕ) → Type 0
  Ends EndOfInput requests told rest left read between after written written' =
      GoOn requests × (rest ≡ []) × TellsAll left read × (after ≡ between) × Appends written written' (texts_of told)
  Ends Truncated requests told rest left read between after written written' =
      GoOn requests × Comes (length requests + 1) rest Cut [] × TellsAll left read × (after ≡ between) × Appends written written' (texts_of told)
  Ends Closed requests told rest left read between after written written' =
      (after ≡ between) × ((EndsItself requests × Appends written written' (texts_of told))
      ⊎ ((all : List Answered) × Refuses requests rest told all × Appends written written' (texts_of all)))
  Ends ReadFault requests told rest left read between after written written' =
      GoOn requests × IsUnfinished (length requests + 1) rest × (after ≡ between) × Appends written written' (texts_of told)
  Ends WriteFault requests told rest left read between after written written' =
      (after ≡ between) × (AppendsFront written written' (texts_of told)
      ⊎ ((all : List Answered) × Refuses requests rest told all × AppendsFront written written' (texts_of all)))
  Ends NoMemory requests told rest left read between after written written' =
      Leaves requests rest between after × AppendsFront written written' (texts_of told)

  -- A connection was served: what was read asks for these requests, whatever comes behind it, and each was answered once, in order.
  pub record HasServed (left left' : Option (List ℕ)) (before after : A) (written written' : Option (List ℕ)) (end : ConnectionEnd) : Type 0 where
    pub read : List ℕ
    pub rest : List ℕ
    pub requests : List Request
    pub told : List Answered
    pub between : A
    pub consumed : Consumes left left' read
    pub asked : (more : List ℕ) → Asks 1 (read ++ more) requests (rest ++ more)
    pub answered : Answers answers before requests told between
    pub ends : Ends end requests told rest left read between after written written'
