-- What the line `http` asks: a request is answered. RFC 9110, section 15, has the statuses; their causes are our own.
use Rattle.std.specs.Prelude.{◌≡◌, ℕ, List, [], codes, bytes_eq, length, nat_le, Bool, true, false, if◌then◌else◌, Option, Some, None, Result, Ok, Err}
use Rattle.call_moves.specs.Evaluations.{Meaning}
use Rattle.http_wire.specs.TargetPath.{IsPath}
use Rattle.http_wire.specs.declared.messages.Answered.{Answered}
use Rattle.http_wire.specs.declared.messages.Request.{Request}
use Rattle.platform_hall.specs.Cores.{CoreView}
use Rattle.platform_hall.specs.Requests.{AnswersHttp}
use Rattle.shell_lang.specs.declared.shell_reply.ShellReply.{ShellReply}
use Rattle.shell_lang.specs.declared.shell_reply.ShellReply.TheVariants.{Http}
use Rattle.turn_runner.specs.declared.settle_fault.SettleFault.{SettleFault}
use Rattle.turn_runner.specs.declared.settle_fault.SettleFault.TheVariants.{OutOfMemory}

-- the greatest length of a request's body
abbrev pub greatest_body : ℕ
greatest_body = 65536

-- a status alone
abbrev pub bare : ℕ → ShellReply
bare status = Http status 0 []

-- an answer as it is told: to HEAD without its text
abbrev pub told_answer : Answered → ShellReply
told_answer answer = Http answer.status answer.service (if answer.head_only then [] else answer.body)

-- the request of a method, a target, a body and the target's path; the connection goes on behind it
abbrev pub request_of : List ℕ → List ℕ → List ℕ → List ℕ → Request
request_of method target body path = record { method = method; target = target; path = path; body = body; head_only = bytes_eq method (codes "HEAD"); last = false }

-- the path of a target, or that it has none
abbrev pub FindsPath : List ℕ → Option (List ℕ) → Type 0
FindsPath target None = (path : List ℕ) → ¬ (IsPath target path)
FindsPath target (Some path) = IsPath target path

-- what the platform answers to a request is told
abbrev pub TellsAnswer : Meaning → Request → CoreView → ShellReply → Type 0
TellsAnswer next request before reply = (answer : Answered) × AnswersHttp next before request answer × (reply ≡ told_answer answer)

-- so it is, or memory is wanting
abbrev pub CarriesRequest : Meaning → Request → CoreView → Result ShellReply SettleFault → CoreView → Type 0
CarriesRequest next request before (Ok reply) after = (after ≡ before) × TellsAnswer next request before reply
CarriesRequest next request before (Err fault) after = (fault ≡ OutOfMemory) × (after ≡ before)

module _ (next : Meaning) (method target body : List ℕ) where
  -- a body of more than 65,536 bytes is answered 413
  abbrev pub AnswersSized : Bool → CoreView → List ℕ → ShellReply → Type 0
  AnswersSized true before path reply = TellsAnswer next (request_of method target body path) before reply
  AnswersSized false before path reply = reply ≡ bare 413

  abbrev pub AnswersPath : CoreView → List ℕ → ShellReply → Type 0
  AnswersPath before path reply = AnswersSized (nat_le (length body) greatest_body) before path reply

  -- by what was found of its target's path: a request without one is answered 400, before all else
  abbrev pub AnswersFound : CoreView → Option (List ℕ) → ShellReply → Type 0
  AnswersFound before None reply = reply ≡ bare 400
  AnswersFound before (Some path) reply = AnswersPath before path reply

  abbrev pub AnswersTarget : CoreView → ShellReply → Type 0
  AnswersTarget before reply = (found : Option (List ℕ)) × FindsPath target found × AnswersFound before found reply

  -- a request is answered, and nothing changes
  abbrev pub AsksHttp : CoreView → ShellReply → CoreView → Type 0
  AsksHttp before reply after = (after ≡ before) × AnswersTarget before reply

  -- so it is, or memory is wanting
  abbrev pub CarriesHttp : CoreView → Result ShellReply SettleFault → CoreView → Type 0
  CarriesHttp before (Ok reply) after = AsksHttp before reply after
  CarriesHttp before (Err fault) after = (fault ≡ OutOfMemory) × (after ≡ before)

  -- what a request comes to whose target's path was looked for
  abbrev pub CarriesFound : CoreView → Option (List ℕ) → Result ShellReply SettleFault → CoreView → Type 0
  CarriesFound before found (Ok reply) after = (after ≡ before) × AnswersFound before found reply
  CarriesFound before found (Err fault) after = (fault ≡ OutOfMemory) × (after ≡ before)

  -- and whose target has this path
  abbrev pub CarriesPath : CoreView → List ℕ → Result ShellReply SettleFault → CoreView → Type 0
  CarriesPath before path said after = CarriesFound before (Some path) said after
