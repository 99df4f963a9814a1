-- What the line of a request comes to, by its parts.
use Rattle.std.proofs.Common.{◌≡◌, ℕ, List, length, subst, sym, Bool, true, Option, Ok, Err}
use Rattle.std.specs.Prelude.{Result, nat_le}
use Rattle.call_moves.specs.Evaluations.{Meaning}
use Rattle.http_wire.specs.declared.messages.Request.{Request}
use Rattle.platform_hall.specs.Cores.{CoreView}
use Rattle.shell_lang.specs.declared.shell_reply.ShellReply.{ShellReply}
use Rattle.turn_runner.specs.declared.settle_fault.SettleFault.{SettleFault}
use Rattle.script_shell.specs.Requests.{AnswersSized, CarriesFound, CarriesHttp, CarriesPath, CarriesRequest, FindsPath, TellsAnswer, greatest_body, request_of}

module _ (next : Meaning) (method target body : List ℕ) (before after : CoreView) where
  -- what was found of a target's path
  pub carries_found : (text : List ℕ) (found : Option (List ℕ)) (said : Result ShellReply SettleFault) → text ≡ target → FindsPath text found
      → CarriesFound next method target body before found said after → CarriesHttp next method target body before said after
  carries_found text found (Ok reply) is finds (same, answers) = (same, (found, subst (λ (t : List ℕ). FindsPath t found) is finds, answers))
  carries_found text found (Err fault) is finds cut = cut

  -- a body that isn't too long
  pub carries_sized : (path : List ℕ) (request : Request) (said : Result ShellReply SettleFault) → request ≡ request_of method target body path
      → nat_le (length body) greatest_body ≡ true → CarriesRequest next request before said after → CarriesPath next method target body before path said after
  carries_sized path request (Ok reply) is small (same, answered) =
      (same, subst (λ (b : Bool). AnswersSized next method target body b before path reply) (sym small) (subst (λ (r : Request). TellsAnswer next r before reply) is answered))
  carries_sized path request (Err fault) is small cut = cut
