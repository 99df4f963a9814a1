-- A request is answered one thing.
use Rattle.std.proofs.Common.{◌≡◌, ℕ, List, length, ap, sym, ◌∙◌, subst, Option, Some, None}
use Rattle.call_moves.specs.Evaluations.{Meaning, fronts_of}
use Rattle.call_moves.specs.declared.nested_call.NestedCall.{NestedCall}
use Rattle.http_wire.specs.TargetPath.{IsPath}
use Rattle.http_wire.specs.declared.messages.Answered.{Answered}
use Rattle.http_wire.specs.declared.messages.Request.{Request}
use Rattle.percent_encoding.specs.Percent.{percent_decode}
use Rattle.platform_hall.specs.Cores.{CoreView}
use Rattle.platform_hall.specs.Requests.{AnswersHttp}
use Rattle.scr_calls.specs.Answers.{AnswersAt, AnswersFor, answer_by, servlet_text}
use Rattle.scr_calls.specs.Evaluates.{Rising, world_up_to}
use Rattle.scr_calls.specs.Servlets.{Ending, Objectless, Reached, Standing, choice, reached}
use Rattle.scr_calls.specs.declared.call.HallAnswer.{HallAnswer}
use Rattle.scr_world.specs.declared.world.World.{World}
use Rattle.script_laws.proofs.Evaluations.{evaluates_once}
use Rattle.script_laws.proofs.Parts.{some_same}

-- a target has one path
pub path_once : (target path other : List ℕ) → IsPath target path → IsPath target other → path ≡ other
path_once target path other one same =
    one.decoded ∙ ap percent_decode (some_same one.sent same.sent (sym one.is ∙ same.is)) ∙ sym same.decoded

module _ (here : ℕ) (world : ℕ → World) (next : Meaning) (r : Request) where
  at_once : (service : ℕ) (to : Reached) (nested other : List NestedCall) (x y : Answered) → Rising here (fronts_of nested) here → Rising here (fronts_of other) here
      → AnswersAt world next r service to nested x → AnswersAt world next r service to other y → x ≡ y
  at_once service Objectless nested other x y rising rising' (none, is) (none', is') = is ∙ sym is'
  at_once service Ending nested other x y rising rising' (none, is) (none', is') = is ∙ sym is'
  at_once service (Standing live) nested other x y rising rising' (end, comes, is) (same, comes', is') =
      is ∙ ap (answer_by r service) (evaluates_once here world next live (servlet_text r) nested other end same rising rising' comes comes').1 ∙ sym is'

  for_once : (w : World) (chosen : Option ℕ) (a b : HallAnswer) → Rising here (fronts_of a.nested) here → Rising here (fronts_of b.nested) here
      → AnswersFor world next r w chosen a → AnswersFor world next r w chosen b → a.answer ≡ b.answer
  for_once w None a b rising rising' (service, none, is) (service', none', is') = is ∙ sym is'
  for_once w (Some service) a b rising rising' (its, answers) (its', answers') = at_once service (reached w service) a.nested b.nested a.answer b.answer rising rising' answers answers'

-- the answer is decided in the world of the whole journal
pub http_once : (next : Meaning) (p : CoreView) (r : Request) (a b : Answered) → AnswersHttp next p r a → AnswersHttp next p r b → a ≡ b
http_once next p r a b (told, is, (front, answers, rising)) (told', is', (front', answers', rising')) =
    let here = length p.journal in
    let world = world_up_to p.journal in
    let first = subst (λ n. AnswersFor world next r (world n) (choice (world n) r.path) told × Rising n (fronts_of told.nested) here) front (answers, rising) in
    let second = subst (λ n. AnswersFor world next r (world n) (choice (world n) r.path) told' × Rising n (fronts_of told'.nested) here) front' (answers', rising') in
    sym is ∙ for_once here world next r (world here) (choice (world here) r.path) told told' first.1 second.1 first.0 second.0 ∙ is'
