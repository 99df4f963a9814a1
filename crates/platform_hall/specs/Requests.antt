-- What a request is answered on a platform of one thread, and which servlets the platform keeps for it. Our own.
use Rattle.std.specs.Prelude.{◌≡◌, List, length, take, true}
use Rattle.call_moves.specs.Evaluations.{Meaning, fronts_of}
use Rattle.journal_core.specs.declared.entry.Entry.{Entry}
use Rattle.http_wire.specs.declared.messages.Answered.{Answered}
use Rattle.http_wire.specs.declared.messages.Request.{Request}
use Rattle.scr_calls.specs.Answers.{AnswersRequest}
use Rattle.scr_calls.specs.Evaluates.{Rising, world_up_to}
use Rattle.scr_calls.specs.declared.call.HallAnswer.{HallAnswer}
use Rattle.scr_requests.specs.Cores.{CoreView}
use Rattle.scr_requests.specs.Requests.{AreServletsOf}
use Rattle.scr_requests.specs.declared.reaching.Reach.{Reach}
use Rattle.scr_requests.specs.declared.reaching.Reach.TheVariants.{Nowhere, Objectless, Ending, Standing}
use Rattle.scr_requests.specs.declared.servlets.Servlets.{Servlets}
use Rattle.scr_world.specs.declared.step.Step.{Step}
use Rattle.platform_hall.specs.Platforms.{has_object}

-- these were the servlets of the journal when it was as long as they say: it may have grown since
abbrev pub WereServletsOf : List (Entry Step) → Servlets → Type 0
WereServletsOf journal servlets = AreServletsOf (take servlets.made_at journal) servlets

-- an object is there for the instance that a request reaches
abbrev pub HasReachObject : CoreView → Reach → Type 0
HasReachObject p (Standing service live) = has_object p live.instance ≡ true
HasReachObject p Nowhere = Unit {0}
HasReachObject p (Objectless service) = Unit {0}
HasReachObject p (Ending service) = Unit {0}

-- what a request is answered in the world of the whole journal: each of its parts is decided there
abbrev pub AnswersHere : Meaning → CoreView → Request → HallAnswer → Type 0
AnswersHere next p request told =
    (told.front ≡ length p.journal) × AnswersRequest (world_up_to p.journal) next request told × Rising told.front (fronts_of told.nested) (length p.journal)

-- the answer alone
abbrev pub AnswersHttp : Meaning → CoreView → Request → Answered → Type 0
AnswersHttp next p request answer = (told : HallAnswer) × (told.answer ≡ answer) × AnswersHere next p request told
