-- What calls by a get do and answer on a platform of one thread. Our own.
use Rattle.std.specs.Prelude.{◌≡◌, ◌≢◌, ◌⊎◌, ℕ, List, length, Bool, true, false, Result, Ok, Err}
use Rattle.call_moves.specs.Evaluations.{Meaning}
use Rattle.kind_trait.specs.Meanings.{Told}
use Rattle.prop_map.specs.declared.properties.Property.{Property}
use Rattle.scr_calls.specs.Calls.{AnswersUse}
use Rattle.scr_calls.specs.Evaluates.{world_up_to}
use Rattle.scr_calls.specs.declared.call.Called.{Called}
use Rattle.scr_calls.specs.declared.call_fault.CallFault.{CallFault}
use Rattle.scr_calls.specs.declared.call_fault.CallFault.TheVariants.{Core, Settle, OutOfMemory}
use Rattle.scr_requests.specs.Cores.{CoreView}
use Rattle.scr_world.specs.Calls.{EndsUse, Gets}
use Rattle.scr_world.specs.declared.marks.Token.{Token}
use Rattle.scr_world.specs.declared.reply.CoreFault.{CoreFault}
use Rattle.scr_world.specs.declared.reply.CoreFault.TheVariants.{OutOfMemory as CoreNoMemory}
use Rattle.turn_runner.specs.declared.settle_fault.SettleFault.{SettleFault}
use Rattle.turn_runner.specs.declared.settle_fault.SettleFault.TheVariants.{OutOfMemory as SettleNoMemory}
use Rattle.platform_hall.specs.Platforms.{Posts, has_drain}
use Rattle.platform_hall.specs.SettleBounds.{SettlesWithin}

-- ---- a call by a get: the get, the settling, the call, the release, the drains

-- what a get by token answers and does
abbrev pub GetsUse : CoreView → ℕ → ℕ → Result Token CoreFault → CoreView → Type 0
GetsUse before bundle service answer after = (after.limits ≡ before.limits) × Gets before.limits.journal before.journal bundle service answer after.journal

-- a get is released where it stands still
abbrev pub ReleasesUse : CoreView → Token → CoreView → Type 0
ReleasesUse before note after = (stood : Bool) × (after.limits ≡ before.limits) × EndsUse before.limits.journal before.journal note stood after.journal

-- and drains are posted
abbrev pub Releases : CoreView → Token → CoreView → Type 0
Releases before note after = (ended : CoreView) × ReleasesUse before note ended × Posts ended after

-- what a call is answered in the world of the whole journal: each of its parts is decided there
abbrev pub AnswersNow : Meaning → CoreView → Token → List ℕ → Result Called CallFault → Type 0
AnswersNow next p note request answer = AnswersUse (world_up_to p.journal) next note request (length p.journal) (length p.journal) answer

-- why a call isn't answered where its get, or its settling, is refused
abbrev pub get_fault : CoreFault → CallFault
get_fault CoreNoMemory = OutOfMemory
get_fault fault = Core fault

abbrev pub settle_fault : SettleFault → CallFault
settle_fault SettleNoMemory = OutOfMemory
settle_fault fault = Settle fault

-- memory is wanting for an answer
abbrev pub lacks_memory : Result Called CallFault → Bool
lacks_memory (Err OutOfMemory) = true
lacks_memory _ = false

-- the text of an answer
abbrev pub text_of : Result Called CallFault → Result (List ℕ) CallFault
text_of (Ok called) = Ok called.text
text_of (Err fault) = Err fault

module _ (refuses : List ℕ → List Property → Told → Bool) where
  -- the service was got, and then the platform has settled so
  pub record SettlesBehind (before : CoreView) (bundle service : ℕ) (note : Token) (answer : Result ℕ SettleFault) (after : CoreView) : Type 0 where
    pub got : CoreView
    pub gets : GetsUse before bundle service (Ok note) got
    pub settles : SettlesWithin refuses got answer after

  -- what a call by a get does where it has its answer, a refusal too: afterwards no drain is left to be posted
  pub record CallsByGet (next : Meaning) (before : CoreView) (bundle service : ℕ) (request : List ℕ) (answer : Result Called CallFault) (after : CoreView) : Type 0 where
    pub note : Token
    pub turns : ℕ
    pub settled : CoreView
    pub ready : SettlesBehind before bundle service note (Ok turns) settled
    pub answers : AnswersNow next settled note request answer
    pub releases : Releases settled note after
    pub drained : has_drain after ≡ false

  -- the settling is refused: nothing is released
  abbrev pub StopsSettling : CoreView → ℕ → ℕ → SettleFault → CoreView → Type 0
  StopsSettling before bundle service fault after = (note : Token) × SettlesBehind before bundle service note (Err fault) after

  -- memory is wanting behind the settling: all is as it was then, or the get is released and some of the drains are posted
  abbrev pub StopsBehind : CoreView → ℕ → ℕ → CoreView → Type 0
  StopsBehind before bundle service after =
      (note : Token) × (turns : ℕ) × (settled : CoreView) × SettlesBehind before bundle service note (Ok turns) settled × ((after ≡ settled) ⊎ Releases settled note after)

  -- what getting and settling answers and does. Want of memory hides no refusal of the get
  abbrev pub GetsSettled : CoreView → ℕ → ℕ → Result Token CallFault → CoreView → Type 0
  GetsSettled before bundle service (Ok note) after = (turns : ℕ) × SettlesBehind before bundle service note (Ok turns) after
  GetsSettled before bundle service (Err (Core fault)) after = GetsUse before bundle service (Err fault) after × (fault ≢ CoreNoMemory)
  GetsSettled before bundle service (Err (Settle fault)) after = StopsSettling before bundle service fault after × (fault ≢ SettleNoMemory)
  GetsSettled before bundle service (Err OutOfMemory) after = GetsUse before bundle service (Err CoreNoMemory) after ⊎ StopsSettling before bundle service SettleNoMemory after
  GetsSettled before bundle service (Err _) after = ⊥

  -- what a call by a get answers and does: the text alone, where it is answered. A refusal of the get leaves all as it was; want of memory may come at the
  -- get, of which it hides no refusal, in the settling, and behind it
  abbrev pub CallsOnOne : Meaning → CoreView → ℕ → ℕ → List ℕ → Result (List ℕ) CallFault → CoreView → Type 0
  CallsOnOne next before bundle service request (Ok text) after = (called : Called) × (called.text ≡ text) × CallsByGet next before bundle service request (Ok called) after
  CallsOnOne next before bundle service request (Err (Core fault)) after = GetsUse before bundle service (Err fault) after × (fault ≢ CoreNoMemory)
  CallsOnOne next before bundle service request (Err (Settle fault)) after = StopsSettling before bundle service fault after × (fault ≢ SettleNoMemory)
  CallsOnOne next before bundle service request (Err OutOfMemory) after =
      GetsUse before bundle service (Err CoreNoMemory) after ⊎ (StopsSettling before bundle service SettleNoMemory after ⊎ StopsBehind before bundle service after)
  CallsOnOne next before bundle service request (Err fault) after = CallsByGet next before bundle service request (Err fault) after
