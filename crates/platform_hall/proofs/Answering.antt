-- What a call by a get is answered, and what becomes of the whole call.
use Rattle.std.proofs.Common.{◌≡◌, ◌≤◌, ℕ, List, [], ◌∷◌, length, ap, sym, ◌∙◌, refl, subst, false, Ok, Err, inl, inr, arith}
use Rattle.std.specs.Prelude.{Bool, IfOk, Result}
use Rattle.call_moves.specs.declared.nested_call.NestedCall.{NestedCall}
use Rattle.call_moves.specs.Evaluations.{Meaning, Reaching, fronts_of}
use Rattle.call_runner.specs.declared.run.CallEnd.{CallEnd}
use Rattle.call_runner.specs.declared.run.End.{End}
use Rattle.call_runner.specs.declared.run.End.TheVariants.{Said, Declined, TooLong}
use Rattle.call_runner.specs.Runs.{AreAt, ComesToEnd}
use Rattle.kind_trait.specs.Meanings.{Told}
use Rattle.prop_map.specs.declared.properties.Property.{Property}
use Rattle.scr_calls.specs.declared.call.Called.{Called}
use Rattle.scr_calls.specs.declared.call_fault.CallFault.{CallFault}
use Rattle.scr_calls.specs.declared.call_fault.CallFault.TheVariants.{Gone, NoObject, Pending, Refused, CallTooLong, Core, Settle, OutOfMemory}
use Rattle.scr_calls.specs.Evaluates.{Rising, reaching, world_up_to}
use Rattle.scr_requests.specs.Cores.{CoreView}
use Rattle.scr_readers.specs.Reaching.{outer}
use Rattle.scr_readers.specs.declared.live.Live.{Live}
use Rattle.scr_readers.specs.declared.live.Outer.{Outer}
use Rattle.scr_readers.specs.declared.live.Outer.TheVariants.{Live as ToLive}
use Rattle.scr_world.specs.declared.marks.Token.{Token}
use Rattle.turn_work.specs.declared.site.Site.{Site}
use Rattle.platform_hall.specs.Callees.{answer_at}
use Rattle.platform_hall.specs.Calls.{AnswersNow, CallsByGet, CallsOnOne, GetsSettled, Releases, SettlesBehind, lacks_memory, text_of}
use Rattle.platform_hall.specs.Platforms.{has_drain, world}
use Rattle.platform_hall.proofs.Objects.{whole}

-- fronts that are one
pub rises : (front : ℕ) (ns : List NestedCall) → AreAt front ns → Rising front (fronts_of ns) front
rises front [] are = omega arith
rises front (n ∷ ns) are = subst (λ f. (front ≤ f) × Rising f (fronts_of ns) front) (sym are.0) (omega arith, rises front ns are.1)

module _ (next : Meaning) (p : CoreView) (note : Token) (request : List ℕ) where
  abbrev front : ℕ
  front = length p.journal

  outer_now : (to : Outer) → to ≡ outer (world p) note → outer (world_up_to p.journal front) note ≡ to
  outer_now to is = ap (λ w. outer w note) (whole p.journal) ∙ sym is

  here : Rising front (front ∷ []) front
  here = (omega arith, omega arith)

  -- nobody is reached
  pub nobody_now : (to : Outer) → to ≡ outer (world p) note → (outer (world_up_to p.journal front) note ≡ to) × Rising front (front ∷ []) front
  nobody_now to is = (outer_now to is, here)

  -- an instance is reached, and the call comes to its end
  pub answers_now : (live : Live) (nested : List NestedCall) (end : End) → ToLive live ≡ outer (world p) note
      → ComesToEnd (reaching (world_up_to p.journal)) next front (record { instance = live.instance; site = live.site; request = request }) nested end → AnswersNow next p note request (answer_at front nested end)
  answers_now live nested (Said text) is comes = ((live, outer_now (ToLive live) is, comes.0), (omega arith, rises front nested comes.1))
  answers_now live nested Declined is comes = ((live, outer_now (ToLive live) is, comes.0), (omega arith, rises front nested comes.1))
  answers_now live nested TooLong is comes = ((live, outer_now (ToLive live) is, comes.0), (omega arith, rises front nested comes.1))

-- a request that is run is the one that was made, to the instance that was reached
pub asked_so : {E : Type 0} (reaches : Reaching) (next : Meaning) (front : ℕ) (result : Result CallEnd E) (i j : ℕ) (s t : Site) (q r : List ℕ) → i ≡ j → s ≡ t → q ≡ r
    → IfOk result (λ (ran : CallEnd). ComesToEnd reaches next front (record { instance = i; site = s; request = q }) ran.nested ran.end)
    → IfOk result (λ (ran : CallEnd). ComesToEnd reaches next front (record { instance = j; site = t; request = r }) ran.nested ran.end)
asked_so reaches next front result i j s t q r numbers sites texts is =
    let To : ℕ → Site → List ℕ → Type 0 = λ n x y. IfOk result (λ (ran : CallEnd). ComesToEnd reaches next front (record { instance = n; site = x; request = y }) ran.nested ran.end) in
    subst (λ n. To n t r) numbers (subst (λ x. To i x r) sites (subst (λ y. To i s y) texts is))

-- the whole call, where its get or its settling is refused
pub not_ready : (refuses : List ℕ → List Property → Told → Bool) (next : Meaning) (before : CoreView) (bundle service : ℕ) (request : List ℕ) (fault : CallFault) (after : CoreView)
    → GetsSettled refuses before bundle service (Err fault) after → CallsOnOne refuses next before bundle service request (Err fault) after
not_ready refuses next before bundle service request (Core fault) after is = is
not_ready refuses next before bundle service request (Settle fault) after is = is
not_ready refuses next before bundle service request OutOfMemory after (inl same) = inl same
not_ready refuses next before bundle service request OutOfMemory after (inr stops) = inr (inl stops)
not_ready refuses next before bundle service request (Gone front) after is = absurd is
not_ready refuses next before bundle service request (NoObject front) after is = absurd is
not_ready refuses next before bundle service request (Pending front) after is = absurd is
not_ready refuses next before bundle service request (Refused front nested) after is = absurd is
not_ready refuses next before bundle service request (CallTooLong front nested) after is = absurd is

-- the whole call, where it has its answer
module _ (refuses : List ℕ → List Property → Told → Bool) (next : Meaning) (before : CoreView) (bundle service : ℕ) (request : List ℕ) (note : Token) (turns : ℕ) (settled after : CoreView)
    (ready : SettlesBehind refuses before bundle service note (Ok turns) settled) (releases : Releases settled note after) (drained : has_drain after ≡ false) where
  by_get : (answer : Result Called CallFault) → AnswersNow next settled note request answer → CallsByGet refuses next before bundle service request answer after
  by_get answer answers = record { note = note; turns = turns; settled = settled; ready = ready; answers = answers; releases = releases; drained = drained }

  pub calls_on_one : (answer : Result Called CallFault) → lacks_memory answer ≡ false → AnswersNow next settled note request answer → CallsOnOne refuses next before bundle service request (text_of answer) after
  calls_on_one (Ok called) other answers = (called, refl, by_get (Ok called) answers)
  calls_on_one (Err (Gone front)) other answers = by_get (Err (Gone front)) answers
  calls_on_one (Err (NoObject front)) other answers = by_get (Err (NoObject front)) answers
  calls_on_one (Err (Pending front)) other answers = by_get (Err (Pending front)) answers
  calls_on_one (Err (Refused front nested)) other answers = by_get (Err (Refused front nested)) answers
  calls_on_one (Err (CallTooLong front nested)) other answers = by_get (Err (CallTooLong front nested)) answers
  calls_on_one (Err (Core fault)) other answers = absurd answers
  calls_on_one (Err (Settle fault)) other answers = absurd answers
  calls_on_one (Err OutOfMemory) other answers = cc
