-- A call whose nested calls reach the same at each front comes to the same.
use Rattle.std.proofs.Common.{◌≡◌, ℕ, zero, suc, Bool, true, false, if◌then◌else◌, List, [], ◌∷◌, length, refl, sym, ap, ◌∙◌, subst}
use Rattle.kind_trait.specs.Meanings.{Move, Refuses, Answers, Calls}
use Rattle.call_moves.specs.declared.nested_call.NestedCall.{NestedCall}
use Rattle.call_moves.specs.Evaluations.{Meaning, Whom, Nobody, Instance, Reaching, Ended, Said, Declined, TooLong, Frame, Calling, Runs, Over, Starved, is_too_long, ended_by, nested_by, begun_at, moved_by, moved, after_moves}
use Rattle.call_moves.specs.Fronts.{Agree}

-- the fronts to come
abbrev pub fronts_to_come : Calling → List ℕ
fronts_to_come (Runs waiting f nested fronts) = fronts
fronts_to_come (Over nested end fronts) = fronts
fronts_to_come Starved = []

ended_fronts : (end : Ended) (waiting : List Frame) (f : Frame) (nested : List NestedCall) (fronts : List ℕ) → fronts_to_come (ended_by end waiting f nested fronts) ≡ fronts
ended_fronts end [] f nested fronts = refl
ended_fronts end (before ∷ waiting) f nested fronts = refl

nested_fronts : (to : Whom) (front : ℕ) (request : List ℕ) (waiting : List Frame) (f : Frame) (nested : List NestedCall) (fronts : List ℕ) → fronts_to_come (nested_by to front request waiting f nested fronts) ≡ fronts
nested_fronts (Nobody service reply) front request waiting f nested fronts = refl
nested_fronts (Instance service number site) front request waiting f nested fronts = refl

module _ (reaches others : Reaching) (next : Meaning) where
  abbrev pub AgreeBy : Calling → Type 0
  AgreeBy c = Agree reaches others (fronts_to_come c)

  begun_agrees : (fronts reference request : List ℕ) (waiting : List Frame) (f : Frame) (nested : List NestedCall) → Agree reaches others fronts
      → (begun_at reaches next fronts reference request waiting f nested ≡ begun_at others next fronts reference request waiting f nested) × AgreeBy (begun_at reaches next fronts reference request waiting f nested)
  begun_agrees [] reference request waiting f nested agree = (refl, tt)
  begun_agrees (front ∷ fronts) reference request waiting f nested agree = (
    ap (λ (to : ℕ → List ℕ → Whom). nested_by (to f.instance reference) front request waiting f nested fronts) agree.0,
    subst (Agree reaches others) (sym (nested_fronts (reaches front f.instance reference) front request waiting f nested fronts)) agree.1,
  )

  call_agrees : (b : Bool) (fronts reference request : List ℕ) (waiting : List Frame) (f : Frame) (nested : List NestedCall) → Agree reaches others fronts
      → ((if b then Over nested TooLong fronts else begun_at reaches next fronts reference request waiting f nested) ≡ (if b then Over nested TooLong fronts else begun_at others next fronts reference request waiting f nested))
      × AgreeBy (if b then Over nested TooLong fronts else begun_at reaches next fronts reference request waiting f nested)
  call_agrees true fronts reference request waiting f nested agree = (refl, agree)
  call_agrees false fronts reference request waiting f nested agree = begun_agrees fronts reference request waiting f nested agree

  move_agrees : (m : Move) (fronts : List ℕ) (waiting : List Frame) (f : Frame) (nested : List NestedCall) → Agree reaches others fronts
      → (moved_by reaches next m waiting f nested fronts ≡ moved_by others next m waiting f nested fronts) × AgreeBy (moved_by reaches next m waiting f nested fronts)
  move_agrees (Answers text) fronts waiting f nested agree = (refl, subst (Agree reaches others) (sym (ended_fronts (Said text) waiting f nested fronts)) agree)
  move_agrees Refuses fronts waiting f nested agree = (refl, subst (Agree reaches others) (sym (ended_fronts Declined waiting f nested fronts)) agree)
  move_agrees (Calls reference request) fronts waiting f nested agree = call_agrees (is_too_long (length waiting) nested) fronts reference request waiting f nested agree

  moved_agrees : (c : Calling) → AgreeBy c → (moved reaches next c ≡ moved others next c) × AgreeBy (moved reaches next c)
  moved_agrees (Runs waiting f nested fronts) agree = move_agrees (next f.asking.class f.asking.properties f.asking.request f.asking.replies) fronts waiting f nested agree
  moved_agrees (Over nested end fronts) agree = (refl, agree)
  moved_agrees Starved agree = (refl, tt)

  pub all_agree : (k : ℕ) (c : Calling) → AgreeBy c → after_moves reaches next k c ≡ after_moves others next k c
  unfolding after_moves
  all_agree zero c agree = refl
  all_agree (suc k) c agree = all_agree k (moved reaches next c) (moved_agrees c agree).1 ∙ ap (after_moves others next k) (moved_agrees c agree).0
