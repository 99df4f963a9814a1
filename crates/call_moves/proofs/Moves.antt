-- Moves of a call: fronts that come later change no move that was made; what rests stays as it is; moves join.
use Rattle.std.proofs.Common.{◌≡◌, ℕ, zero, suc, ◌+◌, Bool, true, false, if◌then◌else◌, List, [], ◌∷◌, ◌++◌, length, refl, sym, ap, ◌∙◌, subst, arith}
use Rattle.kind_trait.specs.Meanings.{Move, Refuses, Answers, Calls}
use Rattle.call_moves.specs.declared.nested_call.NestedCall.{NestedCall}
use Rattle.call_moves.specs.Evaluations.{Meaning, Whom, Nobody, Instance, Reaching, Ended, Said, Declined, TooLong, Frame, Calling, Runs, Over, Starved, is_too_long, ended_by, nested_by, begun_at, moved_by, moved, after_moves}
use Rattle.call_moves.specs.Fronts.{with_further, IsFed, Rests}

ended_further : (more : List ℕ) (end : Ended) (waiting : List Frame) (f : Frame) (nested : List NestedCall) (fronts : List ℕ)
    → ended_by end waiting f nested (fronts ++ more) ≡ with_further more (ended_by end waiting f nested fronts)
ended_further more end [] f nested fronts = refl
ended_further more end (before ∷ waiting) f nested fronts = refl

nested_further : (more : List ℕ) (to : Whom) (front : ℕ) (request : List ℕ) (waiting : List Frame) (f : Frame) (nested : List NestedCall) (fronts : List ℕ)
    → nested_by to front request waiting f nested (fronts ++ more) ≡ with_further more (nested_by to front request waiting f nested fronts)
nested_further more (Nobody service reply) front request waiting f nested fronts = refl
nested_further more (Instance service number site) front request waiting f nested fronts = refl

module _ (reaches : Reaching) (next : Meaning) where
  begun_further : (more fronts reference request : List ℕ) (waiting : List Frame) (f : Frame) (nested : List NestedCall) → IsFed (begun_at reaches next fronts reference request waiting f nested)
      → begun_at reaches next (fronts ++ more) reference request waiting f nested ≡ with_further more (begun_at reaches next fronts reference request waiting f nested)
  begun_further more [] reference request waiting f nested fed = absurd fed
  begun_further more (front ∷ fronts) reference request waiting f nested fed = nested_further more (reaches front f.instance reference) front request waiting f nested fronts

  call_further : (b : Bool) (more fronts reference request : List ℕ) (waiting : List Frame) (f : Frame) (nested : List NestedCall)
      → IsFed (if b then Over nested TooLong fronts else begun_at reaches next fronts reference request waiting f nested)
      → (if b then Over nested TooLong (fronts ++ more) else begun_at reaches next (fronts ++ more) reference request waiting f nested)
      ≡ with_further more (if b then Over nested TooLong fronts else begun_at reaches next fronts reference request waiting f nested)
  call_further true more fronts reference request waiting f nested fed = refl
  call_further false more fronts reference request waiting f nested fed = begun_further more fronts reference request waiting f nested fed

  move_further : (m : Move) (more fronts : List ℕ) (waiting : List Frame) (f : Frame) (nested : List NestedCall) → IsFed (moved_by reaches next m waiting f nested fronts)
      → moved_by reaches next m waiting f nested (fronts ++ more) ≡ with_further more (moved_by reaches next m waiting f nested fronts)
  move_further (Answers text) more fronts waiting f nested fed = ended_further more (Said text) waiting f nested fronts
  move_further Refuses more fronts waiting f nested fed = ended_further more Declined waiting f nested fronts
  move_further (Calls reference request) more fronts waiting f nested fed = call_further (is_too_long (length waiting) nested) more fronts reference request waiting f nested fed

  -- a move that was made is made with further fronts too
  pub moved_further : (c : Calling) (more : List ℕ) → IsFed (moved reaches next c) → moved reaches next (with_further more c) ≡ with_further more (moved reaches next c)
  moved_further (Runs waiting f nested fronts) more fed = move_further (next f.asking.class f.asking.properties f.asking.request f.asking.replies) more fronts waiting f nested fed
  moved_further (Over nested end fronts) more fed = refl
  moved_further Starved more fed = refl

  -- what is over stays over
  pub over_stays : (k : ℕ) (nested : List NestedCall) (end : Ended) (fronts : List ℕ) → after_moves reaches next k (Over nested end fronts) ≡ Over nested end fronts
  unfolding after_moves
  over_stays zero nested end fronts = refl
  over_stays (suc k) nested end fronts = over_stays k nested end fronts

  pub starved_stays : (k : ℕ) → after_moves reaches next k Starved ≡ Starved
  unfolding after_moves
  starved_stays zero = refl
  starved_stays (suc k) = starved_stays k

  pub rest_stays : (k : ℕ) (c : Calling) → Rests c → after_moves reaches next k c ≡ c
  rest_stays k (Runs waiting f nested fronts) rests = absurd rests
  rest_stays k (Over nested end fronts) rests = over_stays k nested end fronts
  rest_stays k Starved rests = starved_stays k

  pub moves_join : (k j : ℕ) (c : Calling) → after_moves reaches next (k + j) c ≡ after_moves reaches next j (after_moves reaches next k c)
  unfolding after_moves
  moves_join zero j c = let e : 0 + j ≡ j = omega arith in ap (λ n. after_moves reaches next n c) e
  moves_join (suc k) j c = let e : suc k + j ≡ suc (k + j) = omega arith in ap (λ n. after_moves reaches next n c) e ∙ moves_join k j (moved reaches next c)

  -- two numbers of moves behind which a call rests lead to the same
  pub rest_once : (k j : ℕ) (c : Calling) → Rests (after_moves reaches next k c) → Rests (after_moves reaches next j c) → after_moves reaches next k c ≡ after_moves reaches next j c
  rest_once k j c one other =
      let swapped : k + j ≡ j + k = omega arith in
      sym (rest_stays j (after_moves reaches next k c) one) ∙ sym (moves_join k j c) ∙ ap (λ n. after_moves reaches next n c) swapped ∙ moves_join j k c ∙ rest_stays k (after_moves reaches next j c) other

  fed_before : (k : ℕ) (c : Calling) → IsFed (after_moves reaches next k c) → IsFed c
  fed_before k (Runs waiting f nested fronts) fed = tt
  fed_before k (Over nested end fronts) fed = tt
  fed_before k Starved fed = subst IsFed (starved_stays k) fed

  -- moves that were made are made with further fronts too
  pub all_further : (k : ℕ) (c : Calling) (more : List ℕ) → IsFed (after_moves reaches next k c) → after_moves reaches next k (with_further more c) ≡ with_further more (after_moves reaches next k c)
  unfolding after_moves
  all_further zero c more fed = refl
  all_further (suc k) c more fed = ap (after_moves reaches next k) (moved_further c more (fed_before k (moved reaches next c) fed)) ∙ all_further k (moved reaches next c) more fed
