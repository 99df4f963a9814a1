-- How many moves a call makes.
use Rattle.std.proofs.Common.{◌≡◌, ℕ, zero, suc, ◌+◌, ◌*◌, ◌≤◌, Bool, true, false, if◌then◌else◌, List, [], ◌∷◌, ◌++◌, length, refl, sym, ap, Some, None, arith, length-append}
use Rattle.std.specs.Prelude.{◌==◌, ◌||◌}
use Rattle.std.proofs.lemmas.Bool.{eqb-false, false≢true}
use Rattle.kind_trait.specs.Meanings.{Move, Refuses, Answers, Calls}
use Rattle.kind_trait.specs.declared.nested_reply.NestedReply.{NestedReply}
use Rattle.turn_work.specs.declared.site.Site.{Site}
use Rattle.call_moves.specs.declared.nested_call.NestedCall.{NestedCall}
use Rattle.call_moves.specs.Evaluations.{Meaning, Whom, Nobody, Instance, Reaching, Ended, Said, Declined, TooLong, Frame, Calling, Runs, Over, Starved, nested_call, is_too_long, with_reply_at, reply_by, ended_by, nested_by, begun_at, moved_by, moved, after_moves, begun}
use Rattle.call_moves.specs.Fronts.{Rests}

-- a reply changes nothing in how many nested calls there are
pub replied_length : (k : ℕ) (reply : NestedReply) (nested : List NestedCall) → length (with_reply_at k reply nested) ≡ length nested
replied_length zero reply [] = refl
replied_length zero reply (n ∷ ns) = refl
replied_length (suc k) reply [] = refl
replied_length (suc k) reply (n ∷ ns) = ap suc (replied_length k reply ns)

pub one_longer : (nested : List NestedCall) (n : NestedCall) → length (nested ++ n ∷ []) ≡ suc (length nested)
one_longer nested n = rw length-append (omega arith)

-- where a further nested call is allowed, there are fewer than 64
pub not_too_long : (waiting : ℕ) (nested : List NestedCall) → is_too_long waiting nested ≡ false → length nested ≡ 64 → ⊥
not_too_long waiting nested allowed = eqb-false (length nested) 64 (by_first (waiting == 16) allowed)
  where
    by_first : (b : Bool) → (b || (length nested == 64)) ≡ false → (length nested == 64) ≡ false
    by_first true e = absurd (false≢true (sym e))
    by_first false e = e

-- so many moves are more than what is left
abbrev pub Left : ℕ → Calling → Type 0
Left m (Runs waiting f nested fronts) = (length nested ≤ 64) × (length waiting + 129 ≤ m + 2 * length nested)
Left m (Over nested end fronts) = Unit {0}
Left m Starved = Unit {0}

none_left : (c : Calling) → Left 0 c → Rests c
none_left (Runs waiting f nested fronts) left = let a = left.0 in let b = left.1 in omega arith
none_left (Over nested end fronts) left = tt
none_left Starved left = tt

ended_left : (m : ℕ) (end : Ended) (waiting : List Frame) (f : Frame) (nested : List NestedCall) (fronts : List ℕ) → Left (suc m) (Runs waiting f nested fronts) → Left m (ended_by end waiting f nested fronts)
ended_left m end [] f nested fronts left = tt
ended_left m end (before ∷ waiting) f nested fronts left =
    let same = replied_length f.place (reply_by end) nested in
    let a = left.0 in let b = left.1 in (omega (arith, same), omega (arith, same))

nested_left : (m : ℕ) (to : Whom) (front : ℕ) (request : List ℕ) (waiting : List Frame) (f : Frame) (nested : List NestedCall) (fronts : List ℕ)
    → (length nested ≡ 64 → ⊥) → Left (suc m) (Runs waiting f nested fronts) → Left m (nested_by to front request waiting f nested fronts)
nested_left m (Nobody service reply) front request waiting f nested fronts less left =
    let longer = one_longer nested (nested_call front service request (Some reply)) in let a = left.0 in let b = left.1 in (omega arith, omega arith)
nested_left m (Instance service number site) front request waiting f nested fronts less left =
    let longer = one_longer nested (nested_call front service request None) in let a = left.0 in let b = left.1 in (omega arith, omega arith)

module _ (reaches : Reaching) (next : Meaning) where
  begun_left : (m : ℕ) (fronts reference request : List ℕ) (waiting : List Frame) (f : Frame) (nested : List NestedCall)
      → (length nested ≡ 64 → ⊥) → Left (suc m) (Runs waiting f nested fronts) → Left m (begun_at reaches next fronts reference request waiting f nested)
  begun_left m [] reference request waiting f nested less left = tt
  begun_left m (front ∷ fronts) reference request waiting f nested less left = nested_left m (reaches front f.instance reference) front request waiting f nested fronts less left

  call_left : (m : ℕ) (b : Bool) (fronts reference request : List ℕ) (waiting : List Frame) (f : Frame) (nested : List NestedCall) → is_too_long (length waiting) nested ≡ b
      → Left (suc m) (Runs waiting f nested fronts) → Left m (if b then Over nested TooLong fronts else begun_at reaches next fronts reference request waiting f nested)
  call_left m true fronts reference request waiting f nested is left = tt
  call_left m false fronts reference request waiting f nested is left = begun_left m fronts reference request waiting f nested (not_too_long (length waiting) nested is) left

  move_left : (m : ℕ) (move : Move) (fronts : List ℕ) (waiting : List Frame) (f : Frame) (nested : List NestedCall)
      → Left (suc m) (Runs waiting f nested fronts) → Left m (moved_by reaches next move waiting f nested fronts)
  move_left m (Answers text) fronts waiting f nested left = ended_left m (Said text) waiting f nested fronts left
  move_left m Refuses fronts waiting f nested left = ended_left m Declined waiting f nested fronts left
  move_left m (Calls reference request) fronts waiting f nested left = call_left m (is_too_long (length waiting) nested) fronts reference request waiting f nested refl left

  moved_left : (m : ℕ) (c : Calling) → Left (suc m) c → Left m (moved reaches next c)
  moved_left m (Runs waiting f nested fronts) left = move_left m (next f.asking.class f.asking.properties f.asking.request f.asking.replies) fronts waiting f nested left
  moved_left m (Over nested end fronts) left = tt
  moved_left m Starved left = tt

  pub rests_after : (m : ℕ) (c : Calling) → Left m c → Rests (after_moves reaches next m c)
  unfolding after_moves
  rests_after zero c left = none_left c left
  rests_after (suc m) c left = rests_after m (moved reaches next c) (moved_left m c left)

  -- no call makes more moves
  pub rests_at : (m : ℕ) (instance : ℕ) (site : Site) (request fronts : List ℕ) → 129 ≤ m → Rests (after_moves reaches next m (begun instance site request fronts))
  rests_at m instance site request fronts enough = rests_after m (begun instance site request fronts) (omega arith, omega arith)
