-- With 64 fronts to come no call wants a further one.
use Rattle.std.proofs.Common.{◌≡◌, ℕ, zero, suc, ◌+◌, ◌≤◌, Bool, true, false, if◌then◌else◌, List, [], ◌∷◌, length, Some, None, refl, arith}
use Rattle.kind_trait.specs.Meanings.{Move, Refuses, Answers, Calls}
use Rattle.turn_work.specs.declared.site.Site.{Site}
use Rattle.call_moves.specs.declared.nested_call.NestedCall.{NestedCall}
use Rattle.call_moves.specs.Evaluations.{Meaning, Whom, Nobody, Instance, Reaching, Ended, Said, Declined, TooLong, Frame, Calling, Runs, Over, Starved, nested_call, is_too_long, reply_by, ended_by, nested_by, begun_at, moved_by, moved, after_moves, begun}
use Rattle.call_moves.specs.Fronts.{Rests, IsOver}
use Rattle.call_moves.proofs.Lengths.{not_too_long, one_longer, replied_length}

-- the fronts to come are enough for all nested calls that may come
abbrev pub HasEnough : Calling → Type 0
HasEnough (Runs waiting f nested fronts) = (length nested ≤ 64) × (64 ≤ length nested + length fronts)
HasEnough (Over nested end fronts) = Unit {0}
HasEnough Starved = ⊥

pub is_over : (c : Calling) → HasEnough c → Rests c → IsOver c
is_over (Runs waiting f nested fronts) enough rests = rests
is_over (Over nested end fronts) enough rests = tt
is_over Starved enough rests = enough

ended_enough : (end : Ended) (waiting : List Frame) (f : Frame) (nested : List NestedCall) (fronts : List ℕ) → HasEnough (Runs waiting f nested fronts) → HasEnough (ended_by end waiting f nested fronts)
ended_enough end [] f nested fronts enough = tt
ended_enough end (before ∷ waiting) f nested fronts enough =
    let same = replied_length f.place (reply_by end) nested in let a = enough.0 in let b = enough.1 in (omega arith, omega arith)

nested_enough : (to : Whom) (front : ℕ) (request : List ℕ) (waiting : List Frame) (f : Frame) (nested : List NestedCall) (fronts : List ℕ)
    → (length nested ≡ 64 → ⊥) → HasEnough (Runs waiting f nested (front ∷ fronts)) → HasEnough (nested_by to front request waiting f nested fronts)
nested_enough (Nobody service reply) front request waiting f nested fronts less enough =
    let longer = one_longer nested (nested_call front service request (Some reply)) in let a = enough.0 in let b = enough.1 in (omega arith, omega arith)
nested_enough (Instance service number site) front request waiting f nested fronts less enough =
    let longer = one_longer nested (nested_call front service request None) in let a = enough.0 in let b = enough.1 in (omega arith, omega arith)

module _ (reaches : Reaching) (next : Meaning) where
  begun_enough : (fronts reference request : List ℕ) (waiting : List Frame) (f : Frame) (nested : List NestedCall)
      → (length nested ≡ 64 → ⊥) → HasEnough (Runs waiting f nested fronts) → HasEnough (begun_at reaches next fronts reference request waiting f nested)
  begun_enough [] reference request waiting f nested less enough = let a = enough.0 in let b = enough.1 in omega arith
  begun_enough (front ∷ fronts) reference request waiting f nested less enough = nested_enough (reaches front f.instance reference) front request waiting f nested fronts less enough

  call_enough : (b : Bool) (fronts reference request : List ℕ) (waiting : List Frame) (f : Frame) (nested : List NestedCall) → is_too_long (length waiting) nested ≡ b
      → HasEnough (Runs waiting f nested fronts) → HasEnough (if b then Over nested TooLong fronts else begun_at reaches next fronts reference request waiting f nested)
  call_enough true fronts reference request waiting f nested is enough = tt
  call_enough false fronts reference request waiting f nested is enough = begun_enough fronts reference request waiting f nested (not_too_long (length waiting) nested is) enough

  move_enough : (move : Move) (fronts : List ℕ) (waiting : List Frame) (f : Frame) (nested : List NestedCall)
      → HasEnough (Runs waiting f nested fronts) → HasEnough (moved_by reaches next move waiting f nested fronts)
  move_enough (Answers text) fronts waiting f nested enough = ended_enough (Said text) waiting f nested fronts enough
  move_enough Refuses fronts waiting f nested enough = ended_enough Declined waiting f nested fronts enough
  move_enough (Calls reference request) fronts waiting f nested enough = call_enough (is_too_long (length waiting) nested) fronts reference request waiting f nested refl enough

  moved_enough : (c : Calling) → HasEnough c → HasEnough (moved reaches next c)
  moved_enough (Runs waiting f nested fronts) enough = move_enough (next f.asking.class f.asking.properties f.asking.request f.asking.replies) fronts waiting f nested enough
  moved_enough (Over nested end fronts) enough = tt
  moved_enough Starved enough = absurd enough

  pub stays_enough : (k : ℕ) (c : Calling) → HasEnough c → HasEnough (after_moves reaches next k c)
  unfolding after_moves
  stays_enough zero c enough = enough
  stays_enough (suc k) c enough = stays_enough k (moved reaches next c) (moved_enough c enough)

  pub begins_with_enough : (instance : ℕ) (site : Site) (request fronts : List ℕ) → 64 ≤ length fronts → HasEnough (begun instance site request fronts)
  begins_with_enough instance site request fronts many = (omega arith, omega arith)
