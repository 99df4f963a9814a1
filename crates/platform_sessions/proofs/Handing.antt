-- What a turn takes outside the lock.
use Rattle.std.proofs.Common.{◌≡◌, ℕ, List, [], ◌∷◌, ap, sym, ◌∙◌, refl, subst, cond, Bool, true, false, ◌&&◌, Option, Some, None, arith}
use Rattle.std.specs.Prelude.{◌==◌, find, is_some, not}
use Rattle.std.specs.List.{count_by}
use Rattle.callback_orders.specs.declared.callback.Outcome.TheVariants.{NoMemory}
use Rattle.callback_orders.specs.Grammar.{is_create}
use Rattle.hall_locked.specs.Locks.{IsLocked, LockedView}
use Rattle.hall_locked.specs.declared.part.Part.{Part}
use Rattle.hall_locked.specs.Platforms.{has_object, running}
use Rattle.hall_locked.proofs.Desks.{running_fits}
use Rattle.hall_locked.proofs.Settlings.{HasLegal}
use Rattle.platform_sessions.specs.Works.{IsTask}
use Rattle.platform_sessions.proofs.Mine.{count_step, counted}
use Rattle.prop_map.specs.Words.{one_if}
use Rattle.scr_laws.proofs.Listed.{found_was}
use Rattle.turn_runner.specs.Outcomes.{makes_object, needs_object}
use Rattle.turn_work.specs.declared.work.TurnWork.{TurnWork}

module _ {X : Type 0} (test : X → Bool) where
  none_found : (xs : List X) → find test xs ≡ None → count_by test xs ≡ 0
  none_found [] none = refl
  none_found (x ∷ xs) none = go (test x) refl none (none_found xs)
    where
      go : (b : Bool) → test x ≡ b → cond b (Some x) (find test xs) ≡ None → (find test xs ≡ None → count_by test xs ≡ 0) → count_by test (x ∷ xs) ≡ 0
      go true is never later = cc
      go false is none later =
          let step = count_step test x xs in
          let first : cond (test x) 1 0 ≡ 0 = ap one_if is in
          let rest = later none in omega (arith, step, first, rest)

  -- where as many pass as a truth counts, one is found just where it holds
  found_as : (xs : List X) (b : Bool) → count_by test xs ≡ one_if b → is_some (find test xs) ≡ b
  found_as xs b many = go b (find test xs) refl many
    where
      go : (c : Bool) (o : Option X) → find test xs ≡ o → count_by test xs ≡ one_if c → is_some o ≡ c
      go true None none all = let zero = none_found xs none in absurd (omega (arith, zero, all))
      go false None none all = refl
      go true (Some x) found all = refl
      go false (Some x) found all =
          let was = found_was test xs x found in
          let some = counted test xs x was.0 was.1 in absurd (omega (arith, some, all))

-- something is kept for the instance of a turn just where the turn is told to an object
pub part_fits : {O : Type 0} (l : LockedView O) (turn : ℕ) (work : TurnWork) → HasLegal l.core → IsLocked l → running l.core turn ≡ Some work → is_some (find (λ (p : Part O). p.instance == work.instance) l.parts) ≡ needs_object work
part_fits {O} l turn work legal locked runs =
    found_as (λ (p : Part O). p.instance == work.instance) l.parts (has_object l.core work.instance) (locked.parts work.instance) ∙ running_fits l.core turn work legal runs

-- what is handed out is the turn's
pub task_is : {O X : Type 0} (l : LockedView O) (turn : ℕ) (work : TurnWork) (object : Option X) → HasLegal l.core → IsLocked l → Some work ≡ running l.core turn
    → is_some object ≡ is_some (find (λ (p : Part O). p.instance == work.instance) l.parts) → (told : TurnWork) → running l.core turn ≡ Some told → IsTask told (Some (work, object))
task_is {O} l turn work object legal locked is has told runs =
    let same : work ≡ told = some_same work told (is ∙ runs) in
    (same, has ∙ part_fits l turn work legal locked (sym is) ∙ ap needs_object same)
  where
    some_same : (a b : TurnWork) → Some a ≡ Some b → a ≡ b
    some_same a b e = cc

-- it is handed out as it is told
pub fits_task : {X : Type 0} (told work : TurnWork) (object : Option X) (task : Option (TurnWork × Option X)) → task ≡ Some (work, object) → IsTask told task → is_some object ≡ needs_object work
fits_task {X} told work object task is fits =
    let its = subst (λ (t : Option (TurnWork × Option X)). IsTask told t) is fits in
    its.1 ∙ ap needs_object (sym its.0)

-- ---- a turn of which nobody was told

none_made : (board create : Bool) → false ≡ (not board && (create && false))
none_made true true = refl
none_made true false = refl
none_made false true = refl
none_made false false = refl

pub nobody_made : (work : TurnWork) → false ≡ makes_object work NoMemory
nobody_made work = none_made (work.instance == 0) (is_create work.callback)
