-- A call whose parts are all decided at one length of the journal comes to one end.
use Rattle.std.proofs.Common.{◌≡◌, ◌≤◌, ◌⊎◌, ℕ, List, [], ◌∷◌, ◌++◌, ap, sym, ◌∙◌, refl, subst, inl, inr, arith}
use Rattle.call_moves.proofs.Moves.{all_further}
use Rattle.call_moves.specs.Evaluations.{ComesTo, Ended, Meaning, Over, Reaching, after_moves, all_moves, begun, fronts_of}
use Rattle.call_moves.specs.Fronts.{IsFed, with_further}
use Rattle.call_moves.specs.declared.nested_call.NestedCall.{NestedCall}
use Rattle.scr_calls.specs.Evaluates.{Evaluates, Rising, reaching}
use Rattle.scr_readers.specs.declared.live.Live.{Live}
use Rattle.scr_world.specs.declared.world.World.{World}
use Rattle.turn_work.specs.declared.site.Site.{Site}

-- fronts that never fall end no lower than they begin
rises : (from to : ℕ) (fronts : List ℕ) → Rising from fronts to → from ≤ to
rises from to [] rising = rising
rises from to (front ∷ fronts) rising = let later = rises front to fronts rising.1 in omega (arith, rising.0, later)

-- fronts from a length to the same length are that length
pub first_front : (here front : ℕ) (fronts : List ℕ) → Rising here (front ∷ fronts) here → front ≡ here
first_front here front fronts rising = let later = rises front here fronts rising.1 in omega (arith, rising.0, later)

pub later_fronts : (here front : ℕ) (fronts : List ℕ) → Rising here (front ∷ fronts) here → Rising here fronts here
later_fronts here front fronts rising = subst (λ n. Rising n fronts here) (first_front here front fronts rising) rising.1

-- one list goes on where the other ends
abbrev GoesOn : List ℕ → List ℕ → Type 0
GoesOn xs ys = (more : List ℕ) × (ys ≡ xs ++ more)

longer : (x y : ℕ) (xs ys : List ℕ) → x ≡ y → GoesOn xs ys → GoesOn (x ∷ xs) (y ∷ ys)
longer x y xs ys same (more, is) = (more, ap (λ l. y ∷ l) is ∙ ap (λ n. n ∷ (xs ++ more)) (sym same))

-- two lists of one front alone: one of them goes on where the other ends
one_goes_on : (here : ℕ) (xs ys : List ℕ) → Rising here xs here → Rising here ys here → GoesOn xs ys ⊎ GoesOn ys xs
one_goes_on here [] ys rising rising' = inl (ys, refl)
one_goes_on here (x ∷ xs) [] rising rising' = inr (x ∷ xs, refl)
one_goes_on here (x ∷ xs) (y ∷ ys) rising rising' =
    let same : x ≡ y = first_front here x xs rising ∙ sym (first_front here y ys rising') in
    elim (one_goes_on here xs ys (later_fronts here x xs rising) (later_fronts here y ys rising')) [
      | inl goes ↦ inl (longer x y xs ys same goes)
      | inr goes ↦ inr (longer y x ys xs (sym same) goes)
    ]

-- what is over is over with one end
over_same : (nested other : List NestedCall) (end same : Ended) (more : List ℕ) → Over nested end more ≡ Over other same [] → (nested ≡ other) × (end ≡ same)
over_same nested other end same more both = (cc, cc)

module _ (reaches : Reaching) (next : Meaning) (instance : ℕ) (site : Site) (request : List ℕ) where
  -- further fronts change nothing of what a call came to
  further_end : (nested : List NestedCall) (end : Ended) (more : List ℕ) → ComesTo reaches next instance site request nested end
      → after_moves reaches next all_moves (begun instance site request (fronts_of nested ++ more)) ≡ Over nested end more
  further_end nested end more comes =
      all_further reaches next all_moves (begun instance site request (fronts_of nested)) more (subst IsFed (sym comes) tt) ∙ ap (with_further more) comes

  end_once : (nested other : List NestedCall) (end same : Ended) → GoesOn (fronts_of nested) (fronts_of other) → ComesTo reaches next instance site request nested end → ComesTo reaches next instance site request other same
      → (nested ≡ other) × (end ≡ same)
  end_once nested other end same (more, is) comes comes' =
      let both : Over nested end more ≡ Over other same [] =
      sym (further_end nested end more comes) ∙ ap (λ fronts. after_moves reaches next all_moves (begun instance site request fronts)) (sym is) ∙ comes' in
      over_same nested other end same more both

-- so it has one end, and the same nested calls
pub evaluates_once : (here : ℕ) (world : ℕ → World) (next : Meaning) (live : Live) (request : List ℕ) (nested other : List NestedCall) (end same : Ended)
    → Rising here (fronts_of nested) here → Rising here (fronts_of other) here → Evaluates world next live request nested end → Evaluates world next live request other same → (nested ≡ other) × (end ≡ same)
evaluates_once here world next live request nested other end same rising rising' comes comes' = elim (one_goes_on here (fronts_of nested) (fronts_of other) rising rising') [
  | inl goes ↦ end_once (reaching world) next live.instance live.site request nested other end same goes comes comes'
  | inr goes ↦ (let all = end_once (reaching world) next live.instance live.site request other nested same end goes comes' comes in (sym all.0, sym all.1))
]
