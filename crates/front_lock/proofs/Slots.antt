-- What a seat reads in its slot, and what it knows then.
use Rattle.std.proofs.Common.{◌≡◌, ℕ, true, List, [], ◌∷◌, refl, sym, ap, ◌∙◌, subst}
use Rattle.std.specs.Prelude.{Option, Some, None, IsSome}
use Rattle.atomic_table.specs.Table.{Me, rest}
use Rattle.front_lock.specs.declared.rule.Contents.{Contents}
use Rattle.front_lock.specs.declared.rule.FrontView.{FrontView}
use Rattle.front_lock.specs.declared.rule.Stage.TheVariants.{Holds}
use Rattle.front_lock.specs.Passes.{at_stage}
use Rattle.front_lock.specs.Steps.{Finds}

module _ {T : Type 0} where
  pub top_is : (x : Option T) (xs c : List (ℕ × Option T)) → c ≡ (0, x) ∷ xs → c ≡ (0, x) ∷ rest c
  top_is x xs c has = has ∙ ap (λ (z : List (ℕ × Option T)). (0, x) ∷ z) (sym (ap rest has))

  pub one_top : (x y : Option T) (xs ys c : List (ℕ × Option T)) → c ≡ (0, x) ∷ xs → c ≡ (0, y) ∷ ys → x ≡ y
  one_top x y xs ys c a b =
      let e : (let l : List (ℕ × Option T) = (0, x) ∷ xs in l ≡ (0, y) ∷ ys) = sym a ∙ b in
      let h : (let p : ℕ × Option T = (0, x) in p ≡ (0, y)) = cc in
      ap (λ (p : ℕ × Option T). p.1) h

  pub some_is : (x : T) (o : Option T) → Some x ≡ o → IsSome o
  some_is x o e = subst IsSome e refl

  pub one_some : (x y : T) (o : Option T) → Some x ≡ o → o ≡ Some y → x ≡ y
  one_some x y o a b = let e : Some x ≡ Some y = a ∙ b in cc

  module _ {E : Type 0} (shows : T → Contents E) (tie : T → List ℕ) where
    abbrev pub Out : ℕ → Me (Option T) (FrontView E) → Me (Option T) (FrontView E) → T → Type 0
    Out t m m' x = (m' ≡ (at_stage m.0 (Holds t true (shows x) [] []), (0, None) ∷ [])) × Finds shows tie m.0 t x

    abbrev pub Told : ℕ → Me (Option T) (FrontView E) → Me (Option T) (FrontView E) → Type 0
    Told r m m' = (x : T) × (m' ≡ (at_stage m.0 (Holds r true (shows x) [] []), (0, Some x) ∷ m.1)) × Finds shows tie m.0 r x

    -- what was told at the load, after the value was taken from the slot
    pub taken : (start m m' m'' : Me (Option T) (FrontView E)) (r t : ℕ) (got : Option T) (value : T) → m ≡ start → start.1 ≡ [] → r ≡ t → Told r m m'
        → m'.1 ≡ (0, got) ∷ rest m'.1 → m'' ≡ (m'.0, (0, None) ∷ rest m'.1) → got ≡ Some value → Out t start m'' value
    taken start m m' m'' r t got value same empty hit told has after is =
        let x = told.0 in
        let v : x ≡ value = one_some x value got (one_top (Some x) got m.1 (rest m'.1) m'.1 (ap (λ (y : Me (Option T) (FrontView E)). y.1) told.1) has) is in
        let nothing : rest m'.1 ≡ [] = ap (λ (y : Me (Option T) (FrontView E)). rest y.1) told.1 ∙ ap (λ (y : Me (Option T) (FrontView E)). y.1) same ∙ empty in
        let o : Out r m m'' x = (after ∙ (λ i. ((told.1 i).0, (0, None) ∷ nothing i)), told.2) in
        subst (λ (y : T). Out t start m'' y) v (subst (λ (y : ℕ). Out y start m'' x) hit (subst (λ (y : Me (Option T) (FrontView E)). Out r y m'' x) same o))
