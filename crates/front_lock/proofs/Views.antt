-- Lists of views, of which one changes.
use Rattle.std.proofs.Common.{◌≡◌, ◌≢◌, ℕ, zero, suc, ◌+◌, ◌<◌, ◌≤◌, List, [], ◌∷◌, ◌++◌, length, set, refl, sym, ap, ◌∙◌, subst, ⊎_elim, arith}
use mathlib.Core.Option.{some, some-injective, some-ne-none}
use mathlib.Core.Logic.{dite}
use native.Mathlib.Decide.{ℕ_discrete}
use lib.ListN.{get_elem?}
use Rattle.atomic_table.proofs.Lists.{at_set, set_here, set_else}
use Rattle.front_lock.specs.Passes.{names}
use Rattle.front_lock.specs.Rule.{parts_of}
use Rattle.front_lock.specs.declared.rule.FrontView.{FrontView}

module _ {E : Type 0} where
  pub parts_set : (views : List (FrontView E)) (id : ℕ) (v w : FrontView E) → get_elem? views id ≡ some v → parts_of (set views id w) + v.parts ≡ parts_of views + w.parts
  parts_set [] id v w at = absurd (some-ne-none v (sym at))
  parts_set (x ∷ xs) zero v w at = let e : x.parts ≡ v.parts = ap (λ (y : FrontView E). y.parts) (some-injective x v at) in omega arith
  parts_set (x ∷ xs) (suc i) v w at = let h = parts_set xs i v w at in omega arith

  pub parts_snoc : (views : List (FrontView E)) (w : FrontView E) → parts_of (views ++ w ∷ []) ≡ parts_of views + w.parts
  parts_snoc [] w = omega arith
  parts_snoc (x ∷ xs) w = let h = parts_snoc xs w in omega arith

  pub parts_at : (views : List (FrontView E)) (id : ℕ) (v : FrontView E) → get_elem? views id ≡ some v → v.parts ≤ parts_of views
  parts_at [] id v at = absurd (some-ne-none v (sym at))
  parts_at (x ∷ xs) zero v at = let e : x.parts ≡ v.parts = ap (λ (y : FrontView E). y.parts) (some-injective x v at) in omega arith
  parts_at (x ∷ xs) (suc i) v at = let h = parts_at xs i v at in omega arith

  -- two passes have no more than all parts
  pub parts_two : (views : List (FrontView E)) (i j : ℕ) (v w : FrontView E) → i ≢ j → get_elem? views i ≡ some v → get_elem? views j ≡ some w → v.parts + w.parts ≤ parts_of views
  parts_two [] i j v w ne at at' = absurd (some-ne-none v (sym at))
  parts_two (x ∷ xs) zero zero v w ne at at' = absurd (ne refl)
  parts_two (x ∷ xs) zero (suc j) v w ne at at' = let e : x.parts ≡ v.parts = ap (λ (y : FrontView E). y.parts) (some-injective x v at) in let h = parts_at xs j w at' in omega arith
  parts_two (x ∷ xs) (suc i) zero v w ne at at' = let e : x.parts ≡ w.parts = ap (λ (y : FrontView E). y.parts) (some-injective x w at') in let h = parts_at xs i v at in omega arith
  parts_two (x ∷ xs) (suc i) (suc j) v w ne at at' = let h = parts_two xs i j v w (λ e. ne (ap suc e)) at at' in omega arith

  pub there : (views : List (FrontView E)) (id : ℕ) (v : FrontView E) → get_elem? views id ≡ some v → id < length views
  there [] id v at = absurd (some-ne-none v (sym at))
  there (x ∷ xs) zero v at = omega arith
  there (x ∷ xs) (suc i) v at = let h = there xs i v at in omega arith

  module _ (views : List (FrontView E)) (id : ℕ) (v w : FrontView E) (at : get_elem? views id ≡ some v) where
    pub each_set : (P : FrontView E → Type 0) → ((j : ℕ) (u : FrontView E) → j ≢ id → get_elem? views j ≡ some u → P u) → P w → (j : ℕ) (u : FrontView E) → get_elem? (set views id w) j ≡ some u → P u
    each_set P others mine j u e = ⊎_elim
        (λ (x : (j ≡ id) × (w ≡ u)). subst P x.1 mine)
        (λ (x : (j ≢ id) × (get_elem? views j ≡ some u)). others j u x.0 x.1)
        (at_set views id j w u e)

    abbrev Was : ℕ → FrontView E → Type 0
    Was j u = (y : FrontView E) × (get_elem? views j ≡ some y) × ((names u) ≡ (names y))

    -- a view has the names that the view in its place had
    pub was : (names w) ≡ (names v) → (j : ℕ) (u : FrontView E) → get_elem? (set views id w) j ≡ some u → Was j u
    was same j u e = ⊎_elim
        (λ (x : (j ≡ id) × (w ≡ u)). let r : Was j u = (v, subst (λ k. get_elem? views k ≡ some v) (sym x.0) at, ap (λ (y : FrontView E). (names y)) (sym x.1) ∙ same) in r)
        (λ (x : (j ≢ id) × (get_elem? views j ≡ some u)). let r : Was j u = (u, x.1, refl) in r)
        (at_set views id j w u e)

    abbrev Now : ℕ → FrontView E → Type 0
    Now j u = (y : FrontView E) × (get_elem? (set views id w) j ≡ some y) × ((names y) ≡ (names u))

    pub now : (names w) ≡ (names v) → (j : ℕ) (u : FrontView E) → get_elem? views j ≡ some u → Now j u
    now same j u e = dite (ℕ_discrete j id)
        (λ hit. let vu : v ≡ u = some-injective v u (sym at ∙ subst (λ k. get_elem? views k ≡ some u) hit e) in
        let r : Now j u = (w, subst (λ k. get_elem? (set views id w) k ≡ some w) (sym hit) (set_here views id w (there views id v at)), same ∙ ap (λ (y : FrontView E). (names y)) vu) in r)
        (λ miss. let r : Now j u = (u, set_else views id j w miss ∙ e, refl) in r)
