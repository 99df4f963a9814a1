-- The first pass, and the last.
use Rattle.std.proofs.Common.{◌≡◌, ◌≢◌, ℕ, zero, suc, ◌<◌, ◌≤◌, Bool, List, [], ◌∷◌, refl, sym, ap, ◌∙◌, subst, inl, ⊎_elim, arith}
use mathlib.Core.Option.{some, none, some-injective, some-ne-none}
use mathlib.Core.Option as maybe
use mathlib.Core.Logic.{dite}
use native.Mathlib.Decide.{ℕ_discrete}
use lib.ListN.{get_elem?}
use Rattle.std.specs.Prelude.{Option, Some}
use Rattle.atomic_table.specs.Table.{State, Me, Final, Seen}
use Rattle.front_lock.specs.Histories.{In, Owners, Extends, Distinct, AllEnded}
use Rattle.front_lock.specs.declared.rule.Contents.{Contents}
use Rattle.front_lock.specs.declared.rule.FrontView.{FrontView}
use Rattle.front_lock.specs.declared.rule.Stage.TheVariants.{Idle, Holds}
use Rattle.front_lock.specs.Keepings.{kept_by}
use Rattle.front_lock.specs.Passes.{contents, known, names}
use Rattle.front_lock.specs.Rule.{Fits, Named, AtHome, IsOut, Kept}
use Rattle.front_lock.proofs.Histories.{owners_map}
use Rattle.front_lock.proofs.Views.{parts_two}

module _ {T E : Type 0} (shows : T → Contents E) (tie : T → List ℕ) where
  abbrev St : Type 0
  St = State (Option T) (FrontView E)

  abbrev M : Type 0
  M = Me (Option T) (FrontView E)

  -- the first pass, at a value without entries
  pub begins : (x : T) → shows x ≡ contents [] [] → Kept shows tie record { words = 1 ∷ 1 ∷ []; homes = some (Some x) ∷ []; views = known (tie x) 64 0 (Some 0) [] [] [] Idle ∷ [] }
  begins x empty = let v : FrontView E = known (tie x) 64 0 (Some 0) [] [] [] Idle in record {
    next = 1;
    serving = 1;
    top = 1;
    shown = contents [] [];
    tied = tie x;
    words = refl;
    order = omega arith;
    small = omega arith;
    top_near = omega arith;
    each = λ j u e. subst (Fits 1 1 1 (contents [] []) (some (Some x) ∷ []) (tie x)) (one v j u e).1 record {
      tie = λ _. refl;
      spent = λ none. absurd (omega arith);
      extends = record { rest = []; is = refl; foreign = tt };
      ended = tt;
      kept = refl;
      distinct = ((λ p. absurd p), tt);
      below = λ n p. ⊎_elim (λ (is : n ≡ 0). let q : n < 1 = omega arith in q) (λ (is : ⊥). absurd is) p;
      staged = tt;
    };
    apart = λ j k u z e f n p q. (one v j u e).0 ∙ sym (one v k z f).0;
    turns = λ j k u z e f n p q. (one v j u e).0 ∙ sym (one v k z f).0;
    place = inl (x, refl, empty, (let b' : 1 ≤ 1 = omega arith in b'), refl);
    whole = refl;
    owners = tt;
    keepers = tt;
  }
    where
      one : (v : FrontView E) (j : ℕ) (u : FrontView E) → get_elem? (v ∷ []) j ≡ some u → (j ≡ 0) × (v ≡ u)
      one v zero u e = (refl, some-injective v u e)
      one v (suc j) u e = absurd (some-ne-none u (sym e))

  -- what the pass with all parts knows of the value that it gets back
  pub record Whole (v : FrontView E) (xs : List (Option T)) : Type 0 where
    pub value : T
    pub at : get_elem? xs 0 ≡ some (Some value)
    pub extends : Extends (names v) v.seen (shows value).entries
    pub owned : Owners (λ n. In n (names v)) (shows value).entries
    pub ended_there : AllEnded v.joined (shows value).entries
    pub kept : kept_by (names v) (shows value).kept ≡ v.kept
    pub keepers : Owners (λ n. In n (names v)) (shows value).kept
    pub distinct : Distinct (names v)
    pub tied : tie value ≡ v.tie

  pub closes : (id : ℕ) (v : FrontView E) (ws : List ℕ) (xs : List (Option T)) → v.parts ≡ 64 → v.stage ≡ Idle → Final (Seen (Kept shows tie) id v) ws xs → Whole v xs
  closes id v ws xs all idle fin =
      let s = fin.0 in let r = fin.1.0 in let at = fin.1.1 in
      let alone : (j : ℕ) (u : FrontView E) → get_elem? s.views j ≡ some u → j ≢ id → u.parts ≡ 0 = λ j u e ne. (let h = parts_two s.views j id u v ne e at in let w = r.whole in omega arith) in
      let same : (j : ℕ) (u : FrontView E) → get_elem? s.views j ≡ some u → j ≡ id → v ≡ u = λ j u e hit. some-injective v u (sym at ∙ subst (λ k. get_elem? s.views k ≡ some u) hit e) in
      let mine : (n : ℕ) → Named s.views n → In n (names v) = λ n o. dite (ℕ_discrete o.0 id)
      (λ hit. subst (λ (y : FrontView E). In n (names y)) (sym (same o.0 o.1 o.2 hit)) o.3)
      (λ miss. absurd (subst (In n) ((r.each o.0 o.1 o.2).spent (alone o.0 o.1 o.2 miss)).0 o.3)) in
      ⊎_elim
      (λ (home : AtHome shows tie r.tied r.serving r.top r.shown s.homes). record {
        value = home.0;
        at = fin.4 0 (Some home.0) (ap (λ (h : List (maybe.Option (Option T))). get_elem? h 0) home.1);
        extends = subst (λ (c : Contents E). Extends (names v) v.seen c.entries) (sym home.2) (r.each id v at).extends;
        distinct = (r.each id v at).distinct;
        ended_there = subst (λ (c : Contents E). AllEnded v.joined c.entries) (sym home.2) (r.each id v at).ended;
        kept = subst (λ (c : Contents E). kept_by (names v) c.kept ≡ v.kept) (sym home.2) (r.each id v at).kept;
        tied = home.4 ∙ sym ((r.each id v at).tie (omega arith));
        owned = subst (λ (c : Contents E). Owners (λ n. In n (names v)) c.entries) (sym home.2) (owners_map (Named s.views) (λ n. In n (names v)) r.shown.entries mine r.owners);
        keepers = subst (λ (c : Contents E). Owners (λ n. In n (names v)) c.kept) (sym home.2) (owners_map (Named s.views) (λ n. In n (names v)) r.shown.kept mine r.keepers);
      })
      (λ (out : IsOut shows tie s.homes s.views). let o = out.1 in absurd (dite (ℕ_discrete o.0 id)
      (λ hit. differ (sym idle ∙ ap (λ (y : FrontView E). y.stage) (same o.0 o.1 o.7 hit) ∙ o.8))
      (λ miss. differ (sym ((r.each o.0 o.1 o.7).spent (alone o.0 o.1 o.7 miss)).1 ∙ o.8))))
      r.place
    where
      differ : {t : ℕ} {fresh : Bool} {l : Contents E} {ns : List ℕ} {also : List (ℕ × E)} → Idle ≡ Holds t fresh l ns also → ⊥
      differ e = cc
