-- Posts at their places, and sums over the views of all passes.
use Rattle.std.proofs.Common.{◌≡◌, ◌≢◌, ◌⊎◌, ℕ, zero, suc, ◌+◌, ◌<◌, ◌≤◌, Bool, true, false, true≢false, List, [], ◌∷◌, ◌++◌, length, append_assoc, set, eqb, ltb, if◌then◌else◌, refl, sym, ap, ◌∙◌, subst, inl, inr, ⊎_elim, arith}
use mathlib.Core.Option.{some, some-injective, some-ne-none}
use lib.ListN.{get_elem?}
use Rattle.std.proofs.lemmas.Bool.Decides.{nat_tests}
use Rattle.atomic_table.proofs.Lists.{at_set, at_longer}
use Rattle.event_admin.specs.declared.post.Post.{Post}
use Rattle.event_admin.specs.declared.rule.Placed.{Placed}
use Rattle.event_admin.specs.declared.rule.Hand.{Hand}
use Rattle.event_admin.specs.Hands.{placed, times, once_below, Stand, Behind, Rises, AllRise, flat, lists_of, max_of, or_gets, or_taken}
use Rattle.event_admin.specs.Rule.{total}

pub times_append : (k : ℕ) (xs ys : List Placed) → times k (xs ++ ys) ≡ times k xs + times k ys
times_append k [] ys = let n : ℕ = times k ys in let r : n ≡ 0 + n = omega arith in r
times_append k (x ∷ xs) ys = let h = times_append k xs ys in let n : ℕ = if eqb k x.place then 1 else 0 in let h' : times k (xs ++ ys) ≡ times k xs + times k ys = h in
    let r : n + times k (xs ++ ys) ≡ (n + times k xs) + times k ys = omega arith in r

pub flat_append : (xss yss : List (List Placed)) → flat (xss ++ yss) ≡ flat xss ++ flat yss
flat_append [] yss = refl
flat_append (xs ∷ xss) yss = ap (λ l. xs ++ l) (flat_append xss yss) ∙ sym (append_assoc xs (flat xss) (flat yss))

pub stand_longer : (whole more : List Post) (xs : List Placed) → Stand whole xs → Stand (whole ++ more) xs
stand_longer whole more [] h = tt
stand_longer whole more (x ∷ xs) h = (at_longer whole more x.place x.post h.0, stand_longer whole more xs h.1)

pub stand_append : (whole : List Post) (xs ys : List Placed) → Stand whole xs → Stand whole ys → Stand whole (xs ++ ys)
stand_append whole [] ys h g = g
stand_append whole (x ∷ xs) ys h g = (h.0, stand_append whole xs ys h.1 g)

pub rise_append : (xss yss : List (List Placed)) → AllRise xss → AllRise yss → AllRise (xss ++ yss)
rise_append [] yss h g = g
rise_append (xs ∷ xss) yss h g = (h.0, rise_append xss yss h.1 g)

pub there : {A : Type 0} → (l : List A) (i : ℕ) (a : A) → get_elem? l i ≡ some a → i < length l
there [] i a at = absurd (some-ne-none a (sym at))
there (x ∷ xs) zero a at = omega arith
there (x ∷ xs) (suc i) a at = let h = there xs i a at in omega arith

behind_snoc : (n k : ℕ) (p : Post) (xs : List Placed) → Behind n xs → n < k → Behind n (xs ++ placed k p ∷ [])
behind_snoc n k p [] h less = (less, tt)
behind_snoc n k p (x ∷ xs) h less = (h.0, behind_snoc n k p xs h.1 less)

-- what goes to the end of the list stands behind what stands in it
pub rises_snoc : (whole : List Post) (k : ℕ) (p : Post) (xs : List Placed) → Stand whole xs → length whole ≤ k → Rises xs → Rises (xs ++ placed k p ∷ [])
rises_snoc whole k p [] s long h = (tt, tt)
rises_snoc whole k p (x ∷ xs) s long h = (behind_snoc x.place k p xs h.0 (let t = there whole x.place x.post s.0 in omega arith), rises_snoc whole k p xs s.1 long h.1)

pub total_set : (f : Hand → ℕ) (views : List Hand) (port : ℕ) (v w : Hand) → get_elem? views port ≡ some v → total f (set views port w) + f v ≡ total f views + f w
total_set f [] port v w at = absurd (some-ne-none v (sym at))
total_set f (x ∷ xs) zero v w at = let e : f x ≡ f v = ap f (some-injective x v at) in let a : ℕ = f x in let b : ℕ = f v in let c : ℕ = f w in let t : ℕ = total f xs in let e' : a ≡ b = e in
    let r : (c + t) + b ≡ (a + t) + c = omega arith in r
total_set f (x ∷ xs) (suc i) v w at = let h = total_set f xs i v w at in let a : ℕ = f x in let b : ℕ = f v in let c : ℕ = f w in let t : ℕ = total f xs in let s : ℕ = total f (set xs i w) in
    let h' : s + b ≡ t + c = h in let r : (a + s) + b ≡ (a + t) + c = omega arith in r

pub total_snoc : (f : Hand → ℕ) (views : List Hand) (w : Hand) → total f (views ++ w ∷ []) ≡ total f views + f w
total_snoc f [] w = omega arith
total_snoc f (x ∷ xs) w = let h = total_snoc f xs w in let a : ℕ = f x in let c : ℕ = f w in let t : ℕ = total f xs in let s : ℕ = total f (xs ++ w ∷ []) in
    let h' : s ≡ t + c = h in let r : a + s ≡ (a + t) + c = omega arith in r

pub total_at : (f : Hand → ℕ) (views : List Hand) (port : ℕ) (v : Hand) → get_elem? views port ≡ some v → f v ≤ total f views
total_at f [] port v at = absurd (some-ne-none v (sym at))
total_at f (x ∷ xs) zero v at = let e : f x ≡ f v = ap f (some-injective x v at) in let a : ℕ = f x in let b : ℕ = f v in let t : ℕ = total f xs in let e' : a ≡ b = e in let r : b ≤ a + t = omega arith in r
total_at f (x ∷ xs) (suc i) v at = let h = total_at f xs i v at in let a : ℕ = f x in let b : ℕ = f v in let t : ℕ = total f xs in let h' : b ≤ t = h in let r : b ≤ a + t = omega arith in r

none_left : (f g : Hand → ℕ) (views : List Hand) → ((i : ℕ) (v : Hand) → get_elem? views i ≡ some v → f v ≡ 0 → g v ≡ 0) → total f views ≡ 0 → total g views ≡ 0
none_left f g [] h z = refl
none_left f g (x ∷ xs) h z = let a : ℕ = f x in let b : ℕ = g x in let t : ℕ = total f xs in let s : ℕ = total g xs in let z' : a + t ≡ 0 = z in
    let e : b ≡ 0 = h 0 x refl (omega arith) in let i : s ≡ 0 = none_left f g xs (λ j v at. h (suc j) v at) (let q : t ≡ 0 = omega arith in q) in let r : b + s ≡ 0 = omega arith in r

-- where one pass has all of f, and who has none of f has none of g, it has all of g
pub only_one : (f g : Hand → ℕ) (views : List Hand) (port : ℕ) (v : Hand) → ((i : ℕ) (u : Hand) → get_elem? views i ≡ some u → f u ≡ 0 → g u ≡ 0) → get_elem? views port ≡ some v → total f views ≡ f v
    → total g views ≡ g v
only_one f g [] port v h at z = absurd (some-ne-none v (sym at))
only_one f g (x ∷ xs) zero v h at z = let e : f x ≡ f v = ap f (some-injective x v at) in let e2 : g x ≡ g v = ap g (some-injective x v at) in
    let a : ℕ = f x in let a' : ℕ = f v in let b : ℕ = g x in let b' : ℕ = g v in let t : ℕ = total f xs in let s : ℕ = total g xs in
    let z' : a + t ≡ a' = z in let e' : a ≡ a' = e in let e2' : b ≡ b' = e2 in
    let i : s ≡ 0 = none_left f g xs (λ j u at'. h (suc j) u at') (let q : t ≡ 0 = omega arith in q) in let r : b + s ≡ b' = omega arith in r
only_one f g (x ∷ xs) (suc i) v h at z = let k = total_at f xs i v at in
    let a : ℕ = f x in let a' : ℕ = f v in let b : ℕ = g x in let b' : ℕ = g v in let t : ℕ = total f xs in let s : ℕ = total g xs in
    let z' : a + t ≡ a' = z in let k' : a' ≤ t = k in
    let n : b ≡ 0 = h 0 x refl (let q : a ≡ 0 = omega arith in q) in
    let m : s ≡ b' = only_one f g xs i v (λ j u at'. h (suc j) u at') at (let q : t ≡ a' = omega arith in q) in let r : b + s ≡ b' = omega arith in r

-- 1 more at the place n
pub once_snoc : (k n : ℕ) → once_below k n + (if eqb k n then 1 else 0) ≡ once_below k (n + 1)
once_snoc k n = grind (arith, nat_tests)

pub each_set : (F : ℕ → Hand → Type 0) (views : List Hand) (port : ℕ) (w : Hand) → F port w → ((j : ℕ) (u : Hand) → j ≢ port → get_elem? views j ≡ some u → F j u) → (j : ℕ) (u : Hand) → get_elem? (set views port w) j ≡ some u → F j u
each_set F views port w mine others j u e = ⊎_elim (λ (x : (j ≡ port) × (w ≡ u)). subst (λ (y : ℕ × Hand). F y.0 y.1) (λ i. (sym x.0 i, x.1 i)) mine)
    (λ (x : (j ≢ port) × (get_elem? views j ≡ some u)). others j u x.0 x.1) (at_set views port j w u e)

-- a place that is not below the one list and below the other tells them apart, so they are equally long
pub once_unique : (a b : ℕ) → ((k : ℕ) → once_below k a ≡ once_below k b) → a ≡ b
once_unique a b h = let p = h a in let q = h b in grind (arith, nat_tests)

pub none_below : (k : ℕ) → 0 ≡ once_below k 0
none_below k = grind (arith, nat_tests)

pub at_snoc_place : (l : List Hand) (a b : Hand) (j : ℕ) → get_elem? (l ++ a ∷ []) j ≡ some b → (get_elem? l j ≡ some b) ⊎ ((j ≡ length l) × (a ≡ b))
at_snoc_place [] a b zero e = inr (refl, some-injective a b e)
at_snoc_place [] a b (suc j) e = absurd (some-ne-none b (sym e))
at_snoc_place (x ∷ xs) a b zero e = inl e
at_snoc_place (x ∷ xs) a b (suc j) e = ⊎_elim (λ h. inl h) (λ h. inr (ap suc h.0, h.1)) (at_snoc_place xs a b j e)

-- what holds of a publisher's lists, and of none where it has no part
pub in_lists : (u : Hand) (P : List (List Placed) → Type 0) → (0 < u.parts → P (u.mine ∷ u.joined)) → (u.parts ≡ 0 → P []) → P (lists_of u)
in_lists u P some_part none = go (ltb 0 u.parts) refl
  where
    go : (b : Bool) → ltb 0 u.parts ≡ b → P (if b then u.mine ∷ u.joined else [])
    go true e = some_part (grind (arith, nat_tests))
    go false e = none (grind (arith, nat_tests))

pub max_under : (a b n : ℕ) → a ≤ n → b ≤ n → max_of a b ≤ n
max_under a b n h g = go (ltb a b)
  where
    go : (c : Bool) → (if c then b else a) ≤ n
    go true = g
    go false = h

pub gets_both : (a b : Bool) (port other reader : ℕ) (vt ut taken : List Post) → ¬ (other ≡ port) → (a ≡ true → (port ≡ reader) × (vt ≡ taken)) → (b ≡ true → (other ≡ reader) × (ut ≡ taken)) → or_gets a b ≡ true
    → (port ≡ (if b then port else reader)) × (or_taken a vt ut ≡ taken)
gets_both true true port other reader vt ut taken two f g e = absurd (two ((g refl).0 ∙ sym (f refl).0))
gets_both true false port other reader vt ut taken two f g e = f refl
gets_both false true port other reader vt ut taken two f g e = (refl, (g refl).1)
gets_both false false port other reader vt ut taken two f g e = absurd (true≢false (sym e))

pub gets_else : (b : Bool) (port other reader j : ℕ) → j ≢ other → (b ≡ true → other ≡ reader) → j ≡ reader → j ≡ (if b then port else reader)
gets_else true port other reader j apart f e = absurd (apart (e ∙ sym (f refl)))
gets_else false port other reader j apart f e = e
