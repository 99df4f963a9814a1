-- Properties that stand in order are set one after the other at the end.
use Rattle.std.proofs.Common.{inl, inr, ◌≡◌, ◌<◌, ℕ, zero, suc, ◌+◌, List, [], ◌∷◌, ◌++◌, length, get_or, take, ap, sym, ◌∙◌, refl, cond, arith, Bool, true, false, add-one, append-nil}
use Rattle.std.specs.Prelude.{filter, not}
use Rattle.std.specs.Ordering.{match_ordering, ordering_reverse}
use Rattle.std.specs.declared.cmp.Ordering.TheVariants.{Less, Greater}
use Rattle.std.proofs.lemmas.Cmp.{nat_list_cmp_total}
use Rattle.prop_map.specs.declared.properties.Property.{Property}
use Rattle.prop_map.specs.declared.value.Value.{Value}
use Rattle.prop_map.specs.Keys.{folded, key_order}
use Rattle.prop_map.specs.Maps.{ComesBefore, IsInOrder, put}
use Rattle.service_registry.specs.Services.{is_private, published}
use Rattle.component_state.proofs.Among.{Among, among_filter}

before_each : (key : List ℕ) (ps : List Property) (k : ℕ) (d : Property) → ComesBefore key ps → IsInOrder ps → k < length ps → key_order key (get_or ps k d).key ≡ Less
before_each key [] k d before order h = absurd (omega (arith, h))
before_each key (p ∷ ps) zero d before order h = before
before_each key (p ∷ ps) (suc k) d before order h =
    nat_list_cmp_total.trans (folded key) (folded p.key) (folded (get_or ps k d).key) before (before_each p.key ps k d order.0 order.1 (omega (arith, h)))

-- those before a place come before the one at it
earlier : (ps : List Property) (k : ℕ) (d q : Property) → IsInOrder ps → k < length ps → Among (take k ps) q → key_order q.key (get_or ps k d).key ≡ Less
earlier ps zero d q order h here = absurd here
earlier [] (suc k) d q order h here = absurd (omega (arith, h))
earlier (p ∷ ps) (suc k) d q order h (inl same) =
    ap (λ (x : Property). key_order x.key (get_or ps k d).key) (sym same) ∙ before_each p.key ps k d order.0 order.1 (omega (arith, h))
earlier (p ∷ ps) (suc k) d q order h (inr later) = earlier ps k d q order.1 (omega (arith, h)) later

put_behind : (key : List ℕ) (value : Value) (ps : List Property) → ((q : Property) → Among ps q → key_order q.key key ≡ Less) → put ps key value ≡ ps ++ record { key = key; value = value } ∷ []
put_behind key value [] each = refl
put_behind key value (p ∷ ps) each =
    ap (λ o. match_ordering o (record { key = key; value = value } ∷ p ∷ ps) (record { key = key; value = value } ∷ ps) (p ∷ put ps key value))
    (nat_list_cmp_total.antisymm (folded key) (folded p.key) ∙ ap ordering_reverse (each p (inl refl)))
    ∙ ap (λ w. p ∷ w) (put_behind key value ps (λ q later. each q (inr later)))

-- what a test keeps of those before a place and the one at it
taken_next : (t : Property → Bool) (ps : List Property) (k : ℕ) (p : Property) → k < length ps → p ≡ get_or ps k p → filter t (take (suc k) ps) ≡ filter t (take k ps) ++ cond (t p) (p ∷ []) []
taken_next t [] k p within is = absurd (omega (arith, within))
taken_next t (q ∷ qs) zero p within is = ap (λ (x : Property). cond (t x) (x ∷ []) []) (sym is)
taken_next t (q ∷ qs) (suc k) p within is =
    ap (λ w. cond (t q) (q ∷ w) w) (taken_next t qs k p (omega (arith, within)) is) ∙ go (t q) (filter t (take k qs)) (cond (t p) (p ∷ []) [])
  where
    go : (b : Bool) (v w : List Property) → cond b (q ∷ (v ++ w)) (v ++ w) ≡ cond b (q ∷ v) v ++ w
    go true v w = refl
    go false v w = refl

abbrev shows : Property → Bool
shows p = not (is_private p.key)

-- the published ones among those before a place and the one at it
pub published_kept : (ps : List Property) (k : ℕ) (p : Property) → IsInOrder ps → k < length ps → p ≡ get_or ps k p → is_private p.key ≡ false
    → put (published (take k ps)) p.key p.value ≡ published (take (k + 1) ps)
published_kept ps k p order within is shown =
    put_behind p.key p.value (published (take k ps))
    (λ q here. ap (λ (x : Property). key_order q.key x.key) is ∙ earlier ps k p q order within (among_filter shows (take k ps) q here).0)
    ∙ sym (ap (λ n. published (take n ps)) (add-one k) ∙ taken_next shows ps k p within is ∙ ap (λ b. published (take k ps) ++ cond (not b) (p ∷ []) []) shown)

pub published_left : (ps : List Property) (k : ℕ) (p : Property) → k < length ps → p ≡ get_or ps k p → is_private p.key ≡ true → published (take k ps) ≡ published (take (k + 1) ps)
published_left ps k p within is hidden =
    sym (ap (λ n. published (take n ps)) (add-one k) ∙ taken_next shows ps k p within is ∙ ap (λ b. published (take k ps) ++ cond (not b) (p ∷ []) []) hidden ∙ append-nil (published (take k ps)))
