-- A property whose key comes behind all keys of a map is put at its end.
use Rattle.std.proofs.Common.{◌≡◌, ◌<◌, ◌∙◌, ℕ, ◌+◌, List, [], ◌∷◌, ◌++◌, refl, ap, sym, subst, drop, get_or, length, take}
use Rattle.std.specs.Ordering.{match_ordering, ordering_reverse}
use Rattle.std.specs.declared.cmp.Ordering.{Ordering}
use Rattle.std.specs.declared.cmp.Ordering.TheVariants.{Less, Greater}
use Rattle.std.proofs.lemmas.Cmp.{nat_list_cmp_total}
use Rattle.std.proofs.lemmas.List.{at_drop_more, take_more, take-append-drop}
use Rattle.prop_map.specs.declared.properties.Property.{Property}
use Rattle.prop_map.specs.declared.value.Value.{Value}
use Rattle.prop_map.specs.Keys.{folded, key_order}
use Rattle.prop_map.specs.Maps.{IsInOrder, put}

before_each : (q : Property) (ps : List Property) (p : Property) (qs : List Property) → IsInOrder ((q ∷ ps) ++ p ∷ qs) → key_order q.key p.key ≡ Less
before_each q [] p qs order = order.0
before_each q (r ∷ ps) p qs order = nat_list_cmp_total.trans (folded q.key) (folded r.key) (folded p.key) order.0 (before_each r ps p qs order.1)

behind_each : (q : Property) (ps : List Property) (p : Property) (qs : List Property) → IsInOrder ((q ∷ ps) ++ p ∷ qs) → key_order p.key q.key ≡ Greater
behind_each q ps p qs order = nat_list_cmp_total.antisymm (folded p.key) (folded q.key) ∙ ap ordering_reverse (before_each q ps p qs order)

put_last : (ps : List Property) (p : Property) (qs : List Property) → IsInOrder (ps ++ p ∷ qs) → put ps p.key p.value ≡ ps ++ p ∷ []
put_last [] p qs order = refl
put_last (q ∷ ps) p qs order =
    ap (λ (o : Ordering). match_ordering o (p ∷ q ∷ ps) (p ∷ ps) (q ∷ put ps p.key p.value)) (behind_each q ps p qs order)
    ∙ ap (λ l. q ∷ l) (put_last ps p qs order.1)

parted : (list : List Property) (i : ℕ) (p : Property) → i < length list → p ≡ get_or list i p → list ≡ take i list ++ p ∷ drop (i + 1) list
parted list i p within is =
    sym (take-append-drop i list)
    ∙ at_drop_more (λ l. take i list ++ l) list i p within
    ∙ ap (λ x. take i list ++ x ∷ drop (i + 1) list) (sym is)

-- the properties of a map, put into an empty one in their order
put_next : (list : List Property) (i : ℕ) (p : Property) → IsInOrder list → i < length list → p ≡ get_or list i p → put (take i list) p.key p.value ≡ take (i + 1) list
put_next list i p order within is =
    put_last (take i list) p (drop (i + 1) list) (subst IsInOrder (parted list i p within is) order)
    ∙ ap (λ x. take i list ++ x ∷ []) is
    ∙ sym (take_more list i p within)

-- the loop's step
pub next_in_order : (list : List Property) (i : ℕ) (p : Property) (so_far more : List Property) (key : List ℕ) (value : Value)
    → IsInOrder list → i < length list → p ≡ get_or list i p → key ≡ p.key → value ≡ p.value → so_far ≡ take i list → more ≡ put so_far key value → more ≡ take (i + 1) list
next_in_order list i p so_far more key value order within is same_key same_value so_far_is puts =
    puts
    ∙ ap (λ k. put so_far k value) same_key
    ∙ ap (λ v. put so_far p.key v) same_value
    ∙ ap (λ ps. put ps p.key p.value) so_far_is
    ∙ put_next list i p order within is
