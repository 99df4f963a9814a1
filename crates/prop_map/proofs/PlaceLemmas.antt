-- Where keys stand in a property map, and what the map is after one is set there.
use Rattle.std.proofs.Common.{◌≡◌, refl, sym, ap, ◌∙◌, ℕ, zero, suc, ◌<◌, ◌≤◌, List, [], ◌∷◌, Bool, true, false, cond, length, get_or, arith, Some, None}
use Rattle.std.proofs.Math.ListN.{set}
use Rattle.std.specs.Prelude.{insert, slice_get}
use Rattle.std.specs.List.{AllWithin}
use Rattle.std.specs.List.Sorted.{IsPartitionedBy}
use Rattle.std.specs.Ordering.{is_gt, is_eq, ordering_reverse, match_ordering}
use Rattle.std.specs.declared.cmp.Ordering.{Ordering}
use Rattle.std.specs.declared.cmp.Ordering.TheVariants.{Less, Equal, Greater}
use Rattle.std.proofs.lemmas.Cmp.{nat_list_cmp_total}
use Rattle.std.proofs.lemmas.Map.Text.{is_eq-slice_cmp}
use Rattle.prop_map.specs.declared.value.Value.{Value}
use Rattle.prop_map.specs.declared.properties.Property.{Property}
use Rattle.prop_map.specs.Keys.{key_order, same_key, folded}
use Rattle.prop_map.specs.Maps.{get, put, ComesBefore, IsInOrder}
use Rattle.prop_map.specs.Places.{goes_after, place_of, has_key_at, value_at}

turned : (a b : List ℕ) → key_order a b ≡ ordering_reverse (key_order b a)
turned a b = nat_list_cmp_total.antisymm (folded a) (folded b)

trans : (a b c : List ℕ) → key_order a b ≡ Less → key_order b c ≡ Less → key_order a c ≡ Less
trans a b c = nat_list_cmp_total.trans (folded a) (folded b) (folded c)

reverse_greater : (o : Ordering) → is_gt o ≡ true → ordering_reverse o ≡ Less
reverse_greater Less h = cc
reverse_greater Equal h = cc
reverse_greater Greater h = refl

before_from_after : (key : List ℕ) (p : Property) → goes_after key p ≡ true → key_order p.key key ≡ Less
before_from_after key p h = turned p.key key ∙ reverse_greater (key_order key p.key) h

after_from_before : (key : List ℕ) (p : Property) → key_order p.key key ≡ Less → goes_after key p ≡ true
after_from_before key p h = ap is_gt (turned key p.key ∙ ap ordering_reverse h)

-- a key before the first is before each
before_each : (key : List ℕ) (ps : List Property) (k : ℕ) (d : Property) → ComesBefore key ps → IsInOrder ps → k < length ps → key_order key (get_or ps k d).key ≡ Less
before_each key [] k d before order h = absurd (omega arith)
before_each key (p ∷ ps) zero d before order h = before
before_each key (p ∷ ps) (suc k) d before order h = trans key p.key (get_or ps k d).key before (before_each p.key ps k d order.0 order.1 (omega arith))

-- the properties that come before a key are the first ones
pub order_parts : (key : List ℕ) (ps : List Property) → IsInOrder ps → IsPartitionedBy (goes_after key) ps
order_parts key [] order i j d h k e = absurd (omega arith)
order_parts key (p ∷ ps) order zero zero d h k e = e
order_parts key (p ∷ ps) order zero (suc j) d h k e =
    after_from_before key p (trans p.key (get_or ps j d).key key (before_each p.key ps j d order.0 order.1 (omega arith)) (before_from_after key (get_or ps j d) e))
order_parts key (p ∷ ps) order (suc i) zero d h k e = absurd (omega arith)
order_parts key (p ∷ ps) order (suc i) (suc j) d h k e = order_parts key ps order.1 i j d (omega arith) (omega arith) e

pub place_from_point : (key : List ℕ) (ps : List Property) (i : ℕ) → i ≤ length ps → AllWithin (λ p. goes_after key p ≡ true) ps 0 i → AllWithin (λ p. goes_after key p ≡ false) ps i (length ps) → i ≡ place_of key ps
place_from_point key [] i h before after = omega arith
place_from_point key (p ∷ ps) zero h before after = sym (ap (λ b. cond b (suc (place_of key ps)) 0) (after 0 p (omega arith) (omega arith)))
place_from_point key (p ∷ ps) (suc i) h before after =
    ap suc (place_from_point key ps i (omega arith) (λ k d l m. before (suc k) d (omega arith) (omega arith)) (λ k d l m. after (suc k) d (omega arith) (omega arith)))
    ∙ sym (ap (λ b. cond b (suc (place_of key ps)) 0) (before 0 p (omega arith) (omega arith)))

same_is_equal : (a b : List ℕ) → is_eq (key_order a b) ≡ same_key a b
same_is_equal a b = is_eq-slice_cmp (folded a) (folded b)

-- a key before the first is nowhere
get_before : (key : List ℕ) (ps : List Property) → ComesBefore key ps → IsInOrder ps → get ps key ≡ None
get_before key [] before order = refl
get_before key (p ∷ ps) before order =
    ap (λ b. cond b (Some p.value) (get ps key)) (sym (same_is_equal key p.key) ∙ ap is_eq before) ∙ get_before key ps (below ps order.0) order.1 where
      below : (qs : List Property) → ComesBefore p.key qs → ComesBefore key qs
      below [] h = tt
      below (q ∷ qs) h = trans key p.key q.key before h

-- the map after a key was set at a place, where it stands already or not
abbrev pub put_there : List ℕ → Value → List Property → ℕ → Bool → List Property
put_there key v ps i true = set ps i (record { key = key; value = v })
put_there key v ps i false = insert ps i (record { key = key; value = v })

after_is : (key : List ℕ) (p : Property) (o : Ordering) → key_order key p.key ≡ o → goes_after key p ≡ is_gt o
after_is key p o e = ap is_gt e

pub same_is : (key : List ℕ) (p : Property) (o : Ordering) → key_order key p.key ≡ o → same_key key p.key ≡ is_eq o
same_is key p o e = sym (same_is_equal key p.key) ∙ ap is_eq e

-- the value at a key is that of the property where it would stand, if that has the key
pub get_at_place : (key : List ℕ) (ps : List Property) → IsInOrder ps → get ps key ≡ value_at key (slice_get ps (place_of key ps))
get_at_place key [] order = refl
get_at_place key (p ∷ ps) order = by_order (get_at_place key ps order.1) (key_order key p.key) refl where
  by_order : get ps key ≡ value_at key (slice_get ps (place_of key ps)) → (o : Ordering) → key_order key p.key ≡ o → get (p ∷ ps) key ≡ value_at key (slice_get (p ∷ ps) (place_of key (p ∷ ps)))
  by_order rest Less e = get_before key (p ∷ ps) e order
      ∙ sym (ap (λ b. value_at key (slice_get (p ∷ ps) (cond b (suc (place_of key ps)) 0))) (after_is key p Less e) ∙ ap (λ b. cond b (Some p.value) None) (same_is key p Less e))
  by_order rest Equal e = ap (λ b. cond b (Some p.value) (get ps key)) (same_is key p Equal e)
      ∙ sym (ap (λ b. value_at key (slice_get (p ∷ ps) (cond b (suc (place_of key ps)) 0))) (after_is key p Equal e) ∙ ap (λ b. cond b (Some p.value) None) (same_is key p Equal e))
  by_order rest Greater e = ap (λ b. cond b (Some p.value) (get ps key)) (same_is key p Greater e) ∙ rest
      ∙ sym (ap (λ b. value_at key (slice_get (p ∷ ps) (cond b (suc (place_of key ps)) 0))) (after_is key p Greater e))

-- a key that is set gives way where it stands, or comes in where it would
pub put_at_place : (key : List ℕ) (v : Value) (ps : List Property) → put ps key v ≡ put_there key v ps (place_of key ps) (has_key_at key (place_of key ps) ps)
put_at_place key v [] = refl
put_at_place key v (p ∷ ps) = by_order (put_at_place key v ps) (key_order key p.key) refl where
  new : Property
  new = record { key = key; value = v }

  chosen : (o : Ordering) → key_order key p.key ≡ o → put (p ∷ ps) key v ≡ match_ordering o (new ∷ p ∷ ps) (new ∷ ps) (p ∷ put ps key v)
  chosen o e = ap (λ r. match_ordering r (new ∷ p ∷ ps) (new ∷ ps) (p ∷ put ps key v)) e

  placed : (o : Ordering) → key_order key p.key ≡ o → put_there key v (p ∷ ps) (place_of key (p ∷ ps)) (has_key_at key (place_of key (p ∷ ps)) (p ∷ ps))
      ≡ put_there key v (p ∷ ps) (cond (is_gt o) (suc (place_of key ps)) 0) (has_key_at key (cond (is_gt o) (suc (place_of key ps)) 0) (p ∷ ps))
  placed o e = ap (λ b. put_there key v (p ∷ ps) (cond b (suc (place_of key ps)) 0) (has_key_at key (cond b (suc (place_of key ps)) 0) (p ∷ ps))) (after_is key p o e)

  behind : (b : Bool) → put_there key v (p ∷ ps) (suc (place_of key ps)) b ≡ p ∷ put_there key v ps (place_of key ps) b
  behind true = refl
  behind false = refl

  by_order : put ps key v ≡ put_there key v ps (place_of key ps) (has_key_at key (place_of key ps) ps) → (o : Ordering) → key_order key p.key ≡ o
      → put (p ∷ ps) key v ≡ put_there key v (p ∷ ps) (place_of key (p ∷ ps)) (has_key_at key (place_of key (p ∷ ps)) (p ∷ ps))
  by_order rest Less e = chosen Less e ∙ sym (placed Less e ∙ ap (put_there key v (p ∷ ps) 0) (same_is key p Less e))
  by_order rest Equal e = chosen Equal e ∙ sym (placed Equal e ∙ ap (put_there key v (p ∷ ps) 0) (same_is key p Equal e))
  by_order rest Greater e = chosen Greater e ∙ ap (λ qs. p ∷ qs) rest ∙ sym (placed Greater e ∙ behind (has_key_at key (place_of key ps) ps))

pub put_replaces : (key : List ℕ) (v : Value) (ps : List Property) (i : ℕ) → i ≡ place_of key ps → has_key_at key i ps ≡ true → set ps i (record { key = key; value = v }) ≡ put ps key v
put_replaces key v ps i at has = sym (put_at_place key v ps ∙ ap (λ k. put_there key v ps k (has_key_at key k ps)) (sym at) ∙ ap (put_there key v ps i) has)

pub put_inserts : (key : List ℕ) (v : Value) (ps : List Property) (i : ℕ) → i ≡ place_of key ps → has_key_at key i ps ≡ false → insert ps i (record { key = key; value = v }) ≡ put ps key v
put_inserts key v ps i at has = sym (put_at_place key v ps ∙ ap (λ k. put_there key v ps k (has_key_at key k ps)) (sym at) ∙ ap (put_there key v ps i) has)

congruent : (a b c : List ℕ) → key_order a b ≡ Equal → key_order a c ≡ key_order b c
congruent a b c = nat_list_cmp_total.congr (folded a) (folded b) (folded c)

before_put : (key : List ℕ) (v : Value) (first : List ℕ) (ps : List Property) → key_order first key ≡ Less → ComesBefore first ps → ComesBefore first (put ps key v)
before_put key v first [] less before = less
before_put key v first (p ∷ ps) less before = by_order (key_order key p.key) refl where
  by_order : (o : Ordering) → key_order key p.key ≡ o → ComesBefore first (put (p ∷ ps) key v)
  by_order Less e = rw e less
  by_order Equal e = rw e less
  by_order Greater e = rw e before

-- a map stays in order when a key is set
pub put_in_order : (key : List ℕ) (v : Value) (ps : List Property) → IsInOrder ps → IsInOrder (put ps key v)
put_in_order key v [] order = (tt, tt)
put_in_order key v (p ∷ ps) order = by_order (put_in_order key v ps order.1) (key_order key p.key) refl where
  alike : (qs : List Property) → key_order key p.key ≡ Equal → ComesBefore p.key qs → ComesBefore key qs
  alike [] e h = tt
  alike (q ∷ qs) e h = congruent key p.key q.key e ∙ h

  by_order : IsInOrder (put ps key v) → (o : Ordering) → key_order key p.key ≡ o → IsInOrder (put (p ∷ ps) key v)
  by_order rest Less e = rw e (e, order)
  by_order rest Equal e = rw e (alike ps e order.0, order.1)
  by_order rest Greater e = rw e (before_put key v p.key ps (before_from_after key p (ap is_gt e)) order.0, rest)
