-- The laws of a property map.
use Rattle.std.proofs.Common.{◌≡◌, refl, sym, ap, ◌∙◌, ℕ, List, [], ◌∷◌, Bool, true, false, cond, Some}
use Rattle.std.specs.Ordering.{match_ordering}
use Rattle.std.specs.Str.{bytes_eq}
use Rattle.std.specs.declared.cmp.Ordering.{Ordering}
use Rattle.std.specs.declared.cmp.Ordering.TheVariants.{Less, Equal, Greater}
use Rattle.std.proofs.lemmas.Bool.{false≢true}
use Rattle.std.proofs.lemmas.Map.Lookups.{exact_bytes}
use Rattle.std.proofs.lemmas.Slice.Eq.{bytes_eq-Decides}
use Rattle.prop_map.specs.declared.value.Value.{Value}
use Rattle.prop_map.specs.declared.properties.Property.{Property}
use Rattle.prop_map.specs.Keys.{key_order, same_key, folded}
use Rattle.prop_map.specs.Maps.{get, put}
use Rattle.prop_map.proofs.PlaceLemmas.{same_is}

-- two keys that are a third one without case are one
joined : (q key other : List ℕ) → same_key q key ≡ true → same_key q other ≡ true → same_key key other ≡ true
joined q key other a b = (bytes_eq-Decides (folded key) (folded other)).1 (sym ((bytes_eq-Decides (folded q) (folded key)).0 a) ∙ (bytes_eq-Decides (folded q) (folded other)).0 b)

apart : {X : Type 0} (a b : Bool) (x y z : X) → (a ≡ true → b ≡ true → ⊥) → cond a x (cond b y z) ≡ cond b y (cond a x z)
apart true true x y z h = absurd (h refl refl)
apart true false x y z h = refl
apart false true x y z h = refl
apart false false x y z h = refl

again : {X : Type 0} (a b : Bool) (x y z : X) → a ≡ b → cond a x z ≡ cond a x (cond b y z)
again true b x y z e = refl
again false b x y z e = ap (λ c. cond c y z) e

-- a key that was set has its value, and every other key keeps its own
pub get_put : (ps : List Property) (key : List ℕ) (v : Value) (q : List ℕ) → get (put ps key v) q ≡ cond (same_key q key) (Some v) (get ps q)
get_put [] key v q = refl
get_put (p ∷ ps) key v q = by_order (get_put ps key v q) (key_order key p.key) refl where
  new : Property
  new = record { key = key; value = v }

  chosen : (o : Ordering) → key_order key p.key ≡ o → get (put (p ∷ ps) key v) q ≡ get (match_ordering o (new ∷ p ∷ ps) (new ∷ ps) (p ∷ put ps key v)) q
  chosen o e = ap (λ r. get (match_ordering r (new ∷ p ∷ ps) (new ∷ ps) (p ∷ put ps key v)) q) e

  by_order : get (put ps key v) q ≡ cond (same_key q key) (Some v) (get ps q) → (o : Ordering) → key_order key p.key ≡ o → get (put (p ∷ ps) key v) q ≡ cond (same_key q key) (Some v) (get (p ∷ ps) q)
  by_order rest Less e = chosen Less e
  by_order rest Equal e = chosen Equal e
      ∙ again (same_key q key) (same_key q p.key) (Some v) (Some p.value) (get ps q) (ap (λ k. bytes_eq (folded q) k) (exact_bytes (folded key) (folded p.key) e))
  by_order rest Greater e = chosen Greater e ∙ ap (λ r. cond (same_key q p.key) (Some p.value) r) rest
      ∙ apart (same_key q p.key) (same_key q key) (Some p.value) (Some v) (get ps q) (λ a b. false≢true (sym (same_is key p Greater e) ∙ joined q key p.key b a))
