-- Properties that stand under their keys without case, after one more was put there.
use Rattle.std.proofs.Common.{◌≡◌, refl, sym, ap, ◌∙◌, subst, ℕ, List, [], ◌∷◌, String, string_bytes}
use Rattle.std.specs.BTreeMap.{insert_entry}
use Rattle.std.specs.Cmp.Lexicographic.{slice_cmp}
use Rattle.std.specs.Map.{values_of}
use Rattle.std.specs.Ordering.{nat_cmp}
use Rattle.std.specs.String.{string_cmp}
use Rattle.std.specs.declared.cmp.Ordering.{Ordering}
use Rattle.std.specs.declared.cmp.Ordering.TheVariants.{Less, Equal, Greater}
use Rattle.std.proofs.lemmas.Map.Lookups.{exact_bytes}
use Rattle.prop_map.specs.declared.value.Value.{Value}
use Rattle.prop_map.specs.declared.properties.Property.{Property}
use Rattle.prop_map.specs.ByKey.{AreUnderKeys, IsByKey}
use Rattle.prop_map.specs.Keys.{folded, key_order}
use Rattle.prop_map.specs.Maps.{put, IsInOrder}
use Rattle.prop_map.proofs.PlaceLemmas.{put_in_order}

module _ {Z : Type 0} (fold : String Z) (key : List ℕ) (value : Value) (is : string_bytes fold ≡ folded key) where
  abbrev pub new : Property
  new = record { key = key; value = value }

  same_order : (e : String Z × Property) → string_bytes e.0 ≡ folded e.1.key → string_cmp fold e.0 ≡ key_order key e.1.key
  same_order e under = ap (λ f. slice_cmp nat_cmp f (string_bytes e.0)) is ∙ ap (λ f. slice_cmp nat_cmp (folded key) f) under

  abbrev Put : List (String Z × Property) → Type 0
  Put es = (values_of (insert_entry string_cmp es fold new) ≡ put (values_of es) key value) × AreUnderKeys (insert_entry string_cmp es fold new)

  put_under : (es : List (String Z × Property)) → AreUnderKeys es → Put es
  put_under [] under = (refl, (is, tt))
  put_under (e ∷ es) under = by_order (put_under es under.1) (string_cmp fold e.0) refl where
    order : string_cmp fold e.0 ≡ key_order key e.1.key
    order = same_order e under.0

    by_order : Put es → (o : Ordering) → string_cmp fold e.0 ≡ o → Put (e ∷ es)
    by_order rest Less a = rw (a, (sym order ∙ a)) (refl, (is, (under.0, under.1)))
    by_order rest Equal a = rw (a, (sym order ∙ a)) (refl, (sym (exact_bytes (string_bytes fold) (string_bytes e.0) a) ∙ is, under.1))
    by_order rest Greater a = rw (a, (sym order ∙ a)) (ap (λ ps. e.1 ∷ ps) rest.0, (under.0, rest.1))

  pub put_by_key : (es : List (String Z × Property)) → IsByKey es
      → (values_of (insert_entry string_cmp es fold new) ≡ put (values_of es) key value) × IsByKey (insert_entry string_cmp es fold new)
  put_by_key es by_key =
      let done : Put es = put_under es by_key.0 in
      (done.0, (done.1, subst IsInOrder (sym done.0) (put_in_order key value (values_of es) by_key.1)))
