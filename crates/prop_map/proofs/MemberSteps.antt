-- The members of an object, one after the other.
use Rattle.std.proofs.Common.{◌≡◌, ◌<◌, ℕ, suc, ◌+◌, List, ◌∷◌, length, get_or, drop, ap, sym, ◌∙◌, add-one, drop-cons, String, Global, string_bytes, Bor}
use Rattle.std.specs.Prelude.{map, Result}
use Rattle.serde_json.specs.View.{view, members_view}
use Rattle.serde_json.specs.declared.value.Value.{Value as Json}
use Rattle.prop_map.specs.declared.properties.Property.{Property}
use Rattle.prop_map.specs.declared.prop_fault.PropFault.{PropFault}
use Rattle.prop_map.specs.declared.prop_fault.PropFault.TheVariants.{NotObject, FloatValue, NestedValue, MixedList, SameKey, OutOfMemory}
use Rattle.prop_map.specs.JsonProperties.{given_value, put_given, with_members}
use Rattle.prop_map.specs.Words.{after}
use Rattle.prop_map.specs.Readings.{Tells}

abbrev pub pair : Bor (String Global) × Bor Json → String Global × Json
pair e = (e.0.now, e.1.now)

-- what is wrong with a part is wrong with the whole
pub told : {A B : Type 0} (next : A → Result B PropFault) (fault : PropFault) (meaning : Result A PropFault) → Tells fault meaning → Tells fault (after meaning next)
told next NotObject meaning is = ap (λ r. after r next) is
told next (FloatValue key) meaning is = ap (λ r. after r next) is
told next (NestedValue key) meaning is = ap (λ r. after r next) is
told next (MixedList key) meaning is = ap (λ r. after r next) is
told next (SameKey key) meaning is = ap (λ r. after r next) is
told next OutOfMemory meaning is = tt

module _ (keys : List (List ℕ)) (before : List Property) (entries : List (Bor (String Global) × Bor Json)) (at : ℕ) where
  abbrev pub left : ℕ → List Property → Result (List Property) PropFault
  left n ps = with_members keys ps (members_view (map pair (drop n entries)))

  -- the member at a place, and those behind it
  pub member_at : (e : Bor (String Global) × Bor Json) → at < length entries → e ≡ get_or entries at e
      → left at before ≡ after (given_value keys (string_bytes e.0.now) (view e.1.now)) (λ value. left (at + 1) (put_given before (string_bytes e.0.now) value))
  member_at e within is =
      ap (λ w. with_members keys before (members_view (map pair w))) (drop-cons entries at e within ∙ ap (λ w. w ∷ drop (suc at) entries) (sym is))
      ∙ ap (λ n. after (given_value keys (string_bytes e.0.now) (view e.1.now)) (λ value. left n (put_given before (string_bytes e.0.now) value))) (sym (add-one at))
