-- What is found of the keys' spellings after one more was noted.
use Rattle.std.proofs.Common.{◌≡◌, refl, sym, ap, ◌∙◌, ℕ, List, Bool, true, false, cond, ◌||◌, ◌&&◌, Option, Some}
use Rattle.std.specs.Prelude.{not}
use Rattle.std.specs.Map.{update}
use Rattle.std.specs.Str.{bytes_eq}
use Rattle.std.proofs.lemmas.Slice.Eq.{bytes_eq-Decides}
use Rattle.prop_map.specs.declared.spellings.Spelling.{Spelling}
use Rattle.prop_map.specs.Keys.{folded}
use Rattle.prop_map.specs.JsonProperties.{is_another}
use Rattle.prop_map.specs.Spellings.{differs_from}

or_false : (b : Bool) → b ≡ (b || false)
or_false true = refl
or_false false = refl

-- spelled in several ways, or in one that was there before
pub several : (first key other : List ℕ) → bytes_eq first key ≡ false → true ≡ (not (bytes_eq first other) || not (bytes_eq key other))
several first key other apart = by_case (bytes_eq first other) (bytes_eq key other) refl refl where
  by_case : (a b : Bool) → bytes_eq first other ≡ a → bytes_eq key other ≡ b → true ≡ (not a || not b)
  by_case true true e f = sym (sym apart ∙ (bytes_eq-Decides first key).1 ((bytes_eq-Decides first other).0 e ∙ sym ((bytes_eq-Decides key other).0 f)))
  by_case true false e f = refl
  by_case false b e f = refl

pub twice : (b : Bool) → b ≡ (b || b)
twice true = refl
twice false = refl

pub after_note : (find : List ℕ → Option Spelling) (key other : List ℕ) (now : Spelling)
    → differs_from other (Some now) ≡ (differs_from other (find (folded key)) || not (bytes_eq key other))
    → differs_from other (update bytes_eq find (folded key) (Some now) (folded other)) ≡ (differs_from other (find (folded other)) || is_another key other)
after_note find key other now is = by_case (bytes_eq (folded key) (folded other)) refl where
  by_case : (b : Bool) → bytes_eq (folded key) (folded other) ≡ b
      → differs_from other (cond (bytes_eq (folded key) (folded other)) (Some now) (find (folded other))) ≡ (differs_from other (find (folded other)) || (bytes_eq (folded key) (folded other) && not (bytes_eq key other)))
  by_case true e = ap (λ b. differs_from other (cond b (Some now) (find (folded other)))) e ∙ is
      ∙ ap (λ f. differs_from other (find f) || not (bytes_eq key other)) ((bytes_eq-Decides (folded key) (folded other)).0 e)
      ∙ ap (λ b. differs_from other (find (folded other)) || (b && not (bytes_eq key other))) (sym e)
  by_case false e = ap (λ b. differs_from other (cond b (Some now) (find (folded other)))) e
      ∙ or_false (differs_from other (find (folded other)))
      ∙ ap (λ b. differs_from other (find (folded other)) || (b && not (bytes_eq key other))) (sym e)
