-- The first item that passes a test by its place, and the items of two lists in one place.
use Rattle.std.proofs.Common.{◌≡◌, ◌∙◌, ℕ, suc, ◌+◌, ◌<◌, ◌≤◌, List, ◌∷◌, ◌++◌, length, get_or, map, drop, ap, sym, refl, cond, Bool, true, false, Some, None, inl, inr, arith, add-one, append_assoc, drop-cons}
use Rattle.std.proofs.lemmas.Bool.Decides.{nat_tests}
use Rattle.std.specs.Prelude.{find, nat_lt, option_map, position, slice_get}
use Rattle.std.specs.List.{position_or_len}
use Rattle.std.proofs.lemmas.List.Folds.{find_at}
use Rattle.std.proofs.lemmas.List.{length-map}
use Rattle.std.proofs.lemmas.Option.{slice_get-get_or, slice_get-map, slice_get_cases, slice_get_past, slice_get_read}
use Rattle.wiring_reader.specs.Lines.{paired}

module _ {X : Type 0} (p : X → Bool) (xs : List X) where
  place_is : (b : Bool) (i : ℕ) → cond b (Some (position_or_len p xs)) None ≡ Some i → position_or_len p xs ≡ i
  place_is true i e = cc
  place_is false i e = absurd (cc)

  past : (b : Bool) → nat_lt (position_or_len p xs) (length xs) ≡ b → cond b (Some (position_or_len p xs)) None ≡ None → length xs ≤ position_or_len p xs
  past true e h = absurd (cc)
  past false e h = grind (arith, nat_tests)

  low : (b : Bool) (i : ℕ) → nat_lt (position_or_len p xs) (length xs) ≡ b → cond b (Some (position_or_len p xs)) None ≡ Some i → position_or_len p xs < length xs
  low true i e h = grind (arith, nat_tests)
  low false i e h = absurd (cc)

  -- what is found stands there
  pub found_there : (i : ℕ) → position p xs ≡ Some i → (x : X) × (find p xs ≡ Some x) × (get_or xs i x ≡ x)
  found_there i e =
      let at = place_is (nat_lt (position_or_len p xs) (length xs)) i e in
      let within = low (nat_lt (position_or_len p xs) (length xs)) i refl e in
      elim ((slice_get_cases xs (position_or_len p xs)).1) [
        | inl h ↦ (h.0, find_at p xs ∙ h.2, ap (λ (n : ℕ). get_or xs n h.0) (sym at) ∙ h.3)
        | inr h ↦ absurd (omega (arith, within, h.0))
      ]

  pub found_low : (i : ℕ) → position p xs ≡ Some i → i < length xs
  found_low i e =
      let at = place_is (nat_lt (position_or_len p xs) (length xs)) i e in
      let within = low (nat_lt (position_or_len p xs) (length xs)) i refl e in
      omega (arith, at, within)

  pub found_nowhere : position p xs ≡ None → find p xs ≡ None
  found_nowhere e = find_at p xs ∙ slice_get_past xs (position_or_len p xs) (past (nat_lt (position_or_len p xs) (length xs)) refl e)

pub paired_step : {A B C W : Type 0} (f : A → B → List C) (g : W → B) (xs : List A) (ws : List W) (i : ℕ) (x : A) (w : W) → i < length xs → i < length ws
    → paired f (drop i xs) (map g (drop i ws)) ≡ f (get_or xs i x) (g (get_or ws i w)) ++ paired f (drop (i + 1) xs) (map g (drop (i + 1) ws))
paired_step f g xs ws i x w low within =
    ap (λ ys. paired f ys (map g (drop i ws))) (drop-cons xs i x low)
    ∙ (ap (λ vs. paired f (get_or xs i x ∷ drop (suc i) xs) (map g vs)) (drop-cons ws i w within)
    ∙ ap (λ (n : ℕ). f (get_or xs i x) (g (get_or ws i w)) ++ paired f (drop n xs) (map g (drop n ws))) (sym (add-one i)))

-- ---- items in one place of lists that are mapped alike

pub at_place : {A B C : Type 0} (g : A → C) (h : B → C) (xs : List A) (ys : List B) (i : ℕ) (x : A) (y : B) → map g xs ≡ map h ys → i < length ys → x ≡ get_or xs i x → g x ≡ h (get_or ys i y)
at_place g h xs ys i x y same low is =
    let long : length xs ≡ length ys = sym (length-map xs g) ∙ (ap length same ∙ length-map ys h) in
    let within : i < length xs = omega (arith, long, low) in
    let both : Some (g x) ≡ Some (h (get_or ys i y)) =
    ap (option_map g) (sym (slice_get_read xs (length xs) i x refl within is))
    ∙ (sym (slice_get-map g xs i) ∙ (ap (λ zs. slice_get zs i) same ∙ (slice_get-map h ys i ∙ ap (option_map h) (slice_get-get_or ys i y low)))) in
    cc

pub mapped_at : {A B : Type 0} (f : A → B) (xs : List A) (ys : List B) (i : ℕ) (y : B) (d : A) → ys ≡ map f xs → i < length xs → y ≡ get_or ys i y → y ≡ f (get_or xs i d)
mapped_at f xs ys i y d same low is =
    let long : length ys ≡ length xs = ap length same ∙ length-map xs f in
    let within : i < length ys = omega (arith, long, low) in
    let both : Some y ≡ Some (f (get_or xs i d)) =
    sym (slice_get_read ys (length ys) i y refl within is) ∙ (ap (λ zs. slice_get zs i) same ∙ (slice_get-map f xs i ∙ ap (option_map f) (slice_get-get_or xs i d low))) in
    cc

-- one more item of each is done
pub paired_more : {A B C W : Type 0} (f : A → B → List C) (g : W → B) (xs : List A) (ws : List W) (i : ℕ) (x : A) (w : W) (done new all : List C) (y : A) (v : B) → i < length xs → i < length ws → y ≡ get_or xs i x → v ≡ g (get_or ws i w)
    → new ≡ done ++ f y v → done ++ paired f (drop i xs) (map g (drop i ws)) ≡ all → new ++ paired f (drop (i + 1) xs) (map g (drop (i + 1) ws)) ≡ all
paired_more f g xs ws i x w done new all y v low within first second more so_far =
    let rest = paired f (drop (i + 1) xs) (map g (drop (i + 1) ws)) in
    ap (λ zs. zs ++ rest) more
    ∙ (append_assoc done (f y v) rest
    ∙ (ap (λ zs. done ++ zs) (ap (λ a. f a v ++ rest) first ∙ (ap (λ b. f (get_or xs i x) b ++ rest) second ∙ sym (paired_step f g xs ws i x w low within))) ∙ so_far))
