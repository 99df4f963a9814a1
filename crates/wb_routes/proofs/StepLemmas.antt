-- Steps of the loops that look for the owner of a path.
use Rattle.std.proofs.Common.{◌≡◌, ℕ, suc, List, [], ◌∷◌, ◌++◌, ap, sym, ◌∙◌, refl, cond, drop, Option, Some, None, subst}
use Rattle.std.specs.Prelude.{◌==◌, map, slice_index}
use Rattle.std.proofs.lemmas.Bool.{eq-eqb, ne_eqb}
use Rattle.std.specs.Option.{option_or}
use Rattle.prop_map.specs.Words.{first_some}
use Rattle.wb_routes.specs.Candidates.{extension_before, texts_at, texts_to}
use Rattle.wb_routes.specs.Choices.{first_owner}

pub one_owner : (o : Option ℕ) → o ≡ first_some (o ∷ [])
one_owner (Some x) = refl
one_owner None = refl

module _ (owner : List ℕ → Option ℕ) where
  joined : (xs ys : List (List ℕ)) → first_owner owner (xs ++ ys) ≡ option_or (first_owner owner xs) (first_owner owner ys)
  joined [] ys = refl
  joined (x ∷ xs) ys = by (owner x) (joined xs ys) where
    by : (o : Option ℕ) → first_owner owner (xs ++ ys) ≡ option_or (first_owner owner xs) (first_owner owner ys)
        → first_some (o ∷ map owner (xs ++ ys)) ≡ option_or (first_some (o ∷ map owner xs)) (first_owner owner ys)
    by (Some y) more = refl
    by None more = more

  -- one front fewer
  pub found_step : (rest : List ℕ) (end n : ℕ) (s : ℕ) → end ≡ suc n → Some s ≡ first_owner owner (texts_at rest end) → Some s ≡ first_owner owner (texts_to rest end)
  found_step rest end n s e found =
      subst (λ k. Some s ≡ first_owner owner (texts_at rest k) → Some s ≡ first_owner owner (texts_to rest k)) (sym e)
      (λ f. sym (joined (texts_at rest (suc n)) (texts_to rest n) ∙ ap (λ o. option_or o (first_owner owner (texts_to rest n))) (sym f))) found

  pub missed_step : (rest : List ℕ) (end n : ℕ) → end ≡ suc n → None ≡ first_owner owner (texts_at rest end) → first_owner owner (texts_to rest end) ≡ first_owner owner (texts_to rest n)
  missed_step rest end n e missed =
      subst (λ k. None ≡ first_owner owner (texts_at rest k) → first_owner owner (texts_to rest k) ≡ first_owner owner (texts_to rest n)) (sym e)
      (λ f. joined (texts_at rest (suc n)) (texts_to rest n) ∙ ap (λ o. option_or o (first_owner owner (texts_to rest n))) (sym f)) missed

-- one byte fewer of a path whose extension is looked for
pub at_dot : (path : List ℕ) (end n m : ℕ) → end ≡ suc n → m ≡ suc n → slice_index path n ≡ 46 → extension_before path end ≡ Some (drop m path)
at_dot path end n m e f is =
    subst (λ k. extension_before path k ≡ Some (drop m path)) (sym e)
    (ap (λ b. cond b (Some (drop (suc n) path)) (cond (slice_index path n == 47) None (extension_before path n))) (eq-eqb (slice_index path n) 46 is) ∙ ap (λ k. Some (drop k path)) (sym f))

pub at_slash : (path : List ℕ) (end n : ℕ) → end ≡ suc n → slice_index path n ≡ 47 → extension_before path end ≡ None
at_slash path end n e is =
    subst (λ k. extension_before path k ≡ None) (sym e)
    (ap (λ b. cond b (Some (drop (suc n) path)) (cond (slice_index path n == 47) None (extension_before path n))) (ap (λ k. k == 46) is) ∙ ap (λ b. cond b None (extension_before path n)) (eq-eqb (slice_index path n) 47 is))

pub at_other : (path : List ℕ) (end n : ℕ) → end ≡ suc n → (slice_index path n ≡ 46 → ⊥) → (slice_index path n ≡ 47 → ⊥) → extension_before path end ≡ extension_before path n
at_other path end n e no_dot no_slash =
    subst (λ k. extension_before path k ≡ extension_before path n) (sym e)
    (ap (λ b. cond b (Some (drop (suc n) path)) (cond (slice_index path n == 47) None (extension_before path n))) (ne_eqb (slice_index path n) 46 no_dot) ∙ ap (λ b. cond b None (extension_before path n)) (ne_eqb (slice_index path n) 47 no_slash))
