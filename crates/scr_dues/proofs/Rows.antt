-- Services by number, in lists one behind the other.
use Rattle.std.proofs.Common.{◌≡◌, ◌∙◌, ap, sym, refl, cond, ℕ, List, [], ◌∷◌, ◌++◌, Bool, true, false, Option, Some, None}
use Rattle.std.specs.Prelude.{◌==◌, ◌&&◌, ◌||◌, find, not, option_map, is_some}
use Rattle.std.specs.List.{list_any}
use Rattle.std.specs.Option.{option_copied, option_or}
use Rattle.std.proofs.lemmas.List.Folds.{find-append}
use Rattle.std.specs.Borrow.{Bor}
use Rattle.component_state.specs.declared.open_period.OpenPeriod.{OpenPeriod}
use Rattle.component_state.specs.Rows.{rows_of}
use Rattle.service_registry.specs.declared.row.ServiceRow.{ServiceRow}
use Rattle.service_registry.specs.Registries.{has_number, row_of}

-- the service of an open period, by its number
pub row_of_opened : (ps : List OpenPeriod) (s : ℕ) → row_of (rows_of ps) s ≡ option_map (λ (p : OpenPeriod). p.row) (find (λ (p : OpenPeriod). not (p.row.id == 0) && (p.row.id == s)) ps)
row_of_opened [] s = refl
row_of_opened (p ∷ ps) s = go (p.row.id == 0) (p.row.id == s) refl (row_of_opened ps s)
  where
    go : (b c : Bool) → (p.row.id == s) ≡ c → row_of (rows_of ps) s ≡ option_map (λ (q : OpenPeriod). q.row) (find (λ (q : OpenPeriod). not (q.row.id == 0) && (q.row.id == s)) ps)
        → row_of (cond (not b) (p.row ∷ rows_of ps) (rows_of ps)) s ≡ option_map (λ (q : OpenPeriod). q.row) (cond (not b && c) (Some p) (find (λ (q : OpenPeriod). not (q.row.id == 0) && (q.row.id == s)) ps))
    go true c e rest = rest
    go false true e rest = ap (λ x. cond x (Some p.row) (row_of (rows_of ps) s)) e
    go false false e rest = ap (λ x. cond x (Some p.row) (row_of (rows_of ps) s)) e ∙ rest

module _ {X : Type 0} (test : X → Bool) where
  -- what stands in the first list is found there
  pub found_in_first : (xs ys : List X) (x : X) → Some x ≡ find test xs → Some x ≡ find test (xs ++ ys)
  found_in_first xs ys x e = ap (λ p. option_or p (find test ys)) e ∙ sym (find-append test xs ys)

  -- where it isn't there, it is found in the second one
  pub found_in_second : (xs ys : List X) → None ≡ find test xs → find test ys ≡ find test (xs ++ ys)
  found_in_second xs ys e = ap (λ p. option_or p (find test ys)) e ∙ sym (find-append test xs ys)

  pub any_found : (xs : List X) → list_any test xs ≡ is_some (find test xs)
  any_found [] = refl
  any_found (x ∷ xs) = go (test x) (any_found xs)
    where
      go : (b : Bool) → list_any test xs ≡ is_some (find test xs) → (b || list_any test xs) ≡ is_some (cond b (Some x) (find test xs))
      go true e = refl
      go false e = e

copied_some : {X : Type 0} (o : Option (Bor X)) → is_some o ≡ is_some (option_copied o)
copied_some None = refl
copied_some (Some x) = refl

-- a found service is one that stands there
pub any_numbered : (o : Option (Bor ServiceRow)) (rows : List ServiceRow) (s : ℕ) → option_copied o ≡ row_of rows s → is_some o ≡ list_any (λ (r : ServiceRow). r.id == s) rows
any_numbered o rows s found = copied_some o ∙ ap is_some found ∙ sym (any_found (has_number s) rows)
