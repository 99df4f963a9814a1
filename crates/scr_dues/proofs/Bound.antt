-- A service that was never bound isn't held.
use Rattle.std.proofs.Common.{◌≡◌, sym, refl, ℕ, List, [], ◌∷◌, ◌++◌, Bool, true, false, ◌||◌}
use Rattle.std.specs.List.{list_any}
use Rattle.std.proofs.lemmas.List.Folds.{list_any-append}
use Rattle.callback_orders.specs.declared.word.Called.{Called}
use Rattle.callback_orders.specs.Lives.{held_for}
use Rattle.component_dto.specs.declared.description.Reference.{Reference}
use Rattle.prop_map.specs.Words.{has}
use Rattle.instance_callbacks.proofs.UnboundLemmas.{never_held}
use Rattle.instance_callbacks.specs.Bound.{was_bound}

pub none_held : (s : ℕ) (calls : List Called) (references : List Reference) → was_bound s calls ≡ false → list_any (λ (r : Reference). has (held_for r.name calls) s) references ≡ false
none_held s calls [] f = refl
none_held s calls (r ∷ references) f = (λ j. never_held s calls r.name f j || none_held s calls references f j)

-- what passes at the end passes somewhere
pub last_too : {X : Type 0} (p : X → Bool) (xs : List X) (x : X) → (p x || list_any p (xs ++ x ∷ [])) ≡ list_any p (xs ++ x ∷ [])
last_too p xs x = go (p x) (list_any p xs) (list_any p (xs ++ x ∷ [])) (list_any-append p xs (x ∷ []))
  where
    go : (a b c : Bool) → c ≡ (b || (a || false)) → (a || c) ≡ c
    go false b c e = refl
    go true true c e = sym e
    go true false c e = sym e
