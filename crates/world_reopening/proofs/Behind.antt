-- What follows the front of a text.
use Rattle.std.proofs.Common.{◌≡◌, ◌≢◌, ◌==◌, ℕ, List, [], ◌∷◌, ◌++◌, Bool, true, false, cond, Option, Some, None, refl, ap, sym, ◌∙◌, ap₂, eq-eqb}
use Rattle.std.proofs.lemmas.Bool.{eqb-true}
use Rattle.std.specs.Prelude.{MatchOption, drop, option_map}
use Rattle.std.specs.Str.Pattern.{FindsTextPrefix, StripsPrefix}
use Rattle.world_reopening.specs.Readings.{behind}

pub behind_front : (front rest : List ℕ) → behind front (front ++ rest) ≡ Some rest
behind_front [] rest = refl
behind_front (x ∷ front) rest = ap (λ b. cond b (behind front (front ++ rest)) None) (eq-eqb x x refl) ∙ behind_front front rest

pub behind_none : (front text : List ℕ) → ((rest : List ℕ) → text ≢ front ++ rest) → behind front text ≡ None
behind_none [] text not = absurd (not text refl)
behind_none (x ∷ front) [] not = refl
behind_none (x ∷ front) (y ∷ text) not = by_test (x == y) refl (behind_none front text)
  where
    by_test : (b : Bool) → (x == y) ≡ b → (((rest : List ℕ) → text ≢ front ++ rest) → behind front text ≡ None) → cond b (behind front text) None ≡ None
    by_test true t more = more (λ rest e. not rest (ap₂ (λ z zs. z ∷ zs) (sym (eqb-true x y t)) e))
    by_test false t more = refl

pub front_of : (front text rest : List ℕ) → behind front text ≡ Some rest → text ≡ front ++ rest
front_of [] text rest is = cc
front_of (x ∷ front) [] rest is = absurd cc
front_of (x ∷ front) (y ∷ text) rest is = by_test (x == y) refl (front_of front text rest) is
  where
    by_test : (b : Bool) → (x == y) ≡ b → (behind front text ≡ Some rest → text ≡ front ++ rest) → cond b (behind front text) None ≡ Some rest → y ∷ text ≡ x ∷ (front ++ rest)
    by_test true t more h = ap₂ (λ z zs. z ∷ zs) (sym (eqb-true x y t)) (more h)
    by_test false t more h = absurd cc

-- a text is stripped of its front just where it has it
pub strips : {X : Type 0} (read : X → List ℕ) (front text : List ℕ) (r : Option X) → MatchOption r (FindsTextPrefix front text None) (λ x. StripsPrefix (FindsTextPrefix front) text (read x))
    → option_map read r ≡ behind front text
strips read front text None h = sym (behind_none front text h)
strips read front text (Some x) h = ap Some h.2 ∙ sym (behind_front front (drop h.0 text)) ∙ ap (behind front) (sym h.1.1)
