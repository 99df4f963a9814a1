-- Who has an object, once one more was put back.
use Rattle.std.specs.Arc.{arc_value}
use Rattle.std.proofs.Common.{◌≡◌, ◌⊎◌, ℕ, List, [], ◌∷◌, ◌++◌, Bool, true, false, ◌||◌, inl, inr, refl, cond, Option, Some, None, Bor}
use Rattle.std.specs.Prelude.{◌==◌, is_some, option_map}
use Rattle.std.specs.Option.{option_copied}
use Rattle.std.specs.List.{find}
use Rattle.std.proofs.lemmas.Bool.{eqb-true}
use Rattle.turn_runner.specs.Outcomes.{IsMadeFor}
use Rattle.turn_work.specs.declared.work.TurnWork.{TurnWork}
use Rattle.rule_tests.specs.declared.memory_desk.Held.{Held}
use Rattle.rule_tests.specs.Desktops.{is_holder, object_of}

or_false : (b : Bool) → (b || false) ≡ b
or_false b = elim b as (λ v. (v || false) ≡ v) [ true ↦ refl | false ↦ refl ]

pub holder_more : {O : Type 0} (held : List (Held O)) (one : Held O) (instance : ℕ) → is_holder (held ++ one ∷ []) instance ≡ (is_holder held instance || (one.instance == instance))
holder_more [] one instance = or_false (one.instance == instance)
holder_more (h ∷ held) one instance = elim (h.instance == instance) as (λ v. (v || is_holder (held ++ one ∷ []) instance) ≡ ((v || is_holder held instance) || (one.instance == instance))) [ true ↦ refl | false ↦ holder_more held one instance ]

pub copied_is : {X : Type 0} (o : Option (Bor X)) → is_some o ≡ is_some (option_copied o)
copied_is None = refl
copied_is (Some x) = refl

module _ {O : Type 0} where
  -- what is found is there
  pub found_held : (held : List (Held O)) (n : ℕ) → is_some (find (λ (h : Held O). h.instance == n) held) ≡ is_holder held n
  found_held [] n = refl
  found_held (h ∷ held) n = elim (h.instance == n) as (λ v. is_some (cond v (Some h) (find (λ (k : Held O). k.instance == n) held)) ≡ (v || is_holder held n)) [ true ↦ refl | false ↦ found_held held n ]

  -- an object of an instance was its own before, or it is the one that is kept now
  pub own_more : (held : List (Held O)) (one : Held O) (n : ℕ) (object : O) → object_of (held ++ one ∷ []) n ≡ Some object → (object_of held n ≡ Some object) ⊎ ((one.instance ≡ n) × (arc_value one.object ≡ object))
  own_more [] one n object =
      elim (one.instance == n)
      as (λ v. (one.instance == n) ≡ v → option_map (λ (h : Held O). arc_value h.object) (cond v (Some one) None) ≡ Some object → (None ≡ Some object) ⊎ ((one.instance ≡ n) × (arc_value one.object ≡ object))) [
        | true ↦ λ same is. inr (eqb-true one.instance n same, cc)
        | false ↦ λ differ is. inl is
      ] refl
  own_more (h ∷ held) one n object =
      elim (h.instance == n)
      as (λ v. option_map (λ (k : Held O). arc_value k.object) (cond v (Some h) (find (λ (k : Held O). k.instance == n) (held ++ one ∷ []))) ≡ Some object → (option_map (λ (k : Held O). arc_value k.object) (cond v (Some h) (find (λ (k : Held O). k.instance == n) held)) ≡ Some object) ⊎ ((one.instance ≡ n) × (arc_value one.object ≡ object))) [
        | true ↦ λ is. inl is
        | false ↦ own_more held one n object
      ]

-- what a turn made is its instance's
pub made_own : {A O : Type 0} (shared : A → O) (work : TurnWork) (made : Option A) (n : ℕ) (object : O) → work.instance ≡ n → option_map shared made ≡ Some object → IsMadeFor shared (Some work) made n object
made_own shared work None n object same is = cc
made_own shared work (Some one) n object same is = (same, cc)
