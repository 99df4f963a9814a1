-- Which object is an instance's own, once one more was kept or those of an instance were let go.
use Rattle.std.proofs.Common.{◌≡◌, ℕ, List, [], ◌∷◌, ◌++◌, ap, sym, ◌∙◌, refl, subst, cond, Bool, true, false, ◌⊎◌, inl, inr, Option, Some, None, Bor}
use Rattle.std.specs.Arc.{arc_value}
use Rattle.std.specs.Prelude.{◌==◌, ◌||◌, filter, is_some, not, option_map}
use Rattle.std.specs.List.{find}
use Rattle.std.specs.Option.{option_copied}
use Rattle.std.proofs.lemmas.Bool.{eqb-true}
use Rattle.turn_work.specs.declared.work.TurnWork.{TurnWork}
use Rattle.turn_runner.specs.Outcomes.{IsMadeFor}
use Rattle.platform_hall.specs.declared.held.Held.{Held}
use Rattle.platform_hall.specs.Desks.{is_holder, object_of}

pub copied_is : {X : Type 0} (o : Option (Bor X)) → is_some o ≡ is_some (option_copied o)
copied_is None = refl
copied_is (Some x) = refl

module _ {O : Type 0} where
  -- what is found is there
  pub found_held : (held : List (Held O)) (n : ℕ) → is_some (find (λ (h : Held O). h.instance == n) held) ≡ is_holder held n
  found_held [] n = refl
  found_held (h ∷ held) n = elim (h.instance == n) as (λ v. is_some (cond v (Some h) (find (λ (k : Held O). k.instance == n) held)) ≡ (v || is_holder held n)) [ true ↦ refl | false ↦ found_held held n ]

  -- an object of an instance was its own before, or it is the one that is kept now
  pub own_more : (held : List (Held O)) (one : Held O) (n : ℕ) (object : O) → object_of (held ++ one ∷ []) n ≡ Some object → (object_of held n ≡ Some object) ⊎ ((one.instance ≡ n) × (arc_value one.object ≡ object))
  own_more [] one n object =
      elim (one.instance == n)
      as (λ v. (one.instance == n) ≡ v → option_map (λ (h : Held O). arc_value h.object) (cond v (Some one) None) ≡ Some object → (None ≡ Some object) ⊎ ((one.instance ≡ n) × (arc_value one.object ≡ object))) [
        | true ↦ λ same is. inr (eqb-true one.instance n same, cc)
        | false ↦ λ differ is. inl is
      ] refl
  own_more (h ∷ held) one n object =
      elim (h.instance == n)
      as (λ v. option_map (λ (k : Held O). arc_value k.object) (cond v (Some h) (find (λ (k : Held O). k.instance == n) (held ++ one ∷ []))) ≡ Some object → (option_map (λ (k : Held O). arc_value k.object) (cond v (Some h) (find (λ (k : Held O). k.instance == n) held)) ≡ Some object) ⊎ ((one.instance ≡ n) × (arc_value one.object ≡ object))) [
        | true ↦ λ is. inl is
        | false ↦ own_more held one n object
      ]

  -- of an instance whose objects are let go none is left
  gone : (held : List (Held O)) (k : ℕ) → find (λ (h : Held O). h.instance == k) (filter (λ (h : Held O). not (h.instance == k)) held) ≡ None
  gone [] k = refl
  gone (h ∷ held) k =
      let rest = filter (λ (h : Held O). not (h.instance == k)) held in
      elim (h.instance == k)
      as (λ v. (h.instance == k) ≡ v → find (λ (h : Held O). h.instance == k) (cond (not v) (h ∷ rest) rest) ≡ None) [
        | true ↦ λ is. gone held k
        | false ↦ λ is. ap (λ b. cond b (Some h) (find (λ (h : Held O). h.instance == k) rest)) is ∙ gone held k
      ] refl

  -- what is still an instance's own once those of an instance are let go was so before
  pub own_less : (held : List (Held O)) (k n : ℕ) (object : O) → object_of (filter (λ (h : Held O). not (h.instance == k)) held) n ≡ Some object → object_of held n ≡ Some object
  own_less [] k n object = λ is. is
  own_less (h ∷ held) k n object =
      let rest = filter (λ (h : Held O). not (h.instance == k)) held in
      elim (h.instance == k)
      as (λ v. (h.instance == k) ≡ v → object_of (cond (not v) (h ∷ rest) rest) n ≡ Some object → object_of (h ∷ held) n ≡ Some object) [
        | true ↦ λ dropped is. was_dropped rest dropped (own_less held k n object) (gone held k) is
        | false ↦ λ kept is. was_kept rest (own_less held k n object) is
      ] refl
    where
      was_kept : (rest : List (Held O)) → (object_of rest n ≡ Some object → object_of held n ≡ Some object) → object_of (h ∷ rest) n ≡ Some object → object_of (h ∷ held) n ≡ Some object
      was_kept rest before =
          elim (h.instance == n)
          as (λ v. option_map (λ (k : Held O). arc_value k.object) (cond v (Some h) (find (λ (k : Held O). k.instance == n) rest)) ≡ Some object → option_map (λ (k : Held O). arc_value k.object) (cond v (Some h) (find (λ (k : Held O). k.instance == n) held)) ≡ Some object) [
            | true ↦ λ is. is
            | false ↦ before
          ]

      was_dropped : (rest : List (Held O)) → (h.instance == k) ≡ true → (object_of rest n ≡ Some object → object_of held n ≡ Some object) → find (λ (h : Held O). h.instance == k) rest ≡ None → object_of rest n ≡ Some object → object_of (h ∷ held) n ≡ Some object
      was_dropped rest dropped before none is =
          elim (h.instance == n)
          as (λ v. (h.instance == n) ≡ v → option_map (λ (k : Held O). arc_value k.object) (cond v (Some h) (find (λ (k : Held O). k.instance == n) held)) ≡ Some object) [
            | true ↦ λ here.
                let same : k ≡ n = sym (eqb-true h.instance k dropped) ∙ eqb-true h.instance n here in
                let nothing : object_of rest n ≡ None = subst (λ m. object_of rest m ≡ None) same (ap (option_map (λ (h : Held O). arc_value h.object)) none) in
                cc
            | false ↦ λ differ. before is
          ] refl

-- what a turn made is its instance's
pub made_own : {A O : Type 0} (shared : A → O) (work : TurnWork) (made : Option A) (n : ℕ) (object : O) → work.instance ≡ n → option_map shared made ≡ Some object → IsMadeFor shared (Some work) made n object
made_own shared work None n object same is = cc
made_own shared work (Some one) n object same is = (same, cc)
