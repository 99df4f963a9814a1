-- What a Create chooses for a static reference: the choice at its place is that of its targets.
use Rattle.std.proofs.Common.{◌≡◌, ◌≤◌, ℕ, ◌+◌, List, [], ◌∷◌, ◌++◌, ap, ◌∙◌, refl, cond, arith, Bool, true, false, inl, inr, Option, Some}
use Rattle.std.specs.Prelude.{find, flat_map, ◌==◌}
use Rattle.std.specs.List.{Contains}
use Rattle.std.specs.Option.{option_map_or}
use Rattle.std.proofs.lemmas.Bool.{eq-eqb, ne_eqb}
use Rattle.component_dto.specs.declared.description.Reference.{Reference}
use Rattle.component_state.specs.declared.component.Component.{Component}
use Rattle.component_state.specs.declared.origin.Choice.{Choice}
use Rattle.component_state.specs.Reasons.{choice_at}
use Rattle.component_state.proofs.Apart.{in_cases, in_none}
use Rattle.prop_map.specs.declared.properties.Property.{Property}
use Rattle.prop_map.specs.Words.{with_places}
use Rattle.reference_match.specs.Needs.{need_of}
use Rattle.reference_match.specs.Targets.{chosen, is_static, targets}
use Rattle.scr_world.specs.Dues.{choice_for, choices_of}
use Rattle.service_registry.specs.declared.row.ServiceRow.{ServiceRow}

place_low : (p : ℕ) (rs : List Reference) (k : ℕ) (q : Reference) → Contains (with_places p rs) (k, q) → p ≤ k
place_low p [] k q h = absurd (in_none (k, q) h)
place_low p (r ∷ rs) k q h = elim (in_cases (p, r) (with_places (p + 1) rs) (k, q) h) [
  | inl same ↦ (let here : p ≡ k = ap (λ (x : ℕ × Reference). x.0) same in omega (arith, here))
  | inr later ↦ (let low = place_low (p + 1) rs k q later in omega (arith, low))
]

module _ (rows : List ServiceRow) (properties : List Property) where
  abbrev its_choice : ℕ → Reference → Choice
  its_choice k q = record { reference = k; services = (let n = need_of properties q in chosen n (targets n rows)) }

  -- past the choice of another place
  past : (p : ℕ) (r : Reference) (k : ℕ) (rest : List Choice) → p + 1 ≤ k → find (λ (c : Choice). c.reference == k) (choice_for rows properties (p, r) ++ rest) ≡ find (λ (c : Choice). c.reference == k) rest
  past p r k rest low = go (is_static r.policy)
    where
      go : (b : Bool) → find (λ (c : Choice). c.reference == k) (cond b (its_choice p r ∷ []) [] ++ rest) ≡ find (λ (c : Choice). c.reference == k) rest
      go true = ap (λ b. cond b (Some (its_choice p r)) (find (λ (c : Choice). c.reference == k) rest)) (ne_eqb p k (λ same. omega (arith, same, low)))
      go false = refl

  here : (k : ℕ) (q : Reference) (rest : List Choice) → is_static q.policy ≡ true → find (λ (c : Choice). c.reference == k) (choice_for rows properties (k, q) ++ rest) ≡ Some (its_choice k q)
  here k q rest static =
      ap (λ b. find (λ (c : Choice). c.reference == k) (cond b (its_choice k q ∷ []) [] ++ rest)) static
      ∙ ap (λ b. cond b (Some (its_choice k q)) (find (λ (c : Choice). c.reference == k) rest)) (eq-eqb k k refl)

  found : (p : ℕ) (rs : List Reference) (k : ℕ) (q : Reference) → Contains (with_places p rs) (k, q) → is_static q.policy ≡ true
      → find (λ (c : Choice). c.reference == k) (flat_map (choice_for rows properties) (with_places p rs)) ≡ Some (its_choice k q)
  found p [] k q h static = absurd (in_none (k, q) h)
  found p (r ∷ rs) k q h static = elim (in_cases (p, r) (with_places (p + 1) rs) (k, q) h) [
    | inl same ↦ ap (λ (x : ℕ × Reference). find (λ (c : Choice). c.reference == k) (choice_for rows properties x ++ flat_map (choice_for rows properties) (with_places (p + 1) rs))) same
        ∙ here k q (flat_map (choice_for rows properties) (with_places (p + 1) rs)) static
    | inr later ↦ past p r k (flat_map (choice_for rows properties) (with_places (p + 1) rs)) (place_low (p + 1) rs k q later) ∙ found (p + 1) rs k q later static
  ]

pub fresh_choice : (rows : List ServiceRow) (c : Component) (k : ℕ) (q : Reference) → Contains (with_places 0 c.description.references) (k, q) → is_static q.policy ≡ true
    → choice_at (choices_of rows c) k ≡ (let n = need_of c.properties q in chosen n (targets n rows))
fresh_choice rows c k q h static = ap (λ (o : Option Choice). option_map_or (λ (x : Choice). x.services) o []) (found rows c.properties 0 c.description.references k q h static)
