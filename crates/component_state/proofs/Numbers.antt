-- Component configurations by their numbers.
use Rattle.std.proofs.Common.{inl, inr, ◌≡◌, ◌<◌, ℕ, List, [], ◌∷◌, ◌++◌, arith, ap, sym, ◌∙◌, refl, Bool, true, false, Some}
use Rattle.std.specs.Prelude.{filter, find, not, ◌==◌}
use Rattle.std.proofs.lemmas.Bool.{cases_Bool, cond-true, cond-false, eqb-true, eq-eqb, and_parts, and_from, not_from_false, not-true, false≢true, false_from_ne_true}
use Rattle.component_state.specs.declared.component.Component.{Component}
use Rattle.component_state.specs.Components.{numbers_of, are_numbered}
use Rattle.prop_map.specs.Words.{has}
use Rattle.component_state.proofs.Among.{Among, among_append, among_filter, among_kept, any_witness, any_from, any_map}

pub has_number : (cs : List Component) (c : Component) → Among cs c → has (numbers_of cs) c.number ≡ true
has_number cs c here = any_map (λ n. n == c.number) (λ (d : Component). d.number) cs ∙ any_from (λ (d : Component). d.number == c.number) cs c here (eq-eqb c.number c.number refl)

pub number_witness : (cs : List Component) (n : ℕ) → has (numbers_of cs) n ≡ true → (c : Component) × Among cs c × (c.number ≡ n)
number_witness cs n e =
    let found = any_witness (λ (d : Component). d.number == n) cs (sym (any_map (λ m. m == n) (λ (d : Component). d.number) cs) ∙ e) in
    (found.0, found.1, eqb-true found.0.number n found.2)

not_later : (c : Component) (cs : List Component) (x : Component) → are_numbered (c ∷ cs) ≡ true → Among cs x → x.number ≡ c.number → ⊥
not_later c cs x numbered later same =
    false≢true (sym (not-true (has (numbers_of cs) c.number) (and_parts (not (has (numbers_of cs) c.number)) (are_numbered cs) numbered).0) ∙ ap (has (numbers_of cs)) (sym same) ∙ has_number cs x later)

rest_numbered : (c : Component) (cs : List Component) → are_numbered (c ∷ cs) ≡ true → are_numbered cs ≡ true
rest_numbered c cs numbered = (and_parts (not (has (numbers_of cs) c.number)) (are_numbered cs) numbered).1

-- a number names one component configuration
pub same_component : (cs : List Component) → are_numbered cs ≡ true → (x y : Component) → Among cs x → Among cs y → x.number ≡ y.number → x ≡ y
same_component [] numbered x y in_x in_y same = absurd in_x
same_component (c ∷ cs) numbered x y (inl a) (inl b) same = sym a ∙ b
same_component (c ∷ cs) numbered x y (inl a) (inr b) same = absurd (not_later c cs y numbered b (sym same ∙ ap (λ (d : Component). d.number) (sym a)))
same_component (c ∷ cs) numbered x y (inr a) (inl b) same = absurd (not_later c cs x numbered a (same ∙ ap (λ (d : Component). d.number) (sym b)))
same_component (c ∷ cs) numbered x y (inr a) (inr b) same = same_component cs (rest_numbered c cs numbered) x y a b same

-- and is found by it
pub found_by_number : (cs : List Component) → are_numbered cs ≡ true → (x : Component) → Among cs x → find (λ (d : Component). d.number == x.number) cs ≡ Some x
found_by_number [] numbered x here = absurd here
found_by_number (c ∷ cs) numbered x (inl same) =
    cond-true (c.number == x.number) (Some c) (find (λ (d : Component). d.number == x.number) cs) (eq-eqb c.number x.number (ap (λ (d : Component). d.number) same)) ∙ ap (λ (d : Component). Some d) same
found_by_number (c ∷ cs) numbered x (inr later) =
    cond-false (c.number == x.number) (Some c) (find (λ (d : Component). d.number == x.number) cs)
    (false_from_ne_true (c.number == x.number) (λ e. not_later c cs x numbered later (sym (eqb-true c.number x.number e))))
    ∙ found_by_number cs (rest_numbered c cs numbered) x later

-- whether a filter keeps one is told by its number
pub has_filtered : (cs order : List Component) → are_numbered cs ≡ true → ((x : Component) → Among order x → Among cs x) → (t : Component → Bool) (x : Component) → Among order x
    → has (numbers_of (filter t order)) x.number ≡ t x
has_filtered cs order numbered there t x here = elim (cases_Bool (t x)) [
  | inl on ↦ has_number (filter t order) x (among_kept t order x here on) ∙ sym on
  | inr off ↦ false_from_ne_true (has (numbers_of (filter t order)) x.number) (λ e. kept_out off (number_witness (filter t order) x.number e)) ∙ sym off
]
  where
    kept_out : t x ≡ false → (c : Component) × Among (filter t order) c × (c.number ≡ x.number) → ⊥
    kept_out off found =
        let kept = among_filter t order found.0 found.1 in
        false≢true (sym off ∙ ap t (sym (same_component cs numbered found.0 x (there found.0 kept.0) (there x here) found.2)) ∙ kept.1)

-- one more with a higher number
pub numbered_push : (cs : List Component) (c : Component) → are_numbered cs ≡ true → ((d : Component) → Among cs d → d.number < c.number) → are_numbered (cs ++ c ∷ []) ≡ true
numbered_push [] c numbered below = refl
numbered_push (d ∷ ds) c numbered below =
    and_from (not (has (numbers_of (ds ++ c ∷ [])) d.number)) (are_numbered (ds ++ c ∷ []))
    (not_from_false (has (numbers_of (ds ++ c ∷ [])) d.number) (false_from_ne_true (has (numbers_of (ds ++ c ∷ [])) d.number) (λ e. again (number_witness (ds ++ c ∷ []) d.number e))))
    (numbered_push ds c (rest_numbered d ds numbered) (λ e here. below e (inr here)))
  where
    again : (e : Component) × Among (ds ++ c ∷ []) e × (e.number ≡ d.number) → ⊥
    again found = elim (among_append ds (c ∷ []) found.0 found.1) [
      | inl early ↦ not_later d ds found.0 numbered early found.2
      | inr (inl same) ↦ omega (arith, ap (λ (x : Component). x.number) same, found.2, below d (inl refl))
      | inr (inr none) ↦ none
    ]
