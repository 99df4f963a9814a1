-- The reasons to close, with those that concern living instances in one.
use Rattle.std.proofs.Common.{◌≡◌, ℕ, List, [], ◌∷◌, ap, sym, ◌∙◌, refl, Bool, true, false, ◌&&◌, ◌||◌}
use Rattle.std.specs.Prelude.{not}
use Rattle.std.specs.List.{list_any}
use Rattle.component_dto.specs.declared.description.Reference.{Reference}
use Rattle.prop_map.specs.Words.{has, with_places}
use Rattle.reference_match.specs.Needs.{need_of}
use Rattle.reference_match.specs.Targets.{is_static, targets}
use Rattle.service_registry.specs.declared.row.ServiceRow.{ServiceRow}
use Rattle.component_state.specs.declared.component.Component.{Component}
use Rattle.component_state.specs.declared.origin.Origin.{Origin}
use Rattle.component_state.specs.declared.open_period.OpenPeriod.{OpenPeriod}
use Rattle.component_state.specs.Inside.Misled.{chose_outdated, is_misled}
use Rattle.component_state.specs.Periods.{is_current}
use Rattle.component_state.specs.Reasons.{choice_at, has_lost, has_reason, is_of, is_of_open, has_untold_change, lost_a_choice, would_choose, would_choose_others}

-- ---- lists

module _ {X : Type 0} where
  any_same : (p q : X → Bool) (xs : List X) → ((x : X) → p x ≡ q x) → list_any p xs ≡ list_any q xs
  any_same p q [] each = refl
  any_same p q (x ∷ xs) each = ap (λ b. b || list_any p xs) (each x) ∙ ap (λ b. q x || b) (any_same p q xs each)

  any_either : (p q : X → Bool) (xs : List X) → list_any (λ x. p x || q x) xs ≡ (list_any p xs || list_any q xs)
  any_either p q [] = refl
  any_either p q (x ∷ xs) = ap (λ b. (p x || q x) || b) (any_either p q xs) ∙ swap (p x) (q x) (list_any p xs) (list_any q xs)
    where
      swap : (a b c d : Bool) → ((a || b) || (c || d)) ≡ ((a || c) || (b || d))
      swap true b c d = refl
      swap false true true d = refl
      swap false true false d = refl
      swap false false c d = refl

  any_where : (b : Bool) (p : X → Bool) (xs : List X) → list_any (λ x. b && p x) xs ≡ (b && list_any p xs)
  any_where true p xs = refl
  any_where false p [] = refl
  any_where false p (x ∷ xs) = any_where false p xs

-- ---- one life

-- a choice is outdated where it lost a service or others would be chosen
chose_is : (rows : List ServiceRow) (c : Component) (l : Origin) → chose_outdated rows c l ≡ (lost_a_choice rows c l || would_choose_others rows c l)
chose_is rows c l =
    any_same (λ (r : ℕ × Reference). is_static r.1.policy && (lost r || others r)) (λ (r : ℕ × Reference). (is_static r.1.policy && lost r) || (is_static r.1.policy && others r)) (with_places 0 c.description.references)
    (λ r. over (is_static r.1.policy) (lost r) (others r))
    ∙ any_either (λ (r : ℕ × Reference). is_static r.1.policy && lost r) (λ (r : ℕ × Reference). is_static r.1.policy && others r) (with_places 0 c.description.references)
  where
    lost : ℕ × Reference → Bool
    lost r = let n = need_of c.properties r.1 in has_lost n (choice_at l.chosen r.0) (targets n rows)

    others : ℕ × Reference → Bool
    others r = let n = need_of c.properties r.1 in would_choose n (choice_at l.chosen r.0) (targets n rows)

    over : (s a b : Bool) → (s && (a || b)) ≡ ((s && a) || (s && b))
    over true a b = refl
    over false a b = refl

module _ (place : ℕ) (before : List OpenPeriod) (rows : List ServiceRow) (c : Component) where
  misled_is : (l : Origin) → is_misled place before rows c l ≡ ((has_untold_change place c && is_of c l) || ((is_of_open before c l && lost_a_choice rows c l) || (is_of_open before c l && would_choose_others rows c l)))
  misled_is l =
      ap (λ b. is_of c l && (has_untold_change place c || (is_current before l && b))) (chose_is rows c l)
      ∙ parts (is_of c l) (has_untold_change place c) (is_current before l) (lost_a_choice rows c l) (would_choose_others rows c l)
    where
      parts : (own renewed now lost others : Bool) → (own && (renewed || (now && (lost || others)))) ≡ ((renewed && own) || (((own && now) && lost) || ((own && now) && others)))
      parts false true now lost others = refl
      parts false false now lost others = refl
      parts true true now lost others = refl
      parts true false true lost others = refl
      parts true false false lost others = refl

  some_misled : (all : List Origin) → list_any (is_misled place before rows c) all
      ≡ ((has_untold_change place c && list_any (is_of c) all) || (list_any (λ l. is_of_open before c l && lost_a_choice rows c l) all || list_any (λ l. is_of_open before c l && would_choose_others rows c l) all))
  some_misled all =
      any_same (is_misled place before rows c) (λ l. (has_untold_change place c && is_of c l) || ((is_of_open before c l && lost_a_choice rows c l) || (is_of_open before c l && would_choose_others rows c l))) all misled_is
      ∙ any_either (λ l. has_untold_change place c && is_of c l) (λ l. (is_of_open before c l && lost_a_choice rows c l) || (is_of_open before c l && would_choose_others rows c l)) all
      ∙ ap (λ b. b || list_any (λ l. (is_of_open before c l && lost_a_choice rows c l) || (is_of_open before c l && would_choose_others rows c l)) all) (any_where (has_untold_change place c) (is_of c) all)
      ∙ ap (λ b. (has_untold_change place c && list_any (is_of c) all) || b) (any_either (λ l. is_of_open before c l && lost_a_choice rows c l) (λ l. is_of_open before c l && would_choose_others rows c l) all)

-- ---- all reasons

-- where the satisfied ones haven't ceased
pub reasons_are : (place : ℕ) (before : List OpenPeriod) (rows : List ServiceRow) (satisfied : List ℕ) (all : List Origin) (failing : List ℕ) (c : Component) → (has satisfied c.number ≡ true → c.exists ≡ true)
    → has_reason place before rows satisfied all failing c ≡ ((not (has satisfied c.number) || has failing c.number) || list_any (is_misled place before rows c) all)
reasons_are place before rows satisfied all failing c alive =
    joined c.exists (has satisfied c.number) (has_untold_change place c && list_any (is_of c) all) (list_any (λ l. is_of_open before c l && lost_a_choice rows c l) all)
    (list_any (λ l. is_of_open before c l && would_choose_others rows c l) all) (has failing c.number) alive
    ∙ ap (λ b. (not (has satisfied c.number) || has failing c.number) || b) (sym (some_misled place before rows c all))
  where
    turned : (r a b f : Bool) → (((r || a) || b) || f) ≡ (f || (r || (a || b)))
    turned true a b true = refl
    turned true a b false = refl
    turned false true b true = refl
    turned false true b false = refl
    turned false false true true = refl
    turned false false true false = refl
    turned false false false true = refl
    turned false false false false = refl

    joined : (lives met r a b f : Bool) → (met ≡ true → lives ≡ true) → (((((not lives || not met) || r) || a) || b) || f) ≡ ((not met || f) || (r || (a || b)))
    joined true true r a b f is = turned r a b f
    joined true false r a b f is = refl
    joined false false r a b f is = refl
    joined false true r a b f is = absurd (wrong (is refl))
      where
        wrong : false ≡ true → ⊥
        wrong e = cc

-- what has no reason to close hasn't ceased
pub quiet_lives : (place : ℕ) (before : List OpenPeriod) (rows : List ServiceRow) (satisfied : List ℕ) (all : List Origin) (failing : List ℕ) (c : Component) → has_reason place before rows satisfied all failing c ≡ false → c.exists ≡ true
quiet_lives place before rows satisfied all failing c off =
    go c.exists (not (has satisfied c.number)) (has_untold_change place c && list_any (is_of c) all) (list_any (λ l. is_of_open before c l && lost_a_choice rows c l) all)
    (list_any (λ l. is_of_open before c l && would_choose_others rows c l) all) (has failing c.number) off
  where
    go : (lives u r a b f : Bool) → (((((not lives || u) || r) || a) || b) || f) ≡ false → lives ≡ true
    go true u r a b f is = refl
    go false u r a b f is = cc
