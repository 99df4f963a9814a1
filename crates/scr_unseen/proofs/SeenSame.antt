-- Direct services that no need tells apart leave a stage still.
use Rattle.std.proofs.Common.{◌≡◌, ℕ, zero, suc, ◌+◌, List, [], ◌∷◌, ◌++◌, ap, sym, ◌∙◌, subst, refl, Bool, ◌&&◌, ◌||◌, inl, inr, length}
use Rattle.std.specs.Prelude.{filter, map, not, ◌==◌, nat_le}
use Rattle.std.specs.List.{Contains, list_any}
use Rattle.component_dto.specs.declared.description.Description.{Description}
use Rattle.component_dto.specs.declared.description.Reference.{Reference}
use Rattle.component_state.specs.declared.component.Component.{Component}
use Rattle.component_state.specs.declared.open_period.OpenPeriod.{OpenPeriod}
use Rattle.component_state.specs.declared.origin.Origin.{Origin}
use Rattle.component_state.specs.Components.{existing, lacks_configuration, level_count, level_of, needs_of, numbers_of, of_level, pass_order_below}
use Rattle.component_state.specs.Inside.Misled.{chose_outdated, is_misled, is_outdated}
use Rattle.component_state.specs.Passes.{Stage, held_back_in, satisfied_where}
use Rattle.component_state.specs.Periods.{is_current}
use Rattle.component_state.specs.Reasons.{choice_at, has_untold_change, is_of}
use Rattle.component_state.specs.Rows.{rows_of}
use Rattle.component_state.specs.Scratch.{is_satisfied, offered, offering, satisfied_below}
use Rattle.component_state.proofs.Apart.{all_same, in_cases, in_either, in_first, in_left, in_none, in_rest, kept_over, kept_was}
use Rattle.prop_map.specs.Words.{has, with_places}
use Rattle.reference_match.specs.declared.need.Need.{Need}
use Rattle.reference_match.specs.Needs.{need_of}
use Rattle.reference_match.specs.Targets.{is_met, is_static, meets, targets}
use Rattle.scr_laws.specs.Stills.{IsStill, SeeSame, with_direct}
use Rattle.scr_laws.proofs.Legal.{in_map}
use Rattle.scr_laws.proofs.Stillness.{same_kept}
use Rattle.service_registry.specs.declared.row.ServiceRow.{ServiceRow}
use Rattle.service_registry.specs.Services.{best_first, ids}

module _ {X : Type 0} where
  any_same : (p q : X → Bool) (xs : List X) → ((x : X) → Contains xs x → p x ≡ q x) → list_any p xs ≡ list_any q xs
  any_same p q [] each = refl
  any_same p q (x ∷ xs) each = ap (λ b. b || list_any p xs) (each x (in_first x xs)) ∙ ap (λ b. q x || b) (any_same p q xs (λ y h. each y (in_rest x xs y h)))

  among_places : (k : ℕ) (xs : List X) (r : ℕ × X) → Contains (with_places k xs) r → Contains xs r.1
  among_places k [] r h = absurd (in_none r h)
  among_places k (x ∷ xs) r h = elim (in_cases (k, x) (with_places (k + 1) xs) r h) [
    | inl same ↦ subst (λ (z : ℕ × X). Contains (x ∷ xs) z.1) same (in_first x xs)
    | inr later ↦ in_rest x xs r.1 (among_places (k + 1) xs r later)
  ]

-- ---- one component configuration

module _ (these those : List ServiceRow) (c : Component) (same : (n : Need) → Contains (needs_of c) n → filter (meets n) these ≡ filter (meets n) those) where
  met_same : (more : List ServiceRow) (n : Need) → Contains (needs_of c) n → filter (meets n) (these ++ more) ≡ filter (meets n) (those ++ more)
  met_same more n here = kept_over (meets n) these more ∙ ap (λ rows. rows ++ filter (meets n) more) (same n here) ∙ sym (kept_over (meets n) those more)

  pub satisfied_same : (more : List ServiceRow) → is_satisfied (these ++ more) c ≡ is_satisfied (those ++ more) c
  satisfied_same more =
      ap (λ b. not (lacks_configuration c) && b)
      (all_same (is_met (these ++ more)) (is_met (those ++ more)) (needs_of c) (λ n here. ap (λ rows. nat_le n.minimum (length rows)) (met_same more n here)))

  chose_same : (more : List ServiceRow) (o : Origin) → chose_outdated (these ++ more) c o ≡ chose_outdated (those ++ more) c o
  chose_same more o = any_same (λ (r : ℕ × Reference). is_static r.1.policy && (let n = need_of c.properties r.1 in is_outdated n (choice_at o.chosen r.0) (targets n (these ++ more))))
      (λ (r : ℕ × Reference). is_static r.1.policy && (let n = need_of c.properties r.1 in is_outdated n (choice_at o.chosen r.0) (targets n (those ++ more)))) (with_places 0 c.description.references)
      (λ r here. ap (λ rows. is_static r.1.policy && is_outdated (need_of c.properties r.1) (choice_at o.chosen r.0) (ids (best_first rows)))
      (met_same more (need_of c.properties r.1) (in_left (map (need_of c.properties) c.description.references) _ (need_of c.properties r.1) (in_map (need_of c.properties) c.description.references r.1 (among_places 0 c.description.references r here)))))

-- ---- from scratch, and in order

module _ (ds : List Description) (levels : List ℕ) (these those : List ServiceRow) (open_now : List OpenPeriod) (cs : List Component) (same : SeeSame these those cs) (out : List ℕ) where
  below_seen : (n : ℕ) → satisfied_below ds levels these open_now (existing cs) out n ≡ satisfied_below ds levels those open_now (existing cs) out n
  below_seen zero = refl
  below_seen (suc n) =
      ap (λ below. below ++ filter (is_satisfied (these ++ map (offered open_now) (offering out below))) (of_level ds levels (existing cs) n)) (below_seen n)
      ∙ ap (λ more. satisfied_below ds levels those open_now (existing cs) out n ++ more)
      (same_kept (is_satisfied (these ++ map (offered open_now) (offering out (satisfied_below ds levels those open_now (existing cs) out n)))) (is_satisfied (those ++ map (offered open_now) (offering out (satisfied_below ds levels those open_now (existing cs) out n)))) (of_level ds levels (existing cs) n)
      (λ c here. satisfied_same these those c (same c (kept_was (λ (d : Component). d.exists) cs c (kept_was (λ d. level_of ds levels d == n) (existing cs) c here).0).0) (map (offered open_now) (offering out (satisfied_below ds levels those open_now (existing cs) out n)))))

order_among : (ds : List Description) (levels : List ℕ) (cs : List Component) (n : ℕ) (c : Component) → Contains (pass_order_below ds levels cs n) c → Contains cs c
order_among ds levels cs zero c h = absurd (in_none c h)
order_among ds levels cs (suc n) c h = elim (in_either (pass_order_below ds levels cs n) (of_level ds levels cs n) c h) [
  | inl l ↦ order_among ds levels cs n c l
  | inr r ↦ (kept_was (λ d. level_of ds levels d == n) cs c r).0
]

module _ (s : Stage) (those : List ServiceRow) (next : ℕ) (still : IsStill s) (same : SeeSame s.direct those s.components) where
  met_are : satisfied_where s s.open_before ≡ satisfied_where (with_direct those next s) s.open_before
  met_are = ap numbers_of (below_seen s.descriptions s.levels s.direct those s.open_before s.components same (held_back_in s s.open_before) (suc (level_count s.levels)))

  misled_are : (c : Component) → Contains s.components c → (o : Origin) → is_misled s.place s.open_before (s.direct ++ rows_of s.open_before) c o ≡ is_misled s.place s.open_before (those ++ rows_of s.open_before) c o
  misled_are c here o = ap (λ b. is_of c o && (has_untold_change s.place c || (is_current s.open_before o && b))) (chose_same s.direct those c (same c here) (rows_of s.open_before) o)

  still_then : IsStill (with_direct those next s)
  still_then = record {
    failing = still.failing;
    scratch = λ n. still.scratch n ∙ ap (λ ns. has ns n && not (has (held_back_in s s.open_before) n)) met_are;
    living = still.living;
    led = λ c was ordered. sym (any_same (is_misled s.place s.open_before (s.direct ++ rows_of s.open_before) c) (is_misled s.place s.open_before (those ++ rows_of s.open_before) c) s.origins
        (λ o here. misled_are c (order_among s.descriptions s.levels s.components (suc (level_count s.levels)) c ordered) o)) ∙ still.led c was ordered;
  }

pub unseen_is_still : (s : Stage) (those : List ServiceRow) (next : ℕ) → IsStill s → SeeSame s.direct those s.components → IsStill (with_direct those next s)
unseen_is_still s those next still same = still_then s those next still same
