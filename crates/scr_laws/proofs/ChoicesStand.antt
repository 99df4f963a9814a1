-- After a pass no living instance of what is open is misled: what was open and has such a one has closed, and what opens has no instance yet.
use Rattle.std.proofs.Common.{◌≡◌, ◌≤◌, ℕ, List, [], ◌∷◌, ap, sym, ◌∙◌, refl, subst, cond, arith, Bool, true, false, ◌&&◌, ◌||◌, inl, inr, ◌⊎◌}
use Rattle.std.specs.Prelude.{filter, map, not, ◌==◌, nat_lt}
use Rattle.std.specs.List.{Contains, list_any}
use Rattle.std.proofs.lemmas.Bool.{and_from, and_parts, both_ways, cases_Bool, eqb-true, ltb-true, not-true}
use Rattle.component_state.specs.declared.component.Component.{Component}
use Rattle.component_state.specs.declared.origin.Origin.{Origin}
use Rattle.component_state.specs.declared.open_period.OpenPeriod.{OpenPeriod}
use Rattle.component_state.specs.declared.pass.Passed.{Passed}
use Rattle.component_state.specs.Passes.{HasPassed, Stage, pass_order_of, satisfied_where, services_in}
use Rattle.component_state.specs.Periods.{is_current, is_open, opened_at}
use Rattle.component_state.specs.Inside.Misled.{chose_outdated, is_misled}
use Rattle.component_state.specs.Reasons.{has_reason, has_untold_change}
use Rattle.component_state.proofs.ReasonLaws.{quiet_lives, reasons_are}
use Rattle.journal_core.specs.declared.entry.Opened.{Opened}
use Rattle.prop_map.specs.Words.{has}
use Rattle.scr_laws.specs.Stills.{is_misled_in}
use Rattle.component_state.proofs.Apart.{any_from, in_cases, in_either, in_first, in_none, in_rest, kept_was}
use Rattle.scr_laws.proofs.Stillness.{number_in}

any_to : {X : Type 0} (p : X → Bool) (xs : List X) → list_any p xs ≡ true → (x : X) × Contains xs x × (p x ≡ true)
any_to p [] is = cc
any_to p (x ∷ xs) is = go (any_to p xs) (p x) refl is
  where
    go : (list_any p xs ≡ true → (y : _) × Contains xs y × (p y ≡ true)) → (b : Bool) → p x ≡ b → (b || list_any p xs) ≡ true → (y : _) × Contains (x ∷ xs) y × (p y ≡ true)
    go later true here is = (x, in_first x xs, here)
    go later false off is = let found = later is in (found.0, in_rest x xs found.0 found.1, found.2)

none_of : {X : Type 0} (p : X → Bool) (xs : List X) → ((x : X) → Contains xs x → p x ≡ false) → list_any p xs ≡ false
none_of p [] each = refl
none_of p (x ∷ xs) each = ap (λ b. b || list_any p xs) (each x (in_first x xs)) ∙ none_of p xs (λ y h. each y (in_rest x xs y h))

each_not : {X : Type 0} (p : X → Bool) (xs : List X) (x : X) → list_any p xs ≡ false → Contains xs x → p x ≡ false
each_not p xs x none here = elim (cases_Bool (p x)) [
  | inl on ↦ absurd (both_ways (list_any p xs) none (any_from p xs x here on))
  | inr off ↦ off
]

in_filter : {X : Type 0} (t : X → Bool) (xs : List X) (x : X) → Contains xs x → t x ≡ true → Contains (filter t xs) x
in_filter t [] x h is = absurd (in_none x h)
in_filter t (y ∷ ys) x h is = elim (in_cases y ys x h) [
  | inl same ↦ subst (λ b. Contains (cond b (y ∷ filter t ys) (filter t ys)) x) (sym (ap t same ∙ is)) (subst (λ z. Contains (y ∷ filter t ys) z) same (in_first y (filter t ys)))
  | inr later ↦ go (t y) (in_filter t ys x later is)
]
  where
    go : (b : Bool) → Contains (filter t ys) x → Contains (cond b (y ∷ filter t ys) (filter t ys)) x
    go true k = in_rest y (filter t ys) x k
    go false k = k

opened_then : (place : ℕ) (cs : List Component) (os : List Opened) (p : OpenPeriod) → Contains (map (opened_at place cs) os) p → p.opened ≡ place
opened_then place cs [] p here = absurd (in_none p here)
opened_then place cs (o ∷ os) p here = elim (in_cases (opened_at place cs o) (map (opened_at place cs) os) p here) [
  | inl same ↦ ap (λ (q : OpenPeriod). q.opened) (sym same)
  | inr later ↦ opened_then place cs os p later
]

or_off_right : (a b : Bool) → (a || b) ≡ false → b ≡ false
or_off_right false b is = is
or_off_right true b is = cc

module _ (s : Stage) (p : Passed) (passed : HasPassed s p) (created : (l : Origin) → Contains s.origins l → l.created ≤ s.place) (c : Component) (ordered : Contains (pass_order_of s) c) where
  -- what was open and hasn't closed has no reason to
  quiet_before : is_open s.open_before c.number ≡ true → has p.closed c.number ≡ false → list_any (is_misled s.place s.open_before (services_in s p.open_now) c) s.origins ≡ false
  quiet_before was kept =
      or_off_right (not (has (satisfied_where s p.open_now) c.number) || has s.failing c.number) (list_any (is_misled s.place s.open_before (services_in s p.open_now) c) s.origins)
      (elim (cases_Bool (has_reason s.place s.open_before (services_in s p.open_now) (satisfied_where s p.open_now) s.origins s.failing c)) [
        | inl on ↦ absurd (both_ways (has p.closed c.number) kept (ap (λ ns. has ns c.number) passed.closed ∙ number_in
            (filter (λ (d : Component). is_open s.open_before d.number && has_reason s.place s.open_before (services_in s p.open_now) (satisfied_where s p.open_now) s.origins s.failing d) (pass_order_of s)) c
            (in_filter (λ (d : Component). is_open s.open_before d.number && has_reason s.place s.open_before (services_in s p.open_now) (satisfied_where s p.open_now) s.origins s.failing d) (pass_order_of s) c ordered
            (and_from (is_open s.open_before c.number) (has_reason s.place s.open_before (services_in s p.open_now) (satisfied_where s p.open_now) s.origins s.failing c) was on))))
        | inr off ↦ sym (reasons_are s.place s.open_before (services_in s p.open_now) (satisfied_where s p.open_now) s.origins s.failing c
            (λ met. quiet_lives s.place s.open_before (services_in s p.open_now) (satisfied_where s p.open_now) s.origins s.failing c off)) ∙ off
      ])

  not_outdated : (l : Origin) → (l.configuration == c.number) ≡ true → is_current s.open_before l ≡ true → is_misled s.place s.open_before (services_in s p.open_now) c l ≡ false → chose_outdated (services_in s p.open_now) c l ≡ false
  not_outdated l same current off = go (has_untold_change s.place c) (chose_outdated (services_in s p.open_now) c l) (ap (λ b. b && (has_untold_change s.place c || (is_current s.open_before l && chose_outdated (services_in s p.open_now) c l))) (sym same)
      ∙ off) current
    where
      go : (a d : Bool) → (true && (a || (is_current s.open_before l && d))) ≡ false → is_current s.open_before l ≡ true → d ≡ false
      go true d is now = cc
      go false d is now = ap (λ b. b && d) (sym now) ∙ is

  stands : (l : Origin) → Contains s.origins l → is_misled_in s p.open_now c l ≡ false
  stands l here = go (cases_Bool (l.configuration == c.number)) (cases_Bool (is_current p.open_now l))
    where
      from_before : (q : OpenPeriod) → (l.configuration == c.number) ≡ true → Contains (filter (λ (o : OpenPeriod). not (has p.closed o.configuration)) s.open_before) q → ((q.configuration == l.configuration) && nat_lt q.opened l.created) ≡ true → chose_outdated (services_in s p.open_now) c l ≡ false
      from_before q same there is =
          let kept = kept_was (λ (o : OpenPeriod). not (has p.closed o.configuration)) s.open_before q there in
          let parts = and_parts (q.configuration == l.configuration) (nat_lt q.opened l.created) is in
          let numbers : q.configuration ≡ c.number = eqb-true q.configuration l.configuration parts.0 ∙ eqb-true l.configuration c.number same in
          not_outdated l same (any_from (λ (o : OpenPeriod). (o.configuration == l.configuration) && nat_lt o.opened l.created) s.open_before q kept.0 is)
          (each_not (is_misled s.place s.open_before (services_in s p.open_now) c) s.origins l
          (quiet_before (any_from (λ (o : OpenPeriod). o.configuration == c.number) s.open_before q kept.0 (ap (λ n. n == c.number) (eqb-true q.configuration l.configuration parts.0) ∙ same))
          (subst (λ n. has p.closed n ≡ false) numbers (not-true (has p.closed q.configuration) kept.1))) here)

      from_opened : (q : OpenPeriod) → Contains (map (opened_at s.place s.components) p.opened) q → ((q.configuration == l.configuration) && nat_lt q.opened l.created) ≡ true → ⊥
      from_opened q there is =
          let later = ltb-true q.opened l.created (and_parts (q.configuration == l.configuration) (nat_lt q.opened l.created) is).1 in
          omega (arith, later, opened_then s.place s.components p.opened q there, created l here)

      outdated_off : (l.configuration == c.number) ≡ true → is_current p.open_now l ≡ true → chose_outdated (services_in s p.open_now) c l ≡ false
      outdated_off same current =
          let found = any_to (λ (o : OpenPeriod). (o.configuration == l.configuration) && nat_lt o.opened l.created) p.open_now current in
          elim (in_either (filter (λ (o : OpenPeriod). not (has p.closed o.configuration)) s.open_before) (map (opened_at s.place s.components) p.opened) found.0 (subst (λ os. Contains os found.0) passed.open_now found.1)) [
            | inl old ↦ from_before found.0 same old found.2
            | inr new ↦ absurd (from_opened found.0 new found.2)
          ]

      off : (b : Bool) → (b && false) ≡ false
      off true = refl
      off false = refl

      go : ((l.configuration == c.number) ≡ true) ⊎ ((l.configuration == c.number) ≡ false) → (is_current p.open_now l ≡ true) ⊎ (is_current p.open_now l ≡ false) → is_misled_in s p.open_now c l ≡ false
      go (inr other) either = rw (other) refl
      go (inl same) (inr past) = rw (past, off (l.configuration == c.number)) refl
      go (inl same) (inl current) = rw (outdated_off same current, off (is_current p.open_now l), off (l.configuration == c.number)) refl

pub choices_stand : (s : Stage) (p : Passed) → HasPassed s p → ((l : Origin) → Contains s.origins l → l.created ≤ s.place) → (c : Component) → Contains (pass_order_of s) c → list_any (is_misled_in s p.open_now c) s.origins ≡ false
choices_stand s p passed created c ordered = none_of (is_misled_in s p.open_now c) s.origins (stands s p passed created c ordered)
