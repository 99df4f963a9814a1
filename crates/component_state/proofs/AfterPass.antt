-- What a pass leaves is what the next one begins with: its open periods are known, the existing instances of what is open are of its period, and nothing open is failed.
use Rattle.std.proofs.Common.{inl, inr, ◌≡◌, ℕ, List, [], ◌∷◌, ap, sym, ◌∙◌, refl, subst, Bool, true, false, ◌&&◌}
use Rattle.std.specs.Prelude.{filter, map, not, ◌==◌}
use Rattle.std.specs.List.{Contains}
use Rattle.std.proofs.lemmas.Bool.{and_parts, false≢true, not-true, not_from_false, or_parts, true_from_ne_false, eq-eqb}
use Rattle.std.proofs.lemmas.List.Folds.{list_any-append}
use Rattle.journal_core.specs.declared.entry.Opened.{Opened}
use Rattle.component_state.specs.declared.component.Component.{Component}
use Rattle.component_state.specs.declared.origin.Origin.{Origin}
use Rattle.component_state.specs.declared.open_period.OpenPeriod.{OpenPeriod}
use Rattle.component_state.specs.declared.pass.Passed.{Passed}
use Rattle.component_state.specs.Marks.{with_leaving}
use Rattle.component_state.specs.Passes.{Stage, HasPassed, pass_order_of, held_back_in, satisfied_where, opening, opened_from, next_after}
use Rattle.component_state.specs.Periods.{is_open, is_current, open_after, opened_at}
use Rattle.component_state.specs.Inside.Ready.{ArePlain, IsPeriodOf, IsReady}
use Rattle.prop_map.specs.Words.{has}
use Rattle.component_state.proofs.Among.{Among, among_contains, contains_among, among_append, among_filter, among_kept, among_map, any_from, any_map}
use Rattle.component_state.proofs.Numbers.{has_number}
use Rattle.component_state.proofs.Needs.{row_as_given}
use Rattle.component_state.proofs.Apart.{apart_kept}
use Rattle.component_state.proofs.Order.{among_order}
use Rattle.component_state.proofs.Plain.{open_after_plain, pass_apart}
use Rattle.component_state.proofs.Seen.{numbered_apart}

-- what opened is a component configuration
pub opened_of : (next : ℕ) (cs : List Component) (o : Opened) → Among (opened_from next cs) o → (c : Component) × Among cs c × (o.configuration ≡ c.number)
opened_of next [] o here = absurd here
opened_of next (c ∷ cs) o (inl same) = (c, inl refl, ap (λ (x : Opened). x.configuration) (sym same))
opened_of next (c ∷ cs) o (inr later) = let found = opened_of (next_after next c) cs o later in (found.0, inr found.1, found.2)

module _ (s : Stage) (p : Passed) (passed : HasPassed s p) where
  -- a existing instance of what is open is of its period, and what is open isn't failed
  free : (n : ℕ) → is_open p.open_now n ≡ true → (has s.failed n ≡ false) × (has (with_leaving p.open_now s.origins) n ≡ false)
  free n e =
      let both = and_parts (has p.satisfied n) (not (has (held_back_in s p.open_now) n)) (sym (passed.scratch n) ∙ e) in
      or_parts (has s.failed n) (has (with_leaving p.open_now s.origins) n) (sym (list_any-append (λ m. m == n) s.failed (with_leaving p.open_now s.origins)) ∙ not-true (has (held_back_in s p.open_now) n) both.1)

  pub open_unmarked : (n : ℕ) → is_open p.open_now n ≡ true → has s.failed n ≡ false
  open_unmarked n e = (free n e).0

  pub open_current : (l : Origin) → Contains s.origins l → is_open p.open_now l.configuration ≡ true → is_current p.open_now l ≡ true
  open_current l here e =
      true_from_ne_false (is_current p.open_now l)
      (λ ended. false≢true (sym (free l.configuration e).1 ∙ any_map (λ m. m == l.configuration) (λ (x : Origin). x.configuration) (filter (λ (x : Origin). not (is_current p.open_now x)) s.origins)
      ∙ any_from (λ (x : Origin). x.configuration == l.configuration) (filter (λ (x : Origin). not (is_current p.open_now x)) s.origins) l
      (among_kept (λ (x : Origin). not (is_current p.open_now x)) s.origins l (contains_among s.origins l here) (not_from_false (is_current p.open_now l) ended)) (eq-eqb l.configuration l.configuration refl)))

  -- each open period is that of a component configuration
  pub open_known : IsReady s → (o : OpenPeriod) → Contains p.open_now o → IsPeriodOf s.components o
  open_known ready o here =
      elim (among_append (filter (λ (x : OpenPeriod). not (has p.closed x.configuration)) s.open_before) (map (opened_at s.place s.components) p.opened) o
      (rw (← passed.open_now) (contains_among p.open_now o here))) [
        | inl left ↦ (let kept = among_filter (λ (x : OpenPeriod). not (has p.closed x.configuration)) s.open_before o left in ready.periods o (among_contains s.open_before o kept.0))
        | inr new ↦ (let found = among_map (opened_at s.place s.components) p.opened o new in
            let of_one = opened_of s.next (opening s p.open_now) found.0 (rw (← passed.opened) found.1) in
            let kept = among_filter (λ (c : Component). has (satisfied_where s p.open_now) c.number && (not (has (held_back_in s p.open_now) c.number) && not (is_open s.open_before c.number))) (pass_order_of s) of_one.0 of_one.1 in
            let number : has (map (λ (c : Component). c.number) s.components) found.0.configuration ≡ true =
            ap (has (map (λ (c : Component). c.number) s.components)) of_one.2 ∙ has_number s.components of_one.0 (among_order s.descriptions s.levels s.components of_one.0 kept.0) in
            fresh_is found.0 number (found.2))
      ]
    where
      fresh_is : (x : Opened) → has (map (λ (c : Component). c.number) s.components) x.configuration ≡ true → opened_at s.place s.components x ≡ o → IsPeriodOf s.components o
      fresh_is x number same = rw (← same) (record { known = number; row = row_as_given s.components x.configuration x.service 0 })

  -- none is open twice, and what is open without a service has no interfaces
  pub open_plain : IsReady s → ArePlain p.open_now
  open_plain ready =
      subst ArePlain (sym (passed.open_now ∙ ap (λ w. open_after s.place s.components p.closed w s.open_before) passed.opened))
      (open_after_plain s.place s.next s.components (opening s p.open_now) ready.next (numbered_apart s.components ready.numbered)
      (λ c here. among_contains s.components c (among_order s.descriptions s.levels s.components c (kept c here).0)) p.closed s.open_before ready.plain
      (apart_kept (λ (c : Component). c.number) opens (pass_order_of s) (pass_apart s.descriptions s.levels s.components (numbered_apart s.components ready.numbered)))
      (λ c here. not-true (is_open s.open_before c.number)
      (and_parts (not (has (held_back_in s p.open_now) c.number)) (not (is_open s.open_before c.number))
      (and_parts (has (satisfied_where s p.open_now) c.number) (not (has (held_back_in s p.open_now) c.number) && not (is_open s.open_before c.number)) (kept c here).1).1).1))
    where
      opens : Component → Bool
      opens c = has (satisfied_where s p.open_now) c.number && (not (has (held_back_in s p.open_now) c.number) && not (is_open s.open_before c.number))

      kept : (c : Component) → Contains (opening s p.open_now) c → Among (pass_order_of s) c × (opens c ≡ true)
      kept c here = among_filter opens (pass_order_of s) c (contains_among (opening s p.open_now) c here)
