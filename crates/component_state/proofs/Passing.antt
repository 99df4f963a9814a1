-- The steps of a pass over all component configurations are a pass.
use Rattle.std.proofs.Common.{inl, inr, ◌≡◌, ℕ, suc, List, [], ◌∷◌, length, ap, sym, ◌∙◌, refl, subst, Bool, true, false, ◌&&◌, ◌||◌}
use Rattle.std.specs.Prelude.{filter, fold, not}
use Rattle.std.specs.List.{Contains, list_all}
use Rattle.reference_match.specs.Targets.{is_met}
use Rattle.std.proofs.lemmas.Bool.{and_parts, cases_Bool, false_from_ne_true, false≢true, not-true}
use Rattle.std.proofs.lemmas.List.{length-map}
use Rattle.component_dto.specs.declared.description.Description.{Description}
use Rattle.level_order.specs.Levels.{AreLevels, level_from}
use Rattle.component_state.specs.declared.component.Component.{Component}
use Rattle.component_state.specs.declared.open_period.OpenPeriod.{OpenPeriod}
use Rattle.component_state.specs.declared.pass.Passed.{Passed}
use Rattle.component_state.specs.Components.{lacks_configuration, level_count, needs_of, numbers_of, pass_order}
use Rattle.component_state.specs.Passes.{Stage, services_in, pass_order_of, held_back_in, satisfied_where, closing, opening, opened_from, next_from, HasPassed}
use Rattle.component_state.specs.Periods.{is_open, open_after}
use Rattle.component_state.specs.Reasons.{has_reason}
use Rattle.component_state.specs.Inside.Runs.{may_open, must_close, nothing_passed, passed_all, passed_one}
use Rattle.component_state.specs.Inside.Ready.{ArePlain, IsReady}
use Rattle.prop_map.specs.Words.{has}
use Rattle.component_state.proofs.Among.{Among, among_contains, contains_among, among_filter, filter_same}
use Rattle.component_state.proofs.Decisions.{closes, has_to_close, opens, stands}
use Rattle.component_state.proofs.FinallyOpen.{held_final, open_decided, open_witness}
use Rattle.component_state.proofs.FromScratch.{satisfied_stands}
use Rattle.component_state.proofs.Numbers.{has_filtered, number_witness, has_number}
use Rattle.component_state.proofs.OpenAfter.{begun_so_far, open_so_far, IsOpenSoFar}
use Rattle.component_state.proofs.Order.{among_order, in_order_each, order_ordered}
use Rattle.component_state.proofs.Plain.{open_after_plain, pass_apart}
use Rattle.component_state.proofs.Seen.{numbered_apart}
use Rattle.component_state.proofs.Apart.{apart_kept, kept_was}
use Rattle.component_state.proofs.Reading.{ReadsAs, reads}
use Rattle.component_state.proofs.Stability.{AreKnown, known_after}

-- as many levels as descriptions
pub levels_length : (ds : List Description) (levels : List ℕ) → AreLevels ds levels → length ds ≡ length levels
levels_length ds levels are = sym (ap length are ∙ length-map ds (λ d. level_from d ds levels))

known_all : (s : Stage) (cs : List Component) (p : Passed) → ((c : Component) → Among cs c → Among s.components c) → AreKnown s.components p.open_now → AreKnown s.components (fold (passed_one s) p cs).open_now
known_all s [] p there known = known
known_all s (c ∷ cs) p there known = known_all s cs (passed_one s p c) (λ d here. there d (inr here)) (known_after s p c (there c (inl refl)) known)

-- what opens, by what is open in the end
opens_agrees : (b s o x : Bool) → (b ≡ false → x ≡ (s && not o)) → (not b && x) ≡ (s && (not o && not b))
opens_agrees true true true x is = refl
opens_agrees true true false x is = refl
opens_agrees true false o x is = refl
opens_agrees false true true x is = is refl
opens_agrees false true false x is = is refl
opens_agrees false false o x is = is refl

opens_only : (b c x y : Bool) → y ≡ ((b && not c) || (not b && x)) → b ≡ false → x ≡ y
opens_only true c x y is e = absurd (false≢true (sym e))
opens_only false c x y is e = sym is

module _ (s : Stage) (ready : IsReady s) where
  abbrev final : Passed
  final = passed_all s

  abbrev now : List OpenPeriod
  now = final.open_now

  there : (c : Component) → Among (pass_order_of s) c → Among s.components c
  there = among_order s.descriptions s.levels s.components

  each : (c : Component) → Among s.components c → Among (pass_order_of s) c
  each = in_order_each s.descriptions s.levels s.components

  known_before : AreKnown s.components s.open_before
  known_before o here = ready.periods o (among_contains s.open_before o here)

  read : ReadsAs s (nothing_passed s.next s.open_before) (pass_order_of s) final
  read = reads s ready (pass_order_of s) there (order_ordered s.descriptions s.levels s.components) (nothing_passed s.next s.open_before) known_before

  known : AreKnown s.components now
  known = known_all s (pass_order_of s) (nothing_passed s.next s.open_before) there known_before

  so_far : IsOpenSoFar s final
  so_far = open_so_far s (pass_order_of s) (nothing_passed s.next s.open_before) (begun_so_far s)

  plain : ArePlain now
  plain = subst ArePlain (sym (so_far.are ∙ ap (λ w. open_after s.place s.components final.closed w s.open_before) read.opened))
      (open_after_plain s.place s.next s.components (filter (opens s now) (pass_order_of s)) ready.next (numbered_apart s.components ready.numbered)
      (λ c here. among_contains s.components c (there c (among_filter (opens s now) (pass_order_of s) c (contains_among (filter (opens s now) (pass_order_of s)) c here)).0))
      final.closed s.open_before ready.plain
      (apart_kept (λ (c : Component). c.number) (opens s now) (pass_order_of s) (pass_apart s.descriptions s.levels s.components (numbered_apart s.components ready.numbered)))
      (λ c here. not-true (is_open s.open_before c.number) (and_parts (not (is_open s.open_before c.number)) (may_open s (services_in s now) c) (kept_was (opens s now) (pass_order_of s) c here).1).0))

  -- it is open in the end where it stands and isn't held back
  held : (c : Component) → Among (pass_order_of s) c → is_open now c.number ≡ (stands s now c && not (has (held_back_in s now) c.number))
  held = held_final s ready final so_far.are read.closed read.opened there

  satisfied_are : satisfied_where s now ≡ numbers_of (filter (stands s now) (pass_order_of s))
  satisfied_are =
      ap numbers_of (satisfied_stands s.descriptions s.levels s.direct s.components ready.levels ready.numbered
      (λ c here. contains_among s.descriptions c.description (ready.described c (among_contains s.components c here))) now (held_back_in s now) known plain (suc (level_count s.levels)) (λ c here low. held c (each c here)))

  is_satisfied : (c : Component) → Among (pass_order_of s) c → has (satisfied_where s now) c.number ≡ stands s now c
  is_satisfied c here = ap (λ w. has w c.number) satisfied_are ∙ has_filtered s.components (pass_order_of s) ready.numbered there (stands s now) c here

  closing_are : numbers_of (filter (closes s now) (pass_order_of s)) ≡ closing s now
  closing_are =
      ap numbers_of (filter_same (closes s now)
      (λ (c : Component). is_open s.open_before c.number && has_reason s.place s.open_before (services_in s now) (satisfied_where s now) s.origins s.failing c) (pass_order_of s)
      (λ c here. ap (λ b. is_open s.open_before c.number && b) (has_to_close s now (satisfied_where s now) c (is_satisfied c here))))

  opening_are : filter (opens s now) (pass_order_of s) ≡ opening s now
  opening_are =
      filter_same (opens s now) (λ (c : Component). has (satisfied_where s now) c.number && (not (has (held_back_in s now) c.number) && not (is_open s.open_before c.number))) (pass_order_of s)
      (λ c here. opens_agrees (is_open s.open_before c.number) (stands s now c) (has (held_back_in s now) c.number) (may_open s (services_in s now) c)
      (λ was. opens_only (is_open s.open_before c.number) (closes s now c) (may_open s (services_in s now) c) (is_open now c.number) (open_decided s ready final so_far.are read.closed read.opened there c here) was ∙ held c here)
      ∙ ap (λ b. b && (not (has (held_back_in s now) c.number) && not (is_open s.open_before c.number))) (sym (is_satisfied c here)))

  unknown_closed : (n : ℕ) → has (numbers_of s.components) n ≡ false → is_open now n ≡ false
  unknown_closed n unknown =
      false_from_ne_true (is_open now n)
      (λ e. (let found = open_witness now n e in false≢true (sym unknown ∙ ap (has (numbers_of s.components)) (sym found.2) ∙ (known found.0 found.1).known)))

  unknown_unsatisfied : (n : ℕ) → has (numbers_of s.components) n ≡ false → has (numbers_of (filter (stands s now) (pass_order_of s))) n ≡ false
  unknown_unsatisfied n unknown =
      false_from_ne_true (has (numbers_of (filter (stands s now) (pass_order_of s))) n)
      (λ e. (let found = number_witness (filter (stands s now) (pass_order_of s)) n e in
      let kept = among_filter (stands s now) (pass_order_of s) found.0 found.1 in
      false≢true (sym unknown ∙ ap (has (numbers_of s.components)) (sym found.2) ∙ has_number s.components found.0 (there found.0 kept.0))))

  from_scratch : (n : ℕ) → is_open now n ≡ (has final.satisfied n && not (has (held_back_in s now) n))
  from_scratch n = elim (cases_Bool (has (numbers_of s.components) n)) [
    | inl there' ↦ (let found = number_witness s.components n there' in
        let here = each found.0 found.1 in
        ap (is_open now) (sym found.2) ∙ held found.0 here
        ∙ ap (λ b. b && not (has (held_back_in s now) found.0.number)) (sym (ap (λ w. has w found.0.number) read.satisfied ∙ has_filtered s.components (pass_order_of s) ready.numbered there (stands s now) found.0 here))
        ∙ ap (λ m. has final.satisfied m && not (has (held_back_in s now) m)) found.2)
    | inr unknown ↦ unknown_closed n unknown ∙ ap (λ b. b && not (has (held_back_in s now) n)) (sym (ap (λ w. has w n) read.satisfied ∙ unknown_unsatisfied n unknown))
  ]

  -- so it is a pass
  pub has_passed : HasPassed s (passed_all s)
  has_passed = record {
    closed = read.closed ∙ closing_are;
    opened = read.opened ∙ ap (opened_from s.next) opening_are;
    open_now = so_far.are;
    satisfied = read.satisfied ∙ sym satisfied_are;
    next = read.next ∙ ap (next_from s.next) opening_are;
    scratch = from_scratch;
  }
