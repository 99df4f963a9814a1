-- After a pass just those are open that stand and aren't held back.
use Rattle.std.proofs.Common.{inl, inr, ◌≡◌, ℕ, List, [], ◌∷◌, ap, sym, ◌∙◌, refl, Bool, true, false, ◌&&◌, ◌||◌}
use Rattle.std.specs.Prelude.{filter, map, not, ◌==◌, nat_lt}
use Rattle.std.proofs.lemmas.Bool.{eqb-true, eq-eqb, false_from_ne_true, false≢true, not_from_false, not-true, and_parts, and_from, cases_Bool}
use Rattle.std.proofs.lemmas.List.Folds.{list_any-append}
use Rattle.journal_core.specs.declared.entry.Opened.{Opened}
use Rattle.component_state.specs.declared.component.Component.{Component}
use Rattle.component_state.specs.declared.origin.Origin.{Origin}
use Rattle.component_state.specs.declared.open_period.OpenPeriod.{OpenPeriod}
use Rattle.component_state.specs.declared.pass.Passed.{Passed}
use Rattle.component_state.specs.Components.{numbers_of, exists}
use Rattle.component_state.specs.Inside.Misled.{chose_outdated, is_misled}
use Rattle.component_state.specs.Marks.{with_leaving}
use Rattle.component_state.specs.Passes.{Stage, pass_order_of, held_back_in, opened_from, next_after, services_in}
use Rattle.component_state.specs.Periods.{is_open, is_current, opened_at, open_after}
use Rattle.component_state.specs.Reasons.{has_untold_change, is_of}
use Rattle.component_state.specs.Inside.Runs.{has_life}
use Rattle.component_state.specs.Inside.Ready.{IsReady}
use Rattle.prop_map.specs.Words.{has}
use Rattle.component_state.proofs.Among.{Among, among_contains, among_left, among_filter, among_kept, among_map, among_mapped, any_witness, any_from, any_map}
use Rattle.component_state.proofs.Decisions.{closes, opens, some_misled, stands}
use Rattle.component_state.proofs.Numbers.{has_filtered}

-- ---- which numbers are open

has_from : (ns : List ℕ) (n : ℕ) → Among ns n → has ns n ≡ true
has_from ns n here = any_from (λ m. m == n) ns n here (eq-eqb n n refl)

among_has : (ns : List ℕ) (n : ℕ) → has ns n ≡ true → Among ns n
among_has ns n e = let found = any_witness (λ m. m == n) ns e in rw (← eqb-true found.0 n found.2) found.1

pub open_witness : (now : List OpenPeriod) (n : ℕ) → is_open now n ≡ true → (o : OpenPeriod) × Among now o × (o.configuration ≡ n)
open_witness now n e = let found = any_witness (λ (o : OpenPeriod). o.configuration == n) now e in (found.0, found.1, eqb-true found.0.configuration n found.2)

pub open_from : (now : List OpenPeriod) (o : OpenPeriod) (n : ℕ) → Among now o → o.configuration ≡ n → is_open now n ≡ true
open_from now o n here is = any_from (λ (x : OpenPeriod). x.configuration == n) now o here (eq-eqb o.configuration n is)

left_open : (before : List OpenPeriod) (closed : List ℕ) (n : ℕ) → is_open (filter (λ (o : OpenPeriod). not (has closed o.configuration)) before) n ≡ (is_open before n && not (has closed n))
left_open before closed n = elim (cases_Bool (is_open before n && not (has closed n))) [
  | inl both ↦ (let parts = and_parts (is_open before n) (not (has closed n)) both in
      let found = open_witness before n parts.0 in
      open_from (filter (λ (o : OpenPeriod). not (has closed o.configuration)) before) found.0 n
      (among_kept (λ (o : OpenPeriod). not (has closed o.configuration)) before found.0 found.1 (ap (λ m. not (has closed m)) found.2 ∙ parts.1)) found.2 ∙ sym both)
  | inr lacks ↦ false_from_ne_true (is_open (filter (λ (o : OpenPeriod). not (has closed o.configuration)) before) n)
      (λ e. (let found = open_witness (filter (λ (o : OpenPeriod). not (has closed o.configuration)) before) n e in
      let kept = among_filter (λ (o : OpenPeriod). not (has closed o.configuration)) before found.0 found.1 in
      false≢true (sym lacks ∙ and_from (is_open before n) (not (has closed n)) (open_from before found.0 n kept.0 found.2) (ap (λ m. not (has closed m)) (sym found.2) ∙ kept.1))))
      ∙ sym lacks
]

opened_numbers : (next : ℕ) (cs : List Component) → map (λ (o : Opened). o.configuration) (opened_from next cs) ≡ numbers_of cs
opened_numbers next [] = refl
opened_numbers next (c ∷ cs) = ap (λ w. c.number ∷ w) (opened_numbers (next_after next c) cs)

open_opened : (place : ℕ) (cs : List Component) (opened : List Opened) (n : ℕ) → is_open (map (opened_at place cs) opened) n ≡ has (map (λ (o : Opened). o.configuration) opened) n
open_opened place cs opened n = any_map (λ (o : OpenPeriod). o.configuration == n) (opened_at place cs) opened ∙ sym (any_map (λ m. m == n) (λ (o : Opened). o.configuration) opened)

-- what is open after a pass, by what closed and opened
pub open_by : (place : ℕ) (cs : List Component) (closed : List ℕ) (opened : List Opened) (before : List OpenPeriod) (n : ℕ)
    → is_open (open_after place cs closed opened before) n ≡ ((is_open before n && not (has closed n)) || has (map (λ (o : Opened). o.configuration) opened) n)
open_by place cs closed opened before n =
    list_any-append (λ (o : OpenPeriod). o.configuration == n) (filter (λ (o : OpenPeriod). not (has closed o.configuration)) before) (map (opened_at place cs) opened)
    ∙ ap (λ b. b || is_open (map (opened_at place cs) opened) n) (left_open before closed n)
    ∙ ap (λ b. (is_open before n && not (has closed n)) || b) (open_opened place cs opened n)

-- ---- whose existing instances are of a period that has ended

module _ (now : List OpenPeriod) (all : List Origin) where
  pub life_witness : (n : ℕ) → has_life all n ≡ true → (l : Origin) × Among all l × (l.configuration ≡ n)
  life_witness n e = let found = any_witness (λ (l : Origin). l.configuration == n) all e in (found.0, found.1, eqb-true found.0.configuration n found.2)

  leaving_witness : (n : ℕ) → has (with_leaving now all) n ≡ true → (l : Origin) × Among all l × (is_current now l ≡ false) × (l.configuration ≡ n)
  leaving_witness n e =
      let mapped = among_map (λ (l : Origin). l.configuration) (filter (λ (l : Origin). not (is_current now l)) all) n (among_has (with_leaving now all) n e) in
      let kept = among_filter (λ (l : Origin). not (is_current now l)) all mapped.0 mapped.1 in
      (mapped.0, kept.0, not-true (is_current now mapped.0) kept.1, mapped.2)

  -- a existing instance of a period that has ended
  pub leaving_if_ended : (n : ℕ) (l : Origin) → Among all l → l.configuration ≡ n → is_current now l ≡ false → has (with_leaving now all) n ≡ true
  leaving_if_ended n l here is ended =
      has_from (with_leaving now all) n
      (rw (← is) (among_mapped (λ (x : Origin). x.configuration) (filter (λ (x : Origin). not (is_current now x)) all) l
      (among_kept (λ (x : Origin). not (is_current now x)) all l here (not_from_false (is_current now l) ended))))

  -- with no open period, a existing instance is of one that has ended
  leaving_if_gone : (n : ℕ) → is_open now n ≡ false → has_life all n ≡ true → has (with_leaving now all) n ≡ true
  leaving_if_gone n gone e =
      let found = life_witness n e in
      leaving_if_ended n found.0 found.1 found.2
      (false_from_ne_true (is_current now found.0)
      (λ current. (let of_one = any_witness (λ (o : OpenPeriod). (o.configuration == found.0.configuration) && nat_lt o.opened found.0.created) now current in
      let same = and_parts (of_one.0.configuration == found.0.configuration) (nat_lt of_one.0.opened found.0.created) of_one.2 in
      false≢true (sym gone ∙ open_from now of_one.0 n of_one.1 (eqb-true of_one.0.configuration found.0.configuration same.0 ∙ found.2)))))

  -- without a existing instance none is
  pub not_leaving_without : (n : ℕ) → has_life all n ≡ false → has (with_leaving now all) n ≡ false
  not_leaving_without n none =
      false_from_ne_true (has (with_leaving now all) n)
      (λ e. (let found = leaving_witness n e in false≢true (sym none ∙ any_from (λ (l : Origin). l.configuration == n) all found.0 found.1 (eq-eqb found.0.configuration n found.3))))

misled_lives : (s : Stage) (now : List OpenPeriod) (c : Component) → some_misled s now c ≡ true → has_life s.origins c.number ≡ true
misled_lives s now c e =
    let found = any_witness (is_misled s.place s.open_before (services_in s now) c) s.origins e in
    any_from (λ (l : Origin). l.configuration == c.number) s.origins found.0 found.1
    (and_parts (is_of c found.0) (has_untold_change s.place c || (is_current s.open_before found.0 && chose_outdated (services_in s now) c found.0)) found.2).0

-- ---- the open ones are those that stand and aren't held back

-- where b: was open, s: stands, g: fails in the entry, m: misled, d: failed, l: has a existing instance, w: one of an ended period, f: is open
agree : (b s g m d l w f : Bool) → f ≡ ((b && not (b && (not s || g || m))) || (not b && (s && (not d && not l)))) → (b ≡ true → d ≡ true → g ≡ true) → (g ≡ true → s ≡ true → d ≡ true)
    → (m ≡ true → l ≡ true) → (f ≡ false → l ≡ true → w ≡ true) → (l ≡ false → w ≡ false) → (b ≡ true → (b && (not s || g || m)) ≡ false → w ≡ false) → f ≡ (s && not (d || w))
agree true false g m d l w f is unmarked marked misled gone without stays = is
agree true true true m d l w f is unmarked marked misled gone without stays = is ∙ ap (λ x. not (x || w)) (sym (marked refl refl))
agree true true false true true l w f is unmarked marked misled gone without stays = is
agree true true false true false l w f is unmarked marked misled gone without stays = is ∙ ap not (sym (gone is (misled refl)))
agree true true false false true l w f is unmarked marked misled gone without stays = absurd (false≢true (unmarked refl refl))
agree true true false false false l w f is unmarked marked misled gone without stays = is ∙ ap not (sym (stays refl refl))
agree false false g m d l w f is unmarked marked misled gone without stays = is
agree false true g m true l w f is unmarked marked misled gone without stays = is
agree false true g m false true w f is unmarked marked misled gone without stays = is ∙ ap not (sym (gone is refl))
agree false true g m false false w f is unmarked marked misled gone without stays = is ∙ ap not (sym (without refl))

module _ (s : Stage) (ready : IsReady s) (f : Passed) (are : f.open_now ≡ open_after s.place s.components f.closed f.opened s.open_before) (closed : f.closed ≡ numbers_of (filter (closes s f.open_now) (pass_order_of s)))
    (opened : f.opened ≡ opened_from s.next (filter (opens s f.open_now) (pass_order_of s))) (there : (c : Component) → Among (pass_order_of s) c → Among s.components c) where
  abbrev now : List OpenPeriod
  now = f.open_now

  has_closed : (c : Component) → Among (pass_order_of s) c → has f.closed c.number ≡ closes s now c
  has_closed c here = ap (λ w. has w c.number) closed ∙ has_filtered s.components (pass_order_of s) ready.numbered there (closes s now) c here

  has_opened : (c : Component) → Among (pass_order_of s) c → has (map (λ (o : Opened). o.configuration) f.opened) c.number ≡ opens s now c
  has_opened c here =
      ap (λ w. has (map (λ (o : Opened). o.configuration) w) c.number) opened ∙ ap (λ w. has w c.number) (opened_numbers s.next (filter (opens s now) (pass_order_of s)))
      ∙ has_filtered s.components (pass_order_of s) ready.numbered there (opens s now) c here

  -- it stays open where it doesn't close, else it is open where it opens
  pub open_decided : (c : Component) → Among (pass_order_of s) c → is_open now c.number ≡ ((is_open s.open_before c.number && not (closes s now c)) || opens s now c)
  open_decided c here =
      ap (λ w. is_open w c.number) are ∙ open_by s.place s.components f.closed f.opened s.open_before c.number
      ∙ ap (λ b. (is_open s.open_before c.number && not b) || has (map (λ (o : Opened). o.configuration) f.opened) c.number) (has_closed c here)
      ∙ ap (λ b. (is_open s.open_before c.number && not (closes s now c)) || b) (has_opened c here)

  kept_open : (o : OpenPeriod) → Among s.open_before o → has f.closed o.configuration ≡ false → Among now o
  kept_open o here stays =
      rw are (among_left (filter (λ (x : OpenPeriod). not (has f.closed x.configuration)) s.open_before) (map (opened_at s.place s.components) f.opened) o
      (among_kept (λ (x : OpenPeriod). not (has f.closed x.configuration)) s.open_before o here (not_from_false (has f.closed o.configuration) stays)))

  -- the existing instances of what stays open are of its period
  stays_current : (c : Component) → Among (pass_order_of s) c → is_open s.open_before c.number ≡ true → closes s now c ≡ false → has (with_leaving now s.origins) c.number ≡ false
  stays_current c here was stays =
      false_from_ne_true (has (with_leaving now s.origins) c.number)
      (λ e. (let found = leaving_witness now s.origins c.number e in
      let current = ready.current found.0 (among_contains s.origins found.0 found.1) (ap (is_open s.open_before) found.3 ∙ was) in
      let of_one = any_witness (λ (o : OpenPeriod). (o.configuration == found.0.configuration) && nat_lt o.opened found.0.created) s.open_before current in
      let same = and_parts (of_one.0.configuration == found.0.configuration) (nat_lt of_one.0.opened found.0.created) of_one.2 in
      let number = eqb-true of_one.0.configuration found.0.configuration same.0 ∙ found.3 in
      let still = kept_open of_one.0 of_one.1 (ap (has f.closed) number ∙ has_closed c here ∙ stays) in
      false≢true (sym found.2 ∙ any_from (λ (o : OpenPeriod). (o.configuration == found.0.configuration) && nat_lt o.opened found.0.created) now of_one.0 still of_one.2)))

  stands_lives : (c : Component) → Among (pass_order_of s) c → stands s now c ≡ true → exists s.components c.number ≡ true
  stands_lives c here e = any_from (λ (d : Component). (d.number == c.number) && d.exists) s.components c (there c here) (and_from (c.number == c.number) c.exists (eq-eqb c.number c.number refl) (and_parts c.exists _ e).0)

  -- it is open where it stands and isn't held back
  pub held_final : (c : Component) → Among (pass_order_of s) c → is_open now c.number ≡ (stands s now c && not (has (held_back_in s now) c.number))
  held_final c here =
      agree (is_open s.open_before c.number) (stands s now c) (has s.failing c.number) (some_misled s now c) (has s.failed c.number) (has_life s.origins c.number) (has (with_leaving now s.origins) c.number) (is_open now c.number)
      (open_decided c here) (ready.unmarked c.number) (λ fails e. ready.marked c.number fails (stands_lives c here e)) (misled_lives s now c) (leaving_if_gone now s.origins c.number)
      (not_leaving_without now s.origins c.number) (stays_current c here)
      ∙ ap (λ b. stands s now c && not b) (sym (list_any-append (λ n. n == c.number) s.failed (with_leaving now s.origins)))
