-- The stage of a plain pass is ready where the states are sound, and the pass leaves them sound.
use Rattle.std.proofs.Common.{◌≡◌, ◌<◌, ◌≤◌, ℕ, ◌+◌, ◌-◌, List, [], ◌∷◌, ◌++◌, ap, sym, ◌∙◌, refl, subst, cond, arith, Bool, true, false, ◌&&◌, ◌||◌, inl, inr, ◌⊎◌, Option, Some, None, length}
use Rattle.std.specs.Prelude.{filter, map, nat_lt, not, ◌==◌}
use Rattle.std.specs.List.{Contains, list_any}
use Rattle.std.specs.Option.{option_map_or}
use Rattle.std.proofs.lemmas.Bool.{and_parts, both_ways, cases_Bool, eq-eqb, eqb-true, or_left, or_right}
use Rattle.journal_core.specs.declared.entry.Opened.{Opened}
use Rattle.component_state.specs.declared.component.Component.{Component}
use Rattle.component_state.specs.declared.open_period.OpenPeriod.{OpenPeriod}
use Rattle.component_state.specs.declared.origin.Origin.{Origin}
use Rattle.component_state.specs.declared.pass.Passed.{Passed}
use Rattle.component_state.specs.declared.plain_passes.PassEnd.{PassEnd}
use Rattle.component_state.specs.declared.rows.WorldRows.{WorldRows}
use Rattle.component_state.specs.ComponentConfigurations.{component_after, component_configurations, new_components, with_numbers}
use Rattle.component_state.specs.Components.{component_of, exists, numbers_of}
use Rattle.component_state.specs.ComponentStates.{IsPlainPass, MayPass, States, after_pass, components_in, descriptions_in, failed_in, numbered_in, origins_of, passed_with, remaining, remains, stage_in}
use Rattle.component_state.specs.Inside.Ready.{IsPeriodOf, IsReady, are_apart}
use Rattle.component_state.specs.Inside.SoundStates.{AreSound}
use Rattle.component_state.specs.Marks.{exists_unchanged}
use Rattle.component_state.specs.Passes.{HasPassed, Stage, next_from, opening}
use Rattle.component_state.specs.Periods.{is_current, is_open, opened_at}
use Rattle.component_state.specs.Rows.{period_with_properties, with_present_properties}
use Rattle.prop_map.specs.Words.{has}
use Rattle.component_state.proofs.AfterPass.{open_current, open_known, open_plain, open_unmarked}
use Rattle.component_state.proofs.Apart.{any_found, any_from, apart_kept, has_both, in_cases, in_either, in_first, in_left, in_none, in_rest, keyed, kept_from, kept_was, key_in, length_over, mapped_long, or_true}
use Rattle.component_state.proofs.AskedDescriptions.{asked_described, numbered_was}
use Rattle.component_state.proofs.Below.{number_of}
use Rattle.component_state.proofs.Numbering.{AreUpTo, apart_numbered, asking_apart, asking_up_to, kept_name}
use Rattle.component_state.proofs.Plain.{in_mapped, renewed_plain}
use Rattle.component_state.proofs.Renewed.{renewed_of}

-- ---- present properties leave which are open, and since when

period_same : (cs : List Component) (p : OpenPeriod) → ((with_present_properties cs p).configuration ≡ p.configuration) × ((with_present_properties cs p).opened ≡ p.opened)
period_same cs p = go (component_of cs p.configuration)
  where
    go : (o : Option Component) → ((option_map_or (period_with_properties p) o p).configuration ≡ p.configuration) × ((option_map_or (period_with_properties p) o p).opened ≡ p.opened)
    go None = (refl, refl)
    go (Some c) = (refl, refl)

pub open_same : (cs : List Component) (ps : List OpenPeriod) (n : ℕ) → is_open (map (with_present_properties cs) ps) n ≡ is_open ps n
open_same cs [] n = refl
open_same cs (p ∷ ps) n = ap (λ k. (k == n) || is_open (map (with_present_properties cs) ps) n) (period_same cs p).0 ∙ ap (λ b. (p.configuration == n) || b) (open_same cs ps n)

pub current_same : (cs : List Component) (ps : List OpenPeriod) (o : Origin) → is_current (map (with_present_properties cs) ps) o ≡ is_current ps o
current_same cs [] o = refl
current_same cs (p ∷ ps) o =
    ap (λ k. ((k == o.configuration) && nat_lt (with_present_properties cs p).opened o.created) || is_current (map (with_present_properties cs) ps) o) (period_same cs p).0
    ∙ ap (λ k. ((p.configuration == o.configuration) && nat_lt k o.created) || is_current (map (with_present_properties cs) ps) o) (period_same cs p).1
    ∙ ap (λ b. ((p.configuration == o.configuration) && nat_lt p.opened o.created) || b) (current_same cs ps o)

-- ---- how many

pub numbered_long : (n : ℕ) (cs : List Component) → length (with_numbers n cs) ≡ length cs
numbered_long n [] = refl
numbered_long n (c ∷ cs) = let rest = numbered_long (n + 1) cs in omega (arith, rest)

pub components_long : (s : States) (w : WorldRows)
    → length (components_in s w) ≡ length (remaining s) + length (new_components (remaining s) (component_configurations w.bundles w.configurations))
components_long s w =
    let these = component_configurations w.bundles w.configurations in
    let over = length_over (map (component_after s.passes these) (remaining s)) (with_numbers (s.numbered + 1) (new_components (remaining s) these)) in
    let kept = mapped_long (component_after s.passes these) (remaining s) in
    let new = numbered_long (s.numbered + 1) (new_components (remaining s) these) in
    omega (arith, over, kept, new)

pub numbered_from : (s : States) (w : WorldRows) (n k after before : ℕ) → n ≡ k + (after - before) → k ≡ s.numbered → after ≡ length (components_in s w) → before ≡ length (remaining s) → n ≡ numbered_in s w
numbered_from s w n k after before sum old whole there = let long = components_long s w in omega (arith, sum, old, whole, there, long)

-- ---- lists

module _ {X Y : Type 0} (f : X → Y) where
  pub mapped : (xs : List X) (x : X) → Contains xs x → Contains (map f xs) (f x)
  mapped [] x h = absurd (in_none x h)
  mapped (y ∷ ys) x h = elim (in_cases y ys x h) [
    | inl same ↦ subst (λ (z : X). Contains (f y ∷ map f ys) (f z)) same (in_first (f y) (map f ys))
    | inr later ↦ in_rest (f y) (map f ys) (f x) (mapped ys x later)
  ]

or_none : (a b : Bool) → b ≡ false → (a || b) ≡ a
or_none true b e = refl
or_none false b e = e

has_kept : (t : ℕ → Bool) (ns : List ℕ) (n : ℕ) → has (filter t ns) n ≡ true → (has ns n ≡ true) × (t n ≡ true)
has_kept t ns n is = let found = any_found (λ m. m == n) (filter t ns) is in
    let kept = kept_was t ns found.0 found.1 in
    (any_from (λ m. m == n) ns found.0 kept.0 found.2, ap t (sym (eqb-true found.0 n found.2)) ∙ kept.1)

kept_has : (t : ℕ → Bool) (ns : List ℕ) (n : ℕ) → has ns n ≡ true → t n ≡ true → has (filter t ns) n ≡ true
kept_has t ns n is on = let found = any_found (λ m. m == n) ns is in
    any_from (λ m. m == n) (filter t ns) found.0 (kept_from t ns found.0 found.1 (ap t (eqb-true found.0 n found.2) ∙ on)) found.2

module _ (s : States) (w : WorldRows) (sound : AreSound s) (may : MayPass s w) where
  abbrev these : List Component
  these = component_configurations w.bundles w.configurations

  abbrev stays : Component → Bool
  stays = remains s

  abbrev cs : List Component
  cs = components_in s w

  before_apart : are_apart (numbers_of (remaining s)) ≡ true
  before_apart = apart_kept number_of stays s.components sound.apart

  before_up_to : AreUpTo s.numbered (remaining s)
  before_up_to k is = let one = keyed number_of (remaining s) k is in
      sound.up_to k (ap (has (numbers_of s.components)) (sym one.2) ∙ key_in number_of s.components one.0 (kept_was stays s.components one.0 one.1).0)

  cs_apart : are_apart (numbers_of cs) ≡ true
  cs_apart = asking_apart s.passes s.numbered these (remaining s) before_apart before_up_to

  cs_up_to : AreUpTo (numbered_in s w) cs
  cs_up_to = asking_up_to s.passes s.numbered these (remaining s) before_apart before_up_to

  described : (c : Component) → Contains cs c → Contains (descriptions_in w) c.description
  described c h = elim (in_either (map (component_after s.passes these) (remaining s)) (with_numbers (s.numbered + 1) (new_components (remaining s) these)) c h) [
    | inl old ↦ (let was = in_mapped (component_after s.passes these) (remaining s) c old in
        subst (λ d. Contains (descriptions_in w) d) (sym (kept_name s.passes these was.0).description ∙ ap (λ (x : Component). x.description) was.2) (may.described was.0 was.1))
    | inr new ↦ (let one = numbered_was (s.numbered + 1) (new_components (remaining s) these) c new in
        subst (λ d. Contains (descriptions_in w) d) (sym one.2) (asked_described w.bundles w.configurations one.0 (kept_was _ these one.0 one.1).0))
  ]

  open_stays : (p : OpenPeriod) (c : Component) → Contains s.open_periods p → p.configuration ≡ c.number → stays c ≡ true
  open_stays p c here same = or_right c.exists (is_open s.open_periods c.number || list_any (λ (o : Origin). o.configuration == c.number) (origins_of s))
      (or_left (is_open s.open_periods c.number) (list_any (λ (o : Origin). o.configuration == c.number) (origins_of s))
      (any_from (λ (q : OpenPeriod). q.configuration == c.number) s.open_periods p here (eq-eqb p.configuration c.number same)))

  one_period : (p : OpenPeriod) → Contains s.open_periods p → IsPeriodOf cs (with_present_properties cs p)
  one_period p here = let of = sound.periods p here in
      let c = keyed number_of s.components p.configuration of.known in
      let stays_there = kept_from stays s.components c.0 c.1 (open_stays p c.0 here (sym c.2)) in
      renewed_of s.components cs sound.apart cs_apart p of c.0 (component_after s.passes these c.0) c.1 (sym c.2)
      (in_left (map (component_after s.passes these) (remaining s)) (with_numbers (s.numbered + 1) (new_components (remaining s) these)) (component_after s.passes these c.0)
      (mapped (component_after s.passes these) (remaining s) c.0 stays_there)) (kept_name s.passes these c.0)

  periods : (p : OpenPeriod) → Contains (map (with_present_properties cs) s.open_periods) p → IsPeriodOf cs p
  periods p h = let was = in_mapped (with_present_properties cs) s.open_periods p h in subst (λ (q : OpenPeriod). IsPeriodOf cs q) was.2 (one_period was.0 was.1)

  current : (o : Origin) → Contains (origins_of s) o → is_open (map (with_present_properties cs) s.open_periods) o.configuration ≡ true → is_current (map (with_present_properties cs) s.open_periods) o ≡ true
  current o h opened = current_same cs s.open_periods o ∙ sound.current o h (sym (open_same cs s.open_periods o.configuration) ∙ opened)

  abbrev still_marked : ℕ → Bool
  still_marked n = has s.satisfied n && exists_unchanged s.passes cs n

  unmarked : (n : ℕ) → is_open (map (with_present_properties cs) s.open_periods) n ≡ true → has (failed_in s w) n ≡ true → has s.failing n ≡ true
  unmarked n opened marked = go (cases_Bool (has (filter (exists cs) s.failing) n))
    where
      go : (has (filter (exists cs) s.failing) n ≡ true) ⊎ (has (filter (exists cs) s.failing) n ≡ false) → has s.failing n ≡ true
      go (inl on) = (has_kept (exists cs) s.failing n on).0
      go (inr off) = absurd (both_ways (has s.failed n) (sound.unmarked n (sym (open_same cs s.open_periods n) ∙ opened))
          (has_kept still_marked s.failed n (sym (or_none (has (filter still_marked s.failed) n) _ off) ∙ sym (has_both (filter still_marked s.failed) (filter (exists cs) s.failing) n) ∙ marked)).0)

  marked : (n : ℕ) → has s.failing n ≡ true → exists cs n ≡ true → has (failed_in s w) n ≡ true
  marked n fails there = has_both (filter still_marked s.failed) (filter (exists cs) s.failing) n ∙ ap (λ b. has (filter still_marked s.failed) n || b) (kept_has (exists cs) s.failing n fails there) ∙ or_true (has (filter still_marked s.failed) n)

  pub states_ready : IsReady (stage_in s w)
  states_ready = record {
    next = may.next;
    levels = may.levels;
    numbered = apart_numbered cs cs_apart;
    described = described;
    periods = periods;
    plain = renewed_plain cs s.open_periods sound.plain;
    current = current;
    unmarked = unmarked;
    marked = marked;
  }

  module _ (p : Passed) (passed : HasPassed (stage_in s w) p) where
    opened_before : (o : OpenPeriod) → Contains p.open_now o → o.opened < s.passes + 1
    opened_before o h =
        elim (in_either (filter (λ (x : OpenPeriod). not (has p.closed x.configuration)) (map (with_present_properties cs) s.open_periods)) (map (opened_at s.passes cs) p.opened) o (subst (λ (xs : List OpenPeriod). Contains xs o) passed.open_now h)) [
          | inl old ↦ (let was = in_mapped (with_present_properties cs) s.open_periods o (kept_was (λ (x : OpenPeriod). not (has p.closed x.configuration)) (map (with_present_properties cs) s.open_periods) o old).0 in
              let low = sound.earlier was.0 was.1 in
              let same = (period_same cs was.0).1 in
              let is = ap (λ (x : OpenPeriod). x.opened) was.2 in
              omega (arith, low, same, is))
          | inr new ↦ (let was = in_mapped (opened_at s.passes cs) p.opened o new in
              let is = ap (λ (x : OpenPeriod). x.opened) was.2 in
              omega (arith, is))
        ]

    pub states_after : AreSound (after_pass s w p.open_now p.satisfied)
    states_after = record {
      apart = cs_apart;
      up_to = cs_up_to;
      periods = open_known (stage_in s w) p passed states_ready;
      plain = open_plain (stage_in s w) p passed states_ready;
      earlier = opened_before;
      current = open_current (stage_in s w) p passed;
      unmarked = open_unmarked (stage_in s w) p passed;
    }

    -- and so it is a plain pass
    pub plain_pass_is : (end : PassEnd) → end.closed ≡ p.closed → end.opened ≡ p.opened → (t : States) → t ≡ after_pass s w p.open_now p.satisfied → IsPlainPass s w end t
    plain_pass_is end closed opened t is = record {
      passed = subst (HasPassed (stage_in s w)) (same_passed closed opened) passed;
      state = is ∙ sym (ap (λ (u : States). after_pass s w u.open_periods u.satisfied) is);
    }
      where
        same_passed : end.closed ≡ p.closed → end.opened ≡ p.opened → p ≡ passed_with (stage_in s w) end t.open_periods t.satisfied
        same_passed c o =
            ap (λ n. record p { next_service = n }) passed.next
            ∙ ap (λ (u : States). record p { open_now = u.open_periods; satisfied = u.satisfied; next_service = next_from w.next_service (opening (stage_in s w) u.open_periods) }) (sym is)
            ∙ ap (λ xs. record (passed_with (stage_in s w) end t.open_periods t.satisfied) { closed = xs; opened = p.opened }) (sym c)
            ∙ ap (λ xs. record (passed_with (stage_in s w) end t.open_periods t.satisfied) { opened = xs }) (sym o)

-- a stage is known by its parts
pub same_stage : {a b : Stage} → a.place ≡ b.place → a.next ≡ b.next → a.descriptions ≡ b.descriptions → a.levels ≡ b.levels → a.direct ≡ b.direct → a.components ≡ b.components
    → a.open_before ≡ b.open_before → a.origins ≡ b.origins → a.failed ≡ b.failed → a.failing ≡ b.failing → a ≡ b
same_stage {a} {b} e1 e2 e3 e4 e5 e6 e7 e8 e9 e10 =
    ap (λ x. record a { place = x }) e1
    ∙ ap (λ x. record a { place = b.place; next = x }) e2
    ∙ ap (λ x. record a { place = b.place; next = b.next; descriptions = x }) e3
    ∙ ap (λ x. record a { place = b.place; next = b.next; descriptions = b.descriptions; levels = x }) e4
    ∙ ap (λ x. record a { place = b.place; next = b.next; descriptions = b.descriptions; levels = b.levels; direct = x }) e5
    ∙ ap (λ x. record b { components = x; open_before = a.open_before; origins = a.origins; failed = a.failed; failing = a.failing }) e6
    ∙ ap (λ x. record b { open_before = x; origins = a.origins; failed = a.failed; failing = a.failing }) e7
    ∙ ap (λ x. record b { origins = x; failed = a.failed; failing = a.failing }) e8
    ∙ ap (λ x. record b { failed = x; failing = a.failing }) e9
    ∙ ap (λ x. record b { failing = x }) e10

-- and states are
pub same_states : {a b : States} → a.passes ≡ b.passes → a.numbered ≡ b.numbered → a.components ≡ b.components → a.open_periods ≡ b.open_periods → a.instances ≡ b.instances
    → a.satisfied ≡ b.satisfied → a.failed ≡ b.failed → a.failing ≡ b.failing → a ≡ b
same_states {a} {b} e1 e2 e3 e4 e5 e6 e7 e8 =
    ap (λ x. record a { passes = x }) e1
    ∙ ap (λ x. record a { passes = b.passes; numbered = x }) e2
    ∙ ap (λ x. record a { passes = b.passes; numbered = b.numbered; components = x }) e3
    ∙ ap (λ x. record a { passes = b.passes; numbered = b.numbered; components = b.components; open_periods = x }) e4
    ∙ ap (λ x. record b { instances = x; satisfied = a.satisfied; failed = a.failed; failing = a.failing }) e5
    ∙ ap (λ x. record b { satisfied = x; failed = a.failed; failing = a.failing }) e6
    ∙ ap (λ x. record b { failed = x; failing = a.failing }) e7
    ∙ ap (λ x. record b { failing = x }) e8
