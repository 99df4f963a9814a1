-- No two services have one number, and a number stays that of one service.
use Rattle.std.proofs.Common.{◌≡◌, ◌<◌, ◌≤◌, ◌⊎◌, ℕ, zero, suc, ◌+◌, List, [], ◌∷◌, ◌++◌, ap, sym, ◌∙◌, refl, subst, arith, true, false, inl, inr}
use Rattle.std.specs.Prelude.{count_by, map, not, ◌&&◌, ◌==◌}
use Rattle.std.specs.List.{Contains}
use Rattle.std.proofs.lemmas.Bool.{and_parts, both_ways, eq-eqb, ne_eqb}
use Rattle.component_state.specs.declared.open_period.OpenPeriod.{OpenPeriod}
use Rattle.component_state.specs.Passes.{opened_from, opening}
use Rattle.component_state.specs.Periods.{open_after, opened_at}
use Rattle.component_state.specs.Rows.{rows_of}
use Rattle.component_state.proofs.Apart.{any_from, in_either, in_first, in_left, in_none, in_right, kept_from, kept_was, not_true}
use Rattle.journal_core.specs.declared.entry.Entry.{Entry}
use Rattle.journal_core.specs.declared.entry.Opened.{Opened}
use Rattle.scr_laws.specs.Askeds.{HasOneOfEach}
use Rattle.scr_laws.proofs.Legal.{in_map}
use Rattle.scr_laws.proofs.Listed.{mapped_was, single}
use Rattle.scr_promises.specs.Services.{HaveOwnNumbers, IsSameService, StayServices, known_services}
use Rattle.scr_promises.proofs.OpenedNumbers.{opened_high, opened_low, opened_one_of, registers}
use Rattle.scr_promises.proofs.PeriodSteps.{IsOpened, WasOpen, open_was, renewed}
use Rattle.scr_promises.proofs.RegistrySteps.{IsRegistered, WasDirect, itself, number_of, numbered_on, registry_one, registry_was}
use Rattle.scr_world.specs.Consequences.{stage_in, stage_of}
use Rattle.scr_world.specs.Legal.{IsLegal}
use Rattle.scr_world.specs.Lists.{is_service_held, world_after_entry, world_of}
use Rattle.scr_world.specs.Steps.{History}
use Rattle.scr_world.specs.Stepping.{components_by, periods_with, world_after_step}
use Rattle.scr_world.specs.Tables.{registry_by}
use Rattle.scr_world.specs.Whiteboard.{condition, platform_rows}
use Rattle.scr_world.specs.Worlds.{direct_services, is_registered, registered_services}
use Rattle.scr_world.specs.declared.step.Step.{Step}
use Rattle.scr_world.specs.declared.world.World.{World}
use Rattle.service_registry.specs.declared.row.ServiceRow.{ServiceRow}

-- ---- what is kept

pub record AreServices (w : World) : Type 0 where
  pub direct_one : HasOneOfEach number_of w.registry.rows
  pub direct_given : (r : ServiceRow) → Contains w.registry.rows r → (0 < r.id) × (r.id ≤ w.registry.numbered)
  pub direct_flag : (r : ServiceRow) → Contains w.registry.rows r → r.direct ≡ true
  pub period_one : (p q : OpenPeriod) → Contains w.open_periods p → Contains w.open_periods q → p.row.id ≡ q.row.id → 0 < p.row.id → p ≡ q
  pub period_given : (p : OpenPeriod) → Contains w.open_periods p → p.row.id ≤ w.registry.numbered
  pub kinds : (r : ServiceRow) (p : OpenPeriod) → Contains w.registry.rows r → Contains w.open_periods p → r.id ≡ p.row.id → ⊥
  pub left_one : HasOneOfEach number_of w.unregistered_held
  pub left_given : (r : ServiceRow) → Contains w.unregistered_held r → r.id ≤ w.registry.numbered
  pub left_gone : (r : ServiceRow) → Contains w.unregistered_held r → is_registered w r.id ≡ false

-- what a known service is
pub data IsKind (w : World) (r : ServiceRow) : Type 0 where
  of_platform : condition ≡ r → IsKind w r
  of_command : Contains w.registry.rows r → IsKind w r
  of_component : (p : OpenPeriod) → Contains w.open_periods p → p.row ≡ r → 0 < r.id → IsKind w r
  of_those_left : Contains w.unregistered_held r → IsKind w r

above_none : (n : ℕ) → not (n == 0) ≡ true → 0 < n
above_none zero e = cc
above_none (suc n) e = omega arith

some_number : (n : ℕ) → 0 < n → not (n == 0) ≡ true
some_number n low = ap not (ne_eqb n 0 (λ e. omega (arith, e, low)))

pub registered_kind : (w : World) (r : ServiceRow) → Contains (registered_services w) r → IsKind w r
registered_kind w r h = elim (in_either (direct_services w) (rows_of w.open_periods) r h) [
  | inl direct ↦ elim (in_either platform_rows w.registry.rows r direct) [
    | inl platform ↦ of_platform (single condition r platform)
    | inr commanded ↦ of_command commanded
  ]
  | inr component ↦ (
      let kept = kept_was (λ (x : ServiceRow). not (x.id == 0)) (map (λ (p : OpenPeriod). p.row) w.open_periods) r component in
      let was = mapped_was (λ (p : OpenPeriod). p.row) w.open_periods r kept.0 in
      of_component was.0 was.1.0 was.1.1 (above_none r.id kept.1))
]

pub known_kind : (w : World) (r : ServiceRow) → Contains (known_services w) r → IsKind w r
known_kind w r h = elim (in_either (registered_services w) w.unregistered_held r h) [
  | inl registered ↦ registered_kind w r registered
  | inr left ↦ of_those_left left
]

pub direct_in : (w : World) (r : ServiceRow) → Contains w.registry.rows r → Contains (registered_services w) r
direct_in w r h = in_left (direct_services w) (rows_of w.open_periods) r (in_right platform_rows w.registry.rows r h)

pub component_in : (w : World) (p : OpenPeriod) → Contains w.open_periods p → 0 < p.row.id → Contains (registered_services w) p.row
component_in w p h some = in_right (direct_services w) (rows_of w.open_periods) p.row
    (kept_from (λ (x : ServiceRow). not (x.id == 0)) (map (λ (q : OpenPeriod). q.row) w.open_periods) p.row (in_map (λ (q : OpenPeriod). q.row) w.open_periods p h) (some_number p.row.id some))

pub platform_in : (w : World) → Contains (registered_services w) condition
platform_in w = in_left (direct_services w) (rows_of w.open_periods) condition (in_left platform_rows w.registry.rows condition (in_first condition []))

pub registered_is : (w : World) (r : ServiceRow) → Contains (registered_services w) r → is_registered w r.id ≡ true
registered_is w r h = any_from (λ (x : ServiceRow). x.id == r.id) (registered_services w) r h (eq-eqb r.id r.id refl)

module _ (w : World) (are : AreServices w) where
  gone_wrong : (a b : ServiceRow) → Contains (registered_services w) a → Contains w.unregistered_held b → a.id ≡ b.id → ⊥
  gone_wrong a b h k same = both_ways (is_registered w b.id) (are.left_gone b k) (ap (is_registered w) (sym same) ∙ registered_is w a h)

  platform_wrong : (b : ServiceRow) → 0 < b.id → condition.id ≡ b.id → ⊥
  platform_wrong b high same = omega (arith, high, same)

  one_kind : (a b : ServiceRow) → IsKind w a → IsKind w b → a.id ≡ b.id → a ≡ b
  one_kind a b (of_platform x) (of_platform y) same = sym x ∙ y
  one_kind a b (of_platform x) (of_command k) same = absurd (platform_wrong b (are.direct_given b k).0 (ap number_of x ∙ same))
  one_kind a b (of_platform x) (of_component q k is some) same = absurd (platform_wrong b some (ap number_of x ∙ same))
  one_kind a b (of_platform x) (of_those_left k) same = absurd (gone_wrong condition b (platform_in w) k (ap number_of x ∙ same))
  one_kind a b (of_command h) (of_platform y) same = absurd (platform_wrong a (are.direct_given a h).0 (ap number_of y ∙ sym same))
  one_kind a b (of_command h) (of_command k) same = are.direct_one a b h k same
  one_kind a b (of_command h) (of_component q k is some) same = absurd (are.kinds a q h k (same ∙ ap number_of (sym is)))
  one_kind a b (of_command h) (of_those_left k) same = absurd (gone_wrong a b (direct_in w a h) k same)
  one_kind a b (of_component p h is some) (of_platform y) same = absurd (platform_wrong a some (ap number_of y ∙ sym same))
  one_kind a b (of_component p h is some) (of_command k) same = absurd (are.kinds b p k h (sym same ∙ ap number_of (sym is)))
  one_kind a b (of_component p h is some) (of_component q k is_b some_b) same =
      sym is ∙ ap (λ (x : OpenPeriod). x.row) (are.period_one p q h k (ap number_of is ∙ same ∙ ap number_of (sym is_b)) (subst (λ n. 0 < n) (ap number_of (sym is)) some)) ∙ is_b
  one_kind a b (of_component p h is some) (of_those_left k) same =
      absurd (gone_wrong p.row b (component_in w p h (subst (λ n. 0 < n) (ap number_of (sym is)) some)) k (ap number_of is ∙ same))
  one_kind a b (of_those_left h) (of_platform y) same = absurd (gone_wrong condition a (platform_in w) h (ap number_of y ∙ sym same))
  one_kind a b (of_those_left h) (of_command k) same = absurd (gone_wrong b a (direct_in w b k) h (sym same))
  one_kind a b (of_those_left h) (of_component q k is some) same =
      absurd (gone_wrong q.row a (component_in w q k (subst (λ n. 0 < n) (ap number_of (sym is)) some)) h (ap number_of is ∙ sym same))
  one_kind a b (of_those_left h) (of_those_left k) same = are.left_one a b h k same

  pub known_one : HasOneOfEach number_of (known_services w)
  known_one a b h k same = one_kind a b (known_kind w a h) (known_kind w b k) same

  given_kind : (r : ServiceRow) → IsKind w r → r.id ≤ w.registry.numbered
  given_kind r (of_platform is) = (let none = ap number_of (sym is) in omega (arith, none))
  given_kind r (of_command h) = (are.direct_given r h).1
  given_kind r (of_component p h is some) = (let low = are.period_given p h in let same = ap number_of is in omega (arith, low, same))
  given_kind r (of_those_left h) = are.left_given r h

  pub known_given : (r : ServiceRow) → Contains (known_services w) r → r.id ≤ w.registry.numbered
  known_given r h = given_kind r (known_kind w r h)

  pub left_known : (r : ServiceRow) → Contains w.unregistered_held r → Contains (known_services w) r
  left_known r h = in_right (registered_services w) w.unregistered_held r h

  pub registered_known : (r : ServiceRow) → Contains (registered_services w) r → Contains (known_services w) r
  registered_known r h = in_left (registered_services w) w.unregistered_held r h

-- ---- over an entry

module _ (limit : ℕ) (entry : Entry Step) (past : History) (legal : IsLegal limit (entry ∷ past)) (are : AreServices (world_of past)) where
  abbrev w : World
  w = world_of past

  abbrev then : World
  then = world_of (entry ∷ past)

  abbrev pub given_so_far : ℕ
  given_so_far = (registry_by entry.step w.registry).numbered

  pub rows_then : (r : ServiceRow) → Contains then.registry.rows r → Contains (registry_by entry.step w.registry).rows r
  unfolding world_of world_after_entry world_after_step
  rows_then r h = h

  pub numbered_then : then.registry.numbered ≡ given_so_far + count_by registers entry.opened
  unfolding world_of world_after_entry world_after_step
  numbered_then = refl

  periods_then : (p : OpenPeriod) → Contains then.open_periods p → Contains (open_after w.entries (components_by entry.step w) entry.closed entry.opened (periods_with entry.step (components_by entry.step w) w.open_periods)) p
  unfolding world_of world_after_entry world_after_step
  periods_then p h = h

  pub left_then : (r : ServiceRow) → Contains then.unregistered_held r → Contains (w.unregistered_held ++ registered_services w) r × ((not (is_registered then r.id) && is_service_held then r.id) ≡ true)
  unfolding world_of world_after_entry world_after_step
  left_then r h = kept_was (λ (x : ServiceRow). not (is_registered then x.id) && is_service_held then x.id) (w.unregistered_held ++ registered_services w) r h

  pub left_from : (r : ServiceRow) → Contains (w.unregistered_held ++ registered_services w) r → (not (is_registered then r.id) && is_service_held then r.id) ≡ true → Contains then.unregistered_held r
  unfolding world_of world_after_entry world_after_step
  left_from r h on = kept_from (λ (x : ServiceRow). not (is_registered then x.id) && is_service_held then x.id) (w.unregistered_held ++ registered_services w) r h on

  pub opened_is : entry.opened ≡ opened_from (given_so_far + 1) (opening (stage_of entry.step w) then.open_periods)
  unfolding stage_of stage_in world_after_step
  opened_is = legal.0.opened

  pub goes_up : w.registry.numbered ≤ given_so_far
  goes_up = numbered_on entry.step w.registry

  abbrev pub Direct : ServiceRow → Type 0
  Direct r = WasDirect w.registry r ⊎ IsRegistered entry.step w.registry r

  pub direct_was : (r : ServiceRow) → Contains then.registry.rows r → Direct r
  direct_was r h = registry_was entry.step w.registry r (rows_then r h)

  abbrev pub Period : OpenPeriod → Type 0
  Period p = WasOpen entry.step (components_by entry.step w) w.open_periods p ⊎ IsOpened w.entries (components_by entry.step w) entry.opened p

  pub then_was : (p : OpenPeriod) → Contains then.open_periods p → Period p
  then_was p h = open_was entry.step w.entries (components_by entry.step w) entry.closed entry.opened w.open_periods p (periods_then p h)

  -- a service that opens has a new number, or none
  pub new_number : (p : OpenPeriod) → IsOpened w.entries (components_by entry.step w) entry.opened p → 0 < p.row.id → given_so_far < p.row.id
  new_number p is some = elim (opened_high (given_so_far + 1) (opening (stage_of entry.step w) then.open_periods) is.one (subst (λ (os : List Opened). Contains os is.one) opened_is is.there)) [
    | inl none ↦ (let same = is.number in absurd (omega (arith, none, same, some)))
    | inr high ↦ (let same = is.number in omega (arith, high, same))
  ]

  new_within : (p : OpenPeriod) → IsOpened w.entries (components_by entry.step w) entry.opened p → p.row.id ≤ then.registry.numbered
  new_within p is =
      let low = opened_low (given_so_far + 1) (opening (stage_of entry.step w) then.open_periods) (omega arith) is.one (subst (λ (os : List Opened). Contains os is.one) opened_is is.there) in
      let counted = ap (count_by registers) opened_is in
      let all = numbered_then in
      let same = is.number in
      omega (arith, low, counted, all, same)

  given_direct : (r : ServiceRow) → Direct r → (0 < r.id) × (r.id ≤ given_so_far)
  given_direct r (inl was) = (let low = are.direct_given was.was was.there in let same = was.same.number in let more = goes_up in (omega (arith, low.0, same), omega (arith, low.1, same, more)))
  given_direct r (inr new) = (let next = new.number in let counted = new.counted in (omega (arith, next), omega (arith, next, counted)))

  flagged : (r : ServiceRow) → Direct r → r.direct ≡ true
  flagged r (inl was) = was.same.direct ∙ are.direct_flag was.was was.there
  flagged r (inr new) = new.direct

  given_period : (p : OpenPeriod) → Period p → p.row.id ≤ then.registry.numbered
  given_period p (inl was) = (let low = are.period_given was.was was.there in let same = was.same.service.number in let more = goes_up in let all = numbered_then in omega (arith, low, same, more, all))
  given_period p (inr new) = new_within p new

  old_wrong : (n : ℕ) (p : OpenPeriod) → IsOpened w.entries (components_by entry.step w) entry.opened p → n ≤ given_so_far → 0 < p.row.id → n ≡ p.row.id → ⊥
  old_wrong n p is low some same = (let high = new_number p is some in omega (arith, high, low, same))

  one_period : (p q : OpenPeriod) → Period p → Period q → p.row.id ≡ q.row.id → 0 < p.row.id → p ≡ q
  one_period p q (inl a) (inl b) same some =
      sym a.made ∙ ap (renewed entry.step (components_by entry.step w)) (are.period_one a.was b.was a.there b.there (sym a.same.service.number ∙ same ∙ b.same.service.number) (subst (λ n. 0 < n) a.same.service.number some)) ∙ b.made
  one_period p q (inl a) (inr b) same some = absurd (old_wrong p.row.id q b (let low = are.period_given a.was a.there in let is = a.same.service.number in let more = goes_up in omega (arith, low, is, more)) (subst (λ n. 0 < n) same some) same)
  one_period p q (inr a) (inl b) same some = absurd (old_wrong q.row.id p a (let low = are.period_given b.was b.there in let is = b.same.service.number in let more = goes_up in omega (arith, low, is, more)) some (sym same))
  one_period p q (inr a) (inr b) same some =
      let one = opened_one_of (given_so_far + 1) (opening (stage_of entry.step w) then.open_periods) a.one b.one
      (subst (λ (os : List Opened). Contains os a.one) opened_is a.there) (subst (λ (os : List Opened). Contains os b.one) opened_is b.there)
      (sym a.number ∙ same ∙ b.number) (subst (λ n. 0 < n) a.number some) in
      sym a.made ∙ ap (opened_at w.entries (components_by entry.step w)) one ∙ b.made

  two_kinds : (r : ServiceRow) (p : OpenPeriod) → Direct r → Period p → r.id ≡ p.row.id → ⊥
  two_kinds r p (inl a) (inl b) same = are.kinds a.was b.was a.there b.there (sym a.same.number ∙ same ∙ b.same.service.number)
  two_kinds r p (inr a) (inl b) same = (let low = are.period_given b.was b.there in let is = b.same.service.number in let next = a.number in omega (arith, low, is, next, same))
  two_kinds r p (inl a) (inr b) same = old_wrong r.id p b (given_direct r (inl a)).1 (subst (λ n. 0 < n) same (given_direct r (inl a)).0) same
  two_kinds r p (inr a) (inr b) same = old_wrong r.id p b (given_direct r (inr a)).1 (subst (λ n. 0 < n) same (given_direct r (inr a)).0) same

  pub was_known : (r : ServiceRow) → Contains then.unregistered_held r → Contains (known_services w) r
  was_known r h = elim (in_either w.unregistered_held (registered_services w) r (left_then r h).0) [
    | inl left ↦ left_known w are r left
    | inr registered ↦ registered_known w are r registered
  ]

  services_then : AreServices then
  services_then = record {
    direct_one = λ a b h k same. registry_one w.registry are.direct_one (λ r here. (are.direct_given r here).1) entry.step a b (rows_then a h) (rows_then b k) same;
    direct_given = λ r h. (let low = given_direct r (direct_was r h) in let all = numbered_then in (low.0, omega (arith, low.1, all)));
    direct_flag = λ r h. flagged r (direct_was r h);
    period_one = λ p q h k same some. one_period p q (then_was p h) (then_was q k) same some;
    period_given = λ p h. given_period p (then_was p h);
    kinds = λ r p h k same. two_kinds r p (direct_was r h) (then_was p k) same;
    left_one = λ a b h k same. known_one w are a b (was_known a h) (was_known b k) same;
    left_given = λ r h. (let low = known_given w are r (was_known r h) in let more = goes_up in let all = numbered_then in omega (arith, low, more, all));
    left_gone = λ r h. not_true (is_registered then r.id) (and_parts (not (is_registered then r.id)) (is_service_held then r.id) (left_then r h).1).0;
  }

  -- ---- a number stays that of one service

  same_direct : (old new : ServiceRow) → Contains (known_services w) old → Direct new → new.id ≡ old.id → IsSameService old new
  same_direct old new h (inl was) same = subst (λ (x : ServiceRow). IsSameService x new) (known_one w are was.was old (registered_known w are was.was (direct_in w was.was was.there)) h (sym was.same.number ∙ same)) was.same
  same_direct old new h (inr is) same = (let low = known_given w are old h in let next = is.number in absurd (omega (arith, low, next, same)))

  same_period : (old : ServiceRow) (p : OpenPeriod) → Contains (known_services w) old → Period p → 0 < p.row.id → p.row.id ≡ old.id → IsSameService old p.row
  same_period old p h (inl was) some same = subst (λ (x : ServiceRow). IsSameService x p.row)
      (known_one w are was.was.row old (registered_known w are was.was.row (component_in w was.was was.there (subst (λ n. 0 < n) was.same.service.number some))) h (sym was.same.service.number ∙ same)) was.same.service
  same_period old p h (inr is) some same = (let low = known_given w are old h in let more = goes_up in absurd (old_wrong old.id p is (omega (arith, low, more)) some (sym same)))

  same_kind : (old new : ServiceRow) → Contains (known_services w) old → IsKind then new → new.id ≡ old.id → IsSameService old new
  same_kind old new h (of_platform is) same = subst (λ (x : ServiceRow). IsSameService x new) (sym is ∙ known_one w are condition old (registered_known w are condition (platform_in w)) h (ap number_of is ∙ same)) (itself new)
  same_kind old new h (of_command k) same = same_direct old new h (direct_was new k) same
  same_kind old new h (of_component p k is some) same = subst (λ (x : ServiceRow). IsSameService old x) is (same_period old p h (then_was p k) (subst (λ n. 0 < n) (ap number_of (sym is)) some) (ap number_of is ∙ same))
  same_kind old new h (of_those_left k) same = subst (λ (x : ServiceRow). IsSameService x new) (known_one w are new old (was_known new k) h same) (itself new)

  stay : StayServices w then
  stay old new h k same = same_kind old new h (known_kind then new k) same

-- ---- over a journal

none_at_first : AreServices (world_of [])
unfolding world_of
none_at_first = record {
  direct_one = λ a b h. absurd (in_none a h);
  direct_given = λ r h. absurd (in_none r h);
  direct_flag = λ r h. absurd (in_none r h);
  period_one = λ p q h. absurd (in_none p h);
  period_given = λ p h. absurd (in_none p h);
  kinds = λ r p h. absurd (in_none r h);
  left_one = λ a b h. absurd (in_none a h);
  left_given = λ r h. absurd (in_none r h);
  left_gone = λ r h. absurd (in_none r h);
}

pub are_services : (limit : ℕ) (past : History) → IsLegal limit past → AreServices (world_of past)
are_services limit [] legal = none_at_first
are_services limit (entry ∷ past) legal = services_then limit entry past legal (are_services limit past legal.1)

pub have_own_numbers : (limit : ℕ) (past : History) → IsLegal limit past → HaveOwnNumbers (world_of past)
have_own_numbers limit past legal = let are = are_services limit past legal in record { one = known_one (world_of past) are; given = known_given (world_of past) are }

pub stay_services : (limit : ℕ) (entry : Entry Step) (past : History) → IsLegal limit (entry ∷ past) → StayServices (world_of past) (world_of (entry ∷ past))
stay_services limit entry past legal = stay limit entry past legal (are_services limit past legal.1)
