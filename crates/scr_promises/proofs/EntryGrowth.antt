-- What an entry of a settling that closes nothing leaves: all services that are registered, with the properties that they have; those that it adds have new numbers.
use Rattle.std.proofs.Common.{◌≡◌, ◌≤◌, ◌<◌, ℕ, ◌+◌, List, [], ◌∷◌, ◌++◌, ap, sym, ◌∙◌, refl, subst, cond, arith, Bool, true, false, inl, inr, Option, Some, None}
use Rattle.std.specs.Prelude.{find, map, not, ◌==◌}
use Rattle.std.specs.List.{Contains}
use Rattle.std.specs.Option.{option_map_or}
use Rattle.std.proofs.lemmas.Bool.{both_ways, eq-eqb, eqb-true}
use Rattle.component_state.specs.declared.component.Component.{Component}
use Rattle.component_state.specs.declared.open_period.OpenPeriod.{OpenPeriod}
use Rattle.component_state.specs.Components.{component_of}
use Rattle.component_state.specs.Passes.{opened_from, opening}
use Rattle.component_state.specs.Periods.{is_open, open_after, opened_at}
use Rattle.component_state.specs.Rows.{no_row, row_by, row_in, rows_of, service_in}
use Rattle.component_state.proofs.Apart.{any_found, any_from, in_either, in_left, kept_from, kept_was, not_true}
use Rattle.journal_core.specs.declared.entry.Entry.{Entry}
use Rattle.journal_core.specs.declared.entry.Opened.{Opened}
use Rattle.prop_map.specs.Words.{has}
use Rattle.reference_match.specs.declared.need.Need.{Need}
use Rattle.reference_match.specs.Targets.{meets, targets}
use Rattle.scr_laws.proofs.Listed.{found_was, mapped_was, none_found}
use Rattle.scr_laws.proofs.Stillness.{all_kept}
use Rattle.scr_promises.specs.Services.{known_services}
use Rattle.scr_promises.proofs.OpenedNumbers.{opened_high}
use Rattle.scr_promises.proofs.RegistrySteps.{number_of}
use Rattle.scr_promises.proofs.ServiceLaws.{are_services, left_known, left_then, registered_known}
use Rattle.scr_promises.proofs.KnownLaws.{known_found}
use Rattle.scr_promises.specs.Settlings.{is_settling}
use Rattle.scr_promises.proofs.GrowingServices.{rows_over, target_in, target_was}
use Rattle.scr_world.specs.Consequences.{stage_in, stage_of}
use Rattle.scr_world.specs.Legal.{IsLegal}
use Rattle.scr_world.specs.Lists.{world_after_entry, world_of}
use Rattle.scr_world.specs.Steps.{History}
use Rattle.scr_world.specs.Stepping.{components_by, periods_with, world_after_step}
use Rattle.scr_world.specs.Tables.{registry_by}
use Rattle.scr_world.specs.Whiteboard.{platform_rows}
use Rattle.scr_world.specs.Worlds.{direct_services, registered_services, revision_of, row_known}
use Rattle.scr_world.specs.declared.step.Step.{Step}
use Rattle.scr_world.specs.declared.step.Step.TheVariants.{Command as Commanded, Begin, End, Drained, Got, Released}
use Rattle.scr_world.specs.declared.world.World.{World}
use Rattle.service_registry.specs.declared.row.ServiceRow.{ServiceRow}
use Rattle.service_registry.specs.Registries.{has_number}

append_again : (xs ys zs : List ServiceRow) → xs ++ (ys ++ zs) ≡ (xs ++ ys) ++ zs
append_again [] ys zs = refl
append_again (x ∷ xs) ys zs = ap (λ ws. x ∷ ws) (append_again xs ys zs)

row_number : (cs : List Component) (n service : ℕ) → (row_in cs n service 0).id ≡ service
row_number cs n service = go (component_of cs n)
  where
    go : (o : Option Component) → (option_map_or (λ c. row_by c service 0) o (no_row service 0)).id ≡ service
    go None = refl
    go (Some c) = refl

found_over : {X : Type 0} (t : X → Bool) (xs ys : List X) (x : X) → find t xs ≡ Some x → find t (xs ++ ys) ≡ Some x
found_over t [] ys x is = cc
found_over {X = X} t (y ∷ xs) ys x is = go (t y) is (found_over t xs ys x)
  where
    go : (b : Bool) → cond b (Some y) (find t xs) ≡ Some x → (find t xs ≡ Some x → find t (xs ++ ys) ≡ Some x) → cond b (Some y) (find t (xs ++ ys)) ≡ Some x
    go true e later = e
    go false e later = later e

module _ (limit : ℕ) (entry : Entry Step) (past : History) (legal : IsLegal limit (entry ∷ past)) (settles : is_settling entry.step (world_of past) ≡ true) (closed : entry.closed ≡ []) where
  abbrev w : World
  w = world_of past

  abbrev then : World
  then = world_of (entry ∷ past)

  -- ---- tables

  pub components_stay : then.components ≡ w.components
  unfolding world_of world_after_entry world_after_step
  components_stay = go entry.step settles
    where
      go : (step : Step) → is_settling step (world_of past) ≡ true → components_by step (world_of past) ≡ (world_of past).components
      go (Commanded command) is = cc
      go (Begin turn instance configuration consumer callback chosen) is = refl
      go (End turn outcome) is = refl
      go (Drained instance) is = refl
      go (Got bundle service) is = refl
      go (Released place) is = refl

  pub direct_stay : direct_services then ≡ direct_services w
  unfolding world_of world_after_entry world_after_step
  direct_stay = ap (λ (rs : List ServiceRow). platform_rows ++ rs) (go entry.step settles)
    where
      go : (step : Step) → is_settling step (world_of past) ≡ true → (registry_by step (world_of past).registry).rows ≡ (world_of past).registry.rows
      go (Commanded command) is = cc
      go (Begin turn instance configuration consumer callback chosen) is = refl
      go (End turn outcome) is = refl
      go (Drained instance) is = refl
      go (Got bundle service) is = refl
      go (Released place) is = refl

  pub opened_now : List OpenPeriod
  opened_now = map (opened_at w.entries w.components) entry.opened

  pub periods_stay : then.open_periods ≡ w.open_periods ++ opened_now
  unfolding world_of world_after_entry world_after_step opened_now
  periods_stay = ap (λ (ns : List ℕ). open_after w.entries (components_by entry.step w) ns entry.opened (periods_with entry.step (components_by entry.step w) w.open_periods)) closed ∙ go entry.step settles
    where
      go : (step : Step) → is_settling step (world_of past) ≡ true
          → open_after (world_of past).entries (components_by step (world_of past)) [] entry.opened (periods_with step (components_by step (world_of past)) (world_of past).open_periods) ≡ (world_of past).open_periods ++ map (opened_at (world_of past).entries (world_of past).components) entry.opened
      go (Commanded command) is = cc
      go (Begin turn instance configuration consumer callback chosen) is = ap (λ ps. ps ++ map (opened_at (world_of past).entries (world_of past).components) entry.opened) (all_kept (world_of past).open_periods)
      go (End turn outcome) is = ap (λ ps. ps ++ map (opened_at (world_of past).entries (world_of past).components) entry.opened) (all_kept (world_of past).open_periods)
      go (Drained instance) is = ap (λ ps. ps ++ map (opened_at (world_of past).entries (world_of past).components) entry.opened) (all_kept (world_of past).open_periods)
      go (Got bundle service) is = cc
      go (Released place) is = cc

  -- ---- services

  pub registered_stay : registered_services then ≡ registered_services w ++ rows_of opened_now
  registered_stay = ap (λ (rs : List ServiceRow). rs ++ rows_of then.open_periods) direct_stay ∙ ap (λ (ps : List OpenPeriod). direct_services w ++ rows_of ps) periods_stay
      ∙ ap (λ (rs : List ServiceRow). direct_services w ++ rs) (rows_over w.open_periods opened_now) ∙ append_again (direct_services w) (rows_of w.open_periods) (rows_of opened_now)

  opened_from_next : entry.opened ≡ opened_from (w.registry.numbered + 1) (opening (stage_of entry.step w) then.open_periods)
  unfolding stage_of stage_in world_after_step
  opened_from_next = legal.0.opened ∙ ap (λ n. opened_from (n + 1) (opening (stage_of entry.step w) then.open_periods)) (go entry.step settles)
    where
      go : (step : Step) → is_settling step (world_of past) ≡ true → (registry_by step (world_of past).registry).numbered ≡ (world_of past).registry.numbered
      go (Commanded command) is = cc
      go (Begin turn instance configuration consumer callback chosen) is = refl
      go (End turn outcome) is = refl
      go (Drained instance) is = refl
      go (Got bundle service) is = refl
      go (Released place) is = refl

  pub opened_new : (r : ServiceRow) → Contains (rows_of opened_now) r → w.registry.numbered < r.id
  unfolding opened_now
  opened_new r h =
      let kept = kept_was (λ (x : ServiceRow). not (x.id == 0)) (map (λ (p : OpenPeriod). p.row) opened_now) r h in
      let period = mapped_was (λ (p : OpenPeriod). p.row) opened_now r kept.0 in
      let one = mapped_was (opened_at w.entries w.components) entry.opened period.0 period.1.0 in
      let number : r.id ≡ one.0.service = ap number_of (sym period.1.1) ∙ ap (λ (p : OpenPeriod). p.row.id) (sym one.1.1) ∙ row_number w.components one.0.configuration one.0.service in
      elim (opened_high (w.registry.numbered + 1) (opening (stage_of entry.step w) then.open_periods) one.0 (subst (λ (os : List Opened). Contains os one.0) opened_from_next one.1.0)) [
        | inl none ↦ absurd (some_wrong r.id kept.1 (number ∙ none))
        | inr high ↦ omega (arith, high, number)
      ]
    where
      some_wrong : (n : ℕ) → not (n == 0) ≡ true → n ≡ 0 → ⊥
      some_wrong n some none = both_ways (n == 0) (not_true (n == 0) some) (eq-eqb n 0 none)

  -- one with an earlier number was there
  pub registered_was : (r : ServiceRow) → Contains (registered_services then) r → r.id ≤ w.registry.numbered → Contains (registered_services w) r
  registered_was r h low = elim (in_either (registered_services w) (rows_of opened_now) r (subst (λ (rs : List ServiceRow). Contains rs r) registered_stay h)) [
    | inl old ↦ old
    | inr new ↦ (let high = opened_new r new in absurd (omega (arith, low, high)))
  ]

  pub registered_then : (r : ServiceRow) → Contains (registered_services w) r → Contains (registered_services then) r
  registered_then r h = subst (λ (rs : List ServiceRow). Contains rs r) (sym registered_stay) (in_left (registered_services w) (rows_of opened_now) r h)

  -- ---- targets

  pub target_then : (n : Need) (s : ℕ) → has (targets n (registered_services w)) s ≡ true → has (targets n (registered_services then)) s ≡ true
  target_then n s on =
      let was = target_was n (registered_services w) s on in
      let kept = kept_was (meets n) (registered_services w) was.0 was.1 in
      subst (λ k. has (targets n (registered_services then)) k ≡ true) was.2 (target_in n (registered_services then) was.0 (kept_from (meets n) (registered_services then) was.0 (registered_then was.0 kept.0) kept.1))

  pub target_before : (n : Need) (s : ℕ) → s ≤ w.registry.numbered → has (targets n (registered_services then)) s ≡ true → has (targets n (registered_services w)) s ≡ true
  target_before n s low on =
      let is = target_was n (registered_services then) s on in
      let kept = kept_was (meets n) (registered_services then) is.0 is.1 in
      let old = registered_was is.0 kept.0 (let same = is.2 in omega (arith, low, same)) in
      subst (λ k. has (targets n (registered_services w)) k ≡ true) is.2 (target_in n (registered_services w) is.0 (kept_from (meets n) (registered_services w) is.0 old kept.1))

  -- ---- revisions

  known_was : (r : ServiceRow) → Contains (known_services then) r → r.id ≤ w.registry.numbered → Contains (known_services w) r
  known_was r h low = elim (in_either (registered_services then) then.unregistered_held r h) [
    | inl registered ↦ registered_known w (are_services limit past legal.1) r (registered_was r registered low)
    | inr left ↦ elim (in_either w.unregistered_held (registered_services w) r (left_then limit entry past legal (are_services limit past legal.1) r left).0) [
      | inl before ↦ left_known w (are_services limit past legal.1) r before
      | inr registered ↦ registered_known w (are_services limit past legal.1) r registered
    ]
  ]

  pub revision_falls : (s : ℕ) → s ≤ w.registry.numbered → revision_of then s ≤ revision_of w s
  revision_falls s low = go (row_known then s) refl
    where
      go : (o : Option ServiceRow) → row_known (world_of (entry ∷ past)) s ≡ o → option_map_or (λ (r : ServiceRow). r.revision) o 0 ≤ revision_of (world_of past) s
      go None is = omega arith
      go (Some r) is =
          let found = found_was (has_number s) (known_services (world_of (entry ∷ past))) r is in
          let number = eqb-true r.id s found.1 in
          let before = known_was r found.0 (omega (arith, low, number)) in
          let same = ap (λ (o : Option ServiceRow). option_map_or (λ (x : ServiceRow). x.revision) o 0) (known_found limit past legal.1 r before s number) in
          omega (arith, same)

  -- ---- what is open

  pub open_then : (n : ℕ) → is_open w.open_periods n ≡ true → is_open then.open_periods n ≡ true
  open_then n on =
      let p = any_found (λ (q : OpenPeriod). q.configuration == n) w.open_periods on in
      any_from (λ (q : OpenPeriod). q.configuration == n) then.open_periods p.0 (subst (λ (ps : List OpenPeriod). Contains ps p.0) (sym periods_stay) (in_left w.open_periods opened_now p.0 p.1)) p.2

  pub service_stays : (n : ℕ) → is_open w.open_periods n ≡ true → service_in then.open_periods n ≡ service_in w.open_periods n
  service_stays n on = go (find (λ (q : OpenPeriod). q.configuration == n) w.open_periods) refl
    where
      go : (o : Option OpenPeriod) → find (λ (q : OpenPeriod). q.configuration == n) (world_of past).open_periods ≡ o → service_in (world_of (entry ∷ past)).open_periods n ≡ service_in (world_of past).open_periods n
      go None is = (
          let p = any_found (λ (q : OpenPeriod). q.configuration == n) (world_of past).open_periods on in
          absurd (both_ways (p.0.configuration == n) (none_found (λ (q : OpenPeriod). q.configuration == n) (world_of past).open_periods p.0 is p.1) p.2))
      go (Some p) is =
          let now = ap (find (λ (q : OpenPeriod). q.configuration == n)) periods_stay ∙ found_over (λ (q : OpenPeriod). q.configuration == n) (world_of past).open_periods opened_now p is in
          ap (λ (o : Option OpenPeriod). option_map_or (λ (q : OpenPeriod). q.row.id) o 0) now ∙ sym (ap (λ (o : Option OpenPeriod). option_map_or (λ (q : OpenPeriod). q.row.id) o 0) is)
