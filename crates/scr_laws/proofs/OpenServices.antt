-- An instance of a period that is open has the number of that period's service.
use Rattle.std.proofs.Common.{◌≡◌, ◌<◌, ◌⊎◌, ℕ, ◌+◌, List, [], ◌∷◌, ap, sym, ◌∙◌, refl, subst, cond, arith, Bool, true, false, ◌&&◌, inl, inr, Option, Some, None}
use Rattle.std.specs.Prelude.{filter, map, nat_lt, not, ◌==◌}
use Rattle.std.specs.List.{Contains}
use Rattle.std.specs.Option.{option_map_or}
use Rattle.std.proofs.lemmas.Bool.{and_parts, eq-eqb, eqb-true, ltb-true}
use Rattle.component_state.specs.declared.component.Component.{Component}
use Rattle.component_state.specs.declared.open_period.OpenPeriod.{OpenPeriod}
use Rattle.component_state.specs.declared.origin.Origin.{Origin}
use Rattle.component_state.specs.Components.{component_of}
use Rattle.component_state.specs.Inside.Ready.{are_apart}
use Rattle.component_state.specs.Periods.{is_current, open_after, opened_at}
use Rattle.component_state.specs.Rows.{period_with_properties, published_by, row_with_properties, service_in, with_present_properties}
use Rattle.component_state.proofs.Apart.{any_found, any_from, in_either, in_none, kept_was, one_of}
use Rattle.journal_core.specs.declared.entry.Entry.{Entry}
use Rattle.journal_core.specs.declared.entry.Opened.{Opened}
use Rattle.prop_map.specs.declared.properties.Property.{Property}
use Rattle.prop_map.specs.Sameness.{same_properties}
use Rattle.prop_map.specs.Words.{has}
use Rattle.scr_laws.specs.Gates.{shuts_nothing}
use Rattle.scr_laws.specs.Services.{HaveOpenServices}
use Rattle.scr_laws.proofs.NothingShut.{periods_then}
use Rattle.scr_laws.proofs.Listed.{found_is, mapped_was}
use Rattle.scr_laws.proofs.Sounding.{legal_created, legal_sound}
use Rattle.scr_laws.proofs.InstanceLemmas.{IsMade, Was, instance_was}
use Rattle.scr_world.specs.Legal.{IsLegal}
use Rattle.scr_world.specs.Lists.{world_after_entry, world_of}
use Rattle.scr_world.specs.Steps.{History}
use Rattle.scr_world.specs.Stepping.{components_by, instances_by, periods_with, world_after_step}
use Rattle.scr_world.specs.declared.instance.Instance.{Instance}
use Rattle.scr_world.specs.declared.step.Step.{Step}
use Rattle.scr_world.specs.declared.step.Step.TheVariants.{Command as Commanded, Begin, End, Drained, Got, Released}
use Rattle.service_registry.specs.declared.row.ServiceRow.{ServiceRow}

-- ---- the service of a component configuration that is open once

service_of : (ps : List OpenPeriod) → are_apart (map (λ (p : OpenPeriod). p.configuration) ps) ≡ true → (p : OpenPeriod) → Contains ps p → (n : ℕ) → p.configuration ≡ n → service_in ps n ≡ p.row.id
service_of ps apart p h n is = ap (λ o. option_map_or (λ (q : OpenPeriod). q.row.id) o 0)
    (found_is (λ (q : OpenPeriod). q.configuration == n) ps p h (eq-eqb p.configuration n is) (λ q k same. one_of (λ (x : OpenPeriod). x.configuration) ps apart q p k h (eqb-true q.configuration n same ∙ sym is)))

-- ---- a period that was open before, with the same service

record IsSamePeriod (p q : OpenPeriod) : Type 0 where
  configuration : p.configuration ≡ q.configuration
  opened : p.opened ≡ q.opened
  service : p.row.id ≡ q.row.id

with_row : (r : ServiceRow) (given : List Property) → (row_with_properties r given).id ≡ r.id
with_row r given = go (same_properties given r.properties)
  where
    go : (b : Bool) → (cond b r (record r { properties = given; revision = r.revision + 1 })).id ≡ r.id
    go true = refl
    go false = refl

renewed_same : (p : OpenPeriod) (o : Option Component) → IsSamePeriod p (option_map_or (period_with_properties p) o p)
renewed_same p None = record { configuration = refl; opened = refl; service = refl }
renewed_same p (Some c) = record { configuration = refl; opened = refl; service = sym (with_row p.row (published_by c p.row.id)) }

itself : (p : OpenPeriod) → IsSamePeriod p p
itself p = record { configuration = refl; opened = refl; service = refl }

was_open : (step : Step) (cs : List Component) (before : List OpenPeriod) (q : OpenPeriod) → Contains (periods_with step cs before) q → (p : OpenPeriod) × (Contains before p × IsSamePeriod p q)
was_open (Commanded command) cs before q h = let was = mapped_was (with_present_properties cs) before q h in
    (was.0, (was.1.0, subst (λ (x : OpenPeriod). IsSamePeriod was.0 x) was.1.1 (renewed_same was.0 (component_of cs was.0.configuration))))
was_open (Begin turn instance configuration consumer callback chosen) cs before q h = (q, (h, itself q))
was_open (End turn outcome) cs before q h = (q, (h, itself q))
was_open (Drained instance) cs before q h = (q, (h, itself q))
was_open (Got bundle service) cs before q h = (q, (h, itself q))
was_open (Released place) cs before q h = (q, (h, itself q))

-- an open period that is older than an entry was open before it
module _ (step : Step) (place : ℕ) (cs : List Component) (closed : List ℕ) (opened : List Opened) (before : List OpenPeriod) (o : Origin) (low : o.created < place)
    (one : are_apart (map (λ (p : OpenPeriod). p.configuration) before) ≡ true) (two : are_apart (map (λ (p : OpenPeriod). p.configuration) (open_after place cs closed opened (periods_with step cs before))) ≡ true) where
  older : (q : OpenPeriod) → Contains (open_after place cs closed opened (periods_with step cs before)) q → q.opened < o.created → (p : OpenPeriod) × (Contains before p × IsSamePeriod p q)
  older q h early = elim (in_either (filter (λ (p : OpenPeriod). not (has closed p.configuration)) (periods_with step cs before)) (map (opened_at place cs) opened) q h) [
    | inl old ↦ was_open step cs before q (kept_was (λ (p : OpenPeriod). not (has closed p.configuration)) (periods_with step cs before) q old).0
    | inr new ↦ (
        let was = mapped_was (opened_at place cs) opened q new in
        let here = ap (λ (p : OpenPeriod). p.opened) was.1.1 in
        absurd (omega (arith, early, here, low)))
  ]

  pub service_kept : is_current (open_after place cs closed opened (periods_with step cs before)) o ≡ true
      → (is_current before o ≡ true) × (service_in before o.configuration ≡ service_in (open_after place cs closed opened (periods_with step cs before)) o.configuration)
  service_kept current =
      let q = any_found (λ (p : OpenPeriod). (p.configuration == o.configuration) && nat_lt p.opened o.created) (open_after place cs closed opened (periods_with step cs before)) current in
      let both = and_parts (q.0.configuration == o.configuration) (nat_lt q.0.opened o.created) q.2 in
      let p = older q.0 q.1 (ltb-true q.0.opened o.created both.1) in (
        any_from (λ (x : OpenPeriod). (x.configuration == o.configuration) && nat_lt x.opened o.created) before p.0 p.1.0
            (ap (λ n. (n == o.configuration) && nat_lt p.0.opened o.created) p.1.1.configuration ∙ ap (λ n. (q.0.configuration == o.configuration) && nat_lt n o.created) p.1.1.opened ∙ q.2),
        service_of before one p.0 p.1.0 o.configuration (p.1.1.configuration ∙ eqb-true q.0.configuration o.configuration both.0) ∙ p.1.1.service
            ∙ sym (service_of (open_after place cs closed opened (periods_with step cs before)) two q.0 q.1 o.configuration (eqb-true q.0.configuration o.configuration both.0)),
      )

-- ---- over a journal

module _ (limit : ℕ) (entry : Entry Step) (past : History) (legal : IsLegal limit (entry ∷ past)) where
  kept_then : (o : Origin) → o.created < (world_of past).entries → is_current (world_of (entry ∷ past)).open_periods o ≡ true
      → (is_current (world_of past).open_periods o ≡ true) × (service_in (world_of past).open_periods o.configuration ≡ service_in (world_of (entry ∷ past)).open_periods o.configuration)
  unfolding world_of world_after_entry world_after_step
  kept_then o low current = service_kept entry.step (world_of past).entries (components_by entry.step (world_of past)) entry.closed entry.opened (world_of past).open_periods o low
      (legal_sound limit past legal.1).plain.apart (legal_sound limit (entry ∷ past) legal).plain.apart current

  instances_then : (i : Instance) → Contains (world_of (entry ∷ past)).instances i → Contains (instances_by entry.step (world_of past)) i
  unfolding world_of world_after_entry world_after_step
  instances_then i h = h

  services_then : HaveOpenServices (world_of past) → HaveOpenServices (world_of (entry ∷ past))
  services_then before i h current = go (instance_was (world_of past) entry.step i (instances_then i h))
    where
      go : Was (world_of past) i ⊎ IsMade entry.step (world_of past) i → i.service ≡ service_in (world_of (entry ∷ past)).open_periods i.origin.configuration
      go (inl was) =
          let kept = kept_then was.0.origin (legal_created limit past legal.1 was.0 was.1) (ap (is_current (world_of (entry ∷ past)).open_periods) (sym was.2.origin) ∙ current) in
          was.2.service ∙ before was.0 was.1 kept.0 ∙ kept.1 ∙ ap (λ (o : Origin). service_in (world_of (entry ∷ past)).open_periods o.configuration) (sym was.2.origin)
      go (inr made) =
          let same = periods_then limit entry past legal (ap shuts_nothing made.4.1.0) in
          subst (λ (x : Instance). x.service ≡ service_in (world_of (entry ∷ past)).open_periods x.origin.configuration) made.4.1.1
          (ap (λ ps. service_in ps made.2) (sym same))

none_at_first : (i : Instance) → Contains (world_of []).instances i → ⊥
unfolding world_of
none_at_first i h = in_none i h

pub open_services : (limit : ℕ) (past : History) → IsLegal limit past → HaveOpenServices (world_of past)
open_services limit [] legal = λ i h current. absurd (none_at_first i h)
open_services limit (entry ∷ past) legal = services_then limit entry past legal (open_services limit past legal.1)
