-- What an entry makes of the services of open periods.
use Rattle.std.proofs.Common.{◌≡◌, ◌⊎◌, ℕ, ◌+◌, List, ap, sym, ◌∙◌, refl, subst, cond, arith, Bool, true, false, inl, inr, Option, Some, None}
use Rattle.std.specs.Prelude.{filter, map, not}
use Rattle.std.specs.List.{Contains}
use Rattle.std.specs.Option.{option_map_or}
use Rattle.component_state.specs.declared.component.Component.{Component}
use Rattle.component_state.specs.declared.open_period.OpenPeriod.{OpenPeriod}
use Rattle.component_state.specs.Components.{component_of}
use Rattle.component_state.specs.Periods.{open_after, opened_at}
use Rattle.component_state.specs.Rows.{no_row, period_with_properties, published_by, row_by, row_in, row_with_properties, with_present_properties}
use Rattle.component_state.proofs.Apart.{in_either, kept_was}
use Rattle.journal_core.specs.declared.entry.Opened.{Opened}
use Rattle.prop_map.specs.declared.properties.Property.{Property}
use Rattle.prop_map.specs.Sameness.{same_properties}
use Rattle.prop_map.specs.Words.{has}
use Rattle.scr_laws.proofs.Listed.{mapped_was}
use Rattle.scr_promises.specs.Services.{IsSameService}
use Rattle.scr_promises.proofs.RegistrySteps.{itself}
use Rattle.scr_world.specs.Stepping.{periods_with}
use Rattle.scr_world.specs.declared.step.Step.{Step}
use Rattle.scr_world.specs.declared.step.Step.TheVariants.{Command as Commanded, Begin, End, Drained, Got, Released}
use Rattle.service_registry.specs.declared.row.ServiceRow.{ServiceRow}

-- an open period at two times
pub record IsSamePeriod (old new : OpenPeriod) : Type 0 where
  pub configuration : new.configuration ≡ old.configuration
  pub opened : new.opened ≡ old.opened
  pub service : IsSameService old.row new.row

own_row : (p : OpenPeriod) → IsSamePeriod p p
own_row p = record { configuration = refl; opened = refl; service = itself p.row }

with_row : (r : ServiceRow) (given : List Property) → IsSameService r (row_with_properties r given)
with_row r given = go (same_properties given r.properties)
  where
    go : (b : Bool) → IsSameService r (cond b r (record r { properties = given; revision = r.revision + 1 }))
    go true = itself r
    go false = record { number = refl; bundle = refl; interfaces = refl; direct = refl; later = omega arith; properties = λ e. absurd (omega (arith, e)) }

renewed_same : (p : OpenPeriod) (o : Option Component) → IsSamePeriod p (option_map_or (period_with_properties p) o p)
renewed_same p None = own_row p
renewed_same p (Some c) = record { configuration = refl; opened = refl; service = with_row p.row (published_by c p.row.id) }

-- ---- a step

abbrev pub renewed : Step → List Component → OpenPeriod → OpenPeriod
renewed (Commanded command) cs p = with_present_properties cs p
renewed (Begin turn instance configuration consumer callback chosen) cs p = p
renewed (End turn outcome) cs p = p
renewed (Drained instance) cs p = p
renewed (Got bundle service) cs p = p
renewed (Released place) cs p = p

pub renewed_is : (step : Step) (cs : List Component) (p : OpenPeriod) → IsSamePeriod p (renewed step cs p)
renewed_is (Commanded command) cs p = renewed_same p (component_of cs p.configuration)
renewed_is (Begin turn instance configuration consumer callback chosen) cs p = own_row p
renewed_is (End turn outcome) cs p = own_row p
renewed_is (Drained instance) cs p = own_row p
renewed_is (Got bundle service) cs p = own_row p
renewed_is (Released place) cs p = own_row p

pub period_was : (step : Step) (cs : List Component) (before : List OpenPeriod) (q : OpenPeriod) → Contains (periods_with step cs before) q → (p : OpenPeriod) × (Contains before p × (renewed step cs p ≡ q))
period_was (Commanded command) cs before q h = mapped_was (with_present_properties cs) before q h
period_was (Begin turn instance configuration consumer callback chosen) cs before q h = (q, (h, refl))
period_was (End turn outcome) cs before q h = (q, (h, refl))
period_was (Drained instance) cs before q h = (q, (h, refl))
period_was (Got bundle service) cs before q h = (q, (h, refl))
period_was (Released place) cs before q h = (q, (h, refl))

-- ---- the lists of an entry

row_number : (cs : List Component) (n service : ℕ) → (row_in cs n service 0).id ≡ service
row_number cs n service = go (component_of cs n)
  where
    go : (o : Option Component) → (option_map_or (λ c. row_by c service 0) o (no_row service 0)).id ≡ service
    go None = refl
    go (Some c) = refl

row_direct : (cs : List Component) (n service : ℕ) → (row_in cs n service 0).direct ≡ false
row_direct cs n service = go (component_of cs n)
  where
    go : (o : Option Component) → (option_map_or (λ c. row_by c service 0) o (no_row service 0)).direct ≡ false
    go None = refl
    go (Some c) = refl

-- an open period behind an entry: it was open before, or the entry opens it
pub record IsOpened (place : ℕ) (cs : List Component) (opened : List Opened) (q : OpenPeriod) : Type 0 where
  pub one : Opened
  pub there : Contains opened one
  pub made : opened_at place cs one ≡ q
  pub number : q.row.id ≡ one.service
  pub direct : q.row.direct ≡ false

pub record WasOpen (step : Step) (cs : List Component) (before : List OpenPeriod) (q : OpenPeriod) : Type 0 where
  pub was : OpenPeriod
  pub there : Contains before was
  pub made : renewed step cs was ≡ q
  pub same : IsSamePeriod was q

pub open_was : (step : Step) (place : ℕ) (cs : List Component) (closed : List ℕ) (opened : List Opened) (before : List OpenPeriod) (q : OpenPeriod) → Contains (open_after place cs closed opened (periods_with step cs before)) q
    → WasOpen step cs before q ⊎ IsOpened place cs opened q
open_was step place cs closed opened before q h = elim (in_either (filter (λ (p : OpenPeriod). not (has closed p.configuration)) (periods_with step cs before)) (map (opened_at place cs) opened) q h) [
  | inl old ↦ (
      let was = period_was step cs before q (kept_was (λ (p : OpenPeriod). not (has closed p.configuration)) (periods_with step cs before) q old).0 in
      inl (record { was = was.0; there = was.1.0; made = was.1.1; same = subst (λ (x : OpenPeriod). IsSamePeriod was.0 x) was.1.1 (renewed_is step cs was.0) }))
  | inr new ↦ (
      let was = mapped_was (opened_at place cs) opened q new in
      inr (record {
        one = was.0;
        there = was.1.0;
        made = was.1.1;
        number = ap (λ (p : OpenPeriod). p.row.id) (sym was.1.1) ∙ row_number cs was.0.configuration was.0.service;
        direct = ap (λ (p : OpenPeriod). p.row.direct) (sym was.1.1) ∙ row_direct cs was.0.configuration was.0.service;
      }))
]
