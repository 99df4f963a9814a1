-- The service of an instance: its number was given, and where a period with this number is open, the instance was made in it.
use Rattle.std.proofs.Common.{◌≡◌, ◌<◌, ◌≤◌, ◌⊎◌, ℕ, List, [], ◌∷◌, ap, sym, ◌∙◌, refl, subst, arith, inl, inr, Option, Some, None}
use Rattle.std.specs.Prelude.{find, ◌==◌}
use Rattle.std.specs.List.{Contains}
use Rattle.std.specs.Option.{option_map_or}
use Rattle.std.proofs.lemmas.Bool.{eqb-true}
use Rattle.component_state.specs.declared.open_period.OpenPeriod.{OpenPeriod}
use Rattle.component_state.specs.declared.origin.Choice.{Choice}
use Rattle.component_state.specs.declared.origin.Origin.{Origin}
use Rattle.component_state.specs.Rows.{service_in}
use Rattle.journal_core.specs.declared.entry.Entry.{Entry}
use Rattle.scr_promises.proofs.Comings.{WasBefore}
use Rattle.scr_promises.proofs.EndingLaws.{comes, none_at_first}
use Rattle.scr_laws.proofs.Listed.{found_was}
use Rattle.scr_laws.proofs.Sounding.{legal_earlier}
use Rattle.scr_laws.proofs.InstanceLemmas.{IsMade}
use Rattle.scr_promises.proofs.ServiceLaws.{AreServices, Direct, Period, are_services, direct_was, goes_up, new_number, numbered_then, then_was}
use Rattle.scr_world.specs.Legal.{IsLegal}
use Rattle.scr_world.specs.Lists.{world_of}
use Rattle.scr_world.specs.Steps.{History}
use Rattle.scr_world.specs.declared.instance.Instance.{Instance}
use Rattle.scr_world.specs.declared.step.Step.{Step}
use Rattle.scr_world.specs.declared.world.World.{World}
use Rattle.service_registry.specs.declared.row.ServiceRow.{ServiceRow}

pub record HasItsPeriod (w : World) (service : ℕ) (origin : Origin) : Type 0 where
  pub given : service ≤ w.registry.numbered
  pub period : (p : OpenPeriod) → Contains w.open_periods p → p.row.id ≡ service → 0 < service → (p.configuration ≡ origin.configuration) × (p.opened < origin.created)
  pub of_component : (r : ServiceRow) → Contains w.registry.rows r → r.id ≡ service → 0 < service → ⊥

abbrev pub HavePeriods : World → Type 0
HavePeriods w = (x : Instance) → Contains w.instances x → HasItsPeriod w x.service x.origin

-- the service of what is open, if it has one
service_found : (ps : List OpenPeriod) (n : ℕ) → (service_in ps n ≡ 0) ⊎ ((p : OpenPeriod) × Contains ps p × (p.configuration ≡ n) × (service_in ps n ≡ p.row.id))
service_found ps n = go (find (λ (p : OpenPeriod). p.configuration == n) ps) refl
  where
    go : (o : Option OpenPeriod) → find (λ (p : OpenPeriod). p.configuration == n) ps ≡ o → (option_map_or (λ (p : OpenPeriod). p.row.id) o 0 ≡ 0) ⊎ ((p : OpenPeriod) × Contains ps p × (p.configuration ≡ n) × (option_map_or (λ (q : OpenPeriod). q.row.id) o 0 ≡ p.row.id))
    go None is = inl refl
    go (Some p) is = let found = found_was (λ (q : OpenPeriod). q.configuration == n) ps p is in inr (p, found.0, eqb-true p.configuration n found.1, refl)

module _ (limit : ℕ) (entry : Entry Step) (past : History) (legal : IsLegal limit (entry ∷ past)) (before : HavePeriods (world_of past)) where
  abbrev w : World
  w = world_of past

  abbrev then : World
  then = world_of (entry ∷ past)

  are : AreServices (world_of past)
  are = are_services limit past legal.1

  up : (n : ℕ) → n ≤ w.registry.numbered → n ≤ then.registry.numbered
  up n low = (let more = goes_up limit entry past legal are in let all = numbered_then limit entry past legal are in omega (arith, low, more, all))

  -- what opens has a newer number
  newer : (n : ℕ) → n ≤ w.registry.numbered → (p : OpenPeriod) → Contains then.open_periods p → p.row.id ≡ n → 0 < n → (q : OpenPeriod) × Contains w.open_periods q × (q.row.id ≡ n) × (p.configuration ≡ q.configuration) × (p.opened ≡ q.opened)
  newer n low p h same some = go (then_was limit entry past legal are p h)
    where
      go : Period limit entry past legal are p → (q : OpenPeriod) × Contains (world_of past).open_periods q × (q.row.id ≡ n) × (p.configuration ≡ q.configuration) × (p.opened ≡ q.opened)
      go (inl was) = (was.was, was.there, sym was.same.service.number ∙ same, was.same.configuration, was.same.opened)
      go (inr opened) =
          let high = new_number limit entry past legal are p opened (subst (λ m. 0 < m) (sym same) some) in
          let more = goes_up limit entry past legal are in
          absurd (omega (arith, high, more, low, same))

  -- no command registers under an older number
  commanded_by : (service : ℕ) → service ≤ w.registry.numbered → (r : ServiceRow) → r.id ≡ service → 0 < service → ((q : ServiceRow) → Contains w.registry.rows q → q.id ≡ service → 0 < service → ⊥) → Direct limit entry past legal are r → ⊥
  commanded_by service low r same some none (inl was) = none was.was was.there (sym was.same.number ∙ same) some
  commanded_by service low r same some none (inr new) = (let next = new.number in omega (arith, next, low, same))

  kept : (service : ℕ) (origin : Origin) → HasItsPeriod w service origin → HasItsPeriod then service origin
  kept service origin was = record {
    given = up service was.given;
    period = λ p h same some.
        let q = newer service was.given p h same some in
        let its = was.period q.0 q.1 q.2 some in
        (q.3 ∙ its.0, subst (λ n. n < origin.created) (sym q.4) its.1);
    of_component = λ r h same some. commanded_by service was.given r same some was.of_component (direct_was limit entry past legal are r h);
  }

  made_one : (configuration : ℕ) (chosen : List Choice) → HasItsPeriod then (service_in w.open_periods configuration) (record { configuration = configuration; created = w.entries; chosen = chosen })
  made_one configuration chosen = elim (service_found w.open_periods configuration) [
    | inl none ↦ record { given = up (service_in w.open_periods configuration) (omega (arith, none)); period = λ p h same some. absurd (omega (arith, none, some)); of_component = λ r h same some. omega (arith, none, some) }
    | inr found ↦ (
        let low = are.period_given found.0 found.1 in
        let is = found.3 in
        let within : service_in w.open_periods configuration ≤ w.registry.numbered = omega (arith, low, is) in
        record {
          given = up (service_in w.open_periods configuration) within;
          period = λ p h same some.
              let q = newer (service_in w.open_periods configuration) within p h same some in
              let one = are.period_one q.0 found.0 q.1 found.1 (q.2 ∙ is) (subst (λ m. 0 < m) (sym q.2) some) in
              (q.3 ∙ ap (λ (x : OpenPeriod). x.configuration) one ∙ found.2, subst (λ n. n < w.entries) (sym (q.4 ∙ ap (λ (x : OpenPeriod). x.opened) one)) (legal_earlier limit past legal.1 found.0 found.1));
          of_component = λ r h same some. commanded_by (service_in w.open_periods configuration) within r same some (λ q k number above. are.kinds q found.0 k found.1 (number ∙ is)) (direct_was limit entry past legal are r h);
        })
  ]

  periods_if : (x : Instance) → WasBefore w entry.step x ⊎ IsMade entry.step w x → HasItsPeriod then x.service x.origin
  periods_if x (inl was) = subst (λ (o : Origin). HasItsPeriod then x.service o) (sym was.same.origin) (subst (λ n. HasItsPeriod then n was.was.origin) (sym was.same.service) (kept was.was.service was.was.origin (before was.was was.there)))
  periods_if x (inr made) = subst (λ (y : Instance). HasItsPeriod then y.service y.origin) made.4.1.1 (made_one made.2 made.4.0)

  periods_then : HavePeriods then
  periods_then x h = periods_if x (comes limit entry past legal x h)

pub have_periods : (limit : ℕ) (past : History) → IsLegal limit past → HavePeriods (world_of past)
have_periods limit [] legal = λ x h. absurd (none_at_first x h)
have_periods limit (entry ∷ past) legal = periods_then limit entry past legal (have_periods limit past legal.1)
