-- The services of a world by their numbers, and by their component configurations.
use Rattle.std.proofs.Common.{◌≡◌, ◌<◌, ℕ, zero, suc, List, ap, sym, ◌∙◌, refl, arith, true, false, inl, inr, Option, Some, None}
use Rattle.std.specs.Prelude.{filter, map, not, ◌==◌}
use Rattle.std.specs.List.{Contains}
use Rattle.std.specs.Option.{option_map_or}
use Rattle.std.proofs.lemmas.Bool.{both_ways, eq-eqb, eqb-true, ne_eqb}
use Rattle.component_state.specs.declared.component.Component.{Component}
use Rattle.component_state.specs.declared.open_period.OpenPeriod.{OpenPeriod}
use Rattle.component_state.specs.Components.{component_of}
use Rattle.component_state.specs.Inside.Ready.{are_apart, configurations_open}
use Rattle.component_state.specs.Rows.{no_row, row_by, row_in, rows_of}
use Rattle.component_state.proofs.Apart.{in_either, in_left, in_right, kept_from, kept_was, one_of}
use Rattle.scr_laws.proofs.Legal.{in_map}
use Rattle.scr_laws.proofs.Listed.{found_is, found_was, mapped_was, none_found}
use Rattle.scr_laws.proofs.Sounding.{legal_sound}
use Rattle.scr_promises.proofs.ServiceLaws.{AreServices}
use Rattle.scr_world.specs.Legal.{IsLegal}
use Rattle.scr_world.specs.Lists.{row_at, world_of}
use Rattle.scr_world.specs.Readers.{listed}
use Rattle.scr_world.specs.Steps.{History}
use Rattle.scr_world.specs.declared.world.World.{World}
use Rattle.service_registry.specs.declared.row.ServiceRow.{ServiceRow}
use Rattle.service_registry.specs.Registries.{has_number, row_of}

-- ---- what is listed

pub data IsListed (w : World) (r : ServiceRow) : Type 0 where
  commanded : Contains w.registry.rows r → IsListed w r
  component : (p : OpenPeriod) → Contains w.open_periods p → p.row ≡ r → 0 < r.id → IsListed w r

above : (n : ℕ) → not (n == 0) ≡ true → 0 < n
above zero e = cc
above (suc n) e = omega arith

-- the service of an open period among those of periods
pub period_row : (ps : List OpenPeriod) (r : ServiceRow) → Contains (rows_of ps) r → (p : OpenPeriod) × Contains ps p × (p.row ≡ r) × (0 < r.id)
period_row ps r h =
    let kept = kept_was (λ (x : ServiceRow). not (x.id == 0)) (map (λ (p : OpenPeriod). p.row) ps) r h in
    let was = mapped_was (λ (p : OpenPeriod). p.row) ps r kept.0 in
    (was.0, was.1.0, was.1.1, above r.id kept.1)

pub row_in_periods : (ps : List OpenPeriod) (p : OpenPeriod) → Contains ps p → 0 < p.row.id → Contains (rows_of ps) p.row
row_in_periods ps p h some = kept_from (λ (x : ServiceRow). not (x.id == 0)) (map (λ (q : OpenPeriod). q.row) ps) p.row (in_map (λ (q : OpenPeriod). q.row) ps p h) (ap not (ne_eqb p.row.id 0 (λ e. omega (arith, e, some))))

pub listed_kind : (w : World) (r : ServiceRow) → Contains (listed w) r → IsListed w r
listed_kind w r h = elim (in_either w.registry.rows (rows_of w.open_periods) r h) [
  | inl direct ↦ commanded direct
  | inr other ↦ (let found = period_row w.open_periods r other in component found.0 found.1 found.2 found.3)
]

pub commanded_listed : (w : World) (r : ServiceRow) → Contains w.registry.rows r → Contains (listed w) r
commanded_listed w r h = in_left w.registry.rows (rows_of w.open_periods) r h

pub component_listed : (w : World) (p : OpenPeriod) → Contains w.open_periods p → 0 < p.row.id → Contains (listed w) p.row
component_listed w p h some = in_right w.registry.rows (rows_of w.open_periods) p.row (row_in_periods w.open_periods p h some)

-- ---- by number

pub numbered_is : (w : World) → AreServices w → (r : ServiceRow) → Contains w.registry.rows r → (s : ℕ) → r.id ≡ s → row_of w.registry.rows s ≡ Some r
numbered_is w are r h s is = found_is (has_number s) w.registry.rows r h (eq-eqb r.id s is) (λ y k same. are.direct_one y r k h (eqb-true y.id s same ∙ sym is))

pub numbered_was : (rows : List ServiceRow) (s : ℕ) (r : ServiceRow) → row_of rows s ≡ Some r → Contains rows r × (r.id ≡ s)
numbered_was rows s r is = let found = found_was (has_number s) rows r is in (found.0, eqb-true r.id s found.1)

pub numbered_none : (rows : List ServiceRow) (s : ℕ) → row_of rows s ≡ None → (r : ServiceRow) → Contains rows r → r.id ≡ s → ⊥
numbered_none rows s is r h same = both_ways (has_number s r) (none_found (has_number s) rows r is h) (eq-eqb r.id s same)

-- ---- by component configuration

pub row_at_was : (ps : List OpenPeriod) (n : ℕ) (r : ServiceRow) → row_at ps n ≡ Some r → (p : OpenPeriod) × Contains ps p × (p.configuration ≡ n) × (p.row ≡ r) × (0 < r.id)
row_at_was ps n r is =
    let found = found_was (λ (x : ServiceRow). true) (rows_of (filter (λ (p : OpenPeriod). p.configuration == n) ps)) r is in
    let p = period_row (filter (λ (q : OpenPeriod). q.configuration == n) ps) r found.0 in
    let kept = kept_was (λ (q : OpenPeriod). q.configuration == n) ps p.0 p.1 in
    (p.0, kept.0, eqb-true p.0.configuration n kept.1, p.2, p.3)

pub row_at_is : (ps : List OpenPeriod) → are_apart (configurations_open ps) ≡ true → (p : OpenPeriod) → Contains ps p → 0 < p.row.id → (n : ℕ) → p.configuration ≡ n → row_at ps n ≡ Some p.row
row_at_is ps apart p h some n is = found_is (λ (x : ServiceRow). true) (rows_of (filter (λ (q : OpenPeriod). q.configuration == n) ps)) p.row
    (row_in_periods (filter (λ (q : OpenPeriod). q.configuration == n) ps) p (kept_from (λ (q : OpenPeriod). q.configuration == n) ps p h (eq-eqb p.configuration n is)) some) refl
    (λ y k same. only y k)
  where
    only : (y : ServiceRow) → Contains (rows_of (filter (λ (q : OpenPeriod). q.configuration == n) ps)) y → y ≡ p.row
    only y k =
        let q = period_row (filter (λ (o : OpenPeriod). o.configuration == n) ps) y k in
        let kept = kept_was (λ (o : OpenPeriod). o.configuration == n) ps q.0 q.1 in
        sym q.2 ∙ ap (λ (o : OpenPeriod). o.row) (one_of (λ (o : OpenPeriod). o.configuration) ps apart q.0 p kept.0 h (eqb-true q.0.configuration n kept.1 ∙ sym is))

-- ---- a component's service isn't direct

row_by_component : (cs : List Component) (n service revision : ℕ) → (row_in cs n service revision).direct ≡ false
row_by_component cs n service revision = go (component_of cs n)
  where
    go : (o : Option Component) → (option_map_or (λ c. row_by c service revision) o (no_row service revision)).direct ≡ false
    go None = refl
    go (Some c) = refl

pub component_indirect : (limit : ℕ) (past : History) → IsLegal limit past → (p : OpenPeriod) → Contains (world_of past).open_periods p → p.row.direct ≡ false
component_indirect limit past legal p h =
    ap (λ (r : ServiceRow). r.direct) ((legal_sound limit past legal).periods p h).row ∙ row_by_component (world_of past).components p.configuration p.row.id p.row.revision
