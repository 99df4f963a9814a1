-- No two services that are registered have one number.
use Rattle.std.proofs.Common.{◌≡◌, ◌<◌, ◌≤◌, ℕ, zero, suc, ◌+◌, List, [], ◌∷◌, ◌++◌, ap, sym, ◌∙◌, refl, cond, arith, Bool, true, false, inl, inr, ◌⊎◌}
use Rattle.std.specs.Prelude.{map, not, ◌==◌}
use Rattle.std.specs.List.{Contains}
use Rattle.std.proofs.lemmas.Bool.{and_from, and_parts, both_ways, cases_Bool, eq-eqb, eqb-true, or_cases}
use Rattle.std.proofs.lemmas.List.{map-append}
use Rattle.component_state.specs.declared.open_period.OpenPeriod.{OpenPeriod}
use Rattle.component_state.specs.Inside.Ready.{are_apart, configurations_open}
use Rattle.component_state.specs.Rows.{rows_of}
use Rattle.component_state.proofs.Apart.{apart_both, apart_kept, in_first, in_rest, key_in, keyed, kept_was, not_true}
use Rattle.prop_map.specs.declared.properties.Property.{Property}
use Rattle.prop_map.specs.Words.{has}
use Rattle.scr_laws.proofs.Listed.{mapped_was}
use Rattle.scr_laws.proofs.Sounding.{legal_sound}
use Rattle.scr_promises.proofs.RegistrySteps.{number_of}
use Rattle.scr_promises.proofs.ServiceLaws.{are_services}
use Rattle.scr_world.specs.Legal.{IsLegal}
use Rattle.scr_world.specs.Lists.{world_after_entry, world_of}
use Rattle.scr_world.specs.Steps.{History}
use Rattle.scr_world.specs.Stepping.{world_after_step}
use Rattle.scr_world.specs.Tables.{direct_scope, registry_by}
use Rattle.scr_world.specs.Whiteboard.{platform_rows}
use Rattle.scr_world.specs.Worlds.{direct_services, registered_services}
use Rattle.scr_world.specs.declared.command.Command.TheVariants.{Install, Update, Start, Stop, Uninstall, Enable, Disable, Register, Unregister, SetProperties, Get, Unget, Listen, Unlisten, Configure, ConfigureFactory, Unconfigure}
use Rattle.scr_world.specs.declared.step.Step.{Step}
use Rattle.scr_world.specs.declared.step.Step.TheVariants.{Command as Commanded, Begin, End, Drained, Got, Released}
use Rattle.service_registry.specs.declared.row.ServiceRow.{ServiceRow}
use Rattle.service_registry.specs.Registries.{Registered, has_number, new_row, set_row}

-- ---- those that commands registered

only : (m n : ℕ) → has (m ∷ []) n ≡ true → m ≡ n
only m n on = elim (or_cases (m == n) false on) [
  | inl same ↦ eqb-true m n same
  | inr never ↦ cc
]

module _ (t : Registered) (apart : are_apart (map number_of t.rows) ≡ true) (given : (r : ServiceRow) → Contains t.rows r → r.id ≤ t.numbered) where
  added_apart : (new : ServiceRow) → new.id ≡ t.numbered + 1 → are_apart (map number_of (t.rows ++ new ∷ [])) ≡ true
  added_apart new next = ap are_apart (map-append number_of t.rows (new ∷ [])) ∙ apart_both (map number_of t.rows) (new.id ∷ []) apart refl (λ n old here.
      (let r = keyed number_of t.rows n old in
      let low = given r.0 r.1 in
      let is : r.0.id ≡ n = r.2 in
      let same = only new.id n here in
      omega (arith, low, is, same, next)))

  set_numbers : (properties : List Property) (service : ℕ) (rows : List ServiceRow) → map number_of (map (λ (r : ServiceRow). cond (has_number service r) (set_row properties r) r) rows) ≡ map number_of rows
  set_numbers properties service [] = refl
  set_numbers properties service (r ∷ rs) = ap (λ n. n ∷ map number_of (map (λ (x : ServiceRow). cond (has_number service x) (set_row properties x) x) rs)) (go (has_number service r)) ∙ ap (λ ns. r.id ∷ ns) (set_numbers properties service rs)
    where
      go : (b : Bool) → number_of (cond b (set_row properties r) r) ≡ r.id
      go true = refl
      go false = refl

  registry_apart : (step : Step) → are_apart (map number_of (registry_by step t).rows) ≡ true
  registry_apart (Commanded (Install doc)) = apart
  registry_apart (Commanded (Update bundle doc)) = apart
  registry_apart (Commanded (Start bundle)) = apart
  registry_apart (Commanded (Stop bundle)) = apart_kept number_of (λ (r : ServiceRow). not (r.bundle == bundle)) t.rows apart
  registry_apart (Commanded (Uninstall bundle)) = apart
  registry_apart (Commanded (Enable bundle name)) = apart
  registry_apart (Commanded (Disable bundle name)) = apart
  registry_apart (Commanded (Register bundle interfaces properties)) = added_apart (new_row (t.numbered + 1) bundle interfaces direct_scope properties true) refl
  registry_apart (Commanded (Unregister bundle service)) = apart_kept number_of (λ (r : ServiceRow). not (has_number service r)) t.rows apart
  registry_apart (Commanded (SetProperties bundle service properties)) = ap are_apart (set_numbers properties service t.rows) ∙ apart
  registry_apart (Commanded (Get bundle service)) = apart
  registry_apart (Commanded (Unget bundle service)) = apart
  registry_apart (Commanded (Listen bundle test)) = apart
  registry_apart (Commanded (Unlisten listener)) = apart
  registry_apart (Commanded (Configure pid properties)) = apart
  registry_apart (Commanded (ConfigureFactory factory name properties)) = apart
  registry_apart (Commanded (Unconfigure pid)) = apart
  registry_apart (Begin turn instance configuration consumer callback chosen) = apart
  registry_apart (End turn outcome) = apart
  registry_apart (Drained instance) = apart
  registry_apart (Got bundle service) = apart
  registry_apart (Released place) = apart

commanded_apart : (limit : ℕ) (past : History) → IsLegal limit past → are_apart (map number_of (world_of past).registry.rows) ≡ true
unfolding world_of world_after_entry world_after_step
commanded_apart limit [] legal = refl
commanded_apart limit (entry ∷ past) legal =
    registry_apart (world_of past).registry (commanded_apart limit past legal.1) (λ r h. ((are_services limit past legal.1).direct_given r h).1) entry.step

-- ---- those of open periods

rows_apart : (ps : List OpenPeriod) → are_apart (configurations_open ps) ≡ true → ((p q : OpenPeriod) → Contains ps p → Contains ps q → p.row.id ≡ q.row.id → 0 < p.row.id → p ≡ q) → are_apart (map number_of (rows_of ps)) ≡ true
rows_apart [] apart one = refl
rows_apart (p ∷ ps) apart one = go (p.row.id == 0) refl (rows_apart ps parts.1 (λ a b h k. one a b (in_rest p ps a h) (in_rest p ps b k)))
  where
    parts : (not (has (configurations_open ps) p.configuration) ≡ true) × (are_apart (configurations_open ps) ≡ true)
    parts = and_parts (not (has (configurations_open ps) p.configuration)) (are_apart (configurations_open ps)) apart

    above_none : (n : ℕ) → (n == 0) ≡ false → 0 < n
    above_none zero off = cc
    above_none (suc n) off = omega arith

    wrong : 0 < p.row.id → has (map number_of (rows_of ps)) p.row.id ≡ true → ⊥
    wrong some on =
        let r = keyed number_of (rows_of ps) p.row.id on in
        let kept = kept_was (λ (x : ServiceRow). not (x.id == 0)) (map (λ (q : OpenPeriod). q.row) ps) r.0 r.1 in
        let q = mapped_was (λ (x : OpenPeriod). x.row) ps r.0 kept.0 in
        let same = one p q.0 (in_first p ps) (in_rest p ps q.0 q.1.0) (sym (ap number_of q.1.1 ∙ r.2)) some in
        both_ways (has (configurations_open ps) p.configuration) (not_true (has (configurations_open ps) p.configuration) parts.0)
        (ap (λ (x : OpenPeriod). has (configurations_open ps) x.configuration) same ∙ key_in (λ (x : OpenPeriod). x.configuration) ps q.0 q.1.0)

    go : (b : Bool) → (p.row.id == 0) ≡ b → are_apart (map number_of (rows_of ps)) ≡ true → are_apart (map number_of (cond (not b) (p.row ∷ rows_of ps) (rows_of ps))) ≡ true
    go true is rest = rest
    go false is rest = and_from (not (has (map number_of (rows_of ps)) p.row.id)) (are_apart (map number_of (rows_of ps))) (elim (cases_Bool (has (map number_of (rows_of ps)) p.row.id)) [
      | inl on ↦ absurd (wrong (above_none p.row.id is) on)
      | inr off ↦ ap not off
    ]) rest

-- ---- all

pub services_apart : (limit : ℕ) (past : History) → IsLegal limit past → are_apart (map number_of (registered_services (world_of past))) ≡ true
services_apart limit past legal =
    let w = world_of past in
    let are = are_services limit past legal in
    ap are_apart (map-append number_of (direct_services w) (rows_of w.open_periods) ∙ ap (λ ns. ns ++ map number_of (rows_of w.open_periods)) (map-append number_of platform_rows w.registry.rows))
    ∙ apart_both (0 ∷ map number_of w.registry.rows) (map number_of (rows_of w.open_periods))
    (apart_both (0 ∷ []) (map number_of w.registry.rows) refl (commanded_apart limit past legal) (λ n zero here. (let r = keyed number_of w.registry.rows n here in let high = (are.direct_given r.0 r.1).0 in let is : r.0.id ≡ n = r.2 in let none = only 0 n zero in omega (arith, high, is, none))))
    (rows_apart w.open_periods (legal_sound limit past legal).plain.apart are.period_one)
    (λ n direct component.
    (let row = keyed number_of (rows_of w.open_periods) n component in
    let kept = kept_was (λ (x : ServiceRow). not (x.id == 0)) (map (λ (q : OpenPeriod). q.row) w.open_periods) row.0 row.1 in
    let p = mapped_was (λ (x : OpenPeriod). x.row) w.open_periods row.0 kept.0 in
    go w.registry.rows n (or_cases (0 == n) (has (map number_of w.registry.rows) n) direct) row.0 row.2 kept.1 (λ r h same. are.kinds r p.0 h p.1.0 (same ∙ sym (ap number_of p.1.1 ∙ row.2)))))
  where
    go : (rows : List ServiceRow) (n : ℕ) → ((0 == n) ≡ true) ⊎ (has (map number_of rows) n ≡ true) → (row : ServiceRow) → row.id ≡ n → not (row.id == 0) ≡ true → ((r : ServiceRow) → Contains rows r → r.id ≡ n → ⊥) → ⊥
    go rows n (inl none) row is some wrong = both_ways (row.id == 0) (not_true (row.id == 0) some) (eq-eqb row.id 0 (is ∙ sym (eqb-true 0 n none)))
    go rows n (inr there) row is some wrong = let r = keyed number_of rows n there in wrong r.0 r.1 r.2
