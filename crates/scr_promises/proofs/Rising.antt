-- The numbers of services that commands register rise in their table, and those of component configurations in theirs.
use Rattle.std.proofs.Common.{◌≡◌, ◌<◌, ◌≤◌, ℕ, zero, suc, ◌+◌, List, [], ◌∷◌, ap, sym, ◌∙◌, cond, arith, true, inl, inr}
use Rattle.std.specs.Prelude.{map, not, nat_lt, ◌==◌, ◌&&◌, ◌||◌}
use Rattle.std.specs.List.{Contains}
use Rattle.std.proofs.lemmas.Bool.{and_from, eq-eqb, eqb-true, lt-ltb}
use Rattle.component_dto.specs.declared.description.Description.{Description}
use Rattle.component_state.specs.declared.component.Component.{Component}
use Rattle.component_state.specs.ComponentConfigurations.{component_after, new_components, with_numbers}
use Rattle.component_state.specs.Components.{level_count, level_of, of_level, pass_order, pass_order_below}
use Rattle.component_state.proofs.Apart.{in_cases, in_either, in_none, key_in, kept_was, or_true}
use Rattle.component_state.proofs.Numbering.{kept_name}
use Rattle.prop_map.specs.declared.properties.Property.{Property}
use Rattle.scr_laws.proofs.Legal.{legal_well}
use Rattle.scr_laws.proofs.Listed.{mapped_was, single}
use Rattle.scr_promises.specs.Events.{passes_before}
use Rattle.scr_promises.proofs.Orders.{AreOrdered, ordered_join, ordered_kept, ordered_map, ordered_more}
use Rattle.scr_promises.proofs.RegistrySteps.{number_of, set_same}
use Rattle.scr_promises.proofs.ServiceLaws.{are_services}
use Rattle.scr_world.specs.Legal.{IsLegal}
use Rattle.scr_world.specs.Levels.{levels_of}
use Rattle.scr_world.specs.Lists.{world_after_entry, world_of}
use Rattle.scr_world.specs.Steps.{History}
use Rattle.scr_world.specs.Stepping.{component_configurations_by, components_by, counted_components, is_counted, world_after_step}
use Rattle.scr_world.specs.Tables.{descriptions_of, direct_scope, registry_by}
use Rattle.scr_world.specs.declared.command.Command.TheVariants.{Install, Update, Start, Stop, Uninstall, Enable, Disable, Register, Unregister, SetProperties, Get, Unget, Listen, Unlisten, Configure, ConfigureFactory, Unconfigure}
use Rattle.scr_world.specs.declared.step.Step.{Step}
use Rattle.scr_world.specs.declared.step.Step.TheVariants.{Command as Commanded, Begin, End, Drained, Got, Released}
use Rattle.scr_world.specs.declared.world.World.{World}
use Rattle.service_registry.specs.declared.row.ServiceRow.{ServiceRow}
use Rattle.service_registry.specs.Registries.{Registered, has_number, new_row, set_row}

-- ---- services that commands register

abbrev pub RowBelow : ServiceRow → ServiceRow → Type 0
RowBelow a b = a.id < b.id

module _ (t : Registered) (given : (r : ServiceRow) → Contains t.rows r → r.id ≤ t.numbered)
    (rising : AreOrdered RowBelow t.rows) where
  set_below : (properties : List Property) (service : ℕ) (a b : ServiceRow) → RowBelow a b
      → RowBelow (cond (has_number service a) (set_row properties a) a)
      (cond (has_number service b) (set_row properties b) b)
  set_below properties service a b low = let p = (set_same properties service a).number in let q =
      (set_same properties service b).number in omega (arith, low, p, q)

  rows_rising : (step : Step) → AreOrdered RowBelow (registry_by step t).rows
  rows_rising (Commanded (Install doc)) = rising
  rows_rising (Commanded (Update bundle doc)) = rising
  rows_rising (Commanded (Start bundle)) = rising
  rows_rising (Commanded (Stop bundle)) = ordered_kept RowBelow (λ (r : ServiceRow). not (r.bundle == bundle)) t.rows
      rising
  rows_rising (Commanded (Uninstall bundle)) = rising
  rows_rising (Commanded (Enable bundle name)) = rising
  rows_rising (Commanded (Disable bundle name)) = rising
  rows_rising (Commanded (Register bundle interfaces properties)) =
      let new = new_row (t.numbered + 1) bundle interfaces direct_scope properties true in
      ordered_join RowBelow t.rows (new ∷ []) rising (λ y h. absurd (in_none y h), tt)
      (λ a b h k. let low = given a h in let is : t.numbered + 1 ≡ b.id = ap number_of (single new b k) in omega
      (arith, low, is))
  rows_rising (Commanded (Unregister bundle service)) = ordered_kept RowBelow
      (λ (r : ServiceRow). not (has_number service r)) t.rows rising
  rows_rising (Commanded (SetProperties bundle service properties)) =
      ordered_map RowBelow RowBelow (λ (r : ServiceRow). cond (has_number service r) (set_row properties r) r) t.rows
      rising (set_below properties service)
  rows_rising (Commanded (Get bundle service)) = rising
  rows_rising (Commanded (Unget bundle service)) = rising
  rows_rising (Commanded (Listen bundle test)) = rising
  rows_rising (Commanded (Unlisten listener)) = rising
  rows_rising (Commanded (Configure pid properties)) = rising
  rows_rising (Commanded (ConfigureFactory factory name properties)) = rising
  rows_rising (Commanded (Unconfigure pid)) = rising
  rows_rising (Begin turn instance configuration consumer callback chosen) = rising
  rows_rising (End turn outcome) = rising
  rows_rising (Drained instance) = rising
  rows_rising (Got bundle service) = rising
  rows_rising (Released place) = rising

pub services_rise : (limit : ℕ) (past : History) → IsLegal limit past
    → AreOrdered RowBelow (world_of past).registry.rows
unfolding world_of world_after_entry world_after_step
services_rise limit [] legal = tt
services_rise limit (entry ∷ past) legal =
    rows_rising (world_of past).registry (λ r h. ((are_services limit past legal.1).direct_given r h).1)
    (services_rise limit past legal.1) entry.step

-- ---- component configurations

abbrev pub ComponentBelow : Component → Component → Type 0
ComponentBelow c d = c.number < d.number

numbered_on : (n : ℕ) (cs : List Component) (c : Component) → Contains (with_numbers n cs) c → n ≤ c.number
numbered_on n [] c h = absurd (in_none c h)
numbered_on n (d ∷ ds) c h = elim (in_cases _ (with_numbers (n + 1) ds) c h) [
  | inl same ↦ (let is = ap (λ (x : Component). x.number) same in omega (arith, is))
  | inr later ↦ (let high = numbered_on (n + 1) ds c later in omega (arith, high))
]

numbered_rising : (n : ℕ) (cs : List Component) → AreOrdered ComponentBelow (with_numbers n cs)
numbered_rising n [] = tt
numbered_rising n (c ∷ cs) = (
  λ d h. let high = numbered_on (n + 1) cs d h in let low : n < d.number = omega (arith, high) in low,
  numbered_rising (n + 1) cs,
)

module _ (w : World) (up_to : (c : Component) → Contains w.components c → c.number ≤ w.components_numbered)
    (rising : AreOrdered ComponentBelow w.components) where
  components_rising : (step : Step) → AreOrdered ComponentBelow (components_by step w)
  components_rising (Commanded command) =
      let these = component_configurations_by (Commanded command) w in
      ordered_join ComponentBelow (map (component_after w.entries these) (counted_components w))
      (with_numbers (w.components_numbered + 1) (new_components (counted_components w) these))
      (ordered_map ComponentBelow ComponentBelow (component_after w.entries these) (counted_components w)
      (ordered_kept ComponentBelow (is_counted w.instances) w.components rising)
      (λ a b low. let p = (kept_name w.entries these a).number in let q = (kept_name w.entries these b).number in omega
      (arith, low, p, q)))
      (numbered_rising (w.components_numbered + 1) (new_components (counted_components w) these))
      (λ a b h k.
      let was = mapped_was (component_after w.entries these) (counted_components w) a h in
      let same = (kept_name w.entries these was.0).number in
      let is = ap (λ (x : Component). x.number) was.1.1 in
      let low = up_to was.0 (kept_was (is_counted w.instances) w.components was.0 was.1.0).0 in
      let high = numbered_on (w.components_numbered + 1) (new_components (counted_components w) these) b k in
      omega (arith, same, is, low, high))
  components_rising (Begin turn instance configuration consumer callback chosen) = rising
  components_rising (End turn outcome) = rising
  components_rising (Drained instance) = rising
  components_rising (Got bundle service) = rising
  components_rising (Released place) = rising

pub components_rise : (limit : ℕ) (past : History) → IsLegal limit past
    → AreOrdered ComponentBelow (world_of past).components
unfolding world_of world_after_entry world_after_step
components_rise limit [] legal = tt
components_rise limit (entry ∷ past) legal =
    components_rising (world_of past)
    (λ c h. (legal_well limit past legal.1).up_to c.number
    (key_in (λ (x : Component). x.number) (world_of past).components c h))
    (components_rise limit past legal.1) entry.step

-- ---- the order of a pass

module _ (w : World) (rising : AreOrdered ComponentBelow w.components) where
  abbrev ds : List Description
  ds = descriptions_of w.documents

  abbrev level : Component → ℕ
  level c = level_of ds (levels_of ds) c

  abbrev pub ComesBefore : Component → Component → Type 0
  ComesBefore c d = passes_before w c d ≡ true

  below_it : (k : ℕ) (c : Component) → Contains (pass_order_below ds (levels_of ds) w.components k) c → level c < k
  below_it zero c h = absurd (in_none c h)
  below_it (suc k) c h = elim
      (in_either (pass_order_below ds (levels_of ds) w.components k) (of_level ds (levels_of ds) w.components k) c h) [
        | inl lower ↦ (let low = below_it k c lower in omega (arith, low))
        | inr here ↦
            (let is = eqb-true (level c) k (kept_was (λ d. level_of ds (levels_of ds) d == k) w.components c here).1 in
            omega (arith, is))
      ]

  by_level : (c d : Component) → level c < level d → ComesBefore c d
  by_level c d low = ap (λ b. b || ((level c == level d) && nat_lt c.number d.number)) (lt-ltb (level c) (level d) low)

  by_number : (c d : Component) → level c ≡ level d → c.number < d.number → ComesBefore c d
  by_number c d same low =
      ap (λ b. nat_lt (level c) (level d) || b)
      (and_from (level c == level d) (nat_lt c.number d.number) (eq-eqb (level c) (level d) same)
      (lt-ltb c.number d.number low))
      ∙ or_true (nat_lt (level c) (level d))

  below_ordered : (k : ℕ) → AreOrdered ComesBefore (pass_order_below ds (levels_of ds) w.components k)
  below_ordered zero = tt
  below_ordered (suc k) =
      ordered_join ComesBefore (pass_order_below ds (levels_of ds) w.components k)
      (of_level ds (levels_of ds) w.components k) (below_ordered k)
      (ordered_more ComponentBelow ComesBefore (of_level ds (levels_of ds) w.components k)
      (ordered_kept ComponentBelow (λ d. level_of ds (levels_of ds) d == k) w.components rising)
      (λ a b h k_in low. by_number a b (at_level a h ∙ sym (at_level b k_in)) low))
      (λ a b h k_in. let low = below_it k a h in let is = at_level b k_in in by_level a b (omega (arith, low, is)))
    where
      at_level : (c : Component)
          → Contains (of_level (descriptions_of w.documents) (levels_of (descriptions_of w.documents)) w.components k)
          c → level_of (descriptions_of w.documents) (levels_of (descriptions_of w.documents)) c ≡ k
      at_level c h = eqb-true (level_of (descriptions_of w.documents) (levels_of (descriptions_of w.documents)) c) k
          (kept_was (λ d. level_of (descriptions_of w.documents) (levels_of (descriptions_of w.documents)) d == k)
          w.components c h).1

  pub pass_ordered : AreOrdered ComesBefore (pass_order ds (levels_of ds) w.components)
  pass_ordered = below_ordered (suc (level_count (levels_of ds)))
