-- The component configuration of an instance: it is known, with a number above 0, and stays as long as the instance lives, with its bundle and its description.
use Rattle.std.proofs.Common.{◌≡◌, ◌<◌, ℕ, ◌+◌, List, [], ◌∷◌, ap, sym, ◌∙◌, refl, subst, cond, arith, ◌||◌, inl, inr, Some}
use Rattle.std.specs.Prelude.{map, ◌==◌}
use Rattle.std.specs.List.{Contains}
use Rattle.std.specs.Option.{option_map_or}
use Rattle.std.proofs.lemmas.Bool.{eq-eqb, ne_eqb}
use Rattle.component_state.specs.declared.component.Component.{Component}
use Rattle.component_state.specs.declared.origin.Origin.{Origin}
use Rattle.component_state.specs.ComponentConfigurations.{component_after, new_components, with_numbers}
use Rattle.component_state.specs.Components.{component_of}
use Rattle.component_state.proofs.Apart.{any_from, in_cases, in_either, in_left, in_none, kept_from, kept_was, or_true}
use Rattle.component_state.proofs.Numbering.{KeepsName, kept_name}
use Rattle.journal_core.specs.declared.entry.Entry.{Entry}
use Rattle.scr_laws.proofs.Calm.{found_of}
use Rattle.scr_laws.proofs.Legal.{in_map}
use Rattle.scr_laws.proofs.Listed.{mapped_was}
use Rattle.scr_laws.proofs.Sounding.{legal_housed, legal_sound}
use Rattle.scr_laws.proofs.InstanceLemmas.{ended_same, told_same}
use Rattle.scr_world.specs.Legal.{IsLegal}
use Rattle.scr_world.specs.Lists.{world_after_entry, world_of}
use Rattle.scr_world.specs.Steps.{History}
use Rattle.scr_world.specs.Stepping.{before_turn, component_configurations_by, components_by, counted_components, is_counted, whiteboard_by, world_after_step}
use Rattle.scr_world.specs.Views.{bundle_of_instance, properties_in, references_in}
use Rattle.scr_world.specs.Whiteboard.{component_in, whiteboard_component}
use Rattle.scr_world.specs.declared.instance.Instance.{Instance}
use Rattle.scr_world.specs.declared.step.Step.{Step}
use Rattle.scr_world.specs.declared.step.Step.TheVariants.{Command as Commanded, Begin, End, Drained, Got, Released}
use Rattle.scr_world.specs.declared.world.World.{World}

-- ---- component configurations are numbered from 1 on

numbered_high : (n : ℕ) (cs : List Component) → 0 < n → (c : Component) → Contains (with_numbers n cs) c → 0 < c.number
numbered_high n [] high c h = absurd (in_none c h)
numbered_high n (d ∷ ds) high c h = elim (in_cases _ (with_numbers (n + 1) ds) c h) [
  | inl same ↦ subst (λ k. 0 < k) (ap (λ (x : Component). x.number) same) high
  | inr later ↦ numbered_high (n + 1) ds (omega arith) c later
]

module _ (w : World) (each : (c : Component) → Contains w.components c → 0 < c.number) where
  positive_by : (step : Step) (c : Component) → Contains (components_by step w) c → 0 < c.number
  positive_by (Commanded command) c h =
      let these = component_configurations_by (Commanded command) w in
      elim (in_either (map (component_after w.entries these) (counted_components w)) (with_numbers (w.components_numbered + 1) (new_components (counted_components w) these)) c h) [
        | inl old ↦ (
            let was = mapped_was (component_after w.entries these) (counted_components w) c old in
            subst (λ k. 0 < k) (sym (kept_name w.entries these was.0).number ∙ ap (λ (x : Component). x.number) was.1.1) (each was.0 (kept_was (is_counted w.instances) w.components was.0 was.1.0).0))
        | inr new ↦ numbered_high (w.components_numbered + 1) (new_components (counted_components w) these) (omega arith) c new
      ]
  positive_by (Begin turn instance configuration consumer callback chosen) c h = each c h
  positive_by (End turn outcome) c h = each c h
  positive_by (Drained instance) c h = each c h
  positive_by (Got bundle service) c h = each c h
  positive_by (Released place) c h = each c h

pub components_positive : (past : History) (c : Component) → Contains (world_of past).components c → 0 < c.number
unfolding world_of world_after_entry world_after_step
components_positive [] c h = absurd (in_none c h)
components_positive (entry ∷ past) c h = positive_by (world_of past) (components_positive past) entry.step c h

-- ---- the component configuration of an instance

pub record IsComponentOf (w : World) (i : Instance) (c : Component) : Type 0 where
  pub there : Contains w.components c
  pub number : c.number ≡ i.origin.configuration
  pub found : component_of w.components i.origin.configuration ≡ Some c
  pub known : component_in w.components i.origin.configuration ≡ Some c
  pub references : references_in w i ≡ c.description.references
  pub properties : properties_in w i ≡ c.properties
  pub bundle : bundle_of_instance w i ≡ c.bundle

module _ (limit : ℕ) (past : History) (legal : IsLegal limit past) where
  -- a component configuration of the world, by its number
  pub component_for : (i : Instance) (c : Component) → Contains (world_of past).components c → c.number ≡ i.origin.configuration → IsComponentOf (world_of past) i c
  component_for i c h number = record {
    there = h;
    number = number;
    found = found;
    known = known;
    references = ap (λ o. option_map_or (λ (x : Component). x.description.references) o []) known;
    properties = ap (λ o. option_map_or (λ (x : Component). x.properties) o []) known;
    bundle = ap (λ o. option_map_or (λ (x : Component). x.bundle) o 0) found;
  }
    where
      found : component_of (world_of past).components i.origin.configuration ≡ Some c
      found = ap (component_of (world_of past).components) (sym number) ∙ found_of (world_of past).components (legal_sound limit past legal).numbered c h

      known : component_in (world_of past).components i.origin.configuration ≡ Some c
      known = ap (λ b. cond b (Some whiteboard_component) (component_of (world_of past).components i.origin.configuration)) (ne_eqb 0 i.origin.configuration (λ e. let high = components_positive past c h in omega (arith, high, number, e))) ∙ found

  pub its_component : (i : Instance) → Contains (world_of past).instances i → (c : Component) × IsComponentOf (world_of past) i c
  its_component i h = let home = (legal_housed limit past legal).homes i h in (home.0, component_for i home.0 home.1.0 home.1.1.0)

-- ---- over an entry

module _ (limit : ℕ) (entry : Entry Step) (past : History) (legal : IsLegal limit (entry ∷ past)) where
  kept_by : (step : Step) (i : Instance) → Contains (world_of past).instances i → (c : Component) → Contains (world_of past).components c → c.number ≡ i.origin.configuration → (k : Component) × Contains (components_by step (world_of past)) k × KeepsName c k
  kept_by (Commanded command) i h c there number =
      let w = world_of past in
      let these = component_configurations_by (Commanded command) w in (
        component_after w.entries these c,
        in_left (map (component_after w.entries these) (counted_components w)) (with_numbers (w.components_numbered + 1) (new_components (counted_components w) these)) (component_after w.entries these c)
            (in_map (component_after w.entries these) (counted_components w) c (kept_from (is_counted w.instances) w.components c there
            (ap (λ b. c.exists || b) (any_from (λ (j : Instance). j.origin.configuration == c.number) w.instances i h (eq-eqb i.origin.configuration c.number (sym number))) ∙ or_true c.exists))),
        kept_name w.entries these c,
      )
  kept_by (Begin turn instance configuration consumer callback chosen) i h c there number = (c, there, record { number = refl; bundle = refl; description = refl })
  kept_by (End turn outcome) i h c there number = (c, there, record { number = refl; bundle = refl; description = refl })
  kept_by (Drained instance) i h c there number = (c, there, record { number = refl; bundle = refl; description = refl })
  kept_by (Got bundle service) i h c there number = (c, there, record { number = refl; bundle = refl; description = refl })
  kept_by (Released place) i h c there number = (c, there, record { number = refl; bundle = refl; description = refl })

  components_then : (c : Component) → Contains (components_by entry.step (world_of past)) c → Contains (world_of (entry ∷ past)).components c
  unfolding world_of world_after_entry world_after_step
  components_then c h = h

  -- the component configuration of an instance before an entry and behind it
  pub record KeepsComponent (i j : Instance) : Type 0 where
    pub before : Component
    pub now : Component
    pub was : IsComponentOf (world_of past) i before
    pub is : IsComponentOf (world_of (entry ∷ past)) j now
    pub names : KeepsName before now

  pub component_kept : (i j : Instance) → Contains (world_of past).instances i → j.origin ≡ i.origin → KeepsComponent i j
  component_kept i j h same =
      let c = its_component limit past legal.1 i h in
      let k = kept_by entry.step i h c.0 c.1.there c.1.number in record {
        before = c.0;
        now = k.0;
        was = c.1;
        is = component_for limit (entry ∷ past) legal j k.0 (components_then k.0 k.1) (k.2.number ∙ c.1.number ∙ ap (λ (o : Origin). o.configuration) (sym same));
        names = k.2;
      }

  pub references_kept : (i j : Instance) → Contains (world_of past).instances i → j.origin ≡ i.origin → references_in (world_of (entry ∷ past)) j ≡ references_in (world_of past) i
  references_kept i j h same = let k = component_kept i j h same in k.is.references ∙ ap (λ d. d.references) k.names.description ∙ sym k.was.references

  pub bundle_kept : (i j : Instance) → Contains (world_of past).instances i → j.origin ≡ i.origin → bundle_of_instance (world_of (entry ∷ past)) j ≡ bundle_of_instance (world_of past) i
  bundle_kept i j h same = let k = component_kept i j h same in k.is.bundle ∙ k.names.bundle ∙ sym k.was.bundle

-- ---- the whiteboard's instance

pub board_origin : (past : History) → (world_of past).whiteboard.origin.configuration ≡ 0
unfolding world_of world_after_entry world_after_step
board_origin [] = refl
board_origin (entry ∷ past) = go (board_origin past) entry.step
  where
    go : (world_of past).whiteboard.origin.configuration ≡ 0 → (step : Step) → (whiteboard_by step (world_of past)).origin.configuration ≡ 0
    go was (Commanded command) = was
    go was (Begin turn instance configuration consumer callback chosen) = ap (λ (o : Origin). o.configuration) (told_same (before_turn (world_of past)) turn instance callback (world_of past).whiteboard).origin ∙ was
    go was (End turn outcome) = ap (λ (o : Origin). o.configuration) (ended_same turn outcome (world_of past).generations (world_of past).whiteboard).origin ∙ was
    go was (Drained instance) = was
    go was (Got bundle service) = was
    go was (Released place) = was
