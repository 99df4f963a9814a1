-- What instances chose for their static references. OSGi Compendium 8, chapter 112, "Reference Policy", "Reference Policy Option".
use Rattle.std.specs.Prelude.{◌≡◌, ℕ, true}
use Rattle.std.specs.List.{Contains}
use Rattle.component_dto.specs.declared.description.Reference.{Reference}
use Rattle.component_state.specs.Periods.{is_current}
use Rattle.component_state.specs.Reasons.{choice_at}
use Rattle.prop_map.specs.Words.{has, same_set, with_places}
use Rattle.reference_match.specs.Needs.{need_of}
use Rattle.reference_match.specs.Targets.{chosen, is_greedy, is_static}
use Rattle.scr_world.specs.Views.{properties_in, references_in, targets_for}
use Rattle.scr_world.specs.declared.instance.Instance.{Instance}
use Rattle.scr_world.specs.declared.world.World.{World}

-- the choice of an instance stands for a static reference with its place: each chosen service is a target service still, and where the reference is
-- greedy it would choose the same ones now
pub record Stands (w : World) (i : Instance) (r : ℕ × Reference) : Type 0 where
  pub targets : (service : ℕ) → has (choice_at i.origin.chosen r.0) service ≡ true → has (targets_for w i r.1) service ≡ true
  pub greedy : is_greedy r.1.policy_option ≡ true → same_set (choice_at i.origin.chosen r.0) (chosen (need_of (properties_in w i) r.1) (targets_for w i r.1)) ≡ true

-- the choices of each instance stand as long as its open period goes on
abbrev pub ChoicesStand : World → Type 0
ChoicesStand w = (i : Instance) → Contains w.instances i → is_current w.open_periods i.origin ≡ true → (r : ℕ × Reference) → Contains (with_places 0 (references_in w i)) r → is_static r.1.policy ≡ true → Stands w i r
