-- Whether a bundle rests, by its state.
use Rattle.std.proofs.Common.{◌≡◌, ◌∙◌, ℕ, [], ◌∷◌, ap, refl, sym, false, Option, Some, None}
use Rattle.std.specs.Prelude.{is_none, option_and_then, option_map}
use Rattle.bundle_life.specs.declared.bundle.BundleLife.{BundleLife}
use Rattle.bundle_life.specs.declared.bundle.BundleState.{BundleState}
use Rattle.bundle_life.specs.declared.bundle.BundleState.TheVariants.{Installed, Resolved, Stopping, Active}
use Rattle.bundle_life.specs.Lives.{bundle_of, is_active, is_stopping}
use Rattle.prop_map.specs.Words.{first_some}
use Rattle.scr_installing.specs.Idle.{idle_refusal}
use Rattle.scr_judgements.proofs.Judged.{is_cycle}
use Rattle.scr_world.specs.Refusals.{lowest_keeping, refuse_if}
use Rattle.scr_world.specs.declared.reply.CoreFault.{CoreFault}
use Rattle.scr_world.specs.declared.reply.CoreFault.TheVariants.{NoBundle, WrongState, Stopping as StillStops}
use Rattle.scr_world.specs.declared.world.World.{World}

abbrev pub refusal_by : Option BundleState → ℕ → ℕ → Option CoreFault
refusal_by None bundle low = Some (NoBundle bundle)
refusal_by (Some Active) bundle low = Some (WrongState 32)
refusal_by (Some Stopping) bundle low = Some (StillStops low)
refusal_by (Some Installed) bundle low = None
refusal_by (Some Resolved) bundle low = None

by_row : (o : Option BundleLife) (bundle low : ℕ)
    → first_some (refuse_if (is_none o) (NoBundle bundle) ∷ option_and_then (λ (b : BundleLife). refuse_if (is_active b.state) (WrongState 32)) o ∷ option_and_then (λ (b : BundleLife). refuse_if (is_stopping b.state) (StillStops low)) o ∷ [])
    ≡ refusal_by (option_map (λ (b : BundleLife). b.state) o) bundle low
by_row None bundle low = refl
by_row (Some b) bundle low = go b.state
  where
    go : (st : BundleState) → first_some (None ∷ refuse_if (is_active st) (WrongState 32) ∷ refuse_if (is_stopping st) (StillStops low) ∷ []) ≡ refusal_by (Some st) bundle low
    go Active = refl
    go Stopping = refl
    go Installed = refl
    go Resolved = refl

pub by_state : (w : World) (bundle : ℕ) (state : Option BundleState) → state ≡ option_map (λ (b : BundleLife). b.state) (bundle_of w.bundles.rows bundle) → idle_refusal w bundle ≡ refusal_by state bundle (lowest_keeping w bundle)
by_state w bundle state is = by_row (bundle_of w.bundles.rows bundle) bundle (lowest_keeping w bundle) ∙ ap (λ (o : Option BundleState). refusal_by o bundle (lowest_keeping w bundle)) (sym is)

plain_by : (state : Option BundleState) (bundle low : ℕ) (fault : CoreFault) → refusal_by state bundle low ≡ Some fault → is_cycle fault ≡ false
plain_by None bundle low fault is = let e : fault ≡ NoBundle bundle = cc in ap is_cycle e
plain_by (Some Active) bundle low fault is = let e : fault ≡ WrongState 32 = cc in ap is_cycle e
plain_by (Some Stopping) bundle low fault is = let e : fault ≡ StillStops low = cc in ap is_cycle e
plain_by (Some Installed) bundle low fault is = absurd cc
plain_by (Some Resolved) bundle low fault is = absurd cc

-- no cycle is told of a bundle's state
pub idle_plain : (w : World) (bundle : ℕ) (fault : CoreFault) → idle_refusal w bundle ≡ Some fault → is_cycle fault ≡ false
idle_plain w bundle fault is = plain_by (option_map (λ (b : BundleLife). b.state) (bundle_of w.bundles.rows bundle)) bundle (lowest_keeping w bundle) fault (sym (by_row (bundle_of w.bundles.rows bundle) bundle (lowest_keeping w bundle)) ∙ is)
