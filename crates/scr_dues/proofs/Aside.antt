-- Whether an instance is held isn't looked at, unless it is active and ending.
use Rattle.std.proofs.Common.{◌≡◌, ℕ, List, refl, Bool, true, false, ◌&&◌}
use Rattle.callback_orders.specs.declared.instance_view.InstanceView.{InstanceView}
use Rattle.callback_orders.specs.declared.instance_view.Phase.{Phase}
use Rattle.callback_orders.specs.declared.instance_view.Phase.TheVariants.{Making, Active, Left}
use Rattle.callback_orders.specs.declared.instance_view.ReferenceView.{ReferenceView}
use Rattle.callback_orders.specs.Due.{due_of}
use Rattle.scr_world.specs.Instances.{is_active_phase}

module _ (n : ℕ) (outstanding drained stale held unheld : Bool) (rs : List ReferenceView) where
  abbrev view : Phase → Bool → Bool → InstanceView
  view phase ending free = record { instance = n; phase = phase; ending = ending; outstanding = outstanding; drained = drained; unheld = free; stale = stale; references = rs }

  by_cases : (phase : Phase) (ending : Bool) → (ending && is_active_phase phase) ≡ false → due_of (view phase ending held) ≡ due_of (view phase ending unheld)
  by_cases Making true e = refl
  by_cases Making false e = refl
  by_cases Active true e = cc
  by_cases Active false e = refl
  by_cases Left true e = refl
  by_cases Left false e = refl

pub unheld_aside : (v : InstanceView) (free : Bool) → (v.ending && is_active_phase v.phase) ≡ false → due_of (record v { unheld = free }) ≡ due_of v
unheld_aside v free e = by_cases v.instance v.outstanding v.drained v.stale free v.unheld v.references v.phase v.ending e
