-- The turn of a due callback that isn't a Create.
use Rattle.std.proofs.Common.{◌≡◌, refl}
use Rattle.std.specs.Prelude.{option_map, find, ◌==◌}
use Rattle.callback_orders.specs.declared.due.DueRef.{DueRef}
use Rattle.callback_orders.specs.declared.due.DueRef.TheVariants.{Create, Bind, Updated, Unbind, Activate, Modified, Deactivate, Destroy}
use Rattle.callback_orders.specs.declared.instance_view.Key.{Key}
use Rattle.scr_world.specs.declared.instance.Instance.{Instance}
use Rattle.scr_world.specs.declared.world.World.{World}
use Rattle.scr_world.specs.Dues.{begin_for, begin_of, instance_in}
use Rattle.scr_world.specs.Worlds.{all_instances}

pub begin_other : (w : World) (d : DueRef) → ((key : Key) → d ≡ Create key → ⊥) → option_map (begin_for w d) (find (λ (i : Instance). i.number == instance_in d) (all_instances w)) ≡ begin_of w d
begin_other w (Create key) other = absurd (other key refl)
begin_other w (Bind i r s) other = refl
begin_other w (Updated i r s) other = refl
begin_other w (Unbind i r s) other = refl
begin_other w (Activate i) other = refl
begin_other w (Modified i) other = refl
begin_other w (Deactivate i) other = refl
begin_other w (Destroy i) other = refl
