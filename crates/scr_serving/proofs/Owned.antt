-- A service that isn't refused is the bundle's, and a get that isn't refused stands.
use Rattle.std.proofs.Common.{◌≡◌, ◌<◌, ℕ, zero, suc, [], ◌∷◌, refl, arith, Bool, true, false, Option, Some, None}
use Rattle.std.specs.Prelude.{◌==◌, not, is_none, option_and_then, if◌then◌else◌}
use Rattle.prop_map.specs.Words.{first_some}
use Rattle.scr_world.specs.Refusals.{no_bundle, no_direct, no_service, not_owner, refusal, refuse_if}
use Rattle.scr_world.specs.declared.command.Command.TheVariants.{Unget}
use Rattle.scr_world.specs.declared.reply.CoreFault.{CoreFault}
use Rattle.scr_world.specs.declared.reply.CoreFault.TheVariants.{NoService, NotOwner, NotUsing}
use Rattle.scr_world.specs.declared.world.World.{World}
use Rattle.service_registry.specs.Registries.{refusal as registry_refusal, refusal_for, row_of}
use Rattle.service_registry.specs.declared.fault.RegistryFault.TheVariants.{NotOwner as NotItsOwner}
use Rattle.service_registry.specs.declared.row.ServiceRow.{ServiceRow}
use Rattle.use_counts.specs.Uses.{holder_count}
use Rattle.use_counts.specs.declared.uses.Holder.TheVariants.{Shell}

owned_then : (b : Bool) (owner : ℕ) → first_some (refuse_if (not b) (NotOwner owner) ∷ []) ≡ None → (if b then None else Some (NotItsOwner owner)) ≡ None
owned_then true owner free = refl
owned_then false owner free = absurd cc

owned_row : (bundle service : ℕ) (row : Option ServiceRow)
    → first_some (refuse_if (is_none row) (NoService service) ∷ option_and_then (λ (r : ServiceRow). refuse_if (not (r.bundle == bundle)) (NotOwner r.bundle)) row ∷ []) ≡ None
    → refusal_for bundle service row ≡ None
owned_row bundle service None free = absurd cc
owned_row bundle service (Some r) free = owned_then (r.bundle == bundle) r.bundle free

pub owned : (w : World) (bundle service : ℕ) → first_some (no_direct w service ∷ not_owner w bundle service ∷ []) ≡ None → registry_refusal bundle service w.registry ≡ None
owned w bundle service free = owned_row bundle service (row_of w.registry.rows service) free

third_none : (a b c : Option CoreFault) → first_some (a ∷ b ∷ c ∷ []) ≡ None → c ≡ None
third_none (Some x) b c free = absurd cc
third_none None (Some x) c free = absurd cc
third_none None None (Some x) free = absurd cc
third_none None None None free = refl

held_then : (n : ℕ) → refuse_if (n == 0) NotUsing ≡ None → 0 < n
held_then zero free = absurd cc
held_then (suc n) free = omega arith

pub held : (w : World) (bundle service : ℕ) → refusal w (Unget bundle service) ≡ None → 0 < holder_count Shell bundle service w.uses
held w bundle service free =
    held_then (holder_count Shell bundle service w.uses)
    (third_none (no_bundle w bundle) (no_service w service) (refuse_if (holder_count Shell bundle service w.uses == 0) NotUsing) free)
