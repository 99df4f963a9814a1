-- No gate was opened more often than there are entries behind the first one.
use Rattle.std.proofs.Common.{◌≤◌, ◌+◌, ◌-◌, ℕ, zero, suc, List, [], ◌∷◌, Bool, true, false, cond, arith}
use Rattle.std.specs.Prelude.{◌&&◌, filter, slice_set}
use Rattle.callback_orders.specs.Grammar.{is_create}
use Rattle.scr_laws.proofs.GateKeyLaws.{count_of, counts_kept}
use Rattle.scr_world.specs.Instances.{becomes_active, first_free_slot, has_turn, next_generation}
use Rattle.scr_world.specs.Lists.{world_after_entry, world_of}
use Rattle.scr_world.specs.Steps.{History}
use Rattle.scr_world.specs.Stepping.{generations_by, reopened_for, with_room_for, world_after_step}
use Rattle.scr_world.specs.declared.instance.Instance.{Instance}
use Rattle.scr_world.specs.declared.step.Step.{Step}
use Rattle.scr_world.specs.declared.step.Step.TheVariants.{Begin, End}
use Rattle.scr_world.specs.declared.world.World.{World}

none_opened : (slot : ℕ) → count_of [] slot ≤ 0
none_opened zero = omega arith
none_opened (suc slot) = omega arith

low_set : (most : ℕ) (generations : List ℕ) (place row slot : ℕ) → row ≤ most → ((s : ℕ) → count_of generations s ≤ most) → count_of (slice_set generations place row) slot ≤ most
low_set most [] place row slot few low = low slot
low_set most (g ∷ generations) zero row zero few low = few
low_set most (g ∷ generations) zero row (suc slot) few low = low (suc slot)
low_set most (g ∷ generations) (suc place) row zero few low = low zero
low_set most (g ∷ generations) (suc place) row (suc slot) few low = low_set most generations place row slot few (λ s. low (suc s))

module _ (generations : List ℕ) (most : ℕ) (low : (s : ℕ) → count_of generations s ≤ most) where
  reopened_low : (is : List Instance) (slot : ℕ) → count_of (reopened_for is generations) slot ≤ most + 1
  reopened_low [] slot = omega (arith, low slot)
  reopened_low (i ∷ is) slot = low_set (most + 1) generations i.slot (next_generation generations i) slot (omega (arith, low i.slot)) (λ s. omega (arith, low s))

  with_room_low : (b : Bool) (place slot : ℕ) → count_of (cond b (with_room_for place generations) generations) slot ≤ most
  with_room_low true place slot = omega (arith, low slot, counts_kept place generations slot)
  with_room_low false place slot = low slot

-- a step opens a gate once more
opened_more : (step : Step) (w : World) (most : ℕ) → ((s : ℕ) → count_of w.generations s ≤ most) → (slot : ℕ) → count_of (generations_by step w) slot ≤ most + 1
opened_more (Begin turn instance configuration consumer callback chosen) w most low slot = omega (arith, with_room_low w.generations most low (is_create callback) (first_free_slot w.instances) slot)
opened_more (End turn outcome) w most low slot = reopened_low w.generations most low (filter (λ (i : Instance). has_turn turn i && becomes_active outcome i) w.instances) slot
opened_more step w most low slot = omega (arith, low slot)

-- the first one opens none
first_opens : (step : Step) (slot : ℕ) → count_of (generations_by step (world_of [])) slot ≤ 0
unfolding world_of
first_opens (Begin turn instance configuration consumer callback chosen) slot = with_room_low [] 0 none_opened (is_create callback) (first_free_slot []) slot
first_opens (End turn outcome) slot = none_opened slot
first_opens step slot = none_opened slot

pub few_openings : (journal : History) (slot : ℕ) → count_of (world_of journal).generations slot ≤ (world_of journal).entries - 1
unfolding world_of world_after_entry world_after_step
few_openings [] slot = none_opened slot
few_openings (entry ∷ []) slot = first_opens entry.step slot
few_openings (entry ∷ (before ∷ past)) slot =
    let w : World = world_of (before ∷ past) in
    let more = opened_more entry.step w (w.entries - 1) (few_openings (before ∷ past)) slot in
    omega (arith, more)
