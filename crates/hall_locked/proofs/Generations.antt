-- How high a generation is at most: no slot was opened more often than there are entries.
use Rattle.std.proofs.Common.{◌≡◌, ℕ, zero, suc, ◌+◌, ◌≤◌, List, [], ◌∷◌, get_or, set, length, refl, subst, sym, cond, arith, Bool, true, false}
use Rattle.std.specs.Prelude.{filter, ◌&&◌}
use Rattle.callback_orders.specs.Grammar.{is_create}
use Rattle.scr_laws.proofs.GateKeyLaws.{counts_kept}
use Rattle.scr_world.specs.Instances.{becomes_active, first_free_slot, has_turn, next_generation}
use Rattle.scr_world.specs.Lists.{world_after_entry, world_of}
use Rattle.scr_world.specs.Stepping.{generations_by, reopened_for, with_room_for, world_after_step}
use Rattle.scr_world.specs.Steps.{History}
use Rattle.scr_world.specs.declared.instance.Instance.{Instance}
use Rattle.scr_world.specs.declared.step.Step.{Step}
use Rattle.scr_world.specs.declared.step.Step.TheVariants.{Command as Commanded, Begin, End, Drained, Got, Released}
use Rattle.scr_world.specs.declared.world.World.{World}

weaker : (a n : ℕ) → a ≤ n → a ≤ n + 1
weaker a n low = omega (arith, low)

one_more : (a b n : ℕ) → b ≡ a + 1 → a ≤ n → b ≤ n + 1
one_more a b n is low = omega (arith, is, low)

-- one of a list of numbers becomes another
set_low : (gs : List ℕ) (at v n : ℕ) → v ≤ n → ((s : ℕ) → get_or gs s 0 ≤ n) → (slot : ℕ) → get_or (set gs at v) slot 0 ≤ n
set_low [] at v n new low slot = low slot
set_low (g ∷ gs) zero v n new low zero = new
set_low (g ∷ gs) zero v n new low (suc slot) = low (suc slot)
set_low (g ∷ gs) (suc at) v n new low zero = low zero
set_low (g ∷ gs) (suc at) v n new low (suc slot) = set_low gs at v n new (λ s. low (suc s)) slot

module _ (w : World) (n : ℕ) (low : (slot : ℕ) → get_or w.generations slot 0 ≤ n) where
  reopened_low : (is : List Instance) (slot : ℕ) → get_or (reopened_for is w.generations) slot 0 ≤ n + 1
  reopened_low [] slot = weaker (get_or w.generations slot 0) n (low slot)
  reopened_low (i ∷ is) slot =
      set_low w.generations i.slot (next_generation w.generations i) (n + 1) (one_more (get_or w.generations i.slot 0) (next_generation w.generations i) n refl (low i.slot)) (λ s. weaker (get_or w.generations s 0) n (low s)) slot

  room_low : (b : Bool) (free slot : ℕ) → get_or (cond b (with_room_for free w.generations) w.generations) slot 0 ≤ n + 1
  room_low true free slot = subst (λ g. g ≤ n + 1) (sym (counts_kept free w.generations slot)) (weaker (get_or w.generations slot 0) n (low slot))
  room_low false free slot = weaker (get_or w.generations slot 0) n (low slot)

  step_low : (step : Step) (slot : ℕ) → get_or (generations_by step w) slot 0 ≤ n + 1
  step_low (Commanded command) slot = weaker (get_or w.generations slot 0) n (low slot)
  step_low (Begin turn instance configuration consumer callback chosen) slot = room_low (is_create callback) (first_free_slot w.instances) slot
  step_low (End turn outcome) slot = reopened_low (filter (λ (i : Instance). has_turn turn i && becomes_active outcome i) w.instances) slot
  step_low (Drained instance) slot = weaker (get_or w.generations slot 0) n (low slot)
  step_low (Got bundle service) slot = weaker (get_or w.generations slot 0) n (low slot)
  step_low (Released place) slot = weaker (get_or w.generations slot 0) n (low slot)

pub generations_low : (past : History) (slot : ℕ) → get_or (world_of past).generations slot 0 ≤ length past
unfolding world_of world_after_entry world_after_step
generations_low [] slot = least
  where
    least : 0 ≤ 0
    least = omega arith
generations_low (entry ∷ past) slot =
    subst (λ m. get_or (world_of (entry ∷ past)).generations slot 0 ≤ m) (longer (length past)) (step_low (world_of past) (length past) (generations_low past) entry.step slot)
  where
    longer : (m : ℕ) → m + 1 ≡ suc m
    longer m = omega arith
