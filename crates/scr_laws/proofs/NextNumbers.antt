-- In a legal journal of at most 4,194,304 entries there is a next number of 64 bits for turns, instances, services and openings of a gate, and component
-- configurations have less than half of theirs.
use Rattle.std.proofs.Common.{◌≡◌, ◌≤◌, ◌<◌, ◌+◌, ◌^◌, ℕ, ap, arith, refl}
use Rattle.std.specs.Prelude.{slice_index}
use Rattle.scr_laws.proofs.FewByEntry.{register_more}
use Rattle.scr_laws.proofs.FewNumbers.{few_entries, few_numbers}
use Rattle.scr_laws.specs.Numbers.{HasFewNumbers}
use Rattle.scr_world.specs.Legal.{IsLegal}
use Rattle.scr_world.specs.Lists.{world_of}
use Rattle.scr_world.specs.Steps.{History}
use Rattle.scr_world.specs.Stepping.{world_after_step}
use Rattle.scr_world.specs.Tables.{registry_by}
use Rattle.scr_world.specs.declared.step.Step.{Step}
use Rattle.scr_world.specs.declared.world.World.{World}
use Rattle.service_registry.specs.Registries.{Registered}

registry_then : (step : Step) (w : World) → (world_after_step step w).registry ≡ registry_by step w.registry
unfolding world_after_step
registry_then step w = refl

module _ (limit : ℕ) (past : History) (legal : IsLegal limit past) (small : limit ≤ 4194304) where
  few : HasFewNumbers (world_of past)
  few = few_numbers limit past legal

  entries : (world_of past).entries ≤ limit
  entries = few_entries limit past legal

  pub next_generations : (slot : ℕ) → slice_index (world_of past).generations slot + 1 < 2 ^ 64
  next_generations slot = let low = few.generations slot in let most = entries in omega (arith, low, most, small)

  pub next_turn : (world_of past).turns_begun + 1 < 2 ^ 64
  next_turn = let low = few.turns in let most = entries in omega (arith, low, most, small)

  pub next_instance : (world_of past).instances_numbered + 1 < 2 ^ 64
  next_instance = let low = few.instances in let turns = few.turns in let most = entries in omega (arith, low, turns, most, small)

  pub next_service : (world_of past).registry.numbered + 1 < 2 ^ 64
  next_service = let low = few.services in let most = entries in omega (arith, low, most, small)

  -- and where a step stands in the world
  pub next_service_then : (step : Step) → (world_after_step step (world_of past)).registry.numbered + 1 < 2 ^ 64
  next_service_then step =
      let low = few.services in
      let most = entries in
      let more = register_more step (world_of past).registry in
      let same = ap (λ (t : Registered). t.numbered) (registry_then step (world_of past)) in
      omega (arith, low, most, more, same, small)

  pub few_components : (world_of past).components_numbered < 2 ^ 63
  few_components = let low = few.components in let most = entries in omega (arith, low, most, small)
