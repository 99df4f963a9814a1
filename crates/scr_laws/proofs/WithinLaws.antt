-- Every legal journal keeps the limits.
use Rattle.std.proofs.Common.{ℕ, arith}
use Rattle.scr_laws.specs.Limits.{AreWithin}
use Rattle.scr_laws.proofs.ComponentLimits.{components_within}
use Rattle.scr_laws.proofs.LimitLaws.{legal_within}
use Rattle.scr_laws.proofs.SlotLimits.{instances_within, slots_low}
use Rattle.scr_world.specs.Legal.{IsLegal}
use Rattle.scr_world.specs.Lists.{world_of}
use Rattle.scr_world.specs.Steps.{History}

pub all_within : (limit : ℕ) (past : History) → IsLegal limit past → AreWithin (world_of past)
all_within limit past legal = let tables = legal_within limit past legal in record {
  bundles = tables.bundles;
  services = tables.services;
  configurations = tables.configurations;
  listeners = tables.listeners;
  components = components_within limit past legal;
  instances = instances_within limit past legal;
  slots = λ i h. (let low = slots_low limit past legal i h in omega (arith, low));
}
