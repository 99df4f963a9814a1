use Rattle.std.proofs.Common.{◌≡◌, take}
use Rattle.service_registry.proofs.service_properties.copied.Given as goal

abbrev pub invariant-loop-text : goal.invariant-loop-text
invariant-loop-text l = l.list.items ≡ take l.text-index l.texts
