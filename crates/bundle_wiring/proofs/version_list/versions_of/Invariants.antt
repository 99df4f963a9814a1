use Rattle.std.proofs.Common.{◌≡◌, drop, []}
use Rattle.std.specs.Prelude.{map}
use Rattle.bundle_wiring.specs.Wirings.{versions_after}
use Rattle.bundle_wiring.proofs.version_list.versions_of.Given as goal

abbrev pub invariant-loop-part : goal.invariant-loop-part
invariant-loop-part l = versions_after l.versions.items (map (λ p. p.now) (drop l.part-index l.parts)) ≡ versions_after [] (map (λ p. p.now) l.parts)
