use Rattle.std.proofs.Common.{◌≡◌, ◌++◌, drop, map}
use Rattle.kept_wirings.specs.WiringRows.{fault_in, part_in, rows_of}
use Rattle.kept_wirings.proofs.kept_wirings.wirings_of.Given as goal

abbrev pub invariant-loop-contents : goal.invariant-loop-contents
invariant-loop-contents l = record {
  bundles : l.kept.bundles.items ++ map part_in (rows_of (drop l.contents-index l.documents)) ≡ map part_in (rows_of l.documents);
  faults : l.kept.faults.items ++ map fault_in (rows_of (drop l.contents-index l.documents)) ≡ map fault_in (rows_of l.documents);
}
