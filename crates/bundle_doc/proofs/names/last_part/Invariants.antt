use Rattle.std.proofs.Common.{◌≡◌, length, IsUtf8}
use Rattle.bundle_doc.specs.Names.{last_part}
use Rattle.bundle_doc.proofs.names.last_part.Given as goal

abbrev pub invariant-loop-behind : goal.invariant-loop-behind
invariant-loop-behind l = record {
  same : last_part l.rest ≡ last_part l.name;
  text : IsUtf8 l.rest;
}

abbrev pub decreases-loop-behind : goal.decreases-loop-behind
decreases-loop-behind l = length l.rest
