use Rattle.std.proofs.Common.{◌≡◌, ◌++◌, length, IsUtf8}
use Rattle.bundle_doc.specs.Names.{parted}
use Rattle.bundle_doc.proofs.names.parted.Given as goal

abbrev pub invariant-loop-part : goal.invariant-loop-part
invariant-loop-part l = record {
  taken : l.parts.items ++ parted l.separator l.rest ≡ parted l.separator l.text;
  text : IsUtf8 l.rest;
}

abbrev pub decreases-loop-part : goal.decreases-loop-part
decreases-loop-part l = length l.rest
