use Rattle.std.proofs.Common.{◌≡◌, ◌++◌, length, IsUtf8}
use Rattle.std.specs.Prelude.{map}
use Rattle.bundle_doc.specs.Names.{parted}
use Rattle.shell_lang.proofs.interfaces.parted.Given as goal

abbrev pub invariant-loop-part : goal.invariant-loop-part
invariant-loop-part l = record {
  taken : map (λ p. p.now) l.parts.items ++ parted 44 l.rest ≡ parted 44 l.word;
  text : IsUtf8 l.rest;
}

abbrev pub decreases-loop-part : goal.decreases-loop-part
decreases-loop-part l = length l.rest
