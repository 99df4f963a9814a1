use Rattle.std.proofs.Common.{◌≡◌, ◌++◌, drop}
use Rattle.std.specs.Prelude.{map}
use Rattle.bundle_headers.specs.Blanks.{without_blanks}
use Rattle.bundle_doc.proofs.names.all_trimmed.Given as goal

abbrev pub invariant-loop-part : goal.invariant-loop-part
invariant-loop-part l = l.items.items ++ map without_blanks (drop l.part-index l.parts) ≡ map without_blanks l.parts
