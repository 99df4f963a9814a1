use Rattle.std.proofs.Common.{◌∙◌, ap, sym}
use Rattle.kept_wirings.specs.DocumentWirings.{fault_of, wiring_in}
use Rattle.scr_world.specs.declared.contents.Contents.{Contents}
use Rattle.wiring_reader.proofs.KeptParts.{fault_at}
use Rattle.wiring_reader.proofs.parts.heads_of.Goals as goal

pub head_of-requires : goal.head_of-requires
head_of-requires c =
    fault_at c.args.documents.now c.args.faults.now c.loop-place.place c.index-faults-place.result c.index-documents-place.result c.requires c.loop-place-test.true c.index-faults-place.is
    ∙ ap (λ (d : Contents). fault_of (wiring_in d)) (sym c.index-documents-place.is)
