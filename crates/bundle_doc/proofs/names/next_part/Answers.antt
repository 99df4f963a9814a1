use Rattle.bundle_doc.proofs.NameLemmas.{cut_parted}
use Rattle.bundle_doc.proofs.names.next_part.Goals as goal

pub returns : goal.returns
returns c = cut_parted c.args.separator c.args.text.now c.cut_at.result c.cut_at.ensures
