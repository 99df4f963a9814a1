use Rattle.bundle_doc.proofs.NameLemmas.{cut_folder}
use Rattle.bundle_doc.proofs.names.next_folder.Goals as goal

pub returns : goal.returns
returns c = cut_folder c.args.text.now c.cut_at.result c.cut_at.ensures
