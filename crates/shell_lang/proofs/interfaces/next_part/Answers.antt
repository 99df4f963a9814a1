use Rattle.bundle_doc.proofs.NameLemmas.{cut_parted}
use Rattle.shell_lang.proofs.interfaces.next_part.Goals as goal

pub returns : goal.returns
returns c = cut_parted 44 c.args.text.now c.cut_at_comma.result c.cut_at_comma.ensures
