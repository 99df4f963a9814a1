use Rattle.std.proofs.Common.{◌∙◌}
use Rattle.bundle_doc.proofs.EntryLemmas.{read_once}
use Rattle.bundle_doc.proofs.entries.taken.Goals as goal

pub returns : goal.returns
returns c = read_once c.taken_once.result c.args.entries c.args.names c.in_ok-entries.entries c.as_slice.result.now c.in_ok-entries.ensures (c.as_slice.ensures ∙ c.in_ok-names.ensures) c.taken_once.ensures
