use Rattle.bundle_doc.proofs.StarLemmas.{entries_matched}
use Rattle.bundle_doc.proofs.entries.with_matching.Goals as goal

pub returns : goal.returns
returns c = entries_matched c.with_entries_at.result c.args.found c.args.entries.now c.deref.result.now c.in_ok-places.places.items c.args.name.now c.as_str.result.now c.as_str.ensures c.in_ok-places.ensures c.deref.ensures.value c.with_entries_at.ensures
