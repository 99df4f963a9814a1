use Rattle.bundle_doc.proofs.PlaceLemmas.{order_of}
use Rattle.bundle_doc.proofs.entries_by_end.keys_in_order.Goals as goal

pub returns : goal.returns
returns c = order_of (λ k. (k.0.items, k.1)) c.args.end c.args.texts.now c.in_ok-keys.keys.items c.sort_unstable.new.self.items c.in_ok-keys.ensures c.sort_unstable.ensures.permutation c.sort_unstable.ensures.sorted
