use Rattle.std.proofs.Common.{◌≡◌}
use Rattle.bundle_doc.proofs.shared_texts.ListSharesTexts.with_shared_texts.Given as goal

abbrev pub invariant-loop-value : goal.invariant-loop-value
invariant-loop-value g l = l.shared.items ≡ l.yielded
