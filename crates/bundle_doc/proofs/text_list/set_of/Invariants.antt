use Rattle.std.proofs.Common.{◌≡◌, ℕ, List, take}
use Rattle.component_dto.specs.TextLists.{has_text}
use Rattle.bundle_doc.proofs.text_list.set_of.Given as goal

-- the set of the texts so far
abbrev pub invariant-loop-text : goal.invariant-loop-text
invariant-loop-text l = (q : List ℕ) → has_text l.set q ≡ has_text (take l.text-index l.texts) q
