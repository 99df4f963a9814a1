use Rattle.std.proofs.Common.{◌≡◌, ℕ, List, take}
use Rattle.text_index.specs.Texts.{has_text}
use Rattle.service_registry.proofs.interfaces.set_of.Given as goal

-- the set of the names so far
abbrev pub invariant-loop-name : goal.invariant-loop-name
invariant-loop-name l = (q : List ℕ) → has_text l.set q ≡ has_text (take l.name-index l.names) q
