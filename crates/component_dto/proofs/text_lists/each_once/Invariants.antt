use Rattle.std.proofs.Common.{◌≡◌, ℕ, List}
use Rattle.component_dto.specs.TextLists.{each_once, has_text}
use Rattle.component_dto.proofs.text_lists.each_once.Given as goal

abbrev pub invariant-loop-text : goal.invariant-loop-text
invariant-loop-text l = record {
  once : l.found.items ≡ each_once l.yielded;
  known : (q : List ℕ) → has_text l.seen q ≡ has_text (each_once l.yielded) q;
}
