use Rattle.std.proofs.Common.{◌≡◌, ℕ, List, drop, take}
use Rattle.std.specs.Prelude.{map}
use Rattle.component_dto.specs.TextLists.{first_repeated, has_text, repeated_behind}
use Rattle.component_dto.proofs.text_lists.first_repeated.Given as goal

abbrev pub invariant-loop-text : goal.invariant-loop-text
invariant-loop-text l = record {
  left : repeated_behind (map (λ t. t.now) (take l.text-index l.texts)) (map (λ t. t.now) (drop l.text-index l.texts)) ≡ first_repeated (map (λ t. t.now) l.texts);
  known : (q : List ℕ) → has_text l.seen q ≡ has_text (map (λ t. t.now) (take l.text-index l.texts)) q;
}
