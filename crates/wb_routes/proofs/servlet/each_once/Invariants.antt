use Rattle.std.proofs.Common.{◌≡◌, ℕ, List}
use Rattle.std.specs.Prelude.{map}
use Rattle.text_index.specs.Texts.{has_text}
use Rattle.wb_context.specs.Firsts.{first_of_each}
use Rattle.wb_routes.proofs.servlet.each_once.Given as goal

abbrev pub invariant-loop-text : goal.invariant-loop-text
invariant-loop-text l = record {
  firsts : l.firsts.items ≡ first_of_each (λ (t : List ℕ). t) l.yielded;
  known : (q : List ℕ) → has_text l.seen q ≡ has_text (map (λ (t : List ℕ). t) l.yielded) q;
}
