use Rattle.std.proofs.Common.{◌≡◌, ℕ, List}
use Rattle.std.specs.Prelude.{map}
use Rattle.text_index.specs.Texts.{has_text}
use Rattle.wb_context.specs.declared.context.Context.{Context}
use Rattle.wb_context.specs.Firsts.{first_of_each}
use Rattle.wb_context.proofs.context_order.first_of_each_name.Given as goal

abbrev pub invariant-loop-context : goal.invariant-loop-context
invariant-loop-context l = record {
  firsts : l.firsts.items ≡ first_of_each (λ (c : Context). c.name) l.yielded;
  known : (q : List ℕ) → has_text l.names q ≡ has_text (map (λ (c : Context). c.name) l.yielded) q;
}
