use Rattle.std.proofs.Common.{◌≡◌, filter}
use Rattle.wb_context.specs.declared.context.Context.{Context}
use Rattle.wb_context.specs.ContextOrder.{covers}
use Rattle.wb_context.proofs.context_order.in_order.Given as goal

abbrev pub invariant-loop-context : goal.invariant-loop-context
invariant-loop-context l = l.covering.items ≡ filter (λ (c : Context). covers c.path l.path) l.yielded
