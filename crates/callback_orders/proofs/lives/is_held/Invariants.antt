use Rattle.std.proofs.Common.{◌≡◌, ◌==◌, ℕ, List, drop}
use Rattle.std.specs.List.{list_any}
use Rattle.callback_orders.specs.Lives.{held_after, held_for}
use Rattle.callback_orders.proofs.lives.is_held.Given as goal

abbrev pub invariant-loop-called : goal.invariant-loop-called
invariant-loop-called l = (held : List ℕ) × (l.is_held ≡ list_any (λ s. s == l.service) held) × (held_for l.name l.calls ≡ held_after l.name held (drop l.called-index l.calls))
