-- A service that no callback binds is held for no reference.
use Rattle.std.proofs.Common.{◌≡◌, ℕ, List, false, get_or}
use Rattle.std.specs.List.{list_any}
use Rattle.std.proofs.lemmas.List.Folds.{list_any_none}
use Rattle.callback_orders.specs.declared.word.Called.{Called}
use Rattle.callback_orders.specs.Lives.{held_for}
use Rattle.component_dto.specs.declared.description.Reference.{Reference}
use Rattle.prop_map.specs.Words.{has}
use Rattle.instance_callbacks.proofs.UnboundLemmas.{never_held}
use Rattle.instance_callbacks.specs.Bound.{was_bound}

pub never_bound : (s : ℕ) (calls : List Called) (rs : List Reference) → was_bound s calls ≡ false → list_any (λ (r : Reference). has (held_for r.name calls) s) rs ≡ false
never_bound s calls rs unbound = list_any_none (λ (r : Reference). has (held_for r.name calls) s) rs (λ k d within. never_held s calls (get_or rs k d).name unbound)
