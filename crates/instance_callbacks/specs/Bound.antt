-- Services that were bound, for whatever reference. Our own.
use Rattle.std.specs.Prelude.{ℕ, ◌==◌, List, Bool, false}
use Rattle.std.specs.List.{list_any}
use Rattle.callback_orders.specs.declared.callback.Callback.{Callback}
use Rattle.callback_orders.specs.declared.callback.Callback.TheVariants.{Bind}
use Rattle.callback_orders.specs.declared.word.Called.{Called}

-- it is the Bind of a service
abbrev pub binds : ℕ → Callback → Bool
binds service (Bind reference bound) = bound == service
binds service _ = false

-- some callback is
abbrev pub was_bound : ℕ → List Called → Bool
was_bound service calls = list_any (λ (c : Called). binds service c.callback) calls
