-- Bytes that were appended.
use Rattle.std.proofs.Common.{ℕ, List, ◌++◌, ap, ◌∙◌, append_assoc}
use Rattle.http_wire.specs.ResponseText.{Grows}

pub grows_on : (a b c : List ℕ) → Grows a b → Grows b c → Grows a c
grows_on a b c g h = record { more = g.more ++ h.more; is = h.is ∙ ap (λ (t : List ℕ). t ++ h.more) g.is ∙ append_assoc a g.more h.more }
