-- Whom a nested call reaches. Our own.
use Rattle.std.specs.Arc.{arc_value}
use Rattle.std.specs.Prelude.{ℕ}
use Rattle.call_moves.specs.Evaluations.{Whom, Nobody, Instance}
use Rattle.call_runner.specs.declared.callees.Callee.{Callee}
use Rattle.call_runner.specs.declared.callees.Callee.TheVariants.{Nobody as ToNobody, Instance as ToInstance}

-- the same without the object
abbrev pub whom_of : {O : Type 0} → Callee O → Whom
whom_of (ToNobody service reply) = Nobody service reply
whom_of (ToInstance service party) = Instance service party.instance party.site

-- an instance that is reached comes with its own object
abbrev pub IsOwnCallee : {O : Type 0} → (ℕ → O → Type 0) → Callee O → Type 0
IsOwnCallee owns (ToNobody service reply) = Unit {0}
IsOwnCallee owns (ToInstance service party) = owns party.instance (arc_value party.object)
