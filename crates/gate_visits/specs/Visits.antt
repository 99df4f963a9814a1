-- A seat from which calls enter gates, as contracts see it, and what a call finds. Our own.
use Rattle.std.specs.Prelude.{◌≡◌, ℕ, ◌<◌, ◌⊎◌, Bool, IsTrue, List, ◌∷◌, Option, Some, None}
use Rattle.atomic_table.specs.Seated.{TableId}
use Rattle.call_gate.specs.Calls.{KnownOpen}
use Rattle.call_gate.specs.Gates.{SeatView}
use Rattle.call_gate.specs.Holders.{HeldKey, held}
use Rattle.call_gate.specs.declared.tokens.Entered.{Entered}
use Rattle.call_gate.specs.declared.tokens.Entered.TheVariants.{Inside, Gone}
use Rattle.journal_core.specs.declared.entry.GateKey.{GateKey}

-- the gates, how many calls may be inside at once, the keys that calls are inside of, the last first, and the level that was heard of each slot
pub record VisitorView : Type 0 where
  pub gate : TableId
  pub places : ℕ
  pub inside : List (ℕ × ℕ)
  pub heard : List ℕ

abbrev pub visitor_of : SeatView → VisitorView
visitor_of seat = record { gate = seat.gate; places = seat.knows.places; inside = seat.knows.inside; heard = seat.knows.heard }

-- the key that was left last, if one was, is of these gates and of this slot
abbrev pub IsLastOf : TableId → ℕ → Option HeldKey → Type 0
IsLastOf gate slot None = Unit {0}
IsLastOf gate slot (Some last) = (last.gate ≡ gate) × (last.key.slot ≡ slot)

-- a gate that was heard of as open under this key was shut since: it is shut under the key, or has a later one
abbrev pub WasShutSince : List ℕ → GateKey → ℕ → Bool → Type 0
WasShutSince heard key generation shut = KnownOpen key heard → (key.generation < generation) ⊎ ((generation ≡ key.generation) × IsTrue shut)

-- a call came to the gate of this key: it is inside, or the gate is gone and the call has left again
abbrev pub Visits : GateKey → VisitorView → VisitorView → Entered → Type 0
Visits key before after (Inside inside) = (inside ≡ held before.gate key) × (after ≡ record before { inside = (key.slot, key.generation) ∷ before.inside })
Visits key before after (Gone generation shut last) = (after ≡ before) × WasShutSince before.heard key generation shut × IsLastOf before.gate key.slot last
