-- What a call that comes to a gate finds, by the word that its step found.
use Rattle.std.proofs.Common.{◌≡◌, ◌≢◌, ℕ, ◌*◌, ◌<◌, ◌≤◌, get_or, ap, ◌∙◌, arith, inl, inr, ◌⊎◌}
use Rattle.std.specs.Prelude.{Option, Some, None}
use Rattle.std.proofs.lemmas.Bool.{cases_lt}
use Rattle.atomic_table.specs.Seated.{TableId}
use Rattle.call_gate.specs.Calls.{EntersAs, LastIs}
use Rattle.call_gate.specs.Gates.{SeatView, generation_in, level_in, stage_in}
use Rattle.call_gate.specs.Holders.{HeldKey}
use Rattle.call_gate.specs.declared.tokens.Entered.{Entered}
use Rattle.call_gate.specs.declared.tokens.Entered.TheVariants.{Inside, Gone}
use Rattle.journal_core.specs.declared.entry.GateKey.{GateKey}
use Rattle.gate_visits.specs.Visits.{IsLastOf, Visits, WasShutSince, visitor_of}

pub last_is : (gate : TableId) (slot n : ℕ) (last : Option HeldKey) → LastIs gate slot n last → IsLastOf gate slot last
last_is gate slot n None none = tt
last_is gate slot n (Some last) is = (ap (λ (h : HeldKey). h.gate) is.1, ap (λ (h : HeldKey). h.key.slot) is.1)

-- a word that is at least as far as the open gate of the key, and isn't open under it
module _ (n g : ℕ) (gone : (stage_in n ≢ 0) ⊎ (generation_in n ≢ g)) (least : 4 * g ≤ level_in n) where
  later : (g < generation_in n) ⊎ ((generation_in n ≡ g) × (stage_in n ≢ 0))
  later = go (cases_lt g (generation_in n))
    where
      same : generation_in n ≤ g → generation_in n ≡ g
      same most = omega (arith, most, least)

      go : (g < generation_in n) ⊎ (generation_in n ≤ g) → (g < generation_in n) ⊎ ((generation_in n ≡ g) × (stage_in n ≢ 0))
      go (inl more) = inl more
      go (inr most) = inr (same most, elim gone [ inl shut ↦ shut | inr other ↦ absurd (other (same most)) ])

module _ (seat new : SeatView) (key : GateKey) (gate : new.gate ≡ seat.gate) (since : get_or seat.knows.heard key.slot 0 ≤ level_in new.knows.met) where
  pub visits : (entered : Entered) → EntersAs seat.gate key seat.knows new.knows entered → Visits key (visitor_of seat) (visitor_of new) entered
  visits (Inside inside) is = (is.0, λ i. record { gate = gate i; places = (is.1.2 i).places; inside = (is.1.2 i).inside; heard = (is.1.2 i).heard })
  visits (Gone generation shut last) is = (
    λ i. record { gate = gate i; places = (is.3 i).places; inside = (is.3 i).inside; heard = (is.3 i).heard },
    was_shut,
    last_is seat.gate key.slot new.knows.saw last is.4,
  )
    where
      was_shut : WasShutSince seat.knows.heard key generation shut
      was_shut heard = elim (later new.knows.met key.generation is.0 (let e = heard in let s = since in omega (arith, e, s))) [
        | inl more ↦ inl (let e = is.1 in let m = more in omega (arith, e, m))
        | inr same ↦ inr (is.1 ∙ same.0, is.2.1 same.1)
      ]
