-- The least minimum that a reference has had falls from entry to entry, and is no higher than that of now.
use Rattle.std.proofs.Common.{◌≡◌, ◌<◌, ◌≤◌, ℕ, [], ◌∷◌, sym, subst, cond, arith, length, Bool, true, false, inl, inr}
use Rattle.std.specs.Prelude.{min, nat_lt}
use Rattle.std.proofs.lemmas.Bool.{cases_Bool, cond-false, cond-true, lt-ltb, ltb-true}
use Rattle.component_dto.specs.declared.description.Reference.{Reference}
use Rattle.component_state.specs.Components.{exists}
use Rattle.journal_core.specs.declared.entry.Entry.{Entry}
use Rattle.scr_promises.specs.Minimums.{least_minimum, minimum_now}
use Rattle.scr_world.specs.Lists.{world_of}
use Rattle.scr_world.specs.Steps.{History}
use Rattle.scr_world.specs.declared.step.Step.{Step}
use Rattle.scr_world.specs.declared.world.World.{World}

module _ (place configuration : ℕ) (r : Reference) (entry : Entry Step) (past : History) where
  abbrev now : World
  now = world_of (entry ∷ past)

  abbrev before : ℕ
  before = least_minimum place configuration r past

  abbrev later : ℕ
  later = cond (exists now.components configuration) (min (minimum_now now configuration r) before) before

  is_later : place < length past → least_minimum place configuration r (entry ∷ past) ≡ later
  is_later behind = cond-true (nat_lt place (length past)) later (minimum_now now configuration r) (lt-ltb place (length past) behind)

  pub least_falls : place < length past → least_minimum place configuration r (entry ∷ past) ≤ before
  least_falls behind = subst (λ n. n ≤ before) (sym (is_later behind)) (go (exists now.components configuration))
    where
      go : (b : Bool) → cond b (min (minimum_now now configuration r) before) before ≤ before
      go true = omega arith
      go false = omega arith

  pub least_first : place ≡ length past → least_minimum place configuration r (entry ∷ past) ≡ minimum_now now configuration r
  least_first same = elim (cases_Bool (nat_lt place (length past))) [
    | inl on ↦ (let behind = ltb-true place (length past) on in absurd (omega (arith, behind, same)))
    | inr off ↦ cond-false (nat_lt place (length past)) later (minimum_now now configuration r) off
  ]

  least_of : exists now.components configuration ≡ true → least_minimum place configuration r (entry ∷ past) ≤ minimum_now now configuration r
  least_of on = go (nat_lt place (length past))
    where
      inner : later ≤ minimum_now now configuration r
      inner = subst (λ n. n ≤ minimum_now now configuration r) (sym (cond-true (exists now.components configuration) (min (minimum_now now configuration r) before) before on)) (omega arith)

      go : (b : Bool) → cond b later (minimum_now now configuration r) ≤ minimum_now now configuration r
      go true = inner
      go false = omega arith

pub least_low : (place configuration : ℕ) (r : Reference) (history : History) → exists (world_of history).components configuration ≡ true → least_minimum place configuration r history ≤ minimum_now (world_of history) configuration r
least_low place configuration r [] on = omega arith
least_low place configuration r (entry ∷ past) on = least_of place configuration r entry past on
