-- What an instance holds under any name has a number that was given.
use Rattle.std.proofs.Common.{◌≡◌, ◌≤◌, ℕ, List, [], ◌∷◌, ap, sym, ◌∙◌, arith, true, false, inl, inr}
use Rattle.std.specs.List.{Contains}
use Rattle.callback_orders.specs.Lives.{held_for}
use Rattle.journal_core.specs.declared.entry.Entry.{Entry}
use Rattle.prop_map.specs.Words.{has}
use Rattle.scr_promises.proofs.HeldSteps.{IsLater, from, held_next, later, new}
use Rattle.scr_promises.proofs.KnownLaws.{bound_row, none_held}
use Rattle.scr_promises.proofs.RegistrySteps.{numbered_on}
use Rattle.scr_promises.proofs.ServiceLaws.{are_services, known_given, registered_known}
use Rattle.scr_world.specs.Legal.{IsLegal}
use Rattle.scr_world.specs.Lists.{world_after_entry, world_of}
use Rattle.scr_world.specs.Steps.{History}
use Rattle.scr_world.specs.Stepping.{world_after_step}
use Rattle.scr_world.specs.Worlds.{all_instances}
use Rattle.scr_world.specs.declared.instance.Instance.{Instance}
use Rattle.scr_world.specs.declared.step.Step.{Step}
use Rattle.scr_world.specs.declared.world.World.{World}

abbrev pub HeldGiven : World → Type 0
HeldGiven w = (i : Instance) → Contains (all_instances w) i → (name : List ℕ) (s : ℕ) → has (held_for name i.callbacks) s ≡ true → s ≤ w.registry.numbered

module _ (limit : ℕ) (entry : Entry Step) (past : History) (legal : IsLegal limit (entry ∷ past)) (before : HeldGiven (world_of past)) where
  abbrev w : World
  w = world_of past

  abbrev then : World
  then = world_of (entry ∷ past)

  numbered_then : w.registry.numbered ≤ then.registry.numbered
  unfolding world_of world_after_entry world_after_step
  numbered_then = (let up = numbered_on entry.step w.registry in omega (arith, up))

  given_if : (i : Instance) → IsLater limit entry past legal i → (name : List ℕ) (s : ℕ) → has (held_for name i.callbacks) s ≡ true → s ≤ then.registry.numbered
  given_if i (new is) name s on = (let none : false ≡ true = ap (λ cs. has (held_for name cs) s) (sym is) ∙ on in cc)
  given_if i (from j there refs bundle next) name s on = elim (held_next w entry.step j name s i.callbacks next on) [
    | inl old ↦ (let low = before j there name s old in let up = numbered_then in omega (arith, low, up))
    | inr bound ↦ (
        let row = bound_row limit past legal.1 entry.step j name s bound in
        let low = known_given w (are_services limit past legal.1) row.row (registered_known w (are_services limit past legal.1) row.row row.there) in
        let up = numbered_then in
        let same = row.number in
        omega (arith, low, up, same))
  ]

  given_then : HeldGiven then
  given_then i h name s on = given_if i (later limit entry past legal i h) name s on

pub held_given : (limit : ℕ) (past : History) → IsLegal limit past → HeldGiven (world_of past)
held_given limit [] legal = λ i h name s on. absurd (none_held i h name s on)
held_given limit (entry ∷ past) legal = given_then limit entry past legal (held_given limit past legal.1)
