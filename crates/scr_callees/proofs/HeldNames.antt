-- What an instance holds under a name, it holds for a reference of that name.
use Rattle.std.proofs.Common.{◌≡◌, ℕ, List, [], ◌∷◌, ap, sym, ◌∙◌, subst, true, false, inl, inr}
use Rattle.std.specs.List.{Contains}
use Rattle.callback_orders.specs.Lives.{held_for}
use Rattle.component_dto.specs.declared.description.Reference.{Reference}
use Rattle.journal_core.specs.declared.entry.Entry.{Entry}
use Rattle.prop_map.specs.Words.{has}
use Rattle.scr_promises.proofs.HeldSteps.{IsLater, from, held_next, later, new}
use Rattle.scr_promises.proofs.KnownLaws.{none_held}
use Rattle.scr_promises.proofs.ViewedReferences.{placed_was}
use Rattle.scr_world.specs.Legal.{IsLegal}
use Rattle.scr_world.specs.Lists.{world_of}
use Rattle.scr_world.specs.Steps.{History}
use Rattle.scr_world.specs.Views.{references_in}
use Rattle.scr_world.specs.Worlds.{all_instances}
use Rattle.scr_world.specs.declared.instance.Instance.{Instance}
use Rattle.scr_world.specs.declared.step.Step.{Step}
use Rattle.scr_world.specs.declared.world.World.{World}

-- an instance has a reference of this name
pub record HasReference (w : World) (i : Instance) (name : List ℕ) : Type 0 where
  pub reference : Reference
  pub there : Contains (references_in w i) reference
  pub named : reference.name ≡ name

abbrev pub HeldNamed : World → Type 0
HeldNamed w = (i : Instance) → Contains (all_instances w) i → (name : List ℕ) (s : ℕ) → has (held_for name i.callbacks) s ≡ true → HasReference w i name

module _ (limit : ℕ) (entry : Entry Step) (past : History) (legal : IsLegal limit (entry ∷ past)) (before : HeldNamed (world_of past)) where
  abbrev w : World
  w = world_of past

  abbrev then : World
  then = world_of (entry ∷ past)

  named_if : (i : Instance) → IsLater limit entry past legal i → (name : List ℕ) (s : ℕ) → has (held_for name i.callbacks) s ≡ true → HasReference then i name
  named_if i (new is) name s on = (let none : false ≡ true = ap (λ cs. has (held_for name cs) s) (sym is) ∙ on in cc)
  named_if i (from j there refs bundle next) name s on =
      let was : HasReference w j name = elim (held_next w entry.step j name s i.callbacks next on) [
        | inl old ↦ before j there name s old
        | inr bound ↦ record { reference = bound.reference; there = placed_was 0 (references_in w j) bound.place bound.reference bound.there; named = bound.named }
      ] in
      record { reference = was.reference; there = subst (λ (rs : List Reference). Contains rs was.reference) (sym refs) was.there; named = was.named }

  named_then : HeldNamed then
  named_then i h name s on = named_if i (later limit entry past legal i h) name s on

pub held_named : (limit : ℕ) (past : History) → IsLegal limit past → HeldNamed (world_of past)
held_named limit [] legal = λ i h name s on. absurd (none_held i h name s on)
held_named limit (entry ∷ past) legal = named_then limit entry past legal (held_named limit past legal.1)
