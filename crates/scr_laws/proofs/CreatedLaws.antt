-- No living instance's Create lies behind the end of its journal.
use Rattle.std.proofs.Common.{◌≡◌, ◌<◌, ◌+◌, [], ◌∷◌, length, ap, sym, arith, refl, inl, inr}
use Rattle.std.specs.List.{Contains}
use Rattle.component_state.specs.declared.origin.Origin.{Origin}
use Rattle.component_state.proofs.Apart.{in_none}
use Rattle.scr_laws.proofs.InstanceLemmas.{instance_was}
use Rattle.scr_world.specs.declared.instance.Instance.{Instance}
use Rattle.scr_world.specs.declared.step.Step.{Step}
use Rattle.scr_world.specs.declared.world.World.{World}
use Rattle.scr_world.specs.Lists.{world_after_entry, world_of}
use Rattle.scr_world.specs.Steps.{History}
use Rattle.scr_world.specs.Stepping.{instances_by, world_after_step}

pub entries_of : (journal : History) → (world_of journal).entries ≡ length journal
unfolding world_of world_after_entry world_after_step
entries_of [] = refl
entries_of (entry ∷ past) = let before = entries_of past in omega (arith, before)

created_by : (step : Step) (w : World) → ((i : Instance) → Contains w.instances i → i.origin.created < w.entries) → (i : Instance) → Contains (instances_by step w) i → i.origin.created < w.entries + 1
created_by step w each i h = elim (instance_was w step i h) [
  | inl was ↦ (
      let same : i.origin.created ≡ was.0.origin.created = ap (λ (o : Origin). o.created) was.2.origin in
      omega (arith, same, each was.0 was.1))
  | inr made ↦ (let new = ap (λ (x : Instance). x.origin.created) (sym made.4.1.1) in omega (arith, new))
]

created_within : (journal : History) (i : Instance) → Contains (world_of journal).instances i → i.origin.created < (world_of journal).entries
unfolding world_of world_after_entry world_after_step
created_within [] i h = absurd (in_none i h)
created_within (entry ∷ past) i h = created_by entry.step (world_of past) (created_within past) i h

pub created_before : (journal : History) (i : Instance) → Contains (world_of journal).instances i → i.origin.created < length journal
created_before journal i h = let within = created_within journal i h in let size = entries_of journal in omega (arith, within, size)
