-- Where descriptions go, each that stays has its level still.
use Rattle.std.proofs.Common.{◌≡◌, ◌∙◌, ℕ, refl, subst, sym, true, false, None, Err}
use Rattle.std.specs.Prelude.{◌==◌, filter, not, List}
use Rattle.component_dto.specs.declared.description.Description.{Description}
use Rattle.scr_installing.proofs.LevelsAre.{has_these}
use Rattle.scr_installing.specs.Described.{IsDescribed}
use Rattle.scr_laws.proofs.Described.{right_after}
use Rattle.scr_state.specs.Keeps.{IsKept}
use Rattle.scr_state.specs.declared.state.State.{State}
use Rattle.scr_world.specs.Levels.{has_levels, levels_of}
use Rattle.scr_world.specs.Lists.{world_of}
use Rattle.scr_world.specs.Refusals.{refusal}
use Rattle.scr_world.specs.Steps.{history_of}
use Rattle.scr_world.specs.Tables.{descriptions_of}
use Rattle.scr_world.specs.declared.command.Command.TheVariants.{Uninstall}
use Rattle.scr_world.specs.declared.contents.Contents.{Contents}
use Rattle.scr_world.specs.declared.reply.CoreFault.{CoreFault}
use Rattle.scr_world.specs.declared.reply.CoreFault.TheVariants.{Cycle, OutOfMemory}
use Rattle.scr_world.specs.declared.step.Step.TheVariants.{Command as Commanded}
use Rattle.scr_world.specs.declared.world.World.{World}

abbrev left_by : ℕ → World → List Description
left_by bundle w = descriptions_of (filter (λ (c : Contents). not (c.bundle == bundle)) w.documents)

pub uninstalled_levels : (s : State) → IsKept s → (bundle : ℕ) → refusal s.world (Uninstall bundle) ≡ None → has_levels (left_by bundle s.world) ≡ true
uninstalled_levels s kept bundle free =
    let w = world_of (history_of kept.journal.entries) in
    let idle : refusal w (Uninstall bundle) ≡ None = subst (λ (x : World). refusal x (Uninstall bundle) ≡ None) kept.keeps.world free in
    let has = has_these (left_by bundle w) (levels_of (left_by bundle w)) (right_after kept.journal.limit (history_of kept.journal.entries) kept.keeps.legal (Commanded (Uninstall bundle)) (idle, refl)) in
    subst (λ (x : World). has_levels (left_by bundle x) ≡ true) (sym kept.keeps.world) has

-- want of memory alone is left to be told of descriptions that have levels
pub memory_alone : (ds : List Description) (fault : CoreFault) → has_levels ds ≡ true → IsDescribed ds (Err fault) → fault ≡ OutOfMemory
memory_alone ds (Cycle path) has is = absurd (no_both (sym has ∙ is.0))
  where
    no_both : true ≡ false → ⊥
    no_both both = cc
memory_alone ds OutOfMemory has is = refl
memory_alone ds fault has is = absurd is
