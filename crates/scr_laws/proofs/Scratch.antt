-- The lists of a pass are what follows from its entry's step, and it leaves open what is satisfied from scratch.
use Rattle.std.proofs.Common.{◌≡◌, ℕ, List, ap, sym, ◌∙◌, subst, ◌&&◌}
use Rattle.std.specs.Prelude.{not}
use Rattle.component_state.specs.declared.open_period.OpenPeriod.{OpenPeriod}
use Rattle.component_state.specs.declared.pass.Passed.{Passed}
use Rattle.component_state.specs.Passes.{HasPassed, closing, held_back_in, opened_from, opening, satisfied_where}
use Rattle.component_state.specs.Periods.{is_open}
use Rattle.prop_map.specs.Words.{has}
use Rattle.scr_world.specs.Consequences.{stage_in, stage_of}
use Rattle.scr_world.specs.Legal.{IsOpenFromScratch}
use Rattle.scr_world.specs.Lists.{world_after_entry}
use Rattle.scr_world.specs.Worlds.{satisfied_in}
use Rattle.scr_world.specs.declared.step.Step.{Step}
use Rattle.scr_world.specs.declared.world.World.{World}
use Rattle.scr_laws.specs.Following.{entry_of}

module _ (step : Step) (w : World) (p : Passed) (passed : HasPassed (stage_of step w) p) where
  pub open_then : (world_after_entry (entry_of step p w) w).open_periods ≡ p.open_now
  unfolding world_after_entry stage_of stage_in
  open_then = sym passed.open_now

  pub closed_then : p.closed ≡ closing (stage_of step w) (world_after_entry (entry_of step p w) w).open_periods
  closed_then = passed.closed ∙ ap (closing (stage_of step w)) (sym open_then)

  pub opened_then : p.opened ≡ opened_from (stage_of step w).next (opening (stage_of step w) (world_after_entry (entry_of step p w) w).open_periods)
  opened_then = passed.opened ∙ ap (λ (now : List OpenPeriod). opened_from (stage_of step w).next (opening (stage_of step w) now)) (sym open_then)

  -- what the pass noted is what is satisfied after the entry
  pub satisfied_then : p.satisfied ≡ satisfied_in (world_after_entry (entry_of step p w) w)
  unfolding world_after_entry stage_of stage_in satisfied_in
  satisfied_then = passed.satisfied ∙ ap (satisfied_where (stage_of step w)) (sym open_then)

  pub scratch_then : IsOpenFromScratch (world_after_entry (entry_of step p w) w)
  unfolding world_after_entry stage_of stage_in satisfied_in
  scratch_then number =
      subst (λ (now : List OpenPeriod). is_open now number ≡ (has (satisfied_where (stage_of step w) now) number && not (has (held_back_in (stage_of step w) now) number))) (sym open_then)
      (passed.scratch number ∙ ap (λ (met : List ℕ). has met number && not (has (held_back_in (stage_of step w) p.open_now) number)) passed.satisfied)
