use Rattle.std.proofs.Common.{◌∙◌, ap, subst, sym, ℕ, List}
use Rattle.component_state.specs.Inside.Ready.{IsReady}
use Rattle.scr_world.specs.Consequences.{stage_in}
use Rattle.scr_world.specs.Levels.{levels_of}
use Rattle.scr_growth.proofs.passing.pass_of.Goals as goal

pub pass_in-requires : goal.pass_in-requires
pass_in-requires c = record {
  descriptions = c.descriptions_after.ensures ∙ c.requires.cached.descriptions;
  levels = c.levels_after.ensures ∙ c.requires.cached.levels ∙ ap levels_of (sym c.descriptions_after.ensures);
  ready = subst (λ (ns : List ℕ). IsReady (stage_in c.args.state.now.world ns)) (sym c.as_slice.ensures) c.requires.ready;
  next = c.requires.next;
}
