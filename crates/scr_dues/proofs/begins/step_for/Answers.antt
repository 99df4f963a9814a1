use Rattle.std.proofs.Common.{◌∙◌, ap, sym, Some}
use Rattle.std.specs.Prelude.{option_map}
use Rattle.scr_world.specs.declared.step.Step.{Step}
use Rattle.scr_dues.specs.Beginnings.{step_of}
use Rattle.scr_dues.proofs.DueLemmas.{next_is}
use Rattle.scr_dues.proofs.begins.step_for.Goals as goal

pub returns-in_ok-boxed-in-Some : goal.returns-in_ok-boxed-in-Some
returns-in_ok-boxed-in-Some c =
    ap (λ (s : Step). Some s) c.in_ok-boxed-in-Some.ensures ∙ sym (ap (option_map step_of) c.in-Some.is) ∙ c.in_ok-beginning.ensures ∙ next_is c.args.world.now

pub returns-in-None : goal.returns-in-None
returns-in-None c = sym (ap (option_map step_of) c.in-None.is) ∙ c.in_ok-beginning.ensures ∙ next_is c.args.world.now
