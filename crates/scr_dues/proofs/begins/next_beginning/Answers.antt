use Rattle.std.proofs.Common.{◌≡◌, ◌∙◌, sym, refl, subst, Option}
use Rattle.std.specs.Prelude.{option_map}
use Rattle.std.specs.Result.{IfOk}
use Rattle.scr_world.specs.declared.step.Step.{Step}
use Rattle.scr_world.specs.Dues.{begin_of}
use Rattle.scr_dues.specs.Beginnings.{step_of}
use Rattle.scr_dues.proofs.DueLemmas.{next_of_none, next_of_some}
use Rattle.scr_dues.proofs.begins.next_beginning.Goals as goal

pub returns-in-Some : goal.returns-in-Some
returns-in-Some c =
    let w = c.args.world.now in
    subst (λ (s : Option Step). IfOk c.begin_of.result (λ o. option_map step_of o ≡ s)) (next_of_some w c.in-Some.due (begin_of w c.in-Some.due) (sym c.in-Some.is ∙ c.requires.due) refl) c.begin_of.ensures

pub returns-in-None : goal.returns-in-None
returns-in-None c = next_of_none c.args.world.now (sym c.in-None.is ∙ c.requires.due)
