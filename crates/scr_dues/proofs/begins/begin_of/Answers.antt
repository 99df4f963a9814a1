use Rattle.std.proofs.Common.{◌≡◌, subst, Option}
use Rattle.std.specs.Prelude.{option_map}
use Rattle.std.specs.Result.{IfOk}
use Rattle.scr_world.specs.declared.step.Step.{Step}
use Rattle.scr_dues.specs.Beginnings.{step_of}
use Rattle.scr_dues.proofs.BeginLemmas.{begin_other}
use Rattle.scr_dues.proofs.begins.begin_of.Goals as goal

pub returns : goal.returns
returns c = subst (λ (s : Option Step). IfOk c.begin_told.result (λ o. option_map step_of o ≡ s)) (begin_other c.args.world.now c.args.due c.in_default.not-Create) c.begin_told.ensures
