use Rattle.std.proofs.Common.{◌≡◌, subst, List, ℕ}
use Rattle.std.specs.Result.{IfOk}
use Rattle.scr_dues.proofs.DynamicNeeds.{desired_of_need}
use Rattle.scr_dues.proofs.desires.desired_anew.Goals as goal

pub returns : goal.returns
returns c =
    subst (λ (l : List ℕ). IfOk c.desired_by.result (λ v. v.items ≡ l))
    (desired_of_need c.args.world.now c.args.instance.now c.args.place c.args.reference.now c.in_ok-need.need c.args.held.now c.in_ok-need.ensures c.requires.policy c.requires.held)
    c.desired_by.ensures
