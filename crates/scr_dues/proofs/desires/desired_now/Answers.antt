use Rattle.std.proofs.Common.{◌≡◌, refl, subst, List, ℕ}
use Rattle.std.specs.Result.{IfOk}
use Rattle.scr_dues.proofs.DynamicNeeds.{desired_of_need}
use Rattle.scr_dues.proofs.desires.desired_now.Goals as goal

pub returns-in-Some : goal.returns-in-Some
returns-in-Some c =
    let w = c.args.world.now in
    subst (λ (l : List ℕ). IfOk c.desired_by.result (λ v. v.items ≡ l))
    (desired_of_need w c.args.instance.now c.args.place c.args.reference.now c.in-Some.need.now c.args.held.now (c.in-Some.ensures w c.in-Some.need.now refl) c.requires.policy c.requires.held)
    c.desired_by.ensures
