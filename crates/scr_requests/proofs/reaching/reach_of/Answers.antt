use Rattle.std.proofs.Common.{◌∙◌, ap, sym, subst, refl, Some, None}
use Rattle.std.specs.Prelude.{IfOk}
use Rattle.scr_world.specs.Calls.{world_at}
use Rattle.scr_requests.specs.Requests.{IsReachBy}
use Rattle.scr_requests.specs.declared.reaching.Reach.TheVariants.{Nowhere}
use Rattle.scr_requests.proofs.Reaches.{by_choice, chosen_in, held_servlet}
use Rattle.scr_requests.proofs.reaching.reach_of.Goals as goal

pub reach_servlet-requires-clause-held : goal.reach_servlet-requires-clause-held
reach_servlet-requires-clause-held c =
    let w = world_at c.args.core.now.journal in
    held_servlet w c.args.path.now c.in-Some.service (chosen_in w c.args.servlets.now.routes c.args.path.now (Some c.in-Some.service) c.requires.routes c.in-Some.ensures)

pub returns-in-Some : goal.returns-in-Some
returns-in-Some c =
    let w = world_at c.args.core.now.journal in
    let chosen = chosen_in w c.args.servlets.now.routes c.args.path.now (Some c.in-Some.service) c.requires.routes c.in-Some.ensures in
    subst (λ o. IfOk c.reach_servlet.result (IsReachBy w o)) (sym chosen) c.reach_servlet.ensures

pub returns-in-None : goal.returns-in-None
returns-in-None c =
    let w = world_at c.args.core.now.journal in
    by_choice w c.args.path.now None Nowhere (chosen_in w c.args.servlets.now.routes c.args.path.now None c.requires.routes c.in-None.ensures) refl
