use Rattle.std.proofs.Common.{◌≡◌, ◌∙◌, Some, refl, inl, inr}
use Rattle.std.proofs.lemmas.Result.{err_from_is_err_and}
use Rattle.std.specs.Arc.{arc_value}
use Rattle.turn_runner.specs.declared.came.Came.{Came}
use Rattle.turn_runner.proofs.Heard.{heard_as, own_from, was_heard}
use Rattle.turn_runner.proofs.settling.run_untold.Goals as goal

-- what the turn came to is kept
pub returns-in_err-put_back : goal.returns-in_err-put_back
returns-in_err-put_back g c =
    let p = err_from_is_err_and c.from_residual-in_err-put_back.result c.from_residual-in_err-put_back.ensures.1 in
    let begun = c.args.desk.now in
    let work = c.args.work in
    let ran = c.run_shared-ran in
    let heard = was_heard g.D.Desk.owns g.K.Kinds.hears arc_value begun work ran.result.outcome c.in_ok-object.object
    (c.in_ok-object.ensures.has ∙ c.requires.fits) c.in_ok-object.ensures.own ran.ensures.heard in
    rw p.1 (inl (inr (c.hand_out.new.self, record { work = work; ran = ran.result }, refl, c.in_ok-object.ensures.step, c.in_err-put_back.ensures.err, (ran.ensures.refused, heard, ran.ensures.site))))

pub returns-in-Ok : goal.returns-in-Ok
returns-in-Ok g c =
    let begun = c.args.desk.now in
    let work = c.args.work in
    let ran = c.run_shared-ran in
    let heard = heard_as g.D.Desk.owns g.K.Kinds.hears arc_value begun (g.D.Desk.running begun work.number) work ran.result.outcome c.in_ok-object.object
    c.requires.running (c.in_ok-object.ensures.has ∙ c.requires.fits) c.in_ok-object.ensures.own ran.ensures.heard in
    let own = own_from g.D.Desk.owns g.K.Kinds.made arc_value begun c.hand_out.new.self c.put_back.new.self (g.D.Desk.running begun work.number) (Some work) work ran.result.outcome ran.result.made
    c.requires.running refl ran.ensures.site ran.ensures.made c.in_ok-object.ensures.objects c.in_ok-put_back.ensures.own in
    (c.put_back.new.self, (ran.ensures.refused, ((c.hand_out.new.self, c.in_ok-object.ensures.step, c.in_ok-put_back.ensures.ok), heard, own)), c.post.ensures.step, c.in-Ok.ensures.ok)

pub returns-in-Err : goal.returns-in-Err
returns-in-Err g c =
    let begun = c.args.desk.now in
    let work = c.args.work in
    let ran = c.run_shared-ran in
    let heard = heard_as g.D.Desk.owns g.K.Kinds.hears arc_value begun (g.D.Desk.running begun work.number) work ran.result.outcome c.in_ok-object.object
    c.requires.running (c.in_ok-object.ensures.has ∙ c.requires.fits) c.in_ok-object.ensures.own ran.ensures.heard in
    let own = own_from g.D.Desk.owns g.K.Kinds.made arc_value begun c.hand_out.new.self c.put_back.new.self (g.D.Desk.running begun work.number) (Some work) work ran.result.outcome ran.result.made
    c.requires.running refl ran.ensures.site ran.ensures.made c.in_ok-object.ensures.objects c.in_ok-put_back.ensures.own in
    inr (ran.result.outcome, c.put_back.new.self, (ran.ensures.refused, ((c.hand_out.new.self, c.in_ok-object.ensures.step, c.in_ok-put_back.ensures.ok), heard, own)), c.post.ensures.step)
