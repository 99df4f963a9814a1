use Rattle.std.proofs.Common.{inr}
use Rattle.std.proofs.lemmas.Result.{err_from_is_err_and}
use Rattle.turn_runner.specs.Turns.{HeardEnds, Stays}
use Rattle.turn_runner.proofs.Heard.{cut_off}
use Rattle.turn_runner.proofs.settling.run_due.Goals as goal

pub returns-in_err-run_begun : goal.returns-in_err-run_begun
returns-in_err-run_begun g c =
    let p = err_from_is_err_and c.from_residual-in_err-run_begun.result c.from_residual-in_err-run_begun.ensures.1 in
    let took = rw c.in-Some.is at c.in_ok-work.ensures.step in
    rw (p.1, p.2) (inr (cut_off g.D.Desk.begins (Stays g.D.Desk.owns g.K.Kinds.made g.K.Kinds.hears g.K.Kinds.refuses g.D.Desk.hands g.D.Desk.keeps) (HeardEnds g.D.Desk.running g.D.Desk.owns g.K.Kinds.made g.K.Kinds.hears g.D.Desk.hands g.D.Desk.ends) g.D.Desk.posts g.K.Kinds.refuses
    c.args.desk.now c.take.new.self c.run_begun.new.desk c.in-Some.work took.2 c.in_err-run_begun.ensures))
