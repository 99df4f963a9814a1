use Rattle.script_shell.proofs.Requesting.{carries_found}
use Rattle.script_shell.proofs.requests.http.Goals as goal

pub returns-in-Ok : goal.returns-in-Ok
returns-in-Ok g c =
    carries_found g.K.Kinds.next c.args.method c.args.target c.args.body c.args.platform.now c.answer_found.new.platform _ _ c.answer_found.result
    c.as_str.ensures c.in-Ok.ensures c.answer_found.ensures
