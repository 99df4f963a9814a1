use Rattle.std.proofs.Common.{refl, subst, Err, Ok}
use Rattle.std.specs.Prelude.{ℕ, List}
use Rattle.platform_hall.specs.Calls.{CallsOnOne}
use Rattle.shell_lang.specs.declared.shell_reply.ShellReply.TheVariants.{Text}
use Rattle.script_shell.specs.Calling.{CarriesCall}
use Rattle.script_shell.proofs.CallGrowth.{carries_unanswered}
use Rattle.script_shell.proofs.calling.call.Goals as goal

pub returns-in-Ok : goal.returns-in-Ok
returns-in-Ok g c =
    let P : List ℕ → Type 0 = λ text. CallsOnOne g.K.Kinds.refuses g.K.Kinds.next c.args.platform.now c.args.bundle c.args.service text (Ok c.in-Ok.text) c.call.new.self in
    (Ok c.in-Ok.text, subst P c.as_str.ensures c.in-Ok.ensures, refl)

pub returns-in-Err : goal.returns-in-Err
returns-in-Err g c =
    let P : List ℕ → Type 0 = λ text. CallsOnOne g.K.Kinds.refuses g.K.Kinds.next c.args.platform.now c.args.bundle c.args.service text (Err c.in-Err.fault) c.call.new.self in
    carries_unanswered g.K.Kinds.refuses g.K.Kinds.next c.args.platform.now c.call.new.self c.args.bundle c.args.service c.args.request.now c.in-Err.fault c.unanswered.result (subst P c.as_str.ensures c.in-Err.ensures)
    c.unanswered.ensures
