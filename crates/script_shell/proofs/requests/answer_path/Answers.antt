use Rattle.std.proofs.Common.{◌∙◌, sym}
use Rattle.script_shell.proofs.Requesting.{carries_sized}
use Rattle.script_shell.proofs.requests.answer_path.Goals as goal

pub returns-then-fits : goal.returns-then-fits
returns-then-fits g c =
    carries_sized g.K.Kinds.next c.args.method c.args.target c.args.body c.args.platform.now c.answer_request.new.platform c.args.path c.request_of-request.result c.answer_request.result
    c.request_of-request.ensures (sym c.fits.ensures ∙ c.if-fits.true) c.answer_request.ensures
