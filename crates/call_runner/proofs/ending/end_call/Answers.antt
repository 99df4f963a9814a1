use Rattle.std.proofs.Common.{◌∙◌, ap}
use Rattle.call_moves.specs.Evaluations.{with_reply_at}
use Rattle.call_runner.specs.Steps.{resumed_by}
use Rattle.call_runner.proofs.ending.end_call.Goals as goal

pub returns-in_ok-noted-in-Some : goal.returns-in_ok-noted-in-Some
returns-in_ok-noted-in-Some g c = (
  (c.in-Some.paused, c.in-Some.ensures, c.resumed.ensures ∙ ap (λ r. resumed_by {O = g.row.O.Denot} c.in-Some.paused r) c.reply_of-reply.ensures),
  c.note_reply.ensures ∙ ap (λ r. with_reply_at c.args.place r c.args.calls.now.nested.items) (c.in_ok-noted-in-Some.ensures ∙ c.reply_of-reply.ensures),
)
