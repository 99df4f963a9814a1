use Rattle.std.proofs.Common.{◌∙◌, sym}
use Rattle.scr_growth.proofs.listening.tell_all.Goals as goal

pub returns-clause-ok : goal.returns-clause-ok
returns-clause-ok c = λ was before. c.in_ok-tell_changes.ensures.ok was (sym before.registry ∙ sym c.rows_with.ensures.rows) (sym before.periods ∙ sym c.periods_before.ensures)
