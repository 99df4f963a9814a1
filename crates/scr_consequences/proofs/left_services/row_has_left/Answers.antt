use Rattle.std.proofs.Common.{◌∙◌, sym}
use Rattle.scr_consequences.proofs.LeftLemmas.{row_there}
use Rattle.scr_consequences.proofs.left_services.row_has_left.Goals as goal

pub returns-then-row_stays : goal.returns-then-row_stays
returns-then-row_stays c = sym (row_there c.args.now.now c.args.row.now c.args.rest.now c.requires (sym c.row_stays.ensures ∙ c.if-row_stays.true))
