use Rattle.std.proofs.Common.{◌∙◌, sym}
use Rattle.scr_consequences.proofs.LeftLemmas.{adds_row, leaves_row}
use Rattle.scr_consequences.proofs.left_services.add_row_if_left.Goals as goal

pub returns-then-row_has_left : goal.returns-then-row_has_left
returns-then-row_has_left c =
    adds_row c.args.now.now c.add_copy.result c.args.row.now c.args.left.now.items c.add_copy.new.left.items (sym c.row_has_left.ensures ∙ c.if-row_has_left.true) c.add_copy.ensures

pub returns : goal.returns
returns c = leaves_row c.args.now.now c.args.row.now c.args.left.now.items (sym c.row_has_left.ensures ∙ c.if-row_has_left.false)
