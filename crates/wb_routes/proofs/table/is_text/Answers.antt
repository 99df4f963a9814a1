use Rattle.std.proofs.Common.{◌++◌, ap, ◌∙◌}
use Rattle.std.specs.Ordering.{is_eq}
use Rattle.std.proofs.lemmas.Map.Text.{is_eq-slice_cmp}
use Rattle.wb_routes.proofs.table.is_text.Goals as goal

pub returns : goal.returns
returns c = c.is_eq.ensures ∙ ap is_eq c.text_order.ensures ∙ is_eq-slice_cmp c.args.text.now (c.args.front.now ++ c.args.end.now)
