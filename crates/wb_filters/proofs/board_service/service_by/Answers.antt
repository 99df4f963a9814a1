use Rattle.std.proofs.Common.{ap, ◌∙◌}
use Rattle.wb_filters.specs.BoardServices.{service_with, texts_in}
use Rattle.wb_routes.specs.Servlets.{select_by}
use Rattle.wb_filters.proofs.board_service.service_by.Goals as goal

pub returns : goal.returns
returns c =
    c.service_with.ensures ∙ (λ i. service_with c.args.row.now ((c.in_ok-select.ensures ∙ ap select_by c.get-2.ensures) i) ((c.in_ok-texts.ensures ∙ ap texts_in c.get.ensures) i))
