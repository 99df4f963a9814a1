use Rattle.std.proofs.Common.{◌≡◌, ◌∙◌, List, subst}
use Rattle.std.specs.Prelude.{IfOk}
use Rattle.scr_world.specs.Calls.{world_at}
use Rattle.scr_readers.specs.Reaching.{held_rows, held_services}
use Rattle.scr_world.specs.Steps.{history_of}
use Rattle.service_registry.specs.declared.row.ServiceRow.{ServiceRow}
use Rattle.scr_requests.proofs.Rows.{board_rows}
use Rattle.scr_requests.proofs.servlets.held_by_board.Goals as goal

pub returns : goal.returns
returns c =
    let w = world_at c.args.core.now.journal in
    let same = board_rows c.args.core.now.limits.journal (history_of c.args.core.now.journal) c.note_legal.ensures c.args.reference.now in
    subst (λ (xs : List ServiceRow). IfOk c.held_services.result (λ rows. rows ≡ xs)) same
    (subst (λ q. IfOk c.held_services.result (λ rows. rows ≡ held_services w 0 q)) c.in_ok-reference.ensures c.held_services.ensures)
