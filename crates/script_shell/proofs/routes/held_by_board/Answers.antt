use Rattle.std.proofs.Common.{◌≡◌, List, subst}
use Rattle.std.specs.Prelude.{IfOk}
use Rattle.platform_hall.specs.Platforms.{world}
use Rattle.script_shell.proofs.BoardRows.{board_rows}
use Rattle.scr_readers.specs.Reaching.{held_services}
use Rattle.scr_world.specs.Steps.{history_of}
use Rattle.service_registry.specs.declared.row.ServiceRow.{ServiceRow}
use Rattle.script_shell.proofs.routes.held_by_board.Goals as goal

pub returns : goal.returns
returns c =
    let p = c.args.core.now in
    let same = board_rows p.limits.journal (history_of p.journal) c.note_legal.ensures c.args.reference.now in
    subst (λ (xs : List ServiceRow). IfOk c.held_services.result (λ rows. rows ≡ xs)) same
    (subst (λ q. IfOk c.held_services.result (λ rows. rows ≡ held_services (world p) 0 q)) c.in_ok-reference.ensures c.held_services.ensures)
