use Rattle.std.proofs.Common.{◌∙◌, ap}
use Rattle.std.proofs.Math.ListN.{set}
use Rattle.std.specs.Prelude.{insert}
use Rattle.told_revisions.proofs.ServiceLemmas.{row_inserted, row_put}
use Rattle.told_revisions.proofs.services.with_service.Goals as goal
use Rattle.told_revisions.proofs.services.with_service.Goals.{in-Ok, in-Err+in_ok-insert-in-Err}

pub returns : goal.returns
returns c = elim c.match-place_of.branch [
  | in-Ok w ↦ ap (λ v. v.items) w.changed-is ∙ ap (λ rows. set rows w.in-Ok.place c.args.row) c.in_ok-changed.ensures.items
      ∙ row_put w.in-Ok.place c.args.rows.now c.args.row c.requires w.in-Ok.ensures.place
  | in-Err+in_ok-insert-in-Err w ↦ ap (λ v. v.items) w.changed-is ∙ w.in_ok-insert-in-Err.ensures.items ∙ ap (λ rows. insert rows w.in-Err.gap c.args.row) c.in_ok-changed.ensures.items
      ∙ row_inserted w.in-Err.gap c.args.rows.now c.args.row w.in-Err.ensures.place
]
