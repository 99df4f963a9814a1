use Rattle.std.proofs.Common.{◌≡◌, ◌∙◌, ap, subst, sym, List}
use Rattle.service_registry.specs.Registries.{Registered}
use Rattle.service_registry.specs.declared.row.ServiceRow.{ServiceRow}
use Rattle.scr_starting.proofs.RemainingServices.{Ascending, left_with, left_without, may_leave}
use Rattle.scr_starting.proofs.remaining_services.without_bundle.Goals as goal
use Rattle.scr_starting.proofs.remaining_services.without_bundle.Goals.{then-row-bundle, else-row-bundle}

ascending : (t : Registered) (rows : List ServiceRow) → rows ≡ t.rows → Ascending t.rows → Ascending rows
ascending t rows are pairs = subst (λ xs. Ascending xs) (sym are) pairs

pub take_out-requires : goal.take_out-requires
take_out-requires c =
    may_leave c.args.bundle c.loop-row.row-index c.rows-rows.result.now c.row-item.result (ascending c.args.registry.now c.rows-rows.result.now c.rows-rows.ensures.all c.rows-rows.ensures.numbered.0)
    c.loop-row-test.true c.row-item.is c.loop-row.remaining c.loop-row.invariant.rows c.if-row-bundle.true

pub loop-row-preserved : goal.loop-row-preserved
loop-row-preserved c =
    let pairs = ascending c.args.registry.now c.rows-rows.result.now c.rows-rows.ensures.all c.rows-rows.ensures.numbered.0 in
    elim c.if-row-bundle.branch [
      | then-row-bundle w ↦ record {
        rows = ap (λ (t : Registered). t.rows) (w.remaining-is ∙ w.take_out.ensures)
            ∙ left_without c.args.bundle c.loop-row.row-index c.rows-rows.result.now c.row-item.result pairs c.loop-row-test.true c.row-item.is c.loop-row.remaining c.loop-row.invariant.rows w.if-row-bundle.true;
        numbered = ap (λ (t : Registered). t.numbered) (w.remaining-is ∙ w.take_out.ensures) ∙ c.loop-row.invariant.numbered;
      }
      | else-row-bundle w ↦ record {
        rows = ap (λ (t : Registered). t.rows) w.remaining-is
            ∙ left_with c.args.bundle c.loop-row.row-index c.rows-rows.result.now c.row-item.result pairs c.loop-row-test.true c.row-item.is c.loop-row.remaining c.loop-row.invariant.rows w.if-row-bundle.false;
        numbered = ap (λ (t : Registered). t.numbered) w.remaining-is ∙ c.loop-row.invariant.numbered;
      }
    ]
