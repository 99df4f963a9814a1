use Rattle.std.proofs.Common.{◌≡◌, ◌∙◌, ap, true, sym, subst}
use Rattle.std.specs.List.{flat_map}
use Rattle.prop_map.specs.Words.{has}
use Rattle.scr_consequences.proofs.DirectLemmas.{behind_told}
use Rattle.scr_consequences.proofs.RegisteredLemmas.{id_there}
use Rattle.scr_consequences.specs.Changes.{change_of_new}
use Rattle.service_registry.specs.Services.{ids}
use Rattle.service_registry.specs.declared.row.ServiceRow.{ServiceRow}
use Rattle.scr_consequences.proofs.direct_changes.behind_all.Goals as goal

pub loop-row-preserved : goal.loop-row-preserved
loop-row-preserved c =
    let was = c.args.was_rows.now in
    let row = c.row-item.result in
    let there : has (ids was) row.id ≡ true = subst (λ (r : ServiceRow). has (ids was) r.id ≡ true) (sym c.row-item.is) (id_there was c.loop-row.row-index row c.loop-row-test.true) in
    ap (flat_map (change_of_new (ids was))) c.rows_behind-rest.ensures ∙ behind_told (ids was) row.id c.loop-row.rest.now there ∙ c.loop-row.invariant
