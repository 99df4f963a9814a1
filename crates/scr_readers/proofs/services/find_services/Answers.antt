use Rattle.std.proofs.Common.{◌≡◌, ◌++◌, ap, ◌∙◌, Bool, List, filter, map}
use Rattle.component_state.specs.Rows.{rows_of}
use Rattle.ldap_filter.specs.Matching.{matches}
use Rattle.service_registry.specs.declared.best_first.Ranked.{Ranked}
use Rattle.service_registry.specs.declared.row.ServiceRow.{ServiceRow}
use Rattle.service_registry.specs.Services.{ranked}
use Rattle.scr_readers.proofs.FoundServices.{found_in_both}
use Rattle.scr_readers.proofs.services.find_services.Goals as goal

pub returns : goal.returns
returns c =
    let w = c.args.world.now in
    let test : ServiceRow → Bool = λ (r : ServiceRow). matches c.args.filter.now r.properties in
    let direct : List ServiceRow → List Ranked = λ rows. map ranked (filter test rows) in
    let first : c.add_matching.new.ranks.items ≡ c.new-ranks.result.items ++ direct c.rows.result.now = c.in_ok-add_matching.ensures in
    let then : c.add_opened.new.ranks.items ≡ c.add_matching.new.ranks.items ++ direct (rows_of c.as_slice.result.now) = c.in_ok-add_opened.ensures in
    c.in_ok-numbers.ensures
    ∙ found_in_both test w.registry.rows (rows_of w.open_periods) c.add_opened.new.ranks.items
    (then ∙ ap (λ (l : List Ranked). l ++ direct (rows_of c.as_slice.result.now)) (first ∙ ap (λ (l : List Ranked). l ++ direct c.rows.result.now) c.new-ranks.ensures.items ∙ ap direct c.rows.ensures.all)
    ∙ ap (λ periods. direct w.registry.rows ++ direct (rows_of periods)) c.as_slice.ensures)
