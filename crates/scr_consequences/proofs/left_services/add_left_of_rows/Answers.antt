use Rattle.std.proofs.Common.{List, sym, subst}
use Rattle.std.specs.List.{All}
use Rattle.std.proofs.lemmas.List.{append-nil}
use Rattle.scr_consequences.specs.Moves.{IsThere}
use Rattle.scr_consequences.proofs.DirectLemmas.{all_behind}
use Rattle.scr_consequences.proofs.LeftLemmas.{next_row}
use Rattle.scr_consequences.proofs.RegisteredLemmas.{rows_there}
use Rattle.service_registry.specs.declared.row.ServiceRow.{ServiceRow}
use Rattle.scr_consequences.proofs.left_services.add_left_of_rows.Goals as goal

pub loop-row-init : goal.loop-row-init
loop-row-init c = record {
  found = sym (append-nil c.args.left.now.items);
  there = subst (λ (rs : List ServiceRow). All (IsThere c.args.now.now) rs) (sym c.rows-rest.ensures.all) (rows_there c.args.now.now);
}

pub loop-row-preserved : goal.loop-row-preserved
loop-row-preserved c =
    let now = c.args.now.now in
    record {
      found = next_row now c.args.rows.now c.loop-row.row-index c.row-item.result c.args.left.now.items c.loop-row.left.items c.add_row_if_left.new.left.items c.loop-row-test.true c.row-item.is
          c.loop-row.invariant.found c.in_ok-add_row_if_left.ensures;
      there = subst (λ (rs : List ServiceRow). All (IsThere now) rs) (sym c.rows_behind-rest.ensures) (all_behind (IsThere now) c.row-item.result.id c.loop-row.rest.now c.loop-row.invariant.there);
    }
