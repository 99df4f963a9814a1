use Rattle.std.proofs.Common.{◌≡◌, ◌∙◌, ◌-◌, ap, arith, sym, Some, suc, true}
use Rattle.std.specs.Option.{option_copied}
use Rattle.service_registry.specs.declared.row.ServiceRow.{ServiceRow}
use Rattle.service_registry.specs.Services.{has_interface}
use Rattle.service_registry.proofs.Best.{best_behind}
use Rattle.service_registry.proofs.search.best_with.Goals as goal

pub loop-left-preserved-then-has_interface : goal.loop-left-preserved-then-has_interface
loop-left-preserved-then-has_interface c =
    let next : c.loop-left.left ≡ suc (c.loop-left.left - 1) = omega arith in
    let row = c.index-rows-left.result in
    let passes : has_interface c.args.interface.now row ≡ true = sym (c.if-has_interface.ensures) in
    record {
      within = omega arith;
      best = ap (λ (r : ServiceRow). Some r) c.better_one.ensures ∙ best_behind (has_interface c.args.interface.now) (c.loop-left.left - 1) c.loop-left.left c.args.rows.now row (option_copied c.loop-left.best) next (omega arith) c.index-rows-left.is passes c.loop-left.invariant.best;
    }
