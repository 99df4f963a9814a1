use Rattle.std.proofs.Common.{List, sym, subst}
use Rattle.std.specs.List.{All}
use Rattle.std.proofs.lemmas.List.{append-nil}
use Rattle.component_state.specs.declared.open_period.OpenPeriod.{OpenPeriod}
use Rattle.scr_consequences.specs.Moves.{HasRowThere}
use Rattle.scr_consequences.proofs.LeftLemmas.{next_period, periods_behind_there}
use Rattle.scr_consequences.proofs.RegisteredLemmas.{periods_there}
use Rattle.scr_consequences.proofs.left_services.add_left_of_periods.Goals as goal

pub loop-period-init : goal.loop-period-init
loop-period-init c = record {
  found = sym (append-nil c.args.left.now.items);
  there = subst (λ (ps : List OpenPeriod). All (HasRowThere c.args.now.now) ps) (sym c.as_slice-rest.ensures) (periods_there c.args.now.now);
}

pub loop-period-preserved : goal.loop-period-preserved
loop-period-preserved c =
    let now = c.args.now.now in
    record {
      found = next_period now c.args.periods.now c.loop-period.period-index c.period-item.result c.args.left.now.items c.loop-period.left.items c.add_period_if_left.new.left.items c.loop-period-test.true
          c.period-item.is c.loop-period.invariant.found c.in_ok-add_period_if_left.ensures;
      there = subst (λ (ps : List OpenPeriod). All (HasRowThere now) ps) (sym c.periods_behind-rest.ensures)
          (periods_behind_there now c.period-item.result.configuration c.loop-period.rest.now c.loop-period.invariant.there);
    }
