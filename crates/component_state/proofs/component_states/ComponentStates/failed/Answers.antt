use Rattle.std.proofs.Common.{◌∙◌, ap, refl, length}
use Rattle.prop_map.specs.Words.{has}
use Rattle.component_state.specs.Inside.OpenMarks.{marked, marked_now}
use Rattle.component_state.specs.Inside.Ready.{configurations_open}
use Rattle.component_state.proofs.MarkLemmas.{marked_besides, marked_long}
use Rattle.component_state.proofs.StateSteps.{failed_from, failing_kept}
use Rattle.component_state.proofs.component_states.ComponentStates.failed.Goals as goal

pub invariant_of-self : goal.invariant_of-self
invariant_of-self c =
    (ap length c.mark.ensures ∙ marked_long c.args.configuration c.as_slice.result.now c.self.inside.marks.items ∙ c.self.invariant.0, failing_kept c.self.invariant.1 _)

pub returns : goal.returns
returns c =
    failed_from c.self.view_is (record {
      failing = λ n. ap (λ w. has (marked (configurations_open c.self.inside.open_periods) w) n) (c.mark.ensures ∙ ap (λ ps. marked_now c.args.configuration ps c.self.inside.marks.items) c.as_slice.ensures)
          ∙ marked_besides c.args.configuration c.self.inside.open_periods c.self.inside.marks.items c.self.invariant.0 n;
      others = refl;
    })
