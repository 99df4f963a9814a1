use Rattle.std.proofs.Common.{◌≡◌, ◌<◌, ◌∙◌, ◌++◌, ap, arith, drop, false, get_or, length, refl, sym}
use Rattle.std.proofs.lemmas.List.{append-nil, get_or_default}
use Rattle.component_state.specs.ComponentConfigurations.{components_for_descriptions}
use Rattle.component_state.proofs.AskingLemmas.{more_enabled, none_left}
use Rattle.component_state.proofs.component_configurations.push_enabled.Goals as goal

pub loop-index-preserved : goal.loop-index-preserved
loop-index-preserved c =
    let flags = c.enabled-enabled.result.now in
    let in_flags : c.loop-index.index < length flags = omega arith in
    more_enabled c.args.bundle.now c.args.configurations.now c.loop-index.index c.descriptions-descriptions.result.now flags _ (get_or flags c.loop-index.index false) c.loop-index.found.items _ _
    (omega arith) in_flags c.index-descriptions-index.is (get_or_default flags c.loop-index.index false _ in_flags) c.in_ok-push_if.ensures c.loop-index.invariant

pub returns : goal.returns
returns c =
    sym (append-nil c.loop-index.found.items)
    ∙ ap (λ l. c.loop-index.found.items ++ l) (sym (none_left c.args.bundle.now c.args.configurations.now c.loop-index.index c.loop-index.index c.descriptions-descriptions.result.now c.enabled-enabled.result.now (omega arith)))
    ∙ c.loop-index.invariant
