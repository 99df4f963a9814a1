use Rattle.std.proofs.Common.{◌∙◌, ap, map}
use Rattle.std.specs.Borrow.{Bor}
use Rattle.config_admin.specs.declared.configuration.Configuration.{Configuration}
use Rattle.component_state.proofs.AskingLemmas.{set_more}
use Rattle.component_state.proofs.component_configurations.counting.set_ones.Goals as goal

pub loop-configuration-preserved : goal.loop-configuration-preserved
loop-configuration-preserved c =
    ap (map (λ (x : Bor Configuration). x.now)) c.in_ok-push_set.ensures
    ∙ set_more c.args.these.now c.loop-configuration.configuration-index c.configuration-item.result c.loop-configuration.found.items c.loop-configuration-test.true c.configuration-item.is c.loop-configuration.invariant
