use Rattle.std.proofs.Common.{◌==◌, ◌∙◌, ap, sym}
use Rattle.std.specs.List.{list_any}
use Rattle.component_state.specs.declared.open_period.OpenPeriod.{OpenPeriod}
use Rattle.scr_consequences.proofs.RegisteredLemmas.{direct_there, opened_there, zero_there}
use Rattle.scr_consequences.proofs.registered.is_registered.Goals as goal

pub returns-then-service-eq0 : goal.returns-then-service-eq0
returns-then-service-eq0 c = zero_there c.args.world.now c.args.service c.if-service-eq0.true

pub returns-then-is_direct : goal.returns-then-is_direct
returns-then-is_direct c = direct_there c.args.world.now c.args.service (sym c.is_direct.ensures ∙ c.if-is_direct.true)

pub returns : goal.returns
returns c =
    c.is_opened.ensures
    ∙ ap (list_any (λ (p : OpenPeriod). p.row.id == c.args.service)) c.as_slice.ensures
    ∙ opened_there c.args.world.now c.args.service c.if-service-eq0.false (sym c.is_direct.ensures ∙ c.if-is_direct.false)
