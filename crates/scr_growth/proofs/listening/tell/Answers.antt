use Rattle.std.proofs.Common.{◌∙◌, ap, sym}
use Rattle.scr_growth.specs.Growths.{with_listener_change}
use Rattle.scr_world.specs.Lists.{changes_between}
use Rattle.service_listeners.specs.Listening.{ListenerTable, after_changes}
use Rattle.scr_growth.proofs.listening.tell.Goals as goal

pub returns-in-Ok-tell_and_apply-clause-ok : goal.returns-in-Ok-tell_and_apply-clause-ok
returns-in-Ok-tell_and_apply-clause-ok c = λ was before.
    ap (λ (t : ListenerTable). record c.args.state.now { world = record c.args.state.now.world { listeners = t } })
    (c.put.ensures ∙ c.in-Ok-tell_and_apply.ensures.ok was (record { registry = before.registry; periods = before.periods; held = before.held })
    ∙ ap (λ (t : ListenerTable). with_listener_change c.in_ok-change.change (after_changes (changes_between was c.args.state.now.world) t)) c.replace-listeners.ensures.value
    ∙ sym (c.in_ok-change.ensures (after_changes (changes_between was c.args.state.now.world) c.args.state.now.world.listeners)))
