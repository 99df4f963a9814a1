use Rattle.std.proofs.Common.{◌≡◌, List, subst}
use Rattle.std.specs.Prelude.{OnOk}
use Rattle.service_listeners.specs.Listening.{Change, after_changes}
use Rattle.scr_consequences.proofs.direct_changes.tell_of_new.Goals as goal

pub returns-clause-ok : goal.returns-clause-ok
returns-clause-ok c =
    subst (λ (cs : List Change). OnOk c.tell_of_each.result (c.tell_of_each.new.listeners ≡ after_changes cs c.args.listeners.now)) c.behind_all.ensures c.tell_of_each.ensures.ok
