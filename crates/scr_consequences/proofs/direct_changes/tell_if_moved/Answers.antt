use Rattle.std.proofs.Common.{◌∙◌, List, ap, sym}
use Rattle.service_listeners.specs.Listening.{Change, after_changes}
use Rattle.scr_consequences.proofs.DirectLemmas.{stays_same}
use Rattle.scr_consequences.proofs.TellingLemmas.{after_none}
use Rattle.scr_consequences.proofs.direct_changes.tell_if_moved.Goals as goal

pub returns-then-row_stays-clause-ok : goal.returns-then-row_stays-clause-ok
returns-then-row_stays-clause-ok c =
    sym (after_none c.args.listeners.now)
    ∙ ap (λ (cs : List Change). after_changes cs c.args.listeners.now)
    (sym (stays_same c.args.now.now.rows c.args.rest.now c.args.row.now c.requires (sym c.row_stays.ensures ∙ c.if-row_stays.true)))
