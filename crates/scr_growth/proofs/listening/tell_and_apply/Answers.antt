use Rattle.std.proofs.Common.{◌∙◌, ap, subst, sym}
use Rattle.scr_growth.specs.Growths.{with_listener_change}
use Rattle.scr_growth.proofs.ListenerLemmas.{grown_by}
use Rattle.scr_world.specs.Lists.{changes_between}
use Rattle.service_listeners.specs.Listening.{ListenerTable}
use Rattle.service_listeners.specs.Numbers.{AreNumbered}
use Rattle.service_listeners.specs.Saves.{HaveGrown, SavedListeners, cut_to}
use Rattle.service_listeners.proofs.CutRows.{goes_back}
use Rattle.scr_growth.proofs.listening.tell_and_apply.Goals as goal

pub go_back-requires : goal.go_back-requires
go_back-requires c =
    let was = c.requires.before.0 in
    let cs = changes_between c.requires.before.0 c.args.state.now.world in
    let now_is = c.in-Err-apply.ensures.err ∙ c.in-Ok-tell_all.ensures.ok c.requires.before.0 c.requires.before.1 in
    let grown = subst (λ (t : ListenerTable). HaveGrown c.args.listeners.now.rows t.rows) (sym now_is) (grown_by cs c.args.listeners.now.rows) in
    subst (λ (s : SavedListeners). AreNumbered s.numbered (cut_to c.apply.new.listeners.rows s.told)) (sym c.in-Ok.ensures) (goes_back c.args.listeners.now c.apply.new.listeners c.requires.numbered grown)

pub returns-in-Ok-apply-clause-ok : goal.returns-in-Ok-apply-clause-ok
returns-in-Ok-apply-clause-ok c = λ was before. c.in-Ok-apply.ensures.ok ∙ ap (with_listener_change c.args.change) (c.in-Ok-tell_all.ensures.ok was before)

pub returns-in-Err-apply-clause-err : goal.returns-in-Err-apply-clause-err
returns-in-Err-apply-clause-err c =
    let cs = changes_between c.requires.before.0 c.args.state.now.world in
    let now_is = c.in-Err-apply.ensures.err ∙ c.in-Ok-tell_all.ensures.ok c.requires.before.0 c.requires.before.1 in
    let grown = subst (λ (t : ListenerTable). HaveGrown c.args.listeners.now.rows t.rows) (sym now_is) (grown_by cs c.args.listeners.now.rows) in
    c.go_back.ensures.undone c.args.listeners.now c.in-Ok.ensures grown
