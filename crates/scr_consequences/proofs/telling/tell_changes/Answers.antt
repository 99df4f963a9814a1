use Rattle.std.proofs.Common.{sym, subst}
use Rattle.service_listeners.proofs.CutRows.{goes_back}
use Rattle.service_listeners.specs.Numbers.{AreNumbered}
use Rattle.service_listeners.specs.Saves.{SavedListeners, cut_to}
use Rattle.scr_consequences.proofs.TellingLemmas.{grown}
use Rattle.scr_consequences.proofs.telling.tell_changes.Goals as goal

pub go_back-requires : goal.go_back-requires
go_back-requires c =
    let old = c.args.listeners.now in
    let new = c.tell_all.new.listeners in
    subst (λ (s : SavedListeners). AreNumbered s.numbered (cut_to new.rows s.told)) (sym c.in_ok-saved.ensures)
    (goes_back old new c.requires.numbered (grown old new c.tell_all.ensures.told))

pub returns-in-Err-clause-err : goal.returns-in-Err-clause-err
returns-in-Err-clause-err c =
    c.go_back.ensures.undone c.args.listeners.now c.in_ok-saved.ensures (grown c.args.listeners.now c.tell_all.new.listeners c.tell_all.ensures.told)
