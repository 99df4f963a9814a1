-- What was there is what is left of a table that has only gained since.
use Rattle.std.proofs.Common.{◌∙◌, List, ap}
use Rattle.service_listeners.specs.declared.listener.Listener.{Listener}
use Rattle.service_listeners.specs.Listening.{ListenerTable}
use Rattle.service_listeners.specs.Saves.{SavedListeners, cut_to}
use Rattle.service_listeners.proofs.CutRows.{grown_cut}
use Rattle.service_listeners.proofs.table.Listeners.go_back.Goals as goal

pub returns-clause-undone : goal.returns-clause-undone
returns-clause-undone c before e grown =
    let told = c.as_slice.ensures.value ∙ ap (λ (s : SavedListeners). s.told) (c.saved.view_is ∙ e) in
    let rows = c.cut_rows.ensures ∙ ap (λ (t : ListenerTable). cut_to t.rows c.as_slice.result.now) c.self.view_is ∙ ap (cut_to c.args.self.now.rows) told ∙ grown_cut before.rows c.args.self.now.rows grown in
    let numbered = ap (λ (s : SavedListeners). s.numbered) (c.saved.view_is ∙ e) in
    ap (λ (ls : List Listener). let t : ListenerTable = record { rows = ls; numbered = c.saved.inside.numbered } in t) rows ∙ ap (λ n. let t : ListenerTable = record { rows = before.rows; numbered = n } in t) numbered
