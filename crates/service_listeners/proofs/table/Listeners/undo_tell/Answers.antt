-- Numbers stay as they were, and who was told is as before.
use Rattle.std.proofs.Common.{◌≡◌, ◌∙◌, List, [], ◌∷◌, ap, arith, length, subst, sym}
use Rattle.std.proofs.lemmas.List.{with_items_is}
use Rattle.std.specs.Option.{option_copied}
use Rattle.std.specs.Prelude.{map}
use Rattle.std.specs.Vec.{vec_len}
use Rattle.service_listeners.specs.declared.listener.Listener.{Listener}
use Rattle.service_listeners.specs.Listening.{Change, ListenerTable, with_changes}
use Rattle.service_listeners.specs.Numbers.{AreNumbered}
use Rattle.service_listeners.specs.Undoing.{untold}
use Rattle.service_listeners.proofs.Untold.{all_untold, numbered_untold}
use Rattle.service_listeners.proofs.table.Listeners.undo_tell.Goals as goal

pub invariant_of-self : goal.invariant_of-self
invariant_of-self c =
    let whole : length c.untell_from.new.rows ≡ vec_len c.self.inside.rows = omega (arith, c.untell_from.auto.rows, c.deref_mut.ensures.len) in
    let change : Change = (option_copied c.args.before, option_copied c.args.after) in
    subst (AreNumbered c.self.inside.numbered) (sym (with_items_is c.self.inside.rows c.untell_from.new.rows whole ∙ c.untell_from.ensures))
    (numbered_untold c.self.inside.numbered change c.deref_mut.result.now (subst (AreNumbered c.self.inside.numbered) (sym c.deref_mut.ensures.value) c.self.invariant))

pub returns-clause-undone : goal.returns-clause-undone
returns-clause-undone c was e =
    let whole : length c.untell_from.new.rows ≡ vec_len c.self.inside.rows = omega (arith, c.untell_from.auto.rows, c.deref_mut.ensures.len) in
    let change : Change = (option_copied c.args.before, option_copied c.args.after) in
    let rows : c.deref_mut.result.now ≡ map (with_changes (change ∷ [])) was.rows = c.deref_mut.ensures.value ∙ ap (λ (t : ListenerTable). t.rows) (c.self.view_is ∙ e) in
    ap (λ (ls : List Listener). let t : ListenerTable = record { rows = ls; numbered = c.self.inside.numbered } in t)
    (with_items_is c.self.inside.rows c.untell_from.new.rows whole ∙ c.untell_from.ensures ∙ ap (map (untold change)) rows ∙ all_untold change was.rows)
    ∙ ap (λ n. let t : ListenerTable = record { rows = was.rows; numbered = n } in t) (ap (λ (t : ListenerTable). t.numbered) (c.self.view_is ∙ e))
