-- Whether all were told or none, numbers are as they were.
use Rattle.std.proofs.Common.{◌≡◌, [], ◌∷◌, arith, length, subst, sym}
use Rattle.std.proofs.lemmas.List.{with_items_is}
use Rattle.std.specs.Option.{option_copied}
use Rattle.std.specs.Vec.{vec_len}
use Rattle.service_listeners.specs.Numbers.{AreNumbered}
use Rattle.service_listeners.proofs.ToldRows.{numbered_after}
use Rattle.service_listeners.proofs.table.Listeners.tell.Goals as goal

pub invariant_of-self : goal.invariant_of-self
invariant_of-self c =
    let whole : length c.tell_from.new.rows ≡ vec_len c.self.inside.rows = omega (arith, c.tell_from.auto.rows, c.deref_mut.ensures.len) in
    subst (AreNumbered c.self.inside.numbered) (sym (with_items_is c.self.inside.rows c.tell_from.new.rows whole))
    (numbered_after c.self.inside.numbered ((option_copied c.args.before, option_copied c.args.after) ∷ []) c.deref_mut.result.now c.tell_from.new.rows c.tell_from.result
    c.tell_from.ensures.ok c.tell_from.ensures.err (subst (AreNumbered c.self.inside.numbered) (sym c.deref_mut.ensures.value) c.self.invariant))
