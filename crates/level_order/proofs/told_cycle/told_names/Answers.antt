use Rattle.std.proofs.Common.{sym, subst}
use Rattle.level_order.specs.Cycles.{TellsCycle}
use Rattle.level_order.proofs.ToldLemmas.{found_told, none_acyclic, if_ok}
use Rattle.level_order.proofs.told_cycle.told_names.Goals as goal

pub returns-in-Some : goal.returns-in-Some
returns-in-Some c =
    let found = rw c.in-Some.is at c.in_ok-places.ensures in
    let told = found_told c.args.descriptions.now c.in-Some.places.items found in
    if_ok c.names_at.result (λ names is. subst (λ w. TellsCycle c.args.descriptions.now w) (sym is) told) (rw c.deref.ensures.value at c.names_at.ensures)

pub returns-in-None : goal.returns-in-None
returns-in-None c =
    let none = rw c.in-None.is at c.in_ok-places.ensures in
    absurd (c.requires.cyclic (none_acyclic c.args.descriptions.now none))
