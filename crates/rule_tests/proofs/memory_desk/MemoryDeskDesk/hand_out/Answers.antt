use Rattle.std.proofs.Common.{◌≡◌, Some, subst}
use Rattle.std.specs.Arc.{arc_value}
use Rattle.std.specs.Prelude.{IfOk, MatchOption, is_some}
use Rattle.rule_tests.specs.Desktops.{Desktop, is_holder, object_of}
use Rattle.rule_tests.proofs.memory_desk.MemoryDeskDesk.hand_out.Goals as goal

pub returns-clause-has : goal.returns-clause-has
returns-clause-has g c =
    let n = c.args.work.now.instance in
    subst (λ (d : Desktop g.row.O.Denot). IfOk c.shared_object.result (λ object. is_some object ≡ is_holder d.held n)) c.self.view_is
    (subst (λ xs. IfOk c.shared_object.result (λ object. is_some object ≡ is_holder xs n)) c.as_slice.ensures.value c.shared_object.ensures.has)

pub returns-clause-own : goal.returns-clause-own
returns-clause-own g c =
    let n = c.args.work.now.instance in
    subst (λ (d : Desktop g.row.O.Denot). IfOk c.shared_object.result (λ object. MatchOption object (Unit {0}) (λ o. object_of d.held n ≡ Some (arc_value o)))) c.self.view_is
    (subst (λ xs. IfOk c.shared_object.result (λ object. MatchOption object (Unit {0}) (λ o. object_of xs n ≡ Some (arc_value o)))) c.as_slice.ensures.value c.shared_object.ensures.own)
