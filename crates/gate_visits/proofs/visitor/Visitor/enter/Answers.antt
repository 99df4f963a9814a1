use Rattle.std.proofs.Common.{ap, ◌∙◌, subst, sym}
use Rattle.atomic_table.specs.Seated.{TableId}
use Rattle.call_gate.specs.Calls.{EntersAs}
use Rattle.gate_visits.specs.Visits.{VisitorView, Visits, visitor_of}
use Rattle.gate_visits.proofs.Visiting.{visits}
use Rattle.gate_visits.proofs.visitor.Visitor.enter.Goals as goal

pub returns : goal.returns
returns c =
    let old = c.self.inside.seat in
    let new = c.enter.new.seat in
    let own = ap (λ (v : VisitorView). v.gate) c.self.view_is ∙ c.requires.own.0 in
    let came = subst (λ (z : TableId). EntersAs z c.args.key old.knows new.knows c.enter.result) (sym own) c.enter.ensures.answer in
    subst (λ (v : VisitorView). Visits c.args.key v (visitor_of new) c.enter.result) c.self.view_is (visits old new c.args.key c.enter.ensures.same c.enter.ensures.since c.enter.result came)
