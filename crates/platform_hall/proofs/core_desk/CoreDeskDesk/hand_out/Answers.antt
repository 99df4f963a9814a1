use Rattle.std.proofs.Common.{◌≡◌, ◌++◌, Some, ap, sym, ◌∙◌, refl, subst}
use Rattle.std.specs.Arc.{arc_value}
use Rattle.std.specs.Prelude.{MatchOption, is_some}
use Rattle.platform_hall.specs.Desks.{DeskView, heard_of, is_holder, object_of}
use Rattle.platform_hall.specs.Platforms.{has_object, running}
use Rattle.platform_hall.proofs.core_desk.CoreDeskDesk.hand_out.Goals as goal

pub returns-clause-step : goal.returns-clause-step
returns-clause-step g c =
    let n = c.args.work.now.number in
    let told = c.self.inside.told.items in
    let runs = ap (λ (d : DeskView g.row.O.Denot). running d.core n) c.self.view_is ∙ c.requires in
    subst (λ (d : DeskView g.row.O.Denot). (c.self.inside.core ≡ d.core) × (c.self.inside.held.items ≡ d.held) × (c.note_heard.new.told.items ≡ d.told ++ heard_of (running d.core n)) × (c.reserve-2.new.self.items ≡ d.kept)) c.self.view_is
    (refl, refl, c.note_heard.ensures ∙ ap (λ xs. xs ++ heard_of (Some c.args.work.now)) c.reserve.ensures.items ∙ ap (λ o. told ++ heard_of o) (sym runs), c.reserve-2.ensures.items)

pub returns-clause-has : goal.returns-clause-has
returns-clause-has g c =
    subst (λ (d : DeskView g.row.O.Denot). is_some c.in_ok-object.object ≡ has_object d.core c.args.work.now.instance) c.self.view_is
    (c.in_ok-object.ensures.has ∙ ap (λ xs. is_holder xs c.args.work.now.instance) c.as_slice.ensures.value ∙ c.self.invariant.0.objects c.args.work.now.instance)

pub returns-clause-own : goal.returns-clause-own
returns-clause-own g c =
    subst (λ (d : DeskView g.row.O.Denot). MatchOption c.in_ok-object.object (Unit {0}) (λ o. object_of d.held c.args.work.now.instance ≡ Some (arc_value o))) c.self.view_is
    (subst (λ xs. MatchOption c.in_ok-object.object (Unit {0}) (λ o. object_of xs c.args.work.now.instance ≡ Some (arc_value o))) c.as_slice.ensures.value c.in_ok-object.ensures.own)

pub returns-clause-objects : goal.returns-clause-objects
returns-clause-objects g c = λ n object is. ap (λ (d : DeskView g.row.O.Denot). object_of d.held n) (sym c.self.view_is) ∙ is
