use Rattle.std.proofs.Common.{◌≡◌, ◌++◌, ◌∷◌, [], List, Option, Some, None, true, ap, sym, ◌∙◌, refl, subst, inl, inr}
use Rattle.std.specs.Arc.{arc_value}
use Rattle.turn_runner.specs.declared.turn.Ran.{Ran}
use Rattle.rule_tests.specs.declared.memory_desk.Ended.{Ended}
use Rattle.rule_tests.specs.Desktops.{Desktop, came_of, object_of}
use Rattle.rule_tests.proofs.Holders.{made_own}
use Rattle.rule_tests.proofs.memory_desk.MemoryDeskDesk.put_back_kept.Goals as goal

pub returns-clause-ok : goal.returns-clause-ok
returns-clause-ok g c =
    let work = c.args.work.now in
    let ran = c.in-Some.field-0 in
    let held = c.keep.new.held.items in
    let inside = c.self.inside in
    let one : Ended = record { number = work.number; outcome = ran.outcome } in
    let kept = ap (λ (d : Desktop g.row.O.Denot). d.kept) (sym c.self.view_is) ∙ sym c.take.ensures.value ∙ c.in-Some.is in
    let left : Option (Ran g.row.O.Denot) → List Ended → Desktop g.row.O.Denot =
    λ k xs. record { turns_to_come = inside.turns_to_come.items; room = inside.room; under_way = None; kept = k; held = held; ended = xs; drain = true } in
    let grew = c.push_reserved.ensures.items ∙ ap (λ xs. xs ++ one ∷ []) c.reserve-2.ensures.items in
    let ends = subst (λ (d : Desktop g.row.O.Denot).
    left c.take.new.self c.push_reserved.new.self.items
    ≡ record { turns_to_come = d.turns_to_come; room = d.room; under_way = None; kept = None; held = held; ended = d.ended ++ one ∷ []; drain = true }) c.self.view_is
    (ap (λ k. left k c.push_reserved.new.self.items) c.take.ensures.after ∙ ap (left None) grew) in (
      record { work = work; ran = ran },
      ap (λ o. came_of o c.args.self.now.kept) c.requires ∙ ap (came_of (Some work)) kept,
      refl,
      refl,
      ends,
      λ n object is.
          elim (c.keep.ensures.own n object is) [
            | inl before ↦ inl (ap (λ (d : Desktop g.row.O.Denot). object_of d.held n) (sym c.self.view_is) ∙ ap (λ xs. object_of xs n) (sym c.reserve.ensures.items) ∙ before)
            | inr made ↦ inr (made_own arc_value work ran.made n object made.0 made.1)
          ],
    )
