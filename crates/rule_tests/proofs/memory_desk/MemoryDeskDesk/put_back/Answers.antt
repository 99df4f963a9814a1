use Rattle.std.proofs.Common.{ap, sym, ◌∙◌, inl, inr}
use Rattle.std.specs.Arc.{arc_value}
use Rattle.rule_tests.specs.Desktops.{Desktop, object_of}
use Rattle.rule_tests.proofs.Holders.{made_own}
use Rattle.rule_tests.proofs.memory_desk.MemoryDeskDesk.put_back.Goals as goal

pub returns-clause-own : goal.returns-clause-own
returns-clause-own g c = λ n object is.
    elim (c.keep.ensures.own n object is) [
      | inl before ↦ inl (ap (λ (d : Desktop g.row.O.Denot). object_of d.held n) (sym c.self.view_is) ∙ ap (λ xs. object_of xs n) (sym c.reserve.ensures.items) ∙ before)
      | inr made ↦ inr (made_own arc_value c.args.work c.args.ran.made n object made.0 made.1)
    ]
