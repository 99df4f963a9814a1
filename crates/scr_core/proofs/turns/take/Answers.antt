use Rattle.std.proofs.Common.{◌≡◌, None, refl, subst, sym}
use Rattle.scr_core.proofs.FarJournals.{far_taken, legal_numbered}
use Rattle.scr_core.proofs.Taking.{none_due}
use Rattle.scr_core.specs.Turns.{TakesTurn}
use Rattle.scr_dues.specs.Beginnings.{HasNextNumbers}
use Rattle.scr_dues.specs.Makings.{AreNumbered}
use Rattle.scr_laws.proofs.NextNumbers.{next_instance, next_turn}
use Rattle.scr_world.specs.Dues.{next_begin}
use Rattle.scr_world.specs.Steps.{history_of}
use Rattle.scr_world.specs.declared.world.World.{World}
use Rattle.scr_core.proofs.turns.take.Goals as goal

pub next_begin_from-requires-clause-numbered : goal.next_begin_from-requires-clause-numbered
next_begin_from-requires-clause-numbered c =
    subst (λ (w : World). AreNumbered w) (sym c.requires.keeps.state.world) (legal_numbered c.args.journal.now.limit (history_of c.args.journal.now.entries) c.requires.keeps.state.legal)

pub next_begin_from-requires-clause-next : goal.next_begin_from-requires-clause-next
next_begin_from-requires-clause-next c =
    let j = c.args.journal.now in
    let keeps = c.requires.keeps.state in
    subst (λ (w : World). HasNextNumbers w) (sym keeps.world)
    (record {
      turns = next_turn j.limit (history_of j.entries) keeps.legal keeps.small;
      instances = next_instance j.limit (history_of j.entries) keeps.legal keeps.small;
    })

pub returns-in-Some-clause-far : goal.returns-in-Some-clause-far
returns-in-Some-clause-far c =
    far_taken c.args.journal.now c.begin.new.journal c.args.state.now c.begin.new.state c.requires.keeps.state c.begin.ensures.keeps.state c.next_begin_from.new.making c.in_ok-step.ensures.far c.begin.result
    (subst (λ l. TakesTurn l c.args.journal.now.entries c.begin.result c.begin.new.journal.entries) (sym c.requires.keeps.its_limit) c.begin.ensures.answer)

pub returns-in-None-clause-answer : goal.returns-in-None-clause-answer
returns-in-None-clause-answer c =
    let none : next_begin c.args.state.now.world ≡ None = sym (rw c.in-None.is at c.in_ok-step.ensures.next) in
    (none_due c.args.journal.now c.args.state.now c.requires.keeps.state none, refl)
