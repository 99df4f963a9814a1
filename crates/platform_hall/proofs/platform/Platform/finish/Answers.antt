use Rattle.std.proofs.Common.{◌≡◌, ℕ, sym, ◌∙◌, subst, Ok, Err, Some}
use Rattle.scr_requests.specs.Cores.{CoreView}
use Rattle.platform_hall.specs.declared.finish_fault.FinishFault.TheVariants.{OutOfMemory}
use Rattle.platform_hall.specs.Desks.{FinishesHeard}
use Rattle.platform_hall.specs.Platforms.{FinishesTurn, running}
use Rattle.platform_hall.proofs.Answered.{finished_answered}
use Rattle.platform_hall.proofs.Finishing.{finished_err, finished_heard, finished_ok}
use Rattle.platform_hall.proofs.platform.Platform.finish.Goals as goal
use Rattle.platform_hall.proofs.platform.Platform.finish.Goals.{in-Ok, in-Err}

pub returns-clause-finishes : goal.returns-clause-finishes
returns-clause-finishes g c =
    let desk = c.self.inside.desk in
    let left = c.finish.new.desk in
    let work = c.in-Some.work in
    let runs = sym c.in_ok-work.ensures.work ∙ c.in-Some.is in
    let number = c.work.ensures.number work runs in
    let its = subst (λ n. running desk.core n ≡ Some work) (sym number) runs in
    elim c.match-finish.branch [
      | in-Ok w ↦ rw w.result-is (
          let P : CoreView → Type 0 = λ p. FinishesTurn g.K.Kinds.refuses p c.args.turn (Ok w.in-Ok.outcome) left.core in
          let Q : ℕ → Type 0 = λ n. FinishesTurn g.K.Kinds.refuses desk.core n (Ok w.in-Ok.outcome) left.core in
          subst P c.self.view_is (subst Q number (finished_ok g.K.Kinds.made g.K.Kinds.hears g.K.Kinds.refuses desk left work its c.self.invariant.1 w.in-Ok.outcome w.in-Ok.ensures)))
      | in-Err w ↦ rw w.result-is (
          let P : CoreView → Type 0 = λ p. FinishesTurn g.K.Kinds.refuses p c.args.turn (Err OutOfMemory) left.core in
          let Q : ℕ → Type 0 = λ n. FinishesTurn g.K.Kinds.refuses desk.core n (Err OutOfMemory) left.core in
          subst P c.self.view_is (subst Q number (finished_err g.K.Kinds.made g.K.Kinds.hears g.K.Kinds.refuses desk left work its c.self.invariant.1 w.in-Err.field-0 w.in-Err.ensures)))
    ]

pub returns-clause-heard : goal.returns-clause-heard
returns-clause-heard g c =
    let desk = c.self.inside.desk in
    let left = c.finish.new.desk in
    let work = c.in-Some.work in
    let runs = sym c.in_ok-work.ensures.work ∙ c.in-Some.is in
    let number = c.work.ensures.number work runs in
    let its = subst (λ n. running desk.core n ≡ Some work) (sym number) runs in
    elim c.match-finish.branch [
      | in-Ok w ↦ rw w.result-is (
          let P : CoreView → Type 0 = λ p. FinishesHeard g.K.Kinds.made g.K.Kinds.hears g.K.Kinds.refuses p c.args.turn w.in-Ok.outcome left.core in
          let Q : ℕ → Type 0 = λ n. FinishesHeard g.K.Kinds.made g.K.Kinds.hears g.K.Kinds.refuses desk.core n w.in-Ok.outcome left.core in
          subst P c.self.view_is (subst Q number (finished_heard g.K.Kinds.made g.K.Kinds.hears g.K.Kinds.refuses desk left work its c.self.invariant.1 w.in-Ok.outcome w.in-Ok.ensures)))
      | in-Err w ↦ rw w.result-is tt
    ]

pub invariant_of-self : goal.invariant_of-self
invariant_of-self g c = (tt, c.self.invariant.1)

pub invariant_of-self-2 : goal.invariant_of-self-2
invariant_of-self-2 g c =
    (tt, finished_answered g.K.Kinds.made g.K.Kinds.hears g.K.Kinds.refuses c.self.inside.desk c.finish.new.desk c.in-Some.work c.finish.result c.finish.ensures c.self.invariant.1)
