use Rattle.std.proofs.Common.{refl, subst, Ok, Err, None}
use Rattle.scr_world.specs.declared.reply.CoreFault.TheVariants.{JournalFull, OutOfMemory}
use Rattle.scr_requests.specs.Cores.{CoreView}
use Rattle.platform_hall.specs.Platforms.{Begins, BeginsTurn}
use Rattle.platform_hall.proofs.Answered.{taken_answered}
use Rattle.platform_hall.proofs.Seen.{core_same}
use Rattle.platform_hall.proofs.platform.Platform.begin.Goals as goal
use Rattle.platform_hall.proofs.platform.Platform.begin.Goals.{in-Ok-Some, in-Ok-None, in-Err-JournalFull, in-Err-OutOfMemory}

pub returns : goal.returns
returns g c = elim c.match-take.branch [
  | in-Ok-Some w ↦ rw w.result-is (
      let step = rw w.in-Ok-Some.field-0-is at w.in-Ok-Some.ensures.step in
      let runs = rw w.in-Ok-Some.field-0-is at w.in-Ok-Some.ensures.running in
      (w.in-Ok-Some.work, refl, subst (λ (p : CoreView). Begins p w.in-Ok-Some.work c.take.new.self.core) c.self.view_is step.2.0, runs))
  | in-Ok-None w ↦ rw w.result-is (
      let idle = rw w.in-Ok-None.field-0-is at w.in-Ok-None.ensures.step in
      subst (λ (p : CoreView). BeginsTurn p (Ok None) c.take.new.self.core) c.self.view_is (idle.0, core_same idle.1))
  | in-Err-JournalFull w ↦ rw w.result-is (
      let full = rw w.in-Err-JournalFull.field-0-is at w.in-Err-JournalFull.ensures.step in
      subst (λ (p : CoreView). BeginsTurn p (Err JournalFull) c.take.new.self.core) c.self.view_is (full.0, full.1, core_same full.2))
  | in-Err-OutOfMemory w ↦ rw w.result-is (
      subst (λ (p : CoreView). BeginsTurn p (Err OutOfMemory) c.take.new.self.core) c.self.view_is (core_same (rw w.in-Err-OutOfMemory.field-0-is at w.in-Err-OutOfMemory.ensures.step)))
]

pub invariant_of-self : goal.invariant_of-self
invariant_of-self g c =
    (tt, taken_answered g.K.Kinds.made g.K.Kinds.hears g.K.Kinds.refuses c.self.inside.desk c.take.new.self c.take.result c.take.ensures.step c.self.invariant.1)
