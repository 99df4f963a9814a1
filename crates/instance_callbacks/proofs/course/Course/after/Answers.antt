use Rattle.std.proofs.Common.{rules}
use Rattle.instance_callbacks.proofs.CourseLemmas.{course_after}
use Rattle.instance_callbacks.proofs.course.Course.after.Goals as goal
use Rattle.instance_callbacks.proofs.course.Course.after.Goals.{then-self, else-self, then-self-2, else-self-2, then-self-3, else-self-3}

pub returns : goal.returns
returns c =
    λ calls before. course_after calls c.args.called.now c.args.self _ before c.phase_by.ensures
    (elim c.if-self.branch [ then-self w ↦ search rules | else-self w ↦ search rules ])
    (elim c.if-self-2.branch [ then-self-2 w ↦ search rules | else-self-2 w ↦ search rules ])
    (elim c.if-self-3.branch [ then-self-3 w ↦ search rules | else-self-3 w ↦ search rules ])
