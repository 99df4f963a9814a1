use Rattle.std.proofs.Common.{subst, sym}
use Rattle.instance_callbacks.specs.Courses.{IsCourseOf}
use Rattle.instance_callbacks.proofs.KeptLemmas.{kept_begun}
use Rattle.instance_callbacks.proofs.instance_callbacks.InstanceCallbacks.begin.Goals as goal

pub invariant_of-self-2 : goal.invariant_of-self-2
invariant_of-self-2 c =
    kept_begun _ c.add_copy.new.calls c.args.callback c.course-course.result c.self.inside.held c.in_ok-held.held c.self.invariant.held c.in_ok-add_copy.ensures.ok
    (subst (λ calls. IsCourseOf calls c.course-course.result) (sym c.self.view_is) c.course-course.ensures) c.in_ok-held.ensures
