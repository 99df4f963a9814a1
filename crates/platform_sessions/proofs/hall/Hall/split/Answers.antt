use Rattle.std.proofs.Common.{◌<◌, subst, sym}
use Rattle.front_lock.specs.Histories.{In, Owners}
use Rattle.front_lock.specs.Passes.{names_of}
use Rattle.platform_sessions.specs.Halls.{View}
use Rattle.platform_sessions.proofs.hall.Hall.split.Goals as goal

pub returns-in-Ok-clause-fresh : goal.returns-in-Ok-clause-fresh
returns-in-Ok-clause-fresh g c =
    subst (λ (v : View). Owners (λ n. n < v.number) c.args.pass.front.seen) (sym c.of-in-Ok.ensures.front)
    (subst (λ (v : View). Owners (λ n. n < c.in-Ok.second.number) v.seen) c.into_front.ensures.front c.in-Ok.ensures.new)

pub returns-in-Ok-clause-later : goal.returns-in-Ok-clause-later
returns-in-Ok-clause-later g c = λ n h.
    subst (λ (v : View). n < v.number) (sym c.of-in-Ok.ensures.front) (c.in-Ok.ensures.later n (subst (λ (v : View). In n (names_of v)) (sym c.into_front.ensures.front) h))
