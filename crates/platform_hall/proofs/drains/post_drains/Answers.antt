use Rattle.std.proofs.Common.{suc, refl, sym, ◌∙◌, subst}
use Rattle.scr_world.specs.declared.command.Limits.{Limits}
use Rattle.scr_world.specs.Calls.{Drains}
use Rattle.platform_hall.specs.Platforms.{world}
use Rattle.platform_hall.proofs.Draining.{next_awaits, none_awaits, room_falls}
use Rattle.platform_hall.proofs.drains.post_drains.Goals as goal

pub loop-key-init : goal.loop-key-init
loop-key-init c = (refl, 0, refl)

pub loop-key-preserved : goal.loop-key-preserved
loop-key-preserved c =
    let posted = c.loop-key.invariant in
    let drains = subst (λ (l : Limits). Drains l.journal c.loop-key.core.journal c.in-Some.key c.drained.new.self.journal) posted.0 c.in_ok-drained.ensures.ok in
    (c.in_ok-drained.ensures.limits ∙ posted.0, suc posted.1, (c.loop-key.core.journal, c.in-Some.key, sym c.next_drain.ensures ∙ c.in-Some.is, posted.2, drains))

pub loop-key-smaller : goal.loop-key-smaller
loop-key-smaller c = room_falls c.loop-key.core c.drained.new.self c.in-Some.key c.in_ok-drained.ensures.limits c.in_ok-drained.ensures.ok

pub drained-requires : goal.drained-requires
drained-requires c = next_awaits (world c.loop-key.core) c.in-Some.key (sym c.next_drain.ensures ∙ c.in-Some.is)

pub returns-clause-ok : goal.returns-clause-ok
returns-clause-ok c = none_awaits (world c.loop-key.core) (sym c.next_drain.ensures ∙ c.in_default.is)
