use Rattle.std.proofs.Common.{rules, subst, sym, ap, ◌∙◌, ◌≡◌, length}
use Rattle.front_lock.specs.Histories.{Distinct}
use Rattle.front_lock.specs.Keepings.{kept_by}
use Rattle.front_lock.specs.Passes.{names_of}
use Rattle.hall_locked.specs.Locks.{AppendsFor, log_of, things_kept}
use Rattle.platform_sessions.specs.Halls.{View, front_in}
use Rattle.platform_sessions.specs.Commands.{TookCommand}
use Rattle.platform_sessions.proofs.Stretches.{leaves_grown, leaves_others, limits_from, same_kept, same_things, stretch, stretch_keeps}
use Rattle.platform_sessions.proofs.Taking.{answered, took}
use Rattle.platform_sessions.proofs.hall.Hall.take_command.Goals as goal

pub leave-back-requires-clause-grown : goal.leave-back-requires-clause-grown
leave-back-requires-clause-grown g c = leaves_grown c.enter-inner.result.turn c.owner-owner.result c.enter-inner.result.value c.command-answer.new.self c.enter-inner.ensures.turn.1 c.owner-owner.ensures c.command-answer.ensures.appended

pub leave-back-requires-clause-others : goal.leave-back-requires-clause-others
leave-back-requires-clause-others g c =
    let turn = c.enter-inner.result.turn in
    let before = c.enter-inner.result.value in
    let after = c.command-answer.new.self in
    leaves_others (names_of turn.pass) turn (things_kept before) (things_kept after) c.enter-inner.ensures.turn.2
    (same_kept (names_of turn.pass) (things_kept before) (things_kept after) (same_things before after c.command-answer.ensures.turns c.command-answer.ensures.uses))

pub returns-clause-taken : goal.returns-clause-taken
returns-clause-taken g c =
    let p = c.args.pass.now.front in
    let before = c.enter-inner.result.value in
    let after = c.command-answer.new.self in
    let own : c.unwrap.result ≡ p = search rules in
    let apart : Distinct (names_of p) = search rules in
    let turn = c.enter-inner.result.turn in
    let its = c.enter-inner.ensures.turn in
    let q = front_in c.put.new.pass in
    let s = stretch p q c.unwrap.result c.leave-back.result turn (log_of before) (log_of after) (things_kept c.command-answer.new.self) own its.0 apart c.enter-inner.ensures.goes_on (ap front_in c.put.ensures) c.leave-back.ensures.seen in
    let owner : c.owner-owner.result ≡ p.number = c.owner-owner.ensures ∙ ap (λ (v : View). v.number) (its.0 ∙ own) in
    let a = subst (λ n. AppendsFor n before after) owner c.command-answer.ensures.appended in
    let limits = c.args.self.now.limits in
    let same_limits = limits_from before.core.limits limits (c.enter-inner.ensures.tie ∙ ap (λ (v : View). v.tie) own ∙ c.requires.of.limits) in
    let front : c.seen-front.result ≡ length q.seen = search rules in
    subst (TookCommand limits p q c.args.command c.command-answer.result) (sym front)
    (took p q before after (kept_by (names_of p) (things_kept c.command-answer.new.self)) s.apart s.goes s.same c.note_kept.ensures.kept c.note_kept-2.ensures.kept a limits same_limits c.args.command c.command-answer.result
    (answered before after c.args.command c.command-answer.result c.command-answer.ensures.answer c.command-answer.ensures.owed))

pub returns-clause-keeps : goal.returns-clause-keeps
returns-clause-keeps g c =
    let p = c.args.pass.now.front in
    let own : c.unwrap.result ≡ p = search rules in
    let apart : Distinct (names_of p) = search rules in
    let its = c.enter-inner.ensures.turn in
    let q = front_in c.put.new.pass in
    let had = things_kept c.enter-inner.result.value in
    let has = things_kept c.command-answer.new.self in
    let began = log_of c.enter-inner.result.value in
    let log = log_of c.command-answer.new.self in
    let s = stretch p q c.unwrap.result c.leave-back.result c.enter-inner.result.turn began log has own its.0 apart c.enter-inner.ensures.goes_on (ap front_in c.put.ensures) c.leave-back.ensures.seen in
    stretch_keeps p q began log has s c.unwrap.result had own (same_things c.enter-inner.result.value c.command-answer.new.self c.command-answer.ensures.turns c.command-answer.ensures.uses) c.enter-inner.ensures.kept
