use Rattle.std.proofs.Common.{rules, subst, sym, ap, ◌∙◌, ◌≡◌}
use Rattle.front_lock.specs.Histories.{Distinct, In}
use Rattle.front_lock.specs.Keepings.{kept_by}
use Rattle.front_lock.specs.Passes.{names_of}
use Rattle.hall_locked.specs.Locks.{AppendsFor, log_of, things_kept}
use Rattle.hall_locked.specs.Owned.{use_thing, without_use}
use Rattle.platform_sessions.specs.Halls.{View, front_in}
use Rattle.platform_sessions.specs.Works.{things_but}
use Rattle.platform_sessions.proofs.Stretches.{leaves_grown, leaves_others, limits_from, stretch, stretch_keeps, stretch_kept}
use Rattle.platform_sessions.proofs.Turning.{on_err, on_ok}
use Rattle.platform_sessions.proofs.Using.{has_it, released_others, releases_so, use_left_by}
use Rattle.platform_sessions.proofs.hall.Hall.release.Goals as goal

pub leave-back-requires-clause-grown : goal.leave-back-requires-clause-grown
leave-back-requires-clause-grown g c =
    leaves_grown c.enter-inner.result.turn c.owner-owner.result c.enter-inner.result.value c.release-released.new.self c.enter-inner.ensures.turn.1 c.owner-owner.ensures c.release-released.ensures.appended

pub leave-back-requires-clause-others : goal.leave-back-requires-clause-others
leave-back-requires-clause-others g c =
    let p = c.args.pass.now.front in
    let before = c.enter-inner.result.value in
    let after = c.release-released.new.self in
    let own : c.unwrap.result ≡ p = search rules in
    let its_kept = subst (λ (v : View). kept_by (names_of v) (things_kept before) ≡ v.kept) own c.enter-inner.ensures.kept in
    let turn = c.enter-inner.result.turn in
    let has = c.requires.has in
    let it = has_it p before c.args.used has its_kept in
    let here = subst (λ (v : View). In has.owner (names_of v)) (sym (c.enter-inner.ensures.turn.0 ∙ own)) it.1 in
    leaves_others (names_of turn.pass) turn (things_kept before) (things_kept after) c.enter-inner.ensures.turn.2
    (released_others has.owner (names_of turn.pass) here c.args.used.place c.release-released.result before after c.note_kept.ensures.kept it.0 c.release-released.ensures.turns c.release-released.ensures.uses c.release-released.ensures.err)

pub returns-clause-releases : goal.returns-clause-releases
returns-clause-releases g c =
    let p = c.args.pass.now.front in
    let before = c.enter-inner.result.value in
    let after = c.release-released.new.self in
    let own : c.unwrap.result ≡ p = search rules in
    let apart : Distinct (names_of p) = search rules in
    let its = c.enter-inner.ensures.turn in
    let q = front_in c.put.new.pass in
    let s = stretch p q c.unwrap.result c.leave-back.result c.enter-inner.result.turn (log_of before) (log_of after) (things_kept after) own its.0 apart c.enter-inner.ensures.goes_on (ap front_in c.put.ensures) c.leave-back.ensures.seen in
    let its_kept = subst (λ (v : View). kept_by (names_of v) (things_kept before) ≡ v.kept) own c.enter-inner.ensures.kept in
    let owner : c.owner-owner.result ≡ p.number = c.owner-owner.ensures ∙ ap (λ (v : View). v.number) (its.0 ∙ own) in
    let a = subst (λ n. AppendsFor n before after) owner c.release-released.ensures.appended in
    let limits = c.args.self.now.limits in
    let same_limits = limits_from before.core.limits limits (c.enter-inner.ensures.tie ∙ ap (λ (v : View). v.tie) own ∙ c.requires.of.limits) in
    let keeps = on_err c.release-released.result (λ (is : after ≡ before). (stretch_keeps p q (log_of before) (log_of after) (things_kept after) s c.unwrap.result (things_kept before) own (ap things_kept is) c.enter-inner.ensures.kept).1) c.release-released.ensures.err in
    releases_so p q before after (kept_by (names_of p) (things_kept after)) s.apart s.goes s.same c.note_kept.ensures.kept c.note_kept-2.ensures.kept a limits same_limits c.release-released.ensures.limits c.args.used c.requires.has its_kept
    c.release-released.result c.release-released.ensures.released c.release-released.ensures.err keeps

pub returns-clause-left : goal.returns-clause-left
returns-clause-left g c =
    let p = c.args.pass.now.front in
    let own : c.unwrap.result ≡ p = search rules in
    let apart : Distinct (names_of p) = search rules in
    let its = c.enter-inner.ensures.turn in
    let q = front_in c.put.new.pass in
    let before = c.enter-inner.result.value in
    let after = c.release-released.new.self in
    let s = stretch p q c.unwrap.result c.leave-back.result c.enter-inner.result.turn (log_of before) (log_of after) (things_kept after) own its.0 apart c.enter-inner.ensures.goes_on (ap front_in c.put.ensures) c.leave-back.ensures.seen in
    let its_kept = subst (λ (v : View). kept_by (names_of v) (things_kept before) ≡ v.kept) own c.enter-inner.ensures.kept in
    on_ok c.release-released.result
    (λ (left : after.uses ≡ without_use c.args.used.place before.uses). stretch_kept p q (log_of before) (log_of after) (things_kept after) s ∙ use_left_by (names_of p) c.args.used.place before after c.release-released.ensures.turns left ∙ ap (things_but (use_thing c.args.used.place)) its_kept)
    c.release-released.ensures.uses

pub returns-clause-keeps : goal.returns-clause-keeps
returns-clause-keeps g c =
    let p = c.args.pass.now.front in
    let own : c.unwrap.result ≡ p = search rules in
    let apart : Distinct (names_of p) = search rules in
    let its = c.enter-inner.ensures.turn in
    let q = front_in c.put.new.pass in
    let before = c.enter-inner.result.value in
    let after = c.release-released.new.self in
    let s = stretch p q c.unwrap.result c.leave-back.result c.enter-inner.result.turn (log_of before) (log_of after) (things_kept after) own its.0 apart c.enter-inner.ensures.goes_on (ap front_in c.put.ensures) c.leave-back.ensures.seen in
    on_err c.release-released.result (λ (is : after ≡ before). stretch_keeps p q (log_of before) (log_of after) (things_kept after) s c.unwrap.result (things_kept before) own (ap things_kept is) c.enter-inner.ensures.kept) c.release-released.ensures.err
