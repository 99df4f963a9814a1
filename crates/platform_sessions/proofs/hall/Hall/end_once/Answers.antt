use Rattle.std.proofs.Common.{ℕ, List, map, rules, subst, sym, ap, ◌∙◌, ◌≡◌, inl}
use Rattle.front_lock.specs.Histories.{Distinct, Extends}
use Rattle.front_lock.specs.Keepings.{kept_by}
use Rattle.front_lock.specs.Passes.{names_of}
use Rattle.hall_locked.specs.Locks.{AppendsFor, log_of, things_kept, turns_kept, uses_kept}
use Rattle.hall_locked.specs.Owned.{as_use, turn_thing, without_turn}
use Rattle.platform_sessions.specs.Halls.{View, front_in}
use Rattle.platform_sessions.specs.Works.{things_but}
use Rattle.platform_sessions.proofs.Mine.{mine_only}
use Rattle.platform_sessions.proofs.Stretches.{leaves_grown, leaves_others, limits_from, same_kept, stretch, stretch_keeps, stretch_kept}
use Rattle.platform_sessions.proofs.Things.{keeps_beside}
use Rattle.platform_sessions.proofs.Turning.{back_fits, ended_is, left_by, looks_one, on_err, on_ok, owed_one, still_begun, still_run, still_runs}
use Rattle.platform_sessions.proofs.hall.Hall.end_once.Goals as goal

pub done-done-requires : goal.done-done-requires
done-done-requires g c =
    let p = c.args.pass.now.front in
    let before = c.enter-inner.result.value in
    let own : c.unwrap.result ≡ p = search rules in
    let goes = subst (λ (v : View). Extends (names_of v) v.seen (log_of before)) own c.enter-inner.ensures.goes_on in
    let its_kept = subst (λ (v : View). kept_by (names_of v) (things_kept before) ≡ v.kept) own c.enter-inner.ensures.kept in
    record { run = still_run p before c.args.turn c.requires.mine its_kept goes c.note_kept.ensures.kept c.note_kept.ensures.legal c.args.self.now.limits g.K.Kinds.refuses c.args.ran c.requires.fits }

pub leave-back-requires-clause-grown : goal.leave-back-requires-clause-grown
leave-back-requires-clause-grown g c =
    leaves_grown c.enter-inner.result.turn c.owner-owner.result c.enter-inner.result.value c.done-done.new.self c.enter-inner.ensures.turn.1 c.owner-owner.ensures c.done-done.ensures.appended

pub leave-back-requires-clause-others : goal.leave-back-requires-clause-others
leave-back-requires-clause-others g c =
    let p = c.args.pass.now.front in
    let before = c.enter-inner.result.value in
    let own : c.unwrap.result ≡ p = search rules in
    let its_kept = subst (λ (v : View). kept_by (names_of v) (things_kept before) ≡ v.kept) own c.enter-inner.ensures.kept in
    let turn = c.enter-inner.result.turn in
    let same = ap (λ (v : View). v.number) (c.enter-inner.ensures.turn.0 ∙ own) in
    let begun = still_begun p before c.args.turn c.requires.mine its_kept in
    leaves_others (names_of turn.pass) turn (things_kept before) (things_kept c.done-done.new.self) c.enter-inner.ensures.turn.2
    (keeps_beside (names_of turn.pass) (turns_kept before) (turns_kept c.done-done.new.self) (uses_kept before) (uses_kept c.done-done.new.self)
    (λ n no. c.done-done.ensures.others n (mine_only before c.note_kept.ensures.kept p.number c.args.turn begun n (λ e. no (inl (e ∙ sym same)))))
    (same_kept (names_of turn.pass) (uses_kept before) (uses_kept c.done-done.new.self) (ap (λ (us : List (ℕ × ℕ)). map as_use us) c.done-done.ensures.uses)))

pub returns-clause-ended : goal.returns-clause-ended
returns-clause-ended g c =
    let p = c.args.pass.now.front in
    let own : c.unwrap.result ≡ p = search rules in
    let apart : Distinct (names_of p) = search rules in
    let its = c.enter-inner.ensures.turn in
    let q = front_in c.put.new.pass in
    let before = c.enter-inner.result.value in
    let after = c.done-done.new.self in
    let s = stretch p q c.unwrap.result c.leave-back.result c.enter-inner.result.turn (log_of before) (log_of after) (things_kept after) own its.0 apart c.enter-inner.ensures.goes_on (ap front_in c.put.ensures) c.leave-back.ensures.seen in
    let its_kept = subst (λ (v : View). kept_by (names_of v) (things_kept before) ≡ v.kept) own c.enter-inner.ensures.kept in
    let owner : c.owner-owner.result ≡ p.number = c.owner-owner.ensures ∙ ap (λ (v : View). v.number) (its.0 ∙ own) in
    let a = subst (λ n. AppendsFor n before after) owner c.done-done.ensures.appended in
    let limits = c.args.self.now.limits in
    let same_limits = limits_from before.core.limits limits (c.enter-inner.ensures.tie ∙ ap (λ (v : View). v.tie) own ∙ c.requires.of.limits) in
    let goes = subst (λ (v : View). Extends (names_of v) v.seen (log_of before)) own c.enter-inner.ensures.goes_on in
    let fits = c.requires.fits in
    let runs = still_runs p before c.args.turn c.requires.mine its_kept goes c.note_kept.ensures.kept c.note_kept.ensures.legal limits fits.0 fits.1 in
    on_ok c.done-done.result (ended_is p q before after (kept_by (names_of p) (things_kept after)) s.apart s.goes s.same c.note_kept.ensures.kept c.note_kept-2.ensures.kept a limits same_limits c.done-done.ensures.limits g.K.Kinds.refuses c.args.turn fits.0 runs c.args.ran.outcome fits.2) c.done-done.ensures.ended

pub returns-clause-owed : goal.returns-clause-owed
returns-clause-owed g c =
    let p = c.args.pass.now.front in
    let own : c.unwrap.result ≡ p = search rules in
    let apart : Distinct (names_of p) = search rules in
    let its = c.enter-inner.ensures.turn in
    let q = front_in c.put.new.pass in
    let before = c.enter-inner.result.value in
    let after = c.done-done.new.self in
    let s = stretch p q c.unwrap.result c.leave-back.result c.enter-inner.result.turn (log_of before) (log_of after) (things_kept after) own its.0 apart c.enter-inner.ensures.goes_on (ap front_in c.put.ensures) c.leave-back.ensures.seen in
    let its_kept = subst (λ (v : View). kept_by (names_of v) (things_kept before) ≡ v.kept) own c.enter-inner.ensures.kept in
    let owner : c.owner-owner.result ≡ p.number = c.owner-owner.ensures ∙ ap (λ (v : View). v.number) (its.0 ∙ own) in
    let a = subst (λ n. AppendsFor n before after) owner c.done-done.ensures.appended in
    let limits = c.args.self.now.limits in
    let same_limits = limits_from before.core.limits limits (c.enter-inner.ensures.tie ∙ ap (λ (v : View). v.tie) own ∙ c.requires.of.limits) in
    owed_one p q before after (kept_by (names_of p) (things_kept after)) s.apart s.goes s.same c.note_kept.ensures.kept c.note_kept-2.ensures.kept a limits same_limits c.done-done.ensures.limits c.done-done.result c.done-done.ensures.owed

pub returns-clause-same : goal.returns-clause-same
returns-clause-same g c =
    let p = c.args.pass.now.front in
    let own : c.unwrap.result ≡ p = search rules in
    let apart : Distinct (names_of p) = search rules in
    let its = c.enter-inner.ensures.turn in
    let q = front_in c.put.new.pass in
    let before = c.enter-inner.result.value in
    let after = c.done-done.new.self in
    let s = stretch p q c.unwrap.result c.leave-back.result c.enter-inner.result.turn (log_of before) (log_of after) (things_kept after) own its.0 apart c.enter-inner.ensures.goes_on (ap front_in c.put.ensures) c.leave-back.ensures.seen in
    let its_kept = subst (λ (v : View). kept_by (names_of v) (things_kept before) ≡ v.kept) own c.enter-inner.ensures.kept in
    let owner : c.owner-owner.result ≡ p.number = c.owner-owner.ensures ∙ ap (λ (v : View). v.number) (its.0 ∙ own) in
    let a = subst (λ n. AppendsFor n before after) owner c.done-done.ensures.appended in
    let limits = c.args.self.now.limits in
    let same_limits = limits_from before.core.limits limits (c.enter-inner.ensures.tie ∙ ap (λ (v : View). v.tie) own ∙ c.requires.of.limits) in
    looks_one p q before after (kept_by (names_of p) (things_kept after)) s.apart s.goes s.same c.note_kept.ensures.kept c.note_kept-2.ensures.kept a limits same_limits c.done-done.ensures.limits c.done-done.result c.done-done.ensures.err

pub returns-clause-back : goal.returns-clause-back
returns-clause-back g c =
    let p = c.args.pass.now.front in
    let own : c.unwrap.result ≡ p = search rules in
    let apart : Distinct (names_of p) = search rules in
    let its = c.enter-inner.ensures.turn in
    let q = front_in c.put.new.pass in
    let before = c.enter-inner.result.value in
    let after = c.done-done.new.self in
    let s = stretch p q c.unwrap.result c.leave-back.result c.enter-inner.result.turn (log_of before) (log_of after) (things_kept after) own its.0 apart c.enter-inner.ensures.goes_on (ap front_in c.put.ensures) c.leave-back.ensures.seen in
    let its_kept = subst (λ (v : View). kept_by (names_of v) (things_kept before) ≡ v.kept) own c.enter-inner.ensures.kept in
    let owner : c.owner-owner.result ≡ p.number = c.owner-owner.ensures ∙ ap (λ (v : View). v.number) (its.0 ∙ own) in
    let a = subst (λ n. AppendsFor n before after) owner c.done-done.ensures.appended in
    let limits = c.args.self.now.limits in
    let same_limits = limits_from before.core.limits limits (c.enter-inner.ensures.tie ∙ ap (λ (v : View). v.tie) own ∙ c.requires.of.limits) in
    let goes = subst (λ (v : View). Extends (names_of v) v.seen (log_of before)) own c.enter-inner.ensures.goes_on in
    let fits = c.requires.fits in
    let runs = still_runs p before c.args.turn c.requires.mine its_kept goes c.note_kept.ensures.kept c.note_kept.ensures.legal limits fits.0 fits.1 in
    back_fits p q before after (kept_by (names_of p) (things_kept after)) s.apart s.goes s.same c.note_kept.ensures.kept c.note_kept-2.ensures.kept a limits same_limits c.done-done.ensures.limits g.K.Kinds.refuses c.args.turn fits.0 runs c.args.ran c.done-done.result fits.2 fits.3 c.done-done.ensures.back c.done-done.ensures.err

pub returns-clause-keeps : goal.returns-clause-keeps
returns-clause-keeps g c =
    let p = c.args.pass.now.front in
    let own : c.unwrap.result ≡ p = search rules in
    let apart : Distinct (names_of p) = search rules in
    let its = c.enter-inner.ensures.turn in
    let q = front_in c.put.new.pass in
    let before = c.enter-inner.result.value in
    let after = c.done-done.new.self in
    let s = stretch p q c.unwrap.result c.leave-back.result c.enter-inner.result.turn (log_of before) (log_of after) (things_kept after) own its.0 apart c.enter-inner.ensures.goes_on (ap front_in c.put.ensures) c.leave-back.ensures.seen in
    let its_kept = subst (λ (v : View). kept_by (names_of v) (things_kept before) ≡ v.kept) own c.enter-inner.ensures.kept in
    on_err c.done-done.result (λ (is : after ≡ before). stretch_keeps p q (log_of before) (log_of after) (things_kept after) s c.unwrap.result (things_kept before) own (ap things_kept is) c.enter-inner.ensures.kept) c.done-done.ensures.err

pub returns-clause-left : goal.returns-clause-left
returns-clause-left g c =
    let p = c.args.pass.now.front in
    let own : c.unwrap.result ≡ p = search rules in
    let apart : Distinct (names_of p) = search rules in
    let its = c.enter-inner.ensures.turn in
    let q = front_in c.put.new.pass in
    let before = c.enter-inner.result.value in
    let after = c.done-done.new.self in
    let s = stretch p q c.unwrap.result c.leave-back.result c.enter-inner.result.turn (log_of before) (log_of after) (things_kept after) own its.0 apart c.enter-inner.ensures.goes_on (ap front_in c.put.ensures) c.leave-back.ensures.seen in
    let its_kept = subst (λ (v : View). kept_by (names_of v) (things_kept before) ≡ v.kept) own c.enter-inner.ensures.kept in
    on_ok c.done-done.result
    (λ (left : after.turns ≡ without_turn c.args.turn before.turns). stretch_kept p q (log_of before) (log_of after) (things_kept after) s ∙ left_by (names_of p) c.args.turn before after left c.done-done.ensures.uses ∙ ap (things_but (turn_thing c.args.turn)) its_kept)
    c.done-done.ensures.turns
