use Rattle.std.proofs.Common.{ℕ, List, rules, subst, sym, ap, ◌∙◌, ◌≡◌, refl, inl}
use Rattle.front_lock.specs.Histories.{Distinct}
use Rattle.front_lock.specs.Keepings.{kept_by}
use Rattle.front_lock.specs.Passes.{names_of}
use Rattle.hall_locked.specs.Locks.{AppendsFor, log_of, things_kept}
use Rattle.hall_locked.specs.Parts.{with_begun}
use Rattle.platform_sessions.specs.Halls.{View, front_in}
use Rattle.platform_sessions.specs.Works.{IsOneMore, begun_of}
use Rattle.platform_sessions.proofs.Mine.{begun_one, begun_others}
use Rattle.platform_sessions.proofs.Stretches.{leaves_grown, leaves_others, limits_from, stretch, stretch_kept}
use Rattle.platform_sessions.proofs.Things.{more_by}
use Rattle.platform_sessions.proofs.Turning.{begins_one}
use Rattle.platform_sessions.proofs.hall.Hall.begin_turn.Goals as goal

pub leave-back-requires-clause-grown : goal.leave-back-requires-clause-grown
leave-back-requires-clause-grown g c =
    leaves_grown c.enter-inner.result.turn c.owner-owner.result c.enter-inner.result.value c.begin_in-begun.new.value c.enter-inner.ensures.turn.1 c.owner-owner.ensures c.begin_in-begun.ensures.appended

pub leave-back-requires-clause-others : goal.leave-back-requires-clause-others
leave-back-requires-clause-others g c =
    let turn = c.enter-inner.result.turn in
    let before = c.enter-inner.result.value in
    leaves_others (names_of turn.pass) turn (things_kept before) (things_kept c.begin_in-begun.new.value) c.enter-inner.ensures.turn.2
    (begun_others turn.pass.number (names_of turn.pass) (inl refl) (begun_of c.begin_in-begun.result) before c.begin_in-begun.new.value (subst (λ n. c.begin_in-begun.new.value.turns ≡ with_begun n (begun_of c.begin_in-begun.result) before.turns) c.owner-owner.ensures c.begin_in-begun.ensures.turns) c.begin_in-begun.ensures.uses)

pub returns-clause-begins : goal.returns-clause-begins
returns-clause-begins g c =
    let p = c.args.pass.now.front in
    let own : c.unwrap.result ≡ p = search rules in
    let apart : Distinct (names_of p) = search rules in
    let its = c.enter-inner.ensures.turn in
    let q = front_in c.put.new.pass in
    let before = c.enter-inner.result.value in
    let after = c.begin_in-begun.new.value in
    let s = stretch p q c.unwrap.result c.leave-back.result c.enter-inner.result.turn (log_of before) (log_of after) (things_kept after) own its.0 apart c.enter-inner.ensures.goes_on (ap front_in c.put.ensures) c.leave-back.ensures.seen in
    let its_kept = subst (λ (v : View). kept_by (names_of v) (things_kept before) ≡ v.kept) own c.enter-inner.ensures.kept in
    let owner : c.owner-owner.result ≡ p.number = c.owner-owner.ensures ∙ ap (λ (v : View). v.number) (its.0 ∙ own) in
    let a = subst (λ n. AppendsFor n before after) owner c.begin_in-begun.ensures.appended in
    let limits = c.args.self.now.limits in
    let same_limits = limits_from before.core.limits limits (c.enter-inner.ensures.tie ∙ ap (λ (v : View). v.tie) own ∙ c.requires.of.limits) in
    let turned = subst (λ n. after.turns ≡ with_begun n (begun_of c.begin_in-begun.result) before.turns) owner c.begin_in-begun.ensures.turns in
    begins_one p q before after (kept_by (names_of p) (things_kept after)) s.apart s.goes s.same c.note_kept.ensures.kept c.note_kept-2.ensures.kept a limits same_limits c.begin_in-begun.ensures.limits refl c.begin_in-begun.result c.begin_in-begun.ensures.answer turned c.begin_in-begun.ensures.out c.begin_in-begun.ensures.refused

pub returns-clause-more : goal.returns-clause-more
returns-clause-more g c =
    let p = c.args.pass.now.front in
    let own : c.unwrap.result ≡ p = search rules in
    let apart : Distinct (names_of p) = search rules in
    let its = c.enter-inner.ensures.turn in
    let q = front_in c.put.new.pass in
    let before = c.enter-inner.result.value in
    let after = c.begin_in-begun.new.value in
    let s = stretch p q c.unwrap.result c.leave-back.result c.enter-inner.result.turn (log_of before) (log_of after) (things_kept after) own its.0 apart c.enter-inner.ensures.goes_on (ap front_in c.put.ensures) c.leave-back.ensures.seen in
    let its_kept = subst (λ (v : View). kept_by (names_of v) (things_kept before) ≡ v.kept) own c.enter-inner.ensures.kept in
    let more = more_by (names_of p) (begun_of c.begin_in-begun.result) (things_kept before) (things_kept after) (begun_one c.owner-owner.result (begun_of c.begin_in-begun.result) before after c.note_kept-2.ensures.kept c.begin_in-begun.ensures.turns c.begin_in-begun.ensures.uses) in
    subst (λ (xs : List (ℕ × ℕ)). IsOneMore (begun_of c.begin_in-begun.result) xs q.kept) its_kept
    (subst (λ (xs : List (ℕ × ℕ)). IsOneMore (begun_of c.begin_in-begun.result) (kept_by (names_of p) (things_kept before)) xs) (sym (stretch_kept p q (log_of before) (log_of after) (things_kept after) s)) more)
