use Rattle.std.proofs.Common.{ℕ, ◌++◌, ◌∷◌, [], rules, subst, ap, ◌∙◌, ◌≡◌, inl, refl}
use Rattle.std.specs.Prelude.{IfOk}
use Rattle.front_lock.specs.Histories.{Distinct}
use Rattle.front_lock.specs.Keepings.{kept_by}
use Rattle.front_lock.specs.Passes.{names_of}
use Rattle.hall_locked.specs.Locks.{AppendsFor, log_of, things_kept}
use Rattle.platform_sessions.specs.Halls.{View, front_in}
use Rattle.platform_sessions.proofs.Stretches.{leaves_grown, leaves_others, limits_from, stretch, stretch_keeps}
use Rattle.platform_sessions.proofs.Turning.{on_err}
use Rattle.platform_sessions.proofs.Using.{got_others, gets_so}
use Rattle.scr_world.specs.declared.marks.Token.{Token}
use Rattle.platform_sessions.proofs.hall.Hall.get.Goals as goal

pub leave-back-requires-clause-grown : goal.leave-back-requires-clause-grown
leave-back-requires-clause-grown g c = leaves_grown c.enter-inner.result.turn c.owner-owner.result c.enter-inner.result.value c.get-got.new.self c.enter-inner.ensures.turn.1 c.owner-owner.ensures c.get-got.ensures.appended

pub leave-back-requires-clause-others : goal.leave-back-requires-clause-others
leave-back-requires-clause-others g c =
    let turn = c.enter-inner.result.turn in
    let before = c.enter-inner.result.value in
    let after = c.get-got.new.self in
    leaves_others (names_of turn.pass) turn (things_kept before) (things_kept after) c.enter-inner.ensures.turn.2
    (got_others turn.pass.number (names_of turn.pass) (inl refl) c.get-got.result before after c.get-got.ensures.turns
    (subst (λ (n : ℕ). IfOk c.get-got.result (λ (note : Token). after.uses ≡ before.uses ++ (n, note.place) ∷ [])) c.owner-owner.ensures c.get-got.ensures.uses) c.get-got.ensures.refused)

pub returns-clause-gets : goal.returns-clause-gets
returns-clause-gets g c =
    let p = c.args.pass.now.front in
    let before = c.enter-inner.result.value in
    let after = c.get-got.new.self in
    let own : c.unwrap.result ≡ p = search rules in
    let apart : Distinct (names_of p) = search rules in
    let turn = c.enter-inner.result.turn in
    let its = c.enter-inner.ensures.turn in
    let q = front_in c.put.new.pass in
    let s = stretch p q c.unwrap.result c.leave-back.result turn (log_of before) (log_of after) (things_kept after) own its.0 apart c.enter-inner.ensures.goes_on (ap front_in c.put.ensures) c.leave-back.ensures.seen in
    let its_kept = subst (λ (v : View). kept_by (names_of v) (things_kept before) ≡ v.kept) own c.enter-inner.ensures.kept in
    let owner : c.owner-owner.result ≡ p.number = c.owner-owner.ensures ∙ ap (λ (v : View). v.number) (its.0 ∙ own) in
    let a = subst (λ n. AppendsFor n before after) owner c.get-got.ensures.appended in
    let used = subst (λ (n : ℕ). IfOk c.get-got.result (λ (note : Token). after.uses ≡ before.uses ++ (n, note.place) ∷ [])) owner c.get-got.ensures.uses in
    let limits = c.args.self.now.limits in
    let same_limits = limits_from before.core.limits limits (c.enter-inner.ensures.tie ∙ ap (λ (v : View). v.tie) own ∙ c.requires.of.limits) in
    gets_so p q before after (kept_by (names_of p) (things_kept after)) s.apart s.goes s.same c.note_kept.ensures.kept c.note_kept-2.ensures.kept a limits same_limits c.get-got.ensures.limits c.args.bundle c.args.service refl its_kept c.get-got.ensures.turns
    c.get-got.result c.get-got.ensures.answer used c.get-got.ensures.refused

pub returns-clause-keeps : goal.returns-clause-keeps
returns-clause-keeps g c =
    let p = c.args.pass.now.front in
    let own : c.unwrap.result ≡ p = search rules in
    let apart : Distinct (names_of p) = search rules in
    let its = c.enter-inner.ensures.turn in
    let q = front_in c.put.new.pass in
    let before = c.enter-inner.result.value in
    let after = c.get-got.new.self in
    let s = stretch p q c.unwrap.result c.leave-back.result c.enter-inner.result.turn (log_of before) (log_of after) (things_kept after) own its.0 apart c.enter-inner.ensures.goes_on (ap front_in c.put.ensures) c.leave-back.ensures.seen in
    on_err c.get-got.result (λ (is : after ≡ before). stretch_keeps p q (log_of before) (log_of after) (things_kept after) s c.unwrap.result (things_kept before) own (ap things_kept is) c.enter-inner.ensures.kept) c.get-got.ensures.refused
