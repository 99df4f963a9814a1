use Rattle.std.proofs.Common.{rules, ap, ◌∙◌, ◌≡◌, refl, length}
use Rattle.front_lock.specs.Histories.{Distinct}
use Rattle.front_lock.specs.Keepings.{kept_by}
use Rattle.front_lock.specs.Passes.{names_of}
use Rattle.hall_locked.specs.Locks.{log_of, things_kept}
use Rattle.platform_sessions.specs.Halls.{View, front_in}
use Rattle.platform_sessions.proofs.Reading.{read_so}
use Rattle.platform_sessions.proofs.Stretches.{leaves_same, limits_from, stretch, stretch_keeps}
use Rattle.platform_sessions.proofs.hall.Hall.read.Goals as goal

pub leave-back-requires-clause-grown : goal.leave-back-requires-clause-grown
leave-back-requires-clause-grown g c = leaves_same c.enter-inner.result.turn c.enter-inner.result.value c.enter-inner.ensures.turn.1

pub returns-clause-read : goal.returns-clause-read
returns-clause-read g c =
    let p = c.args.pass.now.front in
    let before = c.enter-inner.result.value in
    let after = before in
    let own : c.unwrap.result ≡ p = search rules in
    let apart : Distinct (names_of p) = search rules in
    let turn = c.enter-inner.result.turn in
    let its = c.enter-inner.ensures.turn in
    let q = front_in c.put.new.pass in
    let s = stretch p q c.unwrap.result c.leave-back.result turn (log_of before) (log_of after) (things_kept c.enter-inner.result.value) own its.0 apart c.enter-inner.ensures.goes_on (ap front_in c.put.ensures) c.leave-back.ensures.seen in
    let limits = c.args.self.now.limits in
    let same_limits = limits_from before.core.limits limits (c.enter-inner.ensures.tie ∙ ap (λ (v : View). v.tie) own ∙ c.requires.of.limits) in
    let front : c.seen-front.result ≡ length q.seen = search rules in
    read_so g.L.Look.looks p q before (kept_by (names_of p) (things_kept c.enter-inner.result.value)) s.apart s.goes s.same c.note_kept.ensures.kept limits same_limits _ _ _ front (search rules)

pub returns-clause-keeps : goal.returns-clause-keeps
returns-clause-keeps g c =
    let p = c.args.pass.now.front in
    let own : c.unwrap.result ≡ p = search rules in
    let apart : Distinct (names_of p) = search rules in
    let its = c.enter-inner.ensures.turn in
    let q = front_in c.put.new.pass in
    let had = things_kept c.enter-inner.result.value in
    let has = things_kept c.enter-inner.result.value in
    let began = log_of c.enter-inner.result.value in
    let log = log_of c.enter-inner.result.value in
    let s = stretch p q c.unwrap.result c.leave-back.result c.enter-inner.result.turn began log has own its.0 apart c.enter-inner.ensures.goes_on (ap front_in c.put.ensures) c.leave-back.ensures.seen in
    stretch_keeps p q began log has s c.unwrap.result had own refl c.enter-inner.ensures.kept
