use Rattle.std.proofs.Common.{◌≡◌, ◌≤◌, ◌+◌, ◌++◌, ◌∷◌, [], ◌&&◌, ◌||◌, Some, false, ap, sym, ◌∙◌, refl, subst, inl, inr, ltb-true}
use Rattle.std.specs.Arc.{arc_value}
use Rattle.std.specs.Prelude.{◌==◌, is_some, not}
use Rattle.turn_runner.specs.Outcomes.{has_object_after, is_destroy_of}
use Rattle.scr_requests.specs.Cores.{CoreView}
use Rattle.platform_hall.specs.Desks.{DeskView, holders_of, is_holder, kept_but, object_of}
use Rattle.prop_map.specs.Words.{one_if}
use Rattle.platform_hall.specs.Platforms.{Ends, has_object, running}
use Rattle.platform_hall.proofs.Desks.{desk_same, ended_desk, ended_has, ended_runs_no_more, has_token, running_under_way}
use Rattle.platform_hall.proofs.Keeping.{fit_ended, fit_more, fit_same}
use Rattle.platform_hall.proofs.Owners.{made_own}
use Rattle.platform_hall.proofs.Results.{when_err, when_ok}
use Rattle.platform_hall.proofs.Seen.{core_same}
use Rattle.platform_hall.proofs.core_desk.CoreDeskDesk.put_back.Goals as goal

pub try_end-ended-requires-clause-under_way : goal.try_end-ended-requires-clause-under_way
try_end-ended-requires-clause-under_way g c =
    let runs = ap (λ (d : DeskView g.row.O.Denot). running d.core c.args.work.number) c.self.view_is ∙ c.requires.running in
    running_under_way c.self.inside.core c.args.work.number c.args.work c.note_legal.ensures runs

pub try_end-ended-requires-clause-token : goal.try_end-ended-requires-clause-token
try_end-ended-requires-clause-token g c =
    let runs = ap (λ (d : DeskView g.row.O.Denot). running d.core c.args.work.number) c.self.view_is ∙ c.requires.running in
    has_token c.self.inside.core c.self.inside.turns.items c.self.inside.held.items c.args.work.number c.args.work c.note_legal.ensures runs c.self.invariant.0

-- want of memory: what the turn came to is kept
pub push_reserved-requires : goal.push_reserved-requires
push_reserved-requires g c = ltb-true _ _ (ap (λ (d : DeskView g.row.O.Denot). d.ready) c.self.view_is ∙ c.requires.ready)

pub invariant_of-self : goal.invariant_of-self
invariant_of-self g c =
    let ended = c.try_end-ended in
    let failed = sym c.is_err.ensures.value ∙ c.if-is_err.true in
    let same = when_err ended.result failed ended.ensures.err in
    let runs = ap (λ (d : DeskView g.row.O.Denot). running d.core c.args.work.number) c.self.view_is ∙ c.requires.running in (
      desk_same c.self.inside.core ended.new.core c.self.inside.turns.items ended.new.turns.items c.self.inside.held.items ended.new.held.items
          same (when_err ended.result failed ended.ensures.same) ended.ensures.held c.self.invariant.0,
      fit_more ended.new.core c.self.inside.kept.items c.push_reserved.new.self.items (record { work = c.args.work; ran = c.args.ran }) c.push_reserved.ensures.items
          (ap (λ (p : CoreView). running p c.args.work.number) same ∙ runs) c.requires.made
          (fit_same c.self.inside.core ended.new.core c.self.inside.kept.items same c.self.invariant.1),
    )

pub returns-then-is_err-clause-err : goal.returns-then-is_err-clause-err
returns-then-is_err-clause-err g c =
    let ended = c.try_end-ended in
    let failed = sym c.is_err.ensures.value ∙ c.if-is_err.true in
    subst (λ (d : DeskView g.row.O.Denot). (ended.new.core ≡ d.core) × (ended.new.held.items ≡ d.held) × (c.self.inside.told.items ≡ d.told) × (c.push_reserved.new.self.items ≡ d.kept ++ record { work = c.args.work; ran = c.args.ran } ∷ [])) c.self.view_is
    (when_err ended.result failed ended.ensures.err, ended.ensures.held, refl, c.push_reserved.ensures.items)

-- it has ended
pub invariant_of-self-2 : goal.invariant_of-self-2
invariant_of-self-2 g c =
    let work = c.args.work in
    let ended = c.try_end-ended in
    let made = is_some c.args.ran.made in
    let runs = ap (λ (d : DeskView g.row.O.Denot). running d.core work.number) c.self.view_is ∙ c.requires.running in
    let done = sym c.is_err.ensures.value ∙ c.if-is_err.false in (
      ended_desk c.self.inside.core ended.new.core work.number c.args.ran.outcome work c.note_legal.ensures runs (when_ok ended.result done ended.ensures.ok)
          c.self.inside.turns.items ended.new.turns.items c.self.inside.held.items c.keep.new.held.items made c.is_destroy-is_destroyed.result
          (when_ok ended.result done ended.ensures.less)
          (λ n. c.keep.ensures.holders n ∙ ap (λ xs. (is_holder xs n || (made && (work.instance == n))) && not (c.is_destroy-is_destroyed.result && (work.instance == n))) ended.ensures.held)
          (λ n. subst (λ xs. holders_of c.keep.new.held.items n ≤ holders_of xs n + one_if (made && (work.instance == n))) ended.ensures.held (c.keep.ensures.few n))
          c.requires.made c.is_destroy-is_destroyed.ensures c.self.invariant.0,
      fit_ended c.self.inside.core ended.new.core work.number c.args.ran.outcome work c.self.inside.kept.items c.forget.new.kept.items c.note_legal.ensures runs (when_ok ended.result done ended.ensures.ok) c.forget.ensures c.self.invariant.1,
    )

pub returns-clause-ok : goal.returns-clause-ok
returns-clause-ok g c =
    let ended = c.try_end-ended in
    let done = sym c.is_err.ensures.value ∙ c.if-is_err.false in
    subst (λ (d : DeskView g.row.O.Denot). Ends d.core c.args.work.number c.args.ran.outcome ended.new.core × (c.self.inside.told.items ≡ d.told) × (c.forget.new.kept.items ≡ kept_but c.args.work.number d.kept)) c.self.view_is
    (when_ok ended.result done ended.ensures.ok, refl, c.forget.ensures)

pub returns-clause-ended : goal.returns-clause-ended
returns-clause-ended g c =
    let work = c.args.work in
    let ended = c.try_end-ended in
    let runs = ap (λ (d : DeskView g.row.O.Denot). running d.core work.number) c.self.view_is ∙ c.requires.running in
    let done = sym c.is_err.ensures.value ∙ c.if-is_err.false in
    ended_runs_no_more c.self.inside.core ended.new.core work.number c.args.ran.outcome work c.note_legal.ensures runs (when_ok ended.result done ended.ensures.ok)

pub returns-clause-objects : goal.returns-clause-objects
returns-clause-objects g c = λ n.
    let work = c.args.work in
    let ended = c.try_end-ended in
    let made = is_some c.args.ran.made in
    let runs = ap (λ (d : DeskView g.row.O.Denot). running d.core work.number) c.self.view_is ∙ c.requires.running in
    let done = sym c.is_err.ensures.value ∙ c.if-is_err.false in
    subst (λ (p : CoreView). is_destroy_of (Some work) n ≡ false → has_object ended.new.core n ≡ has_object_after (Some work) made (has_object p) n) (core_same c.self.view_is)
    (λ stays. ended_has c.self.inside.core ended.new.core work.number c.args.ran.outcome work c.note_legal.ensures runs (when_ok ended.result done ended.ensures.ok) made n c.requires.made stays)

pub returns-clause-own : goal.returns-clause-own
returns-clause-own g c = λ n object is.
    elim (c.keep.ensures.own n object is) [
      | inl before ↦ inl (ap (λ (d : DeskView g.row.O.Denot). object_of d.held n) (sym c.self.view_is) ∙ ap (λ xs. object_of xs n) (sym c.try_end-ended.ensures.held) ∙ before)
      | inr made ↦ inr (made_own arc_value c.args.work c.args.ran.made n object made.0 made.1)
    ]
