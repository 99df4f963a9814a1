use Rattle.std.proofs.Common.{◌≡◌, ◌≤◌, ◌+◌, ◌&&◌, ◌||◌, List, None, Some, true, false, ap, sym, ◌∙◌, refl, subst, inl, inr}
use Rattle.std.specs.Arc.{arc_value}
use Rattle.std.specs.Prelude.{◌==◌, is_some, not, nat_lt, vec_capacity, vec_len}
use Rattle.turn_runner.specs.declared.came.Came.{Came}
use Rattle.platform_hall.specs.Desks.{DeskView, holders_of, is_holder, kept_but, kept_of, object_of}
use Rattle.prop_map.specs.Words.{one_if}
use Rattle.platform_hall.specs.Platforms.{Ends, running}
use Rattle.platform_hall.proofs.Desks.{desk_same, ended_desk, ended_runs_no_more, has_token, running_under_way}
use Rattle.platform_hall.proofs.Keeping.{fit_ended, fit_same, found_makes, found_work, is_found}
use Rattle.platform_hall.proofs.Owners.{made_own}
use Rattle.platform_hall.proofs.Results.{err_anyway}
use Rattle.platform_hall.proofs.Seen.{desk_of}
use Rattle.platform_hall.proofs.core_desk.CoreDeskDesk.put_back_kept.Goals as goal

pub try_end-requires-clause-under_way : goal.try_end-requires-clause-under_way
try_end-requires-clause-under_way g c =
    let work = c.args.work.now in
    let runs = ap (λ (d : DeskView g.row.O.Denot). running d.core work.number) c.self.view_is ∙ c.requires in
    running_under_way c.self.inside.core work.number work c.note_legal.ensures runs

pub try_end-requires-clause-token : goal.try_end-requires-clause-token
try_end-requires-clause-token g c =
    let work = c.args.work.now in
    let runs = ap (λ (d : DeskView g.row.O.Denot). running d.core work.number) c.self.view_is ∙ c.requires in
    has_token c.self.inside.core c.self.inside.turns.items c.self.inside.held.items work.number work c.note_legal.ensures runs c.self.invariant.0

-- want of memory: all is as it was
pub invariant_of-self : goal.invariant_of-self
invariant_of-self g c =
    let failed = c.in_err-try_end.ensures in (
      desk_same c.self.inside.core c.try_end.new.core c.self.inside.turns.items c.try_end.new.turns.items c.self.inside.held.items c.try_end.new.held.items
          failed.err failed.same failed.held c.self.invariant.0,
      fit_same c.self.inside.core c.try_end.new.core c.self.inside.kept.items failed.err c.self.invariant.1,
    )

pub returns-in_err-try_end-clause-err : goal.returns-in_err-try_end-clause-err
returns-in_err-try_end-clause-err g c =
    let failed = c.in_err-try_end.ensures in
    let told = c.self.inside.told.items in
    let kept = c.self.inside.kept.items in
    let ready = nat_lt (vec_len c.self.inside.kept) (vec_capacity c.self.inside.kept) in
    err_anyway c.from_residual-in_err-try_end.result (
    subst (λ (d : DeskView g.row.O.Denot). desk_of c.try_end.new.core c.try_end.new.held.items told kept ready ≡ d) c.self.view_is
    (ap (λ p. desk_of p c.try_end.new.held.items told kept ready) failed.err ∙ ap (λ hs. desk_of c.self.inside.core hs told kept ready) failed.held))

-- it has ended
pub invariant_of-self-2 : goal.invariant_of-self-2
invariant_of-self-2 g c =
    let core = c.self.inside.core in
    let after = c.try_end.new.core in
    let kept = c.self.inside.kept.items in
    let work = c.args.work.now in
    let ran = c.in-Some.ran in
    let made = is_some ran.made in
    let destroyed = c.is_destroy-is_destroyed.result in
    let runs = ap (λ (d : DeskView g.row.O.Denot). running d.core work.number) c.self.view_is ∙ c.requires in
    let slice = c.as_slice.ensures.value in
    let has = ap is_some (sym c.in-Some.is) ∙ c.in_ok-ran.ensures.has ∙ ap (λ (xs : List (Came g.row.O.Denot)). is_some (kept_of xs work.number)) slice in
    let found = is_found (kept_of kept work.number) true has refl in
    let like = (rw c.in-Some.is at c.in_ok-ran.ensures.like) found.0 (ap (λ (xs : List (Came g.row.O.Denot)). kept_of xs work.number) slice ∙ found.1) in
    let makes = found_makes core kept work.number found.0 ran work c.self.invariant.1 runs found.1 like in
    let ended = c.in_ok-try_end.ensures in (
      ended_desk core after work.number ran.outcome work c.note_legal.ensures runs ended.ok
          c.self.inside.turns.items c.try_end.new.turns.items c.self.inside.held.items c.keep.new.held.items made destroyed
          ended.less
          (λ n. c.keep.ensures.holders n ∙ ap (λ xs. (is_holder xs n || (made && (work.instance == n))) && not (destroyed && (work.instance == n))) ended.held)
          (λ n. subst (λ xs. holders_of c.keep.new.held.items n ≤ holders_of xs n + one_if (made && (work.instance == n))) ended.held (c.keep.ensures.few n))
          makes c.is_destroy-is_destroyed.ensures c.self.invariant.0,
      fit_ended core after work.number ran.outcome work kept c.forget.new.kept.items c.note_legal.ensures runs ended.ok c.forget.ensures c.self.invariant.1,
    )

pub returns-clause-ok : goal.returns-clause-ok
returns-clause-ok g c =
    let kept = c.self.inside.kept.items in
    let work = c.args.work.now in
    let ran = c.in-Some.ran in
    let runs = ap (λ (d : DeskView g.row.O.Denot). running d.core work.number) c.self.view_is ∙ c.requires in
    let slice = c.as_slice.ensures.value in
    let has = ap is_some (sym c.in-Some.is) ∙ c.in_ok-ran.ensures.has ∙ ap (λ (xs : List (Came g.row.O.Denot)). is_some (kept_of xs work.number)) slice in
    let found = is_found (kept_of kept work.number) true has refl in
    let like = (rw c.in-Some.is at c.in_ok-ran.ensures.like) found.0 (ap (λ (xs : List (Came g.row.O.Denot)). kept_of xs work.number) slice ∙ found.1) in
    let ended = c.in_ok-try_end.ensures in
    let ends = subst (λ (d : DeskView g.row.O.Denot). Ends d.core work.number ran.outcome c.try_end.new.core × (c.self.inside.told.items ≡ d.told) × (c.forget.new.kept.items ≡ kept_but work.number d.kept)) c.self.view_is (ended.ok, refl, c.forget.ensures) in (
      found.0,
      subst (λ (d : DeskView g.row.O.Denot). kept_of d.kept work.number ≡ Some found.0) c.self.view_is found.1,
      found_work c.self.inside.core kept work.number found.0 work c.self.invariant.1 runs found.1,
      like.0,
      ends,
      λ n object is.
          elim (c.keep.ensures.own n object is) [
            | inl before ↦ inl (ap (λ (d : DeskView g.row.O.Denot). object_of d.held n) (sym c.self.view_is) ∙ ap (λ xs. object_of xs n) (sym ended.held) ∙ before)
            | inr made ↦ inr (made_own arc_value work found.0.ran.made n object made.0 (sym like.1 ∙ made.1))
          ],
    )

pub returns-clause-ended : goal.returns-clause-ended
returns-clause-ended g c =
    let work = c.args.work.now in
    let runs = ap (λ (d : DeskView g.row.O.Denot). running d.core work.number) c.self.view_is ∙ c.requires in
    ended_runs_no_more c.self.inside.core c.try_end.new.core work.number c.in-Some.ran.outcome work c.note_legal.ensures runs c.in_ok-try_end.ensures.ok
