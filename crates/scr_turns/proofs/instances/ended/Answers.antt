use Rattle.std.proofs.Common.{◌∙◌, ap, get_or, subst, sym, ℕ, List}
use Rattle.std.proofs.Math.ListN.{set}
use Rattle.std.specs.Prelude.{remove}
use Rattle.std.specs.List.{position}
use Rattle.scr_consequences.specs.Ends.{HaveNextGenerations}
use Rattle.scr_state.specs.Rows.{HasRoomAmong, with_change}
use Rattle.scr_world.specs.Instances.{has_turn, lives_on, with_outcome}
use Rattle.scr_world.specs.declared.instance.Instance.{Instance}
use Rattle.scr_turns.proofs.InstanceRows.{ended_last, ended_none, ended_one, outstanding_there}
use Rattle.scr_turns.proofs.instances.ended.Goals as goal

pub with_outcome-requires-clause-outstanding : goal.with_outcome-requires-clause-outstanding
with_outcome-requires-clause-outstanding c =
    outstanding_there c.args.world.now c.requires c.args.turn c.args.outcome c.in-Some.place c.index-instances-place.result
    (ap (position (has_turn c.args.turn)) (sym c.as_slice-instances.ensures) ∙ sym c.in-Some.ensures)
    (c.index-instances-place.is ∙ ap (λ (is : List Instance). get_or is c.in-Some.place c.index-instances-place.result) c.as_slice-instances.ensures)

pub with_outcome-requires-clause-next : goal.with_outcome-requires-clause-next
with_outcome-requires-clause-next c = subst (λ (gs : List ℕ). HaveNextGenerations gs) (sym c.as_slice-generations.ensures) c.requires.next

pub returns-in-None-clause-rows : goal.returns-in-None-clause-rows
returns-in-None-clause-rows c =
    sym (ended_none c.args.world.now c.requires c.args.turn c.args.outcome (ap (position (has_turn c.args.turn)) (sym c.as_slice-instances.ensures) ∙ sym c.in-None.ensures))

pub returns-then-lives_on-clause-rows : goal.returns-then-lives_on-clause-rows
returns-then-lives_on-clause-rows c =
    let is = c.in_ok-instance-in-Some.ensures ∙ ap (λ (gs : List ℕ). with_outcome c.args.outcome gs c.index-instances-place.result) c.as_slice-generations.ensures in
    ap (set c.args.world.now.instances c.in-Some.place) is
    ∙ ended_one c.args.world.now c.requires c.args.turn c.args.outcome c.in-Some.place c.index-instances-place.result
    (ap (position (has_turn c.args.turn)) (sym c.as_slice-instances.ensures) ∙ sym c.in-Some.ensures)
    (c.index-instances-place.is ∙ ap (λ (is : List Instance). get_or is c.in-Some.place c.index-instances-place.result) c.as_slice-instances.ensures)
    (ap lives_on (sym is) ∙ sym c.lives_on.ensures ∙ c.if-lives_on.true)

pub returns-in_ok-change-in-Some-clause-rows : goal.returns-in_ok-change-in-Some-clause-rows
returns-in_ok-change-in-Some-clause-rows c =
    let is = c.in_ok-instance-in-Some.ensures ∙ ap (λ (gs : List ℕ). with_outcome c.args.outcome gs c.index-instances-place.result) c.as_slice-generations.ensures in
    ap (with_change c.in_ok-change-in-Some.change) (sym c.as_slice-instances.ensures)
    ∙ c.in_ok-change-in-Some.ensures.rows
    ∙ ap (λ (is : List Instance). remove is c.in-Some.place) c.as_slice-instances.ensures
    ∙ ended_last c.args.world.now c.requires c.args.turn c.args.outcome c.in-Some.place c.index-instances-place.result
    (ap (position (has_turn c.args.turn)) (sym c.as_slice-instances.ensures) ∙ sym c.in-Some.ensures)
    (c.index-instances-place.is ∙ ap (λ (is : List Instance). get_or is c.in-Some.place c.index-instances-place.result) c.as_slice-instances.ensures)
    (ap lives_on (sym is) ∙ sym c.lives_on.ensures ∙ c.if-lives_on.false)

pub returns-in_ok-change-in-Some-clause-room : goal.returns-in_ok-change-in-Some-clause-room
returns-in_ok-change-in-Some-clause-room c =
    subst (λ (is : List Instance). HasRoomAmong c.in_ok-change-in-Some.change is) c.as_slice-instances.ensures c.in_ok-change-in-Some.ensures.room
