use Rattle.std.proofs.Common.{◌∙◌, ap, get_or, sym, List}
use Rattle.std.proofs.Math.ListN.{set}
use Rattle.std.specs.Prelude.{◌==◌}
use Rattle.std.specs.List.{position}
use Rattle.scr_world.specs.declared.instance.Instance.{Instance}
use Rattle.scr_turns.proofs.InstanceRows.{told_none, told_one}
use Rattle.scr_turns.proofs.instances.told.Goals as goal

pub returns-in-None-clause-rows : goal.returns-in-None-clause-rows
returns-in-None-clause-rows c =
    sym (told_none c.args.world.now.instances c.requires.numbers c.args.number c.args.world.now c.args.turn c.args.callback.now
    (ap (position (λ (i : Instance). i.number == c.args.number)) (sym c.as_slice-instances.ensures) ∙ sym c.in-None.ensures))

pub returns-in_ok-instance-in-Some-clause-rows : goal.returns-in_ok-instance-in-Some-clause-rows
returns-in_ok-instance-in-Some-clause-rows c =
    ap (set c.args.world.now.instances c.in-Some.place) c.in_ok-instance-in-Some.ensures
    ∙ told_one c.args.world.now.instances c.requires.numbers c.args.number c.args.world.now c.args.turn c.args.callback.now c.in-Some.place c.index-instances-place.result
    (ap (position (λ (i : Instance). i.number == c.args.number)) (sym c.as_slice-instances.ensures) ∙ sym c.in-Some.ensures)
    (c.index-instances-place.is ∙ ap (λ (is : List Instance). get_or is c.in-Some.place c.index-instances-place.result) c.as_slice-instances.ensures)
