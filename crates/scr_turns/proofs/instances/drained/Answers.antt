use Rattle.std.proofs.Common.{◌∙◌, ap, sym, true}
use Rattle.std.proofs.Math.ListN.{set}
use Rattle.scr_world.specs.declared.instance.Instance.{Instance}
use Rattle.scr_turns.proofs.InstanceRows.{drained_none, drained_one}
use Rattle.scr_turns.proofs.instances.drained.Goals as goal

pub returns-in-None-clause-rows : goal.returns-in-None-clause-rows
returns-in-None-clause-rows c = sym (drained_none c.args.instances.now c.requires c.args.number (sym c.in-None.ensures))

pub returns-in_ok-instance-in-Some-clause-rows : goal.returns-in_ok-instance-in-Some-clause-rows
returns-in_ok-instance-in-Some-clause-rows c =
    ap (λ (x : Instance). set c.args.instances.now c.in-Some.place (record x { drained = true })) c.in_ok-instance-in-Some.ensures
    ∙ drained_one c.args.instances.now c.requires c.args.number c.in-Some.place c.index-instances-place.result (sym c.in-Some.ensures) c.index-instances-place.is
