use Rattle.gate_keeper.proofs.Alone.{next_shelved}
use Rattle.gate_keeper.proofs.Levels.{next_shut}
use Rattle.gate_keeper.proofs.keeper.Keeper.shut_all.Goals as goal

pub loop-key-preserved : goal.loop-key-preserved
loop-key-preserved c =
    let old = c.loop-key.invariant in
    let next = next_shut c.args.keys.now c.loop-key.key-index _ c.args.self.now c.loop-key.self c.shut.new.self c.loop-key-test.true (old.0, old.1, old.2) c.shut.ensures.shut in
    (next.0, next.1, next.2, next_shelved c.args.keys.now c.loop-key.key-index _ c.args.self.now c.loop-key.self c.shut.new.self c.loop-key-test.true old.3 c.shut.ensures.alone)
