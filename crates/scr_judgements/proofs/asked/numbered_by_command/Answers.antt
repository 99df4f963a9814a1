use Rattle.std.proofs.Common.{arith}
use Rattle.scr_judgements.proofs.Unchanged.{few_of_legal}
use Rattle.scr_judgements.proofs.asked.numbered_by_command.Goals as goal

pub numbered_on-requires-clause-room : goal.numbered_on-requires-clause-room
numbered_on-requires-clause-room c = let few = few_of_legal c.args.world.now c.requires.legal in omega (arith, few)
