use Rattle.std.proofs.Common.{arith}
use Rattle.scr_still.proofs.StillGrowth.{counted_in}
use Rattle.scr_still.proofs.growth.grow_still.Goals as goal

pub grow_to-grown-requires-clause-entries : goal.grow_to-grown-requires-clause-entries
grow_to-grown-requires-clause-entries c =
    let counted = counted_in c.args.journal.now c.args.state.now c.requires.keeps in
    omega (arith, counted, c.next_length-entries.ensures)
