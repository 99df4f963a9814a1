use Rattle.std.proofs.Common.{arith}
use Rattle.scr_judgements.proofs.CommandRoom.{few_numbers_in}
use Rattle.scr_judgements.proofs.numbering.next_bundle.Goals as goal

pub overflow_add-result : goal.overflow_add-result
overflow_add-result c =
    let few = few_numbers_in c.args.journal.now c.args.state.now c.requires in
    omega (arith, few.bundles, c.next_length-length.ensures, c.numbered.ensures)
