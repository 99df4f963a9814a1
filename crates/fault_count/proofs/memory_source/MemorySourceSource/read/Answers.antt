use Rattle.std.proofs.Common.{arith, sym}
use Rattle.std.proofs.lemmas.Bool.Decides.{nat_tests}
use Rattle.fault_count.proofs.Pieces.{next_piece}
use Rattle.fault_count.proofs.memory_source.MemorySourceSource.read.Goals as goal

pub returns-clause-bytes : goal.returns-clause-bytes
returns-clause-bytes c =
    (grind (arith, nat_tests), omega arith, rw (← c.self.view_is, c.copy_front.ensures.front, c.split_at.ensures.back, c.deref-2.ensures.value) (sym (next_piece c.self.inside.at c.min-count.result c.self.inside.bytes.items)))
