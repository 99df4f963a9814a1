use Rattle.shell_lang.proofs.FilterLemmas.{filter_told, fault_told}
use Rattle.shell_lang.proofs.arguments.read_filter.Goals as goal

pub returns-in-Ok : goal.returns-in-Ok
returns-in-Ok c = filter_told c.args.text.now c.in-Ok.filter c.in-Ok.ensures

pub returns-in-Err : goal.returns-in-Err
returns-in-Err c = rw c.filter_fault.ensures (fault_told c.args.text.now c.in-Err.fault c.in-Err.ensures)
