use Rattle.std.proofs.Common.{subst, sym}
use Rattle.scr_calls.specs.declared.call_fault.CallFault.{CallFault}
use Rattle.script_shell.specs.Calling.{EndsWith, TellsUnanswered}
use Rattle.script_shell.proofs.CallGrowth.{ends_settling, tells_core}
use Rattle.script_shell.proofs.calling.unanswered.Goals as goal

pub returns-in-Core : goal.returns-in-Core
returns-in-Core c =
    let P : CallFault → Type 0 = λ fault. TellsUnanswered fault c.refused.result in
    subst P (sym c.in-Core.is) (tells_core c.in-Core.fault c.refused.result c.refused.ensures)

pub returns-in-Settle : goal.returns-in-Settle
returns-in-Settle c = subst (EndsWith c.in-Settle.fault) (sym c.in-Settle.is) (ends_settling c.in-Settle.fault)
