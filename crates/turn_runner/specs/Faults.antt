-- Why settling stops, from why a turn wasn't taken (our own).
use Rattle.turn_runner.specs.declared.desk_fault.DeskFault.{DeskFault}
use Rattle.turn_runner.specs.declared.desk_fault.DeskFault.TheVariants.{JournalFull, OutOfMemory}
use Rattle.turn_runner.specs.declared.settle_fault.SettleFault.{SettleFault}
use Rattle.turn_runner.specs.declared.settle_fault.SettleFault.TheVariants.{JournalFull as Full, OutOfMemory as NoMemory}

abbrev pub fault_of : DeskFault → SettleFault
fault_of JournalFull = Full
fault_of OutOfMemory = NoMemory
