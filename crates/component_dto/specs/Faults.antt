-- What a reading answers, against what is there to be read.
use Rattle.std.specs.Prelude.{◌≡◌, ◌≢◌, Result, Ok, Err}
use Rattle.component_dto.specs.declared.fault.DescriptionFault.{DescriptionFault}
use Rattle.component_dto.specs.declared.fault.DescriptionFault.TheVariants.{OutOfMemory}

-- the answer is the meaning; want of memory is free
abbrev pub Reads : {T : Type 0} → Result T DescriptionFault → Result T DescriptionFault → Type 0
Reads (Ok value) meaning = meaning ≡ Ok value
Reads (Err fault) meaning = fault ≢ OutOfMemory → meaning ≡ Err fault
