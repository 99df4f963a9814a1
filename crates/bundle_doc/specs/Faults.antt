-- What a reading answers, against what is there to be read.
use Rattle.std.specs.Prelude.{◌≡◌, ◌≢◌, Result, Ok, Err}
use Rattle.bundle_doc.specs.declared.fault.DocFault.{DocFault}
use Rattle.bundle_doc.specs.declared.fault.DocFault.TheVariants.{OutOfMemory}

-- the answer is the meaning; want of memory is free
abbrev pub Reads : {T : Type 0} → Result T DocFault → Result T DocFault → Type 0
Reads (Ok value) meaning = meaning ≡ Ok value
Reads (Err fault) meaning = fault ≢ OutOfMemory → meaning ≡ Err fault
