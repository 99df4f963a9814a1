-- What a reading answers, against what is there to be read.
use Rattle.std.specs.Prelude.{◌≡◌, ◌≢◌, ℕ, Result, Ok, Err}
use Rattle.bundle_wiring.specs.declared.fault.WireFault.{WireFault}
use Rattle.bundle_wiring.specs.declared.fault.WireFault.TheVariants.{OutOfMemory}

-- the answer is the meaning; want of memory is free
abbrev pub Reads : {T : Type 0} → Result T WireFault → Result T WireFault → Type 0
Reads (Ok value) meaning = meaning ≡ Ok value
Reads (Err fault) meaning = fault ≢ OutOfMemory → meaning ≡ Err fault

-- a place as a fault
abbrev pub fault_at : {A : Type 0} → (ℕ → WireFault) → Result A ℕ → Result A WireFault
fault_at fault (Ok a) = Ok a
fault_at fault (Err at) = Err (fault at)
