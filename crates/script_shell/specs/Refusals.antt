-- Which refusals of the core are told. Our own form.
use Rattle.std.specs.Prelude.{◌≡◌, Bool, true, false, Result, IfErr}
use Rattle.scr_world.specs.declared.reply.CoreFault.{CoreFault}
use Rattle.scr_world.specs.declared.reply.CoreFault.TheVariants.{JournalFull, OutOfMemory}

-- a full journal and want of memory end the run and aren't told
abbrev pub is_told : CoreFault → Bool
is_told JournalFull = false
is_told OutOfMemory = false
is_told _ = true

abbrev pub IsAnswer : {T : Type 0} → Result T CoreFault → Type 0
IsAnswer answer = IfErr answer (λ fault. is_told fault ≡ true)
