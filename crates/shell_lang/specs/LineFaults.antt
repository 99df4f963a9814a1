-- What is read of a line, or why it is refused before it comes to the core. Our own form.
use Rattle.std.specs.Prelude.{◌≡◌, ◌≢◌, Result, Ok, Err}
use Rattle.shell_lang.specs.declared.line_fault.LineFault.{LineFault}
use Rattle.shell_lang.specs.declared.line_fault.LineFault.TheVariants.{BadWords, OutOfMemory}
use Rattle.shell_lang.specs.declared.words.Misfit.{Misfit}

-- the answer is the meaning; want of memory is free
abbrev pub Reads : {T : Type 0} → Result T LineFault → Result T LineFault → Type 0
Reads meaning (Ok value) = meaning ≡ Ok value
Reads meaning (Err fault) = fault ≢ OutOfMemory → meaning ≡ Err fault

-- what follows where the words fit
abbrev pub fitting : {S T : Type 0} → Result S Misfit → (S → Result T LineFault) → Result T LineFault
fitting (Ok words) next = next words
fitting (Err misfit) next = Err (BadWords misfit.at)
