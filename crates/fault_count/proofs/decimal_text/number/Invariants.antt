use Rattle.std.proofs.Common.{◌≡◌, drop}
use Rattle.fault_count.specs.DecimalText.{number_of}
use Rattle.fault_count.proofs.SpelledNumber.{number_after}
use Rattle.fault_count.proofs.decimal_text.number.Given as goal

abbrev pub invariant-loop-byte : goal.invariant-loop-byte
invariant-loop-byte l = number_of l.digits ≡ number_after l.number (drop l.byte-index l.digits)
