-- What a read or a write does, and why one fails. Our own.
use Rattle.std.specs.Prelude.{◌≡◌, ℕ, ◌+◌, ◌-◌, ◌^◌, ◌≤◌, min, List, length, take}
use Rattle.std.specs.declared.option.Option.{Option}
use Rattle.std.specs.Io.KnownBytes.{Keeps, Consumes, Appends, IsAtEnd}
use Rattle.fault_count.specs.declared.source.ReadStep.{ReadStep}
use Rattle.fault_count.specs.declared.source.ReadStep.TheVariants.{Got, End, Failed}
use Rattle.fault_count.specs.declared.sink.WriteStep.{WriteStep}
use Rattle.fault_count.specs.declared.sink.WriteStep.TheVariants.{Took, Failed as Refused}

-- the next count, which stays at the greatest number of 64 bits
abbrev pub next_count : ℕ → ℕ
next_count count = min (count + 1) (2 ^ 64 - 1)

-- the count rose, or it stands at the greatest number of 64 bits
abbrev pub Rose : ℕ → ℕ → Type 0
Rose before now = next_count before ≤ now

-- Bytes that were got are the first of those that were left. The end comes only where none is left, and a failure
-- moves none.
abbrev pub GivesBytes : Option (List ℕ) → Option (List ℕ) → ReadStep → List ℕ → Type 0
GivesBytes before now (Got count) room = (1 ≤ count) × (count ≤ length room) × Consumes before now (take count room)
GivesBytes before now End room = IsAtEnd before × Keeps before now
GivesBytes before now Failed room = Keeps before now

-- each byte that was got lowers the number by one
abbrev pub LowersNumber : ℕ → ℕ → ReadStep → Type 0
LowersNumber before now (Got count) = now + count ≡ before
LowersNumber before now End = now ≡ before
LowersNumber before now Failed = now ≡ before

-- Bytes that were taken stand behind those that were written. A failure moves none.
abbrev pub TakesBytes : Option (List ℕ) → Option (List ℕ) → WriteStep → List ℕ → Type 0
TakesBytes before now (Took count) bytes = (1 ≤ count) × (count ≤ length bytes) × Appends before now (take count bytes)
TakesBytes before now Refused bytes = Keeps before now

-- the count after a read or a write: a failure raises it
abbrev pub faults_after_read : ℕ → ReadStep → ℕ
faults_after_read count (Got moved) = count
faults_after_read count End = count
faults_after_read count Failed = next_count count

abbrev pub faults_after_write : ℕ → WriteStep → ℕ
faults_after_write count (Took moved) = count
faults_after_write count Refused = next_count count
