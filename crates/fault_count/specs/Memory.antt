-- A source and a sink in memory, which move a piece in each call and fail in the calls that are listed. Our own.
use Rattle.std.specs.Prelude.{◌≡◌, ℕ, ◌+◌, ◌<◌, ◌==◌, min, max, Bool, false, List, ◌++◌, length, take, drop, if◌then◌else◌}
use Rattle.std.specs.List.{list_any}
use Rattle.fault_count.specs.Steps.{next_count}
use Rattle.fault_count.specs.declared.source.ReadStep.{ReadStep}
use Rattle.fault_count.specs.declared.source.ReadStep.TheVariants.{Got, End, Failed}
use Rattle.fault_count.specs.declared.sink.WriteStep.{WriteStep}
use Rattle.fault_count.specs.declared.sink.WriteStep.TheVariants.{Took, Failed as Refused}

-- what a memory source still gives, and how
pub record MemoryInput : Type 0 where
  pub left : List ℕ
  pub piece : ℕ
  pub failing : List ℕ
  pub calls : ℕ
  pub fault_count : ℕ

-- what a memory sink was given, and how it takes more; its capacity is how many bytes it holds before it asks for memory
pub record MemoryOutput : Type 0 where
  pub written : List ℕ
  pub piece : ℕ
  pub failing : List ℕ
  pub calls : ℕ
  pub fault_count : ℕ
  pub capacity : ℕ

-- the call of this number is to fail
abbrev pub is_listed : List ℕ → ℕ → Bool
is_listed failing call = list_any (λ listed. listed == call) failing

-- how many of so many bytes one call moves: a piece, and at least one
abbrev pub portion : ℕ → ℕ → ℕ
portion piece count = min count (max piece 1)

-- what the next read of this room answers
abbrev pub read_step : MemoryInput → ℕ → ReadStep
read_step input room =
    if is_listed input.failing input.calls then Failed
    else (if length input.left == 0 then End else Got (min (portion input.piece (length input.left)) room))

-- the source after that answer
abbrev pub after_read : MemoryInput → ReadStep → MemoryInput
after_read input (Got count) = record input { left = drop count input.left; calls = next_count input.calls }
after_read input End = record input { calls = next_count input.calls }
after_read input Failed = record input { calls = next_count input.calls; fault_count = next_count input.fault_count }

-- a call that is listed fails, and another only where the sink has no room and finds no memory
abbrev pub Answers : MemoryOutput → List ℕ → WriteStep → Type 0
Answers output bytes (Took count) = (is_listed output.failing output.calls ≡ false) × (count ≡ portion output.piece (length bytes))
Answers output bytes Refused =
    is_listed output.failing output.calls ≡ false → output.capacity < length output.written + portion output.piece (length bytes)

-- the sink after that answer, with the capacity that it has then
abbrev pub after_write : MemoryOutput → List ℕ → WriteStep → ℕ → MemoryOutput
after_write output bytes (Took count) capacity =
    record output { written = output.written ++ take count bytes; calls = next_count output.calls; capacity = capacity }
after_write output bytes Refused capacity =
    record output { calls = next_count output.calls; fault_count = next_count output.fault_count; capacity = capacity }
