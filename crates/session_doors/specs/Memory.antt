-- Doors in memory, as contracts see them. Our own.
use Rattle.std.specs.Prelude.{◌≡◌, ℕ, ◌+◌, List, [], ◌∷◌}
use Rattle.fault_count.specs.Memory.{MemoryInput, MemoryOutput}
use Rattle.fault_count.specs.Steps.{next_count}
use Rattle.session_doors.specs.declared.doors.Door.{Door}
use Rattle.session_doors.specs.declared.doors.Door.TheVariants.{Come, Failed}
use Rattle.session_doors.specs.declared.finished.Finished.{Finished}

-- a connection in memory
abbrev pub MemoryConnection : Type 0
MemoryConnection = MemoryInput × MemoryOutput

-- a session of a connection in memory that has ended
abbrev pub MemorySession : Type 0
MemorySession = Finished MemoryInput MemoryOutput

-- the connections that are to come; the sessions that have ended; of how many connections that came the sessions haven't ended; how often
-- accepting has failed
pub record MemoryDoorsView : Type 0 where
  pub coming : List MemoryConnection
  pub sessions : List MemorySession
  pub under_way : ℕ
  pub fault_count : ℕ

-- what accepting a connection answers and does: the first of those that are to come; a failure once none is
abbrev pub Takes : MemoryDoorsView → Door MemoryInput MemoryOutput → MemoryDoorsView → Type 0
Takes before (Come input output) after = (before.coming ≡ (input, output) ∷ after.coming) × (after ≡ record before { coming = after.coming; under_way = before.under_way + 1 })
Takes before Failed after = (before.coming ≡ []) × (after ≡ record before { fault_count = next_count before.fault_count })

-- lists of doors that are to come, one for each address; how often listening has failed
pub record MemoryListensView : Type 0 where
  pub offers : List (List MemoryDoorsView)
  pub fault_count : ℕ
