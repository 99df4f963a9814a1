-- The entries of a journal, the room that is reserved, and when the journal is full. Our own.
use Rattle.std.specs.Prelude.{◌≡◌, ℕ, ◌+◌, ◌<◌, ◌≤◌, List, [], length, Result, Ok, Err}
use Rattle.journal_core.specs.declared.entry.Entry.{Entry}
use Rattle.journal_core.specs.declared.journal_fault.JournalFault.{JournalFault}
use Rattle.journal_core.specs.declared.journal_fault.JournalFault.TheVariants.{Full, OutOfMemory}

-- the entries, the oldest first, how many more are reserved, and how many there may be of both
pub record JournalRows (S : Type 0) : Type 0 where
  pub entries : List (Entry S)
  pub reserved : ℕ
  pub limit : ℕ

abbrev pub empty_journal : {S : Type 0} → ℕ → JournalRows S
empty_journal limit = record { entries = []; reserved = 0; limit = limit }

-- so many entries more pass the limit
abbrev pub IsFullFor : {S : Type 0} → JournalRows S → ℕ → Type 0
IsFullFor j extra = j.limit < length j.entries + j.reserved + extra

-- so many entries more don't
abbrev pub HasRoom : {S : Type 0} → JournalRows S → ℕ → Type 0
HasRoom j extra = length j.entries + j.reserved + extra ≤ j.limit

-- an entry is refused as Full exactly where it passes the limit
abbrev pub IsAppendRefused : {S : Type 0} → JournalRows S → Result (Unit {0}) (Entry S × JournalFault) → Type 0
IsAppendRefused j (Ok u) = HasRoom j 1
IsAppendRefused j (Err (entry, Full)) = IsFullFor j 1
IsAppendRefused j (Err (entry, OutOfMemory)) = HasRoom j 1

-- and room is refused as Full exactly where it does, and for no other reason
abbrev pub IsReserveRefused : {S : Type 0} → JournalRows S → ℕ → Result (Unit {0}) JournalFault → Type 0
IsReserveRefused j extra (Ok u) = HasRoom j extra
IsReserveRefused j extra (Err Full) = IsFullFor j extra
IsReserveRefused j extra (Err OutOfMemory) = ⊥
