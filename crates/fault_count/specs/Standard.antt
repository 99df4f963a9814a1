-- A reader and a writer of the standard library, with what is counted beside them. Our own.
use Rattle.std.specs.Prelude.{ℕ}

-- a reader, how many bytes may still be read, and how often it has failed
pub record CountedReader (R : Type 0) : Type 0 where
  pub inner : R
  pub number : ℕ
  pub fault_count : ℕ

-- a writer, and how often it has failed
pub record CountedWriter (W : Type 0) : Type 0 where
  pub inner : W
  pub fault_count : ℕ
