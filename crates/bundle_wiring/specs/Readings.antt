-- What a reading of a text owes: the one value that the text spells, or the place where it leaves every text that spells one.
use Rattle.std.specs.Prelude.{ℕ, List, Result, Ok, Err}
use Rattle.osgi_version.specs.Readings.{IsBadAt, IsRead}

abbrev pub IsReading : {V : Type 0} → (List ℕ → V → Type 0) → List ℕ → Result V ℕ → Type 0
IsReading Spelled text (Ok value) = IsRead Spelled text value
IsReading Spelled text (Err at) = IsBadAt Spelled text at
