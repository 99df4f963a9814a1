-- What is always true of the rows of bundles. That numbers are given upward from 1 and never again is the standard's (OSGi Core 8, chapter 4, "Bundle Identifiers").
use Rattle.std.specs.Prelude.{ℕ, ◌<◌, ◌≤◌, ◌==◌, List, Bool, filter, length, not}
use Rattle.std.specs.List.{All, AllPairs}
use Rattle.bundle_life.specs.declared.bundle.BundleLife.{BundleLife}
use Rattle.bundle_life.specs.Lives.{BundleTable, is_stopping}

abbrev pub has_number : ℕ → BundleLife → Bool
has_number number b = b.number == number

-- each bundle has a lower number than those behind it
abbrev pub AreRising : List BundleLife → Type 0
AreRising rows = AllPairs (λ (b c : BundleLife). b.number < c.number) rows

-- their numbers are from 1 on and were given
abbrev pub IsGiven : ℕ → BundleLife → Type 0
IsGiven numbered b = (0 < b.number) × (b.number ≤ numbered)

abbrev pub AreNumbered : ℕ → List BundleLife → Type 0
AreNumbered numbered rows = AreRising rows × All (IsGiven numbered) rows

-- the rows, and how many numbers were given
pub record NumberedRows : Type 0 where
  pub rows : List BundleLife
  pub numbered : ℕ

abbrev pub without_number : ℕ → List BundleLife → List BundleLife
without_number number rows = filter (λ (b : BundleLife). not (has_number number b)) rows

-- a table as it was: of its events how many there were
pub record SavedBundles : Type 0 where
  pub rows : List BundleLife
  pub numbered : ℕ
  pub events : ℕ

abbrev pub saved_of : BundleTable → SavedBundles
saved_of t = record { rows = t.rows; numbered = t.numbered; events = length t.events }

-- it owes its STOPPED
abbrev pub stops : BundleLife → Bool
stops b = is_stopping b.state
