-- How far a text begins as those do that pass a test. Our own.
use Rattle.std.specs.Prelude.{◌≡◌, ℕ, ◌<◌, ◌≤◌, List, ◌++◌, Bool, true, length, take}

-- some text that passes begins so
abbrev pub BeginsOne : (List ℕ → Bool) → List ℕ → Type 0
BeginsOne passes front = (rest : List ℕ) × (passes (front ++ rest) ≡ true)

-- so many bytes has the longest beginning of a text with which one that passes begins
pub record IsLongest (passes : List ℕ → Bool) (text : List ℕ) (at : ℕ) : Type 0 where
  pub within : at ≤ length text
  pub begins : BeginsOne passes (take at text)
  pub longest : (n : ℕ) → at < n → n ≤ length text → ¬ BeginsOne passes (take n text)
