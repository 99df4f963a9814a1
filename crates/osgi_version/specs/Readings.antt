-- What a reader of texts owes: the one value that a text spells, or the place where it leaves every text that spells one.
use Rattle.std.specs.Prelude.{◌≡◌, ℕ, ◌≤◌, List, [], ◌∷◌, ◌++◌, take, length, Option, Some, option_and_then, Result, Ok, Err}
use Rattle.osgi_version.specs.declared.fault.VersionFault.{VersionFault}
use Rattle.osgi_version.specs.declared.fault.VersionFault.TheVariants.{BadVersion, OutOfMemory}

-- some text that spells a value goes on from here (this project's own)
abbrev pub IsOpen : {V : Type 0} → (List ℕ → V → Type 0) → List ℕ → Type 0
IsOpen {V} Spelled prefix = (rest : List ℕ) × (value : V) × Spelled (prefix ++ rest) value

-- the text spells this value and no other
pub record IsRead {V : Type 0} (Spelled : List ℕ → V → Type 0) (text : List ℕ) (value : V) : Type 0 where
  pub spelled : Spelled text value
  pub only : (other : V) → Spelled text other → other ≡ value

-- the text spells nothing, and its longest prefix that some text that spells a value continues has this length
pub record IsBadAt {V : Type 0} (Spelled : List ℕ → V → Type 0) (text : List ℕ) (at : ℕ) : Type 0 where
  pub none : (value : V) → ¬ Spelled text value
  pub within : at ≤ length text
  pub is_open : IsOpen Spelled (take at text)
  pub longest : (n : ℕ) → n ≤ length text → IsOpen Spelled (take n text) → n ≤ at

-- blanks and nothing else
abbrev pub AreBlanks : List ℕ → Type 0
AreBlanks [] = Unit {0}
AreBlanks (b ∷ bs) = (b ≡ 32) × AreBlanks bs

-- the text is the body with blanks before and behind it
abbrev pub Pads : List ℕ → List ℕ → Type 0
Pads text body = (before : List ℕ) × (behind : List ℕ) × AreBlanks before × AreBlanks behind × (text ≡ before ++ (body ++ behind))

-- where the steps lead that the bytes make, if each of them may be made
abbrev pub run : {S : Type 0} → (S → ℕ → Option S) → S → List ℕ → Option S
run step s [] = Some s
run step s (b ∷ bs) = option_and_then (λ t. run step t bs) (step s b)

-- Ok gives the one value that the text spells, BadVersion comes exactly where it spells none, with its place, and want of memory is free.
abbrev pub ReadsAs : {V : Type 0} → (List ℕ → V → Type 0) → List ℕ → Result V VersionFault → Type 0
ReadsAs Spelled text (Ok value) = IsRead Spelled text value
ReadsAs Spelled text (Err (BadVersion at)) = IsBadAt Spelled text at
ReadsAs Spelled text (Err OutOfMemory) = Unit {0}
