-- Where a text ceases to be the beginning of a filter.
use Rattle.std.specs.Prelude.{◌≡◌, ℕ, suc, ◌+◌, ◌-◌, ◌==◌, ◌<◌, ◌≤◌, List, [], ◌∷◌, ◌++◌, Bool, true, false, if◌then◌else◌, length, take, slice_get, Some}
use Rattle.ldap_filter.specs.Trees.{Tree}
use Rattle.ldap_filter.specs.Spelling.{Spells}

-- a text is open where some text that begins with it spells a filter
pub record IsOpen (text : List ℕ) : Type 0 where
  pub rest : List ℕ
  pub tree : Tree
  pub spells : Spells (text ++ rest) tree

-- how many brackets stand open behind a text: `(` opens one, `)` closes one, and a backslash takes the character behind it as it is
abbrev pub standing_after : Bool → ℕ → List ℕ → ℕ
standing_after escaped open_ [] = open_
standing_after true open_ (b ∷ bs) = standing_after false open_ bs
standing_after false open_ (b ∷ bs) = if b == 40 then standing_after false (suc open_) bs else (if b == 41 then standing_after false (open_ - 1) bs else standing_after (b == 92) open_ bs)

abbrev pub standing : List ℕ → ℕ
standing text = standing_after false 0 text

-- no more than so many brackets stand open anywhere in a text
abbrev pub IsWithin : ℕ → List ℕ → Type 0
IsWithin limit text = (n : ℕ) → standing (take n text) ≤ limit

-- the place of a bad filter: the length of its longest open front, and whether that is the whole text
pub record IsBadAt (text : List ℕ) (at : ℕ) (ended : Bool) : Type 0 where
  pub none : (tree : Tree) → ¬ Spells text tree
  pub inside : at ≤ length text
  pub whole : ended ≡ (at == length text)
  pub front : IsOpen (take at text)
  pub longest : (n : ℕ) → at < n → n ≤ length text → ¬ IsOpen (take n text)
  pub within : IsWithin 64 (take at text)

-- the place of the first bracket that opens a filter one level too deep
pub record IsTooDeepAt (text : List ℕ) (at : ℕ) : Type 0 where
  pub bracket : slice_get text at ≡ Some 40
  pub front : IsOpen (take (at + 1) text)
  pub within : IsWithin 64 (take at text)
  pub above : standing (take (at + 1) text) ≡ 65
