-- How the keys of an object are spelled that are one without ASCII case. Our own.
use Rattle.std.specs.Prelude.{◌≡◌, ℕ, List, Bool, true, false, not, ◌||◌, Option, Some, None, String}
use Rattle.std.specs.BTreeMap.{BTreeMap, get_by_text}
use Rattle.std.specs.Str.{bytes_eq}
use Rattle.prop_map.specs.declared.spellings.Spelling.{Spelling}
use Rattle.prop_map.specs.declared.spellings.Spelling.TheVariants.{Alone, Several}
use Rattle.prop_map.specs.Keys.{folded}
use Rattle.prop_map.specs.JsonProperties.{is_another, is_repeated}

-- a spelling that was noted differs from a key
abbrev pub differs_from : List ℕ → Option Spelling → Bool
differs_from key None = false
differs_from key (Some (Alone spelling)) = not (bytes_eq spelling.now key)
differs_from key (Some Several) = true

-- the spellings that were noted have another one of a key
abbrev pub has_another : {Z : Type 0} → BTreeMap (String Z) Spelling → List ℕ → Bool
has_another spellings key = differs_from key (get_by_text spellings (folded key))

-- the spellings are those of the keys
abbrev pub AreOf : {Z : Type 0} → List (List ℕ) → BTreeMap (String Z) Spelling → Type 0
AreOf keys spellings = (key : List ℕ) → has_another spellings key ≡ is_repeated keys key

-- one more key was noted
abbrev pub Notes : {Z : Type 0} → BTreeMap (String Z) Spelling → List ℕ → BTreeMap (String Z) Spelling → Type 0
Notes before key now = (other : List ℕ) → has_another now other ≡ (has_another before other || is_another key other)
