-- The texts of versions (OSGi Core 8, section 3.2.5).
use Rattle.std.specs.Prelude.{◌≡◌, ℕ, ◌<◌, ◌≤◌, ◌==◌, ◌||◌, Bool, IsTrue, List, [], ◌∷◌, ◌++◌, length}
use Rattle.std.specs.List.{join_with_byte, list_all}
use Rattle.std.specs.Char.{is_ascii_alphanumeric}
use Rattle.std.specs.Fmt.{decimal}
use Rattle.std.specs.Cmp.Lexicographic.{slice_cmp}
use Rattle.std.specs.Ordering.{nat_cmp, ordering_then}
use Rattle.std.specs.declared.cmp.Ordering.{Ordering}
use Rattle.osgi_version.specs.Numbers.{IsNumber}
use Rattle.osgi_version.specs.Readings.{Pads}
use Rattle.osgi_version.specs.declared.version.Version.{Version}

-- a letter, a digit, `_` or `-`
abbrev pub is_qualifier_byte : ℕ → Bool
is_qualifier_byte b = is_ascii_alphanumeric b || (b == 95) || (b == 45)

abbrev pub IsQualifier : List ℕ → Type 0
IsQualifier bytes = (0 < length bytes) × IsTrue (list_all is_qualifier_byte bytes)

-- one to four parts, and what each says; what is not there is 0, or empty
abbrev pub ArePartsOf : List (List ℕ) → Version → Type 0
ArePartsOf [] v = ⊥
ArePartsOf (a ∷ []) v = IsNumber a v.major × (v.minor ≡ 0) × (v.micro ≡ 0) × (v.qualifier ≡ [])
ArePartsOf (a ∷ b ∷ []) v = IsNumber a v.major × IsNumber b v.minor × (v.micro ≡ 0) × (v.qualifier ≡ [])
ArePartsOf (a ∷ b ∷ c ∷ []) v = IsNumber a v.major × IsNumber b v.minor × IsNumber c v.micro × (v.qualifier ≡ [])
ArePartsOf (a ∷ b ∷ c ∷ q ∷ []) v = IsNumber a v.major × IsNumber b v.minor × IsNumber c v.micro × IsQualifier q × (v.qualifier ≡ q)
ArePartsOf (a ∷ b ∷ c ∷ q ∷ more ∷ parts) v = ⊥

-- parts with a dot between each two
abbrev pub IsPlain : List ℕ → Version → Type 0
IsPlain text v = (parts : List (List ℕ)) × ArePartsOf parts v × (text ≡ join_with_byte 46 parts)

-- a version with blanks round it
abbrev pub SpellsVersion : List ℕ → Version → Type 0
SpellsVersion text v = (body : List ℕ) × Pads text body × IsPlain body v

abbrev pub empty_version : Version
empty_version = record { major = 0; minor = 0; micro = 0; qualifier = [] }

-- a version that some text spells
pub record IsVersion (v : Version) : Type 0 where
  pub major : v.major ≤ 2147483647
  pub minor : v.minor ≤ 2147483647
  pub micro : v.micro ≤ 2147483647
  pub qualifier : IsTrue (list_all is_qualifier_byte v.qualifier)

abbrev pub qualifier_text : List ℕ → List ℕ
qualifier_text [] = []
qualifier_text (b ∷ bs) = 46 ∷ b ∷ bs

-- the canonical spelling: three numbers without zeros before them, and the qualifier if there is one
abbrev pub version_text : Version → List ℕ
version_text v = decimal v.major ++ (46 ∷ decimal v.minor) ++ (46 ∷ decimal v.micro) ++ qualifier_text v.qualifier

-- by the numbers from the first on, and then by the bytes of the qualifiers
abbrev pub version_cmp : Version → Version → Ordering
version_cmp a b = ordering_then (nat_cmp a.major b.major) (ordering_then (nat_cmp a.minor b.minor)
    (ordering_then (nat_cmp a.micro b.micro) (slice_cmp nat_cmp a.qualifier b.qualifier)))
