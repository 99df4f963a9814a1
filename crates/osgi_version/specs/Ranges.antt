-- The texts of ranges of versions (OSGi Core 8, section 3.2.6), and which versions a range includes.
use Rattle.std.specs.Prelude.{◌≡◌, ℕ, ◌⊎◌, Bool, true, false, List, [], ◌∷◌, ◌++◌, Option, Some, None, ◌&&◌}
use Rattle.osgi_version.specs.Readings.{Pads}
use Rattle.osgi_version.specs.Versions.{IsPlain, version_cmp}
use Rattle.osgi_version.specs.declared.version.Version.{Version}
use Rattle.std.specs.declared.cmp.Ordering.{Ordering}
use Rattle.std.specs.declared.cmp.Ordering.TheVariants.{Less, Equal, Greater}
use Rattle.osgi_version.specs.declared.range.Bound.{Bound}
use Rattle.osgi_version.specs.declared.range.VersionRange.{VersionRange}

-- `[` where the floor belongs to the range, else `(`
abbrev pub opening : Bool → ℕ
opening true = 91
opening false = 40

-- `]` where the ceiling belongs to the range, else `)`
abbrev pub closing : Bool → ℕ
closing true = 93
closing false = 41

-- one version, from which on all are included
abbrev pub IsFloorAlone : List ℕ → VersionRange → Type 0
IsFloorAlone text r = IsPlain text r.floor.version × (r.floor.inclusive ≡ true) × (r.ceiling ≡ None)

-- a comma with blanks round it
abbrev pub IsComma : List ℕ → Type 0
IsComma text = Pads text (44 ∷ [])

-- two versions in brackets
abbrev pub IsInterval : List ℕ → VersionRange → Type 0
IsInterval text r = (low : List ℕ) × (comma : List ℕ) × (high : List ℕ) × (ceiling : Bound)
    × IsPlain low r.floor.version × IsComma comma × IsPlain high ceiling.version × (r.ceiling ≡ Some ceiling)
    × (text ≡ opening r.floor.inclusive ∷ (low ++ (comma ++ (high ++ closing ceiling.inclusive ∷ []))))

-- a range with blanks round it
abbrev pub SpellsRange : List ℕ → VersionRange → Type 0
SpellsRange text r = (body : List ℕ) × Pads text body × (IsFloorAlone body r ⊎ IsInterval body r)

-- whether one version is below another, or the same where the end between them is inclusive
abbrev pub is_within : Bool → Ordering → Bool
is_within inclusive Less = true
is_within inclusive Equal = inclusive
is_within inclusive Greater = false

abbrev pub is_below : Version → Option Bound → Bool
is_below v None = true
is_below v (Some ceiling) = is_within ceiling.inclusive (version_cmp v ceiling.version)

-- the interval: above the floor and below the ceiling
abbrev pub includes : VersionRange → Version → Bool
includes r v = is_within r.floor.inclusive (version_cmp r.floor.version v) && is_below v r.ceiling
