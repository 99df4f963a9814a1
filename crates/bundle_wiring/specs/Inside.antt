-- Where the reading of a version stands that takes no memory. What only code and proofs need.
use Rattle.std.specs.Prelude.{ℕ, ◌≤◌, ◌==◌, List, [], slice_range, Option, Some, None, option_map, if◌then◌else◌}
use Rattle.osgi_version.specs.Numbers.{with_digit}
use Rattle.osgi_version.specs.Versions.{is_qualifier_byte}
use Rattle.osgi_version.specs.declared.version.Version.{Version}
use Rattle.osgi_version.specs.ReadingStates.{NumbersBefore, VersionState, behind, in_number, in_qualifier, inside, major_before, minor_before, none_before, number_due, qualifier_due}
use Rattle.osgi_version.specs.VersionStart.{version_start}
use Rattle.bundle_wiring.specs.declared.version_text.Numbers.{Numbers}
use Rattle.bundle_wiring.specs.declared.version_text.Before.{Before}
use Rattle.bundle_wiring.specs.declared.version_text.Before.TheVariants.{Major, Minor, Micro}
use Rattle.bundle_wiring.specs.declared.version_text.Seen.{Seen}
use Rattle.bundle_wiring.specs.declared.version_text.Seen.TheVariants.{Blanks, NumberDue, Number, QualifierDue, Qualifier, Behind}

abbrev pub numbers : ℕ → ℕ → ℕ → Numbers
numbers a b c = record { major = a; minor = b; micro = c }

abbrev pub with_last : Before → ℕ → Numbers
with_last Major n = numbers n 0 0
with_last (Minor a) n = numbers a n 0
with_last (Micro a b) n = numbers a b n

abbrev pub after_dot : Before → ℕ → Seen
after_dot Major n = NumberDue (Minor n)
after_dot (Minor a) n = NumberDue (Micro a n)
after_dot (Micro a b) n = QualifierDue (numbers a b n)

abbrev pub digit_step : Before → ℕ → ℕ → Option Seen
digit_step before n b = option_map (Number before) (with_digit n b)

abbrev pub qualifier_step : Numbers → ℕ → ℕ → Option Seen
qualifier_step ns start b = if is_qualifier_byte b then Some (Qualifier ns start) else None

-- the step of the byte at a place, if a version may go on with it
abbrev pub seen_step : ℕ → Seen → ℕ → Option Seen
seen_step at Blanks b = if b == 32 then Some Blanks else digit_step Major 0 b
seen_step at (NumberDue before) b = if b == 32 then None else digit_step before 0 b
seen_step at (Number before n) b = if b == 32 then Some (Behind (with_last before n) 0 0) else (if b == 46 then Some (after_dot before n) else digit_step before n b)
seen_step at (QualifierDue ns) b = if b == 32 then None else qualifier_step ns at b
seen_step at (Qualifier ns start) b = if b == 32 then Some (Behind ns start at) else qualifier_step ns start b
seen_step at (Behind ns start end) b = if b == 32 then Some (Behind ns start end) else None

-- the places of the qualifier lie in the order in which they must
abbrev pub LiesWithin : ℕ → Seen → Type 0
LiesWithin at Blanks = Unit {0}
LiesWithin at (NumberDue before) = Unit {0}
LiesWithin at (Number before n) = Unit {0}
LiesWithin at (QualifierDue ns) = Unit {0}
LiesWithin at (Qualifier ns start) = start ≤ at
LiesWithin at (Behind ns start end) = (start ≤ end) × (end ≤ at)

abbrev pub version_with : Numbers → List ℕ → Version
version_with ns qualifier = record { major = ns.major; minor = ns.minor; micro = ns.micro; qualifier = qualifier }

abbrev pub part : List ℕ → ℕ → ℕ → List ℕ
part text start end = slice_range text start end

abbrev pub numbers_before : Before → NumbersBefore
numbers_before Major = none_before
numbers_before (Minor a) = major_before a
numbers_before (Micro a b) = minor_before a b

-- where the machine of `osgi_version` stands behind the first bytes of a text
abbrev pub reading_of : List ℕ → ℕ → Seen → VersionState
reading_of text at Blanks = version_start
reading_of text at (NumberDue before) = inside (number_due (numbers_before before))
reading_of text at (Number before n) = inside (in_number (numbers_before before) n)
reading_of text at (QualifierDue ns) = inside (qualifier_due (version_with ns []))
reading_of text at (Qualifier ns start) = inside (in_qualifier (version_with ns (part text start at)))
reading_of text at (Behind ns start end) = behind (version_with ns (part text start end))

-- the version that was read, where it may end here
abbrev pub seen_version : List ℕ → ℕ → Seen → Option Version
seen_version text at Blanks = None
seen_version text at (NumberDue before) = None
seen_version text at (Number before n) = Some (version_with (with_last before n) [])
seen_version text at (QualifierDue ns) = None
seen_version text at (Qualifier ns start) = Some (version_with ns (part text start at))
seen_version text at (Behind ns start end) = Some (version_with ns (part text start end))
