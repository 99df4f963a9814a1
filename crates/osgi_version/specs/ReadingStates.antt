-- The states of the reading of a version, by names that other crates can use, whose own readings pass through the same states.
use Rattle.std.specs.Prelude.{ℕ}
use Rattle.osgi_version.specs.declared.reading.Earlier.{Earlier}
use Rattle.osgi_version.specs.declared.reading.Earlier.TheVariants.{Nothing, Major, MajorMinor}
use Rattle.osgi_version.specs.declared.reading.Reading.{Reading}
use Rattle.osgi_version.specs.declared.reading.Reading.TheVariants.{NumberDue, Number, QualifierDue, Qualifier}
use Rattle.osgi_version.specs.declared.version.Version.{Version}
use Rattle.osgi_version.specs.declared.version_reading.VersionReading.{VersionReading}
use Rattle.osgi_version.specs.declared.version_reading.VersionReading.TheVariants.{Inside, Behind}

-- the numbers before the one that is read
abbrev pub NumbersBefore : Type 0
NumbersBefore = Earlier

abbrev pub none_before : NumbersBefore
none_before = Nothing

abbrev pub major_before : ℕ → NumbersBefore
major_before major = Major major

abbrev pub minor_before : ℕ → ℕ → NumbersBefore
minor_before major minor = MajorMinor major minor

-- how far a version without blanks round it is read
abbrev pub PlainState : Type 0
PlainState = Reading

abbrev pub number_due : NumbersBefore → PlainState
number_due before = NumberDue before

abbrev pub in_number : NumbersBefore → ℕ → PlainState
in_number before n = Number before n

abbrev pub qualifier_due : Version → PlainState
qualifier_due v = QualifierDue v

abbrev pub in_qualifier : Version → PlainState
in_qualifier v = Qualifier v

-- how far one with blanks round it is read
abbrev pub VersionState : Type 0
VersionState = VersionReading

abbrev pub inside : PlainState → VersionState
inside state = Inside state

abbrev pub behind : Version → VersionState
behind v = Behind v
