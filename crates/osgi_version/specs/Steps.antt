-- The steps that the bytes of a version make.
use Rattle.std.specs.Prelude.{ℕ, ◌==◌, [], ◌∷◌, ◌++◌, Option, Some, None, option_map, if◌then◌else◌}
use Rattle.osgi_version.specs.Numbers.{with_digit}
use Rattle.osgi_version.specs.Versions.{is_qualifier_byte}
use Rattle.osgi_version.specs.declared.reading.Earlier.{Earlier}
use Rattle.osgi_version.specs.declared.reading.Earlier.TheVariants.{Nothing, Major, MajorMinor}
use Rattle.osgi_version.specs.declared.reading.Reading.{Reading}
use Rattle.osgi_version.specs.declared.reading.Reading.TheVariants.{NumberDue, Number, QualifierDue, Qualifier}
use Rattle.osgi_version.specs.declared.version.Version.{Version}

abbrev pub version_of_numbers : ℕ → ℕ → ℕ → Version
version_of_numbers a b c = record { major = a; minor = b; micro = c; qualifier = [] }

abbrev pub with_qualifier_byte : Version → ℕ → Option Reading
with_qualifier_byte v b = if is_qualifier_byte b then Some (Qualifier (record v { qualifier = v.qualifier ++ b ∷ [] })) else None

abbrev pub after_dot : Earlier → ℕ → Reading
after_dot Nothing n = NumberDue (Major n)
after_dot (Major a) n = NumberDue (MajorMinor a n)
after_dot (MajorMinor a b) n = QualifierDue (version_of_numbers a b n)

-- the step of one byte, if a version may go on with it
abbrev pub plain_step : Reading → ℕ → Option Reading
plain_step (NumberDue earlier) b = option_map (Number earlier) (with_digit 0 b)
plain_step (Number earlier n) b = if b == 46 then Some (after_dot earlier n) else option_map (Number earlier) (with_digit n b)
plain_step (QualifierDue v) b = with_qualifier_byte v b
plain_step (Qualifier v) b = with_qualifier_byte v b

abbrev pub with_last : Earlier → ℕ → Version
with_last Nothing n = version_of_numbers n 0 0
with_last (Major a) n = version_of_numbers a n 0
with_last (MajorMinor a b) n = version_of_numbers a b n

-- the version that is read, where it may end here
abbrev pub version_of : Reading → Option Version
version_of (NumberDue earlier) = None
version_of (Number earlier n) = Some (with_last earlier n)
version_of (QualifierDue v) = None
version_of (Qualifier v) = Some v
