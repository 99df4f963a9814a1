-- The steps that the bytes of a version with blanks round it make.
use Rattle.std.specs.Prelude.{ℕ, ◌==◌, Option, Some, None, option_map, if◌then◌else◌}
use Rattle.osgi_version.specs.Steps.{plain_step, version_of}
use Rattle.osgi_version.specs.declared.reading.Earlier.TheVariants.{Nothing}
use Rattle.osgi_version.specs.declared.reading.Reading.{Reading}
use Rattle.osgi_version.specs.declared.reading.Reading.TheVariants.{NumberDue}
use Rattle.osgi_version.specs.declared.version.Version.{Version}
use Rattle.osgi_version.specs.declared.version_reading.VersionReading.{VersionReading}
use Rattle.osgi_version.specs.declared.version_reading.VersionReading.TheVariants.{Before, Inside, Behind}

abbrev pub plain_start : Reading
plain_start = NumberDue Nothing

abbrev pub version_step : VersionReading → ℕ → Option VersionReading
version_step Before b = if b == 32 then Some Before else option_map Inside (plain_step plain_start b)
version_step (Inside reading) b = if b == 32 then option_map Behind (version_of reading) else option_map Inside (plain_step reading b)
version_step (Behind v) b = if b == 32 then Some (Behind v) else None

abbrev pub version_at_end : VersionReading → Option Version
version_at_end Before = None
version_at_end (Inside reading) = version_of reading
version_at_end (Behind v) = Some v
