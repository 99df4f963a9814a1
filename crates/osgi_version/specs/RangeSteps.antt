-- The steps that the bytes of a range of versions make.
use Rattle.std.specs.Prelude.{ℕ, ◌==◌, Bool, true, false, Option, Some, None, option_map, if◌then◌else◌}
use Rattle.osgi_version.specs.Steps.{plain_step, version_of}
use Rattle.osgi_version.specs.VersionSteps.{plain_start}
use Rattle.osgi_version.specs.declared.range.Bound.{Bound}
use Rattle.osgi_version.specs.declared.range.VersionRange.{VersionRange}
use Rattle.osgi_version.specs.declared.reading.Reading.{Reading}
use Rattle.osgi_version.specs.declared.range_reading.RangeReading.{RangeReading}
use Rattle.osgi_version.specs.declared.range_reading.RangeReading.TheVariants.{Before, FloorAlone, Floor, CommaDue, CeilingDue, Ceiling, Behind}
use Rattle.osgi_version.specs.declared.version.Version.{Version}

abbrev pub bound : Bool → Version → Bound
bound inclusive v = record { version = v; inclusive = inclusive }

-- the version and all above it
abbrev pub at_least : Version → VersionRange
at_least v = record { floor = bound true v; ceiling = None }

abbrev pub between : Bound → Bool → Version → VersionRange
between floor inclusive v = record { floor = floor; ceiling = Some (bound inclusive v) }

abbrev pub first_step : ℕ → Option RangeReading
first_step b = if b == 91 then Some (Floor true plain_start) else (if b == 40 then Some (Floor false plain_start) else option_map FloorAlone (plain_step plain_start b))

abbrev pub floor_step : Bool → Reading → ℕ → Option RangeReading
floor_step inclusive reading b = if b == 32 then option_map (λ v. CommaDue (bound inclusive v)) (version_of reading)
    else (if b == 44 then option_map (λ v. CeilingDue (bound inclusive v)) (version_of reading) else option_map (Floor inclusive) (plain_step reading b))

abbrev pub ceiling_step : Bound → Reading → ℕ → Option RangeReading
ceiling_step floor reading b = if b == 93 then option_map (λ v. Behind (between floor true v)) (version_of reading)
    else (if b == 41 then option_map (λ v. Behind (between floor false v)) (version_of reading) else option_map (Ceiling floor) (plain_step reading b))

abbrev pub range_step : RangeReading → ℕ → Option RangeReading
range_step Before b = if b == 32 then Some Before else first_step b
range_step (FloorAlone reading) b = if b == 32 then option_map (λ v. Behind (at_least v)) (version_of reading) else option_map FloorAlone (plain_step reading b)
range_step (Floor inclusive reading) b = floor_step inclusive reading b
range_step (CommaDue floor) b = if b == 32 then Some (CommaDue floor) else (if b == 44 then Some (CeilingDue floor) else None)
range_step (CeilingDue floor) b = if b == 32 then Some (CeilingDue floor) else option_map (Ceiling floor) (plain_step plain_start b)
range_step (Ceiling floor reading) b = ceiling_step floor reading b
range_step (Behind r) b = if b == 32 then Some (Behind r) else None

abbrev pub range_at_end : RangeReading → Option VersionRange
range_at_end (FloorAlone reading) = option_map at_least (version_of reading)
range_at_end (Behind r) = Some r
range_at_end _ = None
