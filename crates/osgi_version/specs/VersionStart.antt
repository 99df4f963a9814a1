-- Where the steps of a version begin.
use Rattle.osgi_version.specs.declared.version_reading.VersionReading.{VersionReading}
use Rattle.osgi_version.specs.declared.version_reading.VersionReading.TheVariants.{Before}

abbrev pub version_start : VersionReading
version_start = Before
