-- Bundles with the state that a command gives one of them.
use Rattle.std.specs.Prelude.{List, map, Option, Some, None}
use Rattle.bundle_life.specs.Lives.{in_state}
use Rattle.bundle_life.specs.declared.bundle.BundleLife.{BundleLife}
use Rattle.scr_judgements.specs.declared.after.StateGiven.{StateGiven}

abbrev pub rows_given : Option StateGiven → List BundleLife → List BundleLife
rows_given None rows = rows
rows_given (Some given) rows = map (in_state given.bundle given.state) rows
