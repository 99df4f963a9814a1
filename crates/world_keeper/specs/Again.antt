-- The changes that keep a world again. Our own.
use Rattle.std.specs.Prelude.{ℕ, ◌/◌, ◌&&◌, List, ◌++◌, Bool, true, filter, map, nat_le}
use Rattle.world_keeper.specs.declared.change.Change.{Change}
use Rattle.world_keeper.specs.declared.change.Change.TheVariants.{Install, Started, Configured}
use Rattle.world_keeper.specs.declared.kept.Kept.{Kept}
use Rattle.world_keeper.specs.declared.kept.KeptBundle.{KeptBundle}
use Rattle.world_keeper.specs.declared.kept.KeptConfiguration.{KeptConfiguration}

abbrev pub configured : KeptConfiguration → Change
configured c = Configured c.pid c.factory c.properties

abbrev pub installed : KeptBundle → Change
installed b = Install b.location b.document

abbrev pub is_started : KeptBundle → Bool
is_started b = b.started

abbrev pub start_of : KeptBundle → Change
start_of b = Started b.location true

-- the configurations by PID, the installs in order, then the starts of those that are marked, in order
abbrev pub changes_again : Kept → List Change
changes_again kept =
    map configured kept.configurations ++ map installed kept.bundles ++ map start_of (filter is_started kept.bundles)

-- a list of so many changes is to begin anew, where so many keep the same: it is long, and at least twice as long
abbrev pub is_long : ℕ → ℕ → Bool
is_long rows needed = nat_le 1000 rows && nat_le needed (rows / 2)
