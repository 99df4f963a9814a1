-- What is kept of bundles, a row for each. Our own.
use Rattle.std.specs.Prelude.{◌≡◌, ◌==◌, ℕ, List, [], ◌∷◌, map, Option, Result}
use Rattle.bundle_wiring.specs.Resolution.{Bundle}
use Rattle.bundle_wiring.specs.declared.fault.WireFault.{WireFault}
use Rattle.bundle_wiring.specs.declared.wiring.Wiring.{Wiring}
use Rattle.kept_wirings.specs.DocumentWirings.{fault_of, part_of, wiring_in}
use Rattle.row_places.specs.RowPlaces.{NoneOf}
use Rattle.scr_world.specs.declared.contents.Contents.{Contents}

-- the number of a bundle, and what its manifest says of its needs and offers, or the first fault of it
abbrev pub WiringRow : Type 0
WiringRow = ℕ × Result Wiring WireFault

abbrev pub row_of : Contents → WiringRow
row_of c = (c.bundle, wiring_in c)

-- the rows of bundles with these documents, in their order
abbrev pub rows_of : List Contents → List WiringRow
rows_of cs = map row_of cs

-- the bundle of a row, as it takes part when bundles resolve together
abbrev pub part_in : WiringRow → Bundle
part_in row = (row.0, part_of row.1)

abbrev pub fault_in : WiringRow → Option WireFault
fault_in row = fault_of row.1

-- no row has the number of one before it
abbrev pub HaveOwnNumbers : List WiringRow → Type 0
HaveOwnNumbers [] = Unit {0}
HaveOwnNumbers (row ∷ rows) = NoneOf (λ (other : WiringRow). other.0 == row.0) rows × HaveOwnNumbers rows
