use Rattle.std.proofs.Common.{ap, sym}
use Rattle.std.specs.Option.{option_map}
use Rattle.row_places.proofs.RowPlaceLaws.{find_none}
use Rattle.shared_map.specs.declared.rows.Row.{Row}
use Rattle.shared_map.specs.Rows.{is_of}
use Rattle.shared_map.proofs.RowLemmas.{value_there}
use Rattle.shared_map.proofs.rows.value_in.Goals as goal

pub returns-in-Some : goal.returns-in-Some
returns-in-Some g c = value_there c.args.key.now c.args.rows.now c.in-Some.place c.index-rows-place.result c.in-Some.ensures.place c.index-rows-place.is

pub returns-in-None : goal.returns-in-None
returns-in-None g c = ap (option_map (λ (r : Row g.row.V.Denot). r.value)) (sym (find_none (is_of c.args.key.now) c.args.rows.now c.in-None.ensures.place))
