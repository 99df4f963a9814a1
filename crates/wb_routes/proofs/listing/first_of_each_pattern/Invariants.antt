use Rattle.std.proofs.Common.{◌≡◌, ℕ, List}
use Rattle.std.specs.Prelude.{map}
use Rattle.text_index.specs.Texts.{has_text}
use Rattle.wb_routes.specs.declared.route_row.RouteRow.{RouteRow}
use Rattle.wb_context.specs.Firsts.{first_of_each}
use Rattle.wb_routes.proofs.listing.first_of_each_pattern.Given as goal

abbrev pub invariant-loop-row : goal.invariant-loop-row
invariant-loop-row l = record {
  firsts : l.firsts.items ≡ first_of_each (λ (r : RouteRow). r.pattern) l.yielded;
  known : (q : List ℕ) → has_text l.patterns q ≡ has_text (map (λ (r : RouteRow). r.pattern) l.yielded) q;
}
