use Rattle.std.proofs.Common.{◌≡◌, drop}
use Rattle.std.specs.List.{list_any}
use Rattle.std.specs.Prelude.{map}
use Rattle.component_state.specs.Inside.Misled.{is_misled}
use Rattle.component_state.specs.Passes.{services_in}
use Rattle.component_state.proofs.reasons.some_misled.Given as goal

abbrev pub invariant-loop-origin : goal.invariant-loop-origin
invariant-loop-origin l =
    list_any (is_misled l.stage.place l.stage.open_before (services_in l.stage l.open_now) l.component) (map (λ o. o.now) l.origins)
    ≡ list_any (is_misled l.stage.place l.stage.open_before (services_in l.stage l.open_now) l.component) (map (λ o. o.now) (drop l.origin-index l.origins))
