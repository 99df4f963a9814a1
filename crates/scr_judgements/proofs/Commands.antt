-- What the definitions of a step say at a command.
use Rattle.std.proofs.Common.{◌≡◌, ℕ, ◌+◌, List, [], ◌∷◌, ◌++◌, ap, sym, ◌∙◌, refl, true, ◌&&◌, ◌≤◌, ◌-◌, arith}
use Rattle.std.specs.Prelude.{filter, length, map, suc}
use Rattle.component_state.specs.declared.component.Component.{Component}
use Rattle.component_state.specs.declared.open_period.OpenPeriod.{OpenPeriod}
use Rattle.component_state.specs.ComponentConfigurations.{component_after, components_after, new_components, with_numbers}
use Rattle.component_state.specs.Components.{exists}
use Rattle.component_state.specs.Marks.{exists_unchanged, failed_after}
use Rattle.component_state.specs.Rows.{with_present_properties}
use Rattle.prop_map.specs.Words.{has}
use Rattle.scr_judgements.specs.Asked.{is_command}
use Rattle.scr_laws.proofs.Stillness.{same_kept}
use Rattle.scr_world.specs.declared.step.Step.{Step}
use Rattle.scr_world.specs.declared.step.Step.TheVariants.{Command as Commanded, Begin, End, Drained, Got, Released}
use Rattle.scr_world.specs.declared.world.World.{World}
use Rattle.scr_world.specs.Stepping.{component_configurations_by, components_added_by, components_by, counted_components, failed_by, periods_with}
use Rattle.scr_world.specs.Worlds.{satisfied_in}

pub command_periods : (step : Step) (cs : List Component) (before : List OpenPeriod) → is_command step ≡ true → map (with_present_properties cs) before ≡ periods_with step cs before
command_periods (Commanded command) cs before e = refl
command_periods (Begin turn instance configuration consumer callback chosen) cs before e = absurd cc
command_periods (End turn outcome) cs before e = absurd cc
command_periods (Drained instance) cs before e = absurd cc
command_periods (Got bundle service) cs before e = absurd cc
command_periods (Released place) cs before e = absurd cc

still_failed : (place : ℕ) (ns ms : List ℕ) (cs : List Component) (failing failed : List ℕ) → ((n : ℕ) → has ns n ≡ has ms n) → failed_after place ns cs failing failed ≡ failed_after place ms cs failing failed
still_failed place ns ms cs failing failed same =
    ap (λ kept. kept ++ filter (exists cs) failing) (same_kept (λ n. has ns n && exists_unchanged place cs n) (λ n. has ms n && exists_unchanged place cs n) failed (λ n h. ap (λ b. b && exists_unchanged place cs n) (same n)))

pub command_failed : (step : Step) (w : World) (satisfied : List ℕ) (cs : List Component) → is_command step ≡ true → ((n : ℕ) → has satisfied n ≡ has (satisfied_in w) n) → cs ≡ components_by step w → failed_after w.entries satisfied cs [] w.failed ≡ failed_by step w
command_failed (Commanded command) w satisfied cs e same are = still_failed w.entries satisfied (satisfied_in w) cs [] w.failed same ∙ ap (λ after. failed_after w.entries (satisfied_in w) after [] w.failed) are
command_failed (Begin turn instance configuration consumer callback chosen) w satisfied cs e same are = absurd cc
command_failed (End turn outcome) w satisfied cs e same are = absurd cc
command_failed (Drained instance) w satisfied cs e same are = absurd cc
command_failed (Got bundle service) w satisfied cs e same are = absurd cc
command_failed (Released place) w satisfied cs e same are = absurd cc

pub command_components : (step : Step) (w : World) → is_command step ≡ true → components_after w.entries w.components_numbered (component_configurations_by step w) (counted_components w) ≡ components_by step w
command_components (Commanded command) w e = refl
command_components (Begin turn instance configuration consumer callback chosen) w e = absurd cc
command_components (End turn outcome) w e = absurd cc
command_components (Drained instance) w e = absurd cc
command_components (Got bundle service) w e = absurd cc
command_components (Released place) w e = absurd cc

-- as many go on as there were, whatever their list is made of
map_length : {X Y : Type 0} (f : X → Y) (xs : List X) → length (map f xs) ≡ length xs
map_length f [] = refl
map_length f (x ∷ xs) = ap suc (map_length f xs)

numbers_length : (number : ℕ) (cs : List Component) → length (with_numbers number cs) ≡ length cs
numbers_length number [] = refl
numbers_length number (c ∷ cs) = ap suc (numbers_length (number + 1) cs)

both_length : {X : Type 0} (xs ys : List X) → length (xs ++ ys) ≡ length xs + length ys
both_length [] ys = omega arith
both_length (x ∷ xs) ys = let e : length (xs ++ ys) ≡ length xs + length ys = both_length xs ys in omega arith

after_length : (place came : ℕ) (these before : List Component) → length (components_after place came these before) ≡ length before + length (new_components before these)
after_length place came these before =
    let a = both_length (map (component_after place these) before) (with_numbers (came + 1) (new_components before these)) in
    let b = map_length (component_after place these) before in
    let c = numbers_length (came + 1) (new_components before these) in
    omega arith

pub command_added : {X : Type 0} (f : X → Component) (counted : List X) (step : Step) (w : World) (cs : List Component) → is_command step ≡ true → map f counted ≡ counted_components w → cs ≡ components_by step w → length cs ≡ length counted + components_added_by step w
command_added f counted (Commanded command) w cs e were are =
    ap length are ∙ after_length w.entries w.components_numbered (component_configurations_by (Commanded command) w) (counted_components w)
    ∙ ap (λ n. n + components_added_by (Commanded command) w) (ap length (sym were) ∙ map_length f counted)
command_added f counted (Begin turn instance configuration consumer callback chosen) w cs e were are = absurd cc
command_added f counted (End turn outcome) w cs e were are = absurd cc
command_added f counted (Drained instance) w cs e were are = absurd cc
command_added f counted (Got bundle service) w cs e were are = absurd cc
command_added f counted (Released place) w cs e were are = absurd cc

pub command_keeps : {X : Type 0} (f : X → Component) (counted : List X) (step : Step) (w : World) (cs : List Component) → is_command step ≡ true → map f counted ≡ counted_components w → cs ≡ components_by step w → length counted ≤ length cs
command_keeps f counted step w cs e were are = let added = command_added f counted step w cs e were are in omega arith

pub command_adds : {X : Type 0} (f : X → Component) (counted : List X) (step : Step) (w : World) (cs : List Component) → is_command step ≡ true → map f counted ≡ counted_components w → cs ≡ components_by step w → length cs - length counted ≡ components_added_by step w
command_adds f counted step w cs e were are = let added = command_added f counted step w cs e were are in omega arith
