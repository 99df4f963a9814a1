-- None comes just where no more are numbered.
use Rattle.std.proofs.Common.{◌≡◌, ℕ, ◌+◌, ap, sym, ◌∙◌, refl, Bool, true, false, ◌&&◌, arith}
use Rattle.std.specs.Prelude.{◌==◌, List, filter, length, nat_lt, not}
use Rattle.std.proofs.lemmas.Bool.{eqb-false, eqb-true}
use Rattle.component_state.specs.declared.component.Component.{Component}
use Rattle.scr_judgements.specs.Asked.{IsAskedAfter, are_too_many}
use Rattle.scr_judgements.specs.declared.asked.Asked.{Asked}
use Rattle.scr_world.specs.declared.step.Step.{Step}
use Rattle.scr_world.specs.declared.world.World.{World}
use Rattle.scr_world.specs.Stepping.{components_added_by, is_counted}

none_comes : (n k : ℕ) → (n + k == n) ≡ (k == 0)
none_comes n k = go (n + k == n) refl (k == 0) refl
  where
    go : (u : Bool) → (n + k == n) ≡ u → (v : Bool) → (k == 0) ≡ v → (n + k == n) ≡ (k == 0)
    go true on true none = on ∙ sym none
    go false off false differs = off ∙ sym differs
    go true on false differs = absurd (eqb-false k 0 differs (let e : n + k ≡ n = eqb-true (n + k) n on in omega arith))
    go false off true none = absurd (eqb-false (n + k) n off (let e : k ≡ 0 = eqb-true k 0 none in omega arith))

pub full_after : (step : Step) (w : World) (asked : Asked) → IsAskedAfter step w asked
    → (not (asked.components_numbered == w.components_numbered) && nat_lt 512 (length (filter (is_counted w.instances) asked.components))) ≡ are_too_many step w
full_after step w asked is =
    ap (λ n. not (n == w.components_numbered) && nat_lt 512 (length (filter (is_counted w.instances) asked.components))) is.components_numbered
    ∙ ap (λ b. not b && nat_lt 512 (length (filter (is_counted w.instances) asked.components))) (none_comes w.components_numbered (components_added_by step w))
    ∙ ap (λ (cs : List Component). not (components_added_by step w == 0) && nat_lt 512 (length (filter (is_counted w.instances) cs))) is.components
