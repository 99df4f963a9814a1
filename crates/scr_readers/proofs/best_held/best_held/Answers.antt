use Rattle.std.proofs.Common.{◌≤◌, ◌+◌, ℕ, List, Some, arith, get_or, length, subst, sym, take}
use Rattle.std.proofs.lemmas.List.{take_all}
use Rattle.prop_map.specs.Words.{has}
use Rattle.scr_readers.specs.Inside.{IsBestBy, better_by}
use Rattle.scr_readers.proofs.BestHeld.{better_apart, best_is_first, one_further}
use Rattle.scr_readers.proofs.BestOne.{with_one}
use Rattle.scr_readers.proofs.best_held.best_held.Goals as goal

pub loop-service-preserved : goal.loop-service-preserved
loop-service-preserved c =
    let w = c.args.world.now in
    let held : List ℕ = c.args.held.now in
    let i = c.loop-service.service-index in
    let s : ℕ = get_or held i 0 in
    subst (λ (n : ℕ). IsBestBy (better_by w) (has (take (i + 1) held)) (Some n)) (sym c.better_one.ensures)
    (with_one (better_by w) (better_apart w) s c.loop-service.best (has (take i held)) (has (take (i + 1) held)) (λ y. one_further held i 0 y (omega arith)) c.loop-service.invariant)

pub returns : goal.returns
returns c =
    let w = c.args.world.now in
    let held : List ℕ = c.args.held.now in
    let all : length held ≤ c.loop-service.service-index = omega arith in
    best_is_first (better_by w) (better_apart w) held c.loop-service.best
    (subst (λ (l : List ℕ). IsBestBy (better_by w) (has l) c.loop-service.best) (take_all c.loop-service.service-index held all) c.loop-service.invariant)
