use Rattle.std.proofs.Common.{◌≡◌, ◌∙◌, ap, map, subst, List, ℕ}
use Rattle.std.specs.Result.{IfOk}
use Rattle.prop_map.specs.Words.{in_order}
use Rattle.scr_world.specs.Worlds.{ranking_of}
use Rattle.service_registry.specs.declared.best_first.Ranked.{Ranked}
use Rattle.service_registry.specs.Services.{ranked_before, ranks_before}
use Rattle.scr_dues.proofs.Ranks.{few_in_order, sorted_by}
use Rattle.scr_dues.proofs.services.sorted.Goals as goal

pub returns : goal.returns
returns c = c.in_ok-numbers.ensures ∙ ap (λ (l : List Ranked). map (λ (r : Ranked). r.id) (in_order ranked_before l)) c.in_ok-ranked.ensures ∙ sorted_by (ranking_of c.args.world.now) c.args.services.now

pub returns-then-services-lt2 : goal.returns-then-services-lt2
returns-then-services-lt2 c =
    let w = c.args.world.now in
    subst (λ (l : List ℕ). IfOk c.from_slice.result (λ v. v.items ≡ l)) (few_in_order (λ a b. ranks_before (ranking_of w a) a (ranking_of w b) b) c.args.services.now c.if-services-lt2.true) c.from_slice.ensures.items
