use Rattle.std.proofs.Common.{◌≡◌, ◌<◌, ℕ, ◌+◌, List, ap, sym, ◌∙◌, cond, length, subst}
use Rattle.std.specs.Prelude.{◌==◌, slice_index, slice_index_or}
use Rattle.std.proofs.lemmas.Grind.{get_or_default_zero}
use Rattle.std.proofs.lemmas.List.Sums.{sum_by-swap_remove}
use Rattle.platform_hall.specs.Desks.{tokens_of}
use Rattle.platform_hall.proofs.tokens.take_out.Goals as goal
use Rattle.prop_map.specs.Words.{one_if}

pub returns-clause-others : goal.returns-clause-others
returns-clause-others c = λ n.
    let turns = c.args.turns.now.items in
    let place = c.place_of-place.result in
    let within : place < length turns = subst (λ (xs : List ℕ). place < length xs) c.deref.ensures.value c.place_of-place.ensures.within in
    let number : slice_index turns place ≡ c.args.number = ap (λ xs. slice_index xs place) (sym c.deref.ensures.value) ∙ c.place_of-place.ensures.place in
    sym (sum_by-swap_remove (λ t. cond (t == n) 1 0) turns place c.swap_remove.result within)
    ∙ ap (λ xs. tokens_of xs n + one_if (slice_index_or turns place c.swap_remove.result == n)) (sym c.swap_remove.ensures.items)
    ∙ ap (λ k. tokens_of c.swap_remove.new.self.items n + one_if (k == n)) (get_or_default_zero turns place c.swap_remove.result within ∙ number)
