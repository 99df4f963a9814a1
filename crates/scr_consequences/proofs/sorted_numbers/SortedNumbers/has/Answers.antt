use Rattle.std.proofs.Common.{◌≡◌, ℕ, List, ◌∙◌, ap, sym, subst}
use Rattle.std.specs.List.Sorted.{IsSorted}
use Rattle.std.specs.Ordering.{nat_cmp}
use Rattle.prop_map.specs.Words.{has}
use Rattle.scr_consequences.proofs.SortedLemmas.{halved}
use Rattle.scr_consequences.proofs.sorted_numbers.SortedNumbers.has.Goals as goal

pub returns : goal.returns
returns c =
    let numbers = c.deref.result.now in
    let sorted : IsSorted nat_cmp numbers = subst (λ (xs : List ℕ). IsSorted nat_cmp xs) (sym c.deref.ensures.value) c.self.invariant in
    let e : numbers ≡ c.args.self.now = cc in
    c.is_ok.ensures.value ∙ halved numbers c.args.number c.binary_search.result sorted c.binary_search.ensures.position ∙ ap (λ (xs : List ℕ). has xs c.args.number) e
