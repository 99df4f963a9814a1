use Rattle.std.proofs.Common.{ℕ, List, ◌∙◌, ap, sym, subst}
use Rattle.component_state.specs.declared.open_period.OpenPeriod.{OpenPeriod}
use Rattle.component_state.specs.Periods.{is_open}
use Rattle.std.specs.List.Sorted.{IsSorted}
use Rattle.std.specs.Ordering.{nat_cmp}
use Rattle.prop_map.specs.Words.{has}
use Rattle.scr_causes.proofs.NumberLemmas.{halved}
use Rattle.scr_causes.proofs.open_numbers.OpenNumbers.has.Goals as goal

pub returns : goal.returns
returns c =
    let numbers = c.deref.result.now in
    let sorted : IsSorted nat_cmp numbers = subst (λ (xs : List ℕ). IsSorted nat_cmp xs) (sym c.deref.ensures.value) c.self.invariant.0 in
    c.is_ok.ensures.value ∙ halved numbers c.args.number c.binary_search.result sorted c.binary_search.ensures.position
    ∙ ap (λ (xs : List ℕ). has xs c.args.number) c.deref.ensures.value
    ∙ c.self.invariant.1 c.args.number
    ∙ ap (λ (ps : List OpenPeriod). is_open ps c.args.number) c.self.view_is
