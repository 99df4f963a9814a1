-- What is left without the row at the place of a number is the filter that leaves it out.
use Rattle.std.proofs.Common.{arith, ap, sym, subst, ◌∙◌, get_or, Option, Some}
use Rattle.std.proofs.lemmas.Option.{slice_get-get_or}
use Rattle.std.specs.Option.{is_none}
use Rattle.row_places.proofs.RowPlaceLaws.{filter_only, find_none, find_only, only_passes, only_within}
use Rattle.service_listeners.specs.declared.listener.Listener.{Listener}
use Rattle.service_listeners.specs.declared.listen_fault.ListenFault.TheVariants.{NoListener}
use Rattle.service_listeners.specs.Numbers.{IsGiven, has_number}
use Rattle.service_listeners.specs.Refusals.{refuse_if}
use Rattle.row_places.proofs.NumberLaws.{numbers_tell}
use Rattle.service_listeners.proofs.table.Listeners.remove.Goals as goal

pub remove-requires : goal.remove-requires
remove-requires c = let within = only_within (has_number c.args.listener) c.in-Some.place c.as_slice.result.now c.in-Some.ensures in omega (arith, within, c.as_slice.ensures.len)

pub returns-in-Some-clause-row : goal.returns-in-Some-clause-row
returns-in-Some-clause-row c = let only = rw c.as_slice.ensures.value at c.in-Some.ensures in
    let within = only_within (has_number c.args.listener) c.in-Some.place c.self.inside.rows.items only in
    rw (← c.self.view_is) (find_only (has_number c.args.listener) c.in-Some.place c.self.inside.rows.items only ∙ slice_get-get_or c.self.inside.rows.items c.in-Some.place c.remove.result within
    ∙ ap (λ (l : Listener). Some l) (sym c.remove.ensures.value))

pub returns-in-Some-clause-given : goal.returns-in-Some-clause-given
returns-in-Some-clause-given c = let only = rw c.as_slice.ensures.value at c.in-Some.ensures in
    let within = only_within (has_number c.args.listener) c.in-Some.place c.self.inside.rows.items only in
    rw (← c.self.view_is) (subst (IsGiven c.self.inside.numbered) (sym c.remove.ensures.value) (c.self.invariant.1 c.in-Some.place c.remove.result within))

pub returns-in-Some-clause-number : goal.returns-in-Some-clause-number
returns-in-Some-clause-number c = let only = rw c.as_slice.ensures.value at c.in-Some.ensures in
    ap (λ (l : Listener). l.number) c.remove.ensures.value
    ∙ numbers_tell (get_or c.self.inside.rows.items c.in-Some.place c.remove.result).number c.args.listener (only_passes (has_number c.args.listener) c.in-Some.place c.self.inside.rows.items c.remove.result only)

pub returns-in-Some-clause-ok : goal.returns-in-Some-clause-ok
returns-in-Some-clause-ok c = let only = rw c.as_slice.ensures.value at c.in-Some.ensures in
    rw (← c.self.view_is) (ap (λ rows. record { rows = rows; numbered = c.self.inside.numbered }) (c.remove.ensures.items ∙ sym (filter_only (has_number c.args.listener) c.in-Some.place c.self.inside.rows.items only)))

pub returns-in-Some-clause-refused : goal.returns-in-Some-clause-refused
returns-in-Some-clause-refused c = ap (λ (o : Option Listener). refuse_if (is_none o) (NoListener c.args.listener)) (returns-in-Some-clause-row c)

pub returns-in-None-clause-refused : goal.returns-in-None-clause-refused
returns-in-None-clause-refused c = let none = rw c.as_slice.ensures.value at c.in-None.ensures in
    rw (← c.self.view_is) (ap (λ (o : Option Listener). refuse_if (is_none o) (NoListener c.args.listener)) (find_none (has_number c.args.listener) c.self.inside.rows.items none))
