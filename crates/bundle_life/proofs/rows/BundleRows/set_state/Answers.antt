-- A state exchanged at the place of a number is the map that exchanges it there.
use Rattle.std.proofs.Common.{arith, ap, sym, ◌∙◌}
use Rattle.std.proofs.lemmas.Bool.{false≢true}
use Rattle.row_places.proofs.RowPlaceLaws.{only_within}
use Rattle.bundle_life.specs.Lives.{is_active, is_stopping}
use Rattle.bundle_life.specs.Numbers.{has_number}
use Rattle.bundle_life.proofs.RowLaws.{count_begins, count_completes, count_leaves, state_nowhere, state_set, state_unset}
use Rattle.bundle_life.proofs.rows.BundleRows.set_state.Goals as goal

pub index_mut-requires : goal.index_mut-requires
index_mut-requires c = let within = only_within (has_number c.args.number) c.in-Some.place c.as_slice.result.now c.in-Some.ensures in omega (arith, within, c.as_slice.ensures.len)

pub returns-in-Some-clause-rows : goal.returns-in-Some-clause-rows
returns-in-Some-clause-rows c = let only = rw c.as_slice.ensures.value at c.in-Some.ensures in
    rw (← c.self.view_is) (ap (λ rows. record { rows = rows; numbered = c.self.inside.numbered }) (state_set c.args.number c.in-Some.place c.args.state c.self.inside.list.items c.index_mut.result.now only c.index_mut.ensures.value))

pub returns-in-Some-clause-leaves : goal.returns-in-Some-clause-leaves
returns-in-Some-clause-leaves c = let only = rw c.as_slice.ensures.value at c.in-Some.ensures in
    rw (← c.self.view_is) (λ before after. count_leaves c.args.number c.in-Some.place c.self.inside.list.items (record c.index_mut.result.now { state = c.args.state }) c.index_mut.result.now only before after)

pub returns-in-Some-clause-begins : goal.returns-in-Some-clause-begins
returns-in-Some-clause-begins c = let only = rw c.as_slice.ensures.value at c.in-Some.ensures in
    rw (← c.self.view_is) (λ before after. count_begins c.args.number c.in-Some.place c.self.inside.list.items (record c.index_mut.result.now { state = c.args.state }) c.index_mut.result.now only before after)

pub returns-in-Some-clause-completes : goal.returns-in-Some-clause-completes
returns-in-Some-clause-completes c = let only = rw c.as_slice.ensures.value at c.in-Some.ensures in
    rw (← c.self.view_is) (λ before after. count_completes c.args.number c.in-Some.place c.self.inside.list.items (record c.index_mut.result.now { state = c.args.state }) c.index_mut.result.now only before after)

pub returns-in_default-clause-rows : goal.returns-in_default-clause-rows
returns-in_default-clause-rows c = let none = rw c.as_slice.ensures.value at c.in_default.ensures in
    rw (← c.self.view_is) (ap (λ rows. record { rows = rows; numbered = c.self.inside.numbered }) (state_unset c.args.number c.args.state c.self.inside.list.items none))

pub returns-in_default-clause-begins : goal.returns-in_default-clause-begins
returns-in_default-clause-begins c = let none = rw c.as_slice.ensures.value at c.in_default.ensures in
    rw (← c.self.view_is) (λ before after. absurd (false≢true (sym (state_nowhere is_active c.args.number c.self.inside.list.items none) ∙ before)))

pub returns-in_default-clause-completes : goal.returns-in_default-clause-completes
returns-in_default-clause-completes c = let none = rw c.as_slice.ensures.value at c.in_default.ensures in
    rw (← c.self.view_is) (λ before after. absurd (false≢true (sym (state_nowhere is_stopping c.args.number c.self.inside.list.items none) ∙ before)))
