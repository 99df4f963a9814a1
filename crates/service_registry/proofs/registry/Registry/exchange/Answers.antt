-- The row of a number is exchanged at its place.
use Rattle.std.proofs.Common.{◌≡◌, ap, sym, subst, ◌∙◌}
use Rattle.std.proofs.Math.ListN.{set}
use Rattle.row_places.proofs.RowPlaceLaws.{find_none}
use Rattle.service_registry.specs.declared.row.ServiceRow.{ServiceRow}
use Rattle.service_registry.specs.Registries.{IsNumbered, has_number, row_of}
use Rattle.service_registry.specs.Undoing.{with_row}
use Rattle.service_registry.proofs.Found.{as_table, found}
use Rattle.service_registry.proofs.Undone.{changed, exchanged_back, none_written, numbered_written, written}
use Rattle.service_registry.proofs.registry.Registry.exchange.Goals as goal

pub invariant_of-self : goal.invariant_of-self
invariant_of-self c =
    subst (λ (row : ServiceRow). IsNumbered (as_table (set c.self.inside.rows.items c.in-Some.place row) c.self.inside.numbered)) (sym c.replace.ensures.after)
    (numbered_written c.in-Some.place c.self.inside.numbered c.args.row c.as_slice.result.now c.self.inside.rows.items c.as_slice.ensures.value c.self.invariant c.in-Some.ensures.only)

pub returns-in-Some-clause-was : goal.returns-in-Some-clause-was
returns-in-Some-clause-was c =
    let rows : c.as_slice.result.now ≡ c.args.self.now.rows = cc in
    let there = found c.args.row.id c.in-Some.place c.as_slice.result.now c.replace.result c.in-Some.ensures.only c.in-Some.ensures.within in
    cc (there, rows)

pub returns-in-Some-clause-now : goal.returns-in-Some-clause-now
returns-in-Some-clause-now c =
    ap (λ (row : ServiceRow). as_table (set c.self.inside.rows.items c.in-Some.place row) c.self.inside.numbered) c.replace.ensures.after
    ∙ written c.args.row c.args.row c.in-Some.place c.self.inside.numbered c.as_slice.result.now c.self.inside.rows.items c.as_slice.ensures.value c.in-Some.ensures.only
    ∙ ap (with_row c.args.row) c.self.view_is

pub returns-in-Some-clause-set : goal.returns-in-Some-clause-set
returns-in-Some-clause-set c given is = returns-in-Some-clause-now c ∙ changed c.args.row given c.args.self.now (subst IsNumbered c.self.view_is c.self.invariant) is

pub returns-in-Some-clause-undone : goal.returns-in-Some-clause-undone
returns-in-Some-clause-undone c before other numbered same there was = returns-in-Some-clause-now c ∙ ap (with_row c.args.row) was ∙ exchanged_back c.args.row other before numbered same there

pub returns-in-None-clause-was : goal.returns-in-None-clause-was
returns-in-None-clause-was c =
    let rows : c.as_slice.result.now ≡ c.args.self.now.rows = cc in
    sym (find_none (has_number c.args.row.id) c.as_slice.result.now c.in-None.ensures.only) ∙ ap (λ l. row_of l c.args.row.id) rows

pub returns-in-None-clause-now : goal.returns-in-None-clause-now
returns-in-None-clause-now c =
    sym c.self.view_is ∙ none_written c.args.row c.self.inside.numbered c.as_slice.result.now c.self.inside.rows.items c.as_slice.ensures.value c.in-None.ensures.only
    ∙ ap (with_row c.args.row) c.self.view_is

pub returns-in-None-clause-set : goal.returns-in-None-clause-set
returns-in-None-clause-set c given is = returns-in-None-clause-now c ∙ changed c.args.row given c.args.self.now (subst IsNumbered c.self.view_is c.self.invariant) is

pub returns-in-None-clause-undone : goal.returns-in-None-clause-undone
returns-in-None-clause-undone c before other numbered same there was = returns-in-None-clause-now c ∙ ap (with_row c.args.row) was ∙ exchanged_back c.args.row other before numbered same there
