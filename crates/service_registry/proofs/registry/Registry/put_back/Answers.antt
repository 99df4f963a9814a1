-- A row goes back into the gap of its number.
use Rattle.std.proofs.Common.{◌≡◌, ◌<◌, ap, sym, subst, ◌∙◌, Ok, Err}
use Rattle.std.specs.Ordering.{nat_cmp}
use Rattle.row_places.specs.RowPlaces.{IsPlaceOrGap}
use Rattle.service_registry.specs.declared.row.ServiceRow.{ServiceRow}
use Rattle.service_registry.specs.Registries.{IsNumbered, Registered}
use Rattle.service_registry.specs.Undoing.{with_row_back}
use Rattle.service_registry.proofs.Found.{as_table}
use Rattle.service_registry.proofs.Undone.{into_gap, numbered_back, put_back, stays_with, stays_without}
use Rattle.service_registry.proofs.registry.Registry.put_back.Goals as goal

pub returns-then-self-row-clause-back : goal.returns-then-self-row-clause-back
returns-then-self-row-clause-back c = stays_without c.args.row c.args.self.now (subst (λ (t : Registered). t.numbered < c.args.row.id) c.self.view_is c.if-self-row.true)

pub returns-then-self-row-clause-undone : goal.returns-then-self-row-clause-undone
returns-then-self-row-clause-undone c before numbered there was =
    stays_without c.args.row c.args.self.now (subst (λ (t : Registered). t.numbered < c.args.row.id) c.self.view_is c.if-self-row.true)
    ∙ ap (with_row_back c.args.row) was ∙ put_back c.args.row before numbered there

pub returns-in-Ok-clause-back : goal.returns-in-Ok-clause-back
returns-in-Ok-clause-back c =
    let rows : c.as_slice.result.now ≡ c.args.self.now.rows = c.as_slice.ensures.value ∙ ap (λ (t : Registered). t.rows) c.self.view_is in
    stays_with c.args.row c.in-Ok.field-0 c.args.self.now (subst (λ l. IsPlaceOrGap (λ (r : ServiceRow). nat_cmp r.id c.args.row.id) (Ok c.in-Ok.field-0) l) rows c.in-Ok.ensures.place)

pub returns-in-Ok-clause-undone : goal.returns-in-Ok-clause-undone
returns-in-Ok-clause-undone c before numbered there was =
    let rows : c.as_slice.result.now ≡ c.args.self.now.rows = c.as_slice.ensures.value ∙ ap (λ (t : Registered). t.rows) c.self.view_is in
    stays_with c.args.row c.in-Ok.field-0 c.args.self.now (subst (λ l. IsPlaceOrGap (λ (r : ServiceRow). nat_cmp r.id c.args.row.id) (Ok c.in-Ok.field-0) l) rows c.in-Ok.ensures.place)
    ∙ ap (with_row_back c.args.row) was ∙ put_back c.args.row before numbered there

pub invariant_of-self : goal.invariant_of-self
invariant_of-self c =
    let at = subst (λ l. IsPlaceOrGap (λ (r : ServiceRow). nat_cmp r.id c.args.row.id) (Err c.in-Err.gap) l) c.as_slice.ensures.value c.in-Err.ensures.place in
    subst IsNumbered
    (sym (ap (λ l. as_table l c.self.inside.numbered) c.insert.ensures ∙ into_gap c.args.row c.in-Err.gap (as_table c.self.inside.rows.items c.self.inside.numbered) at c.if-self-row.false))
    (numbered_back c.args.row (as_table c.self.inside.rows.items c.self.inside.numbered) c.self.invariant)

pub returns-in-Err-clause-back : goal.returns-in-Err-clause-back
returns-in-Err-clause-back c =
    let at = subst (λ l. IsPlaceOrGap (λ (r : ServiceRow). nat_cmp r.id c.args.row.id) (Err c.in-Err.gap) l) c.as_slice.ensures.value c.in-Err.ensures.place in
    ap (λ l. as_table l c.self.inside.numbered) c.insert.ensures ∙ into_gap c.args.row c.in-Err.gap (as_table c.self.inside.rows.items c.self.inside.numbered) at c.if-self-row.false
    ∙ ap (with_row_back c.args.row) c.self.view_is

pub returns-in-Err-clause-undone : goal.returns-in-Err-clause-undone
returns-in-Err-clause-undone c before numbered there was =
    let at = subst (λ l. IsPlaceOrGap (λ (r : ServiceRow). nat_cmp r.id c.args.row.id) (Err c.in-Err.gap) l) c.as_slice.ensures.value c.in-Err.ensures.place in
    ap (λ l. as_table l c.self.inside.numbered) c.insert.ensures ∙ into_gap c.args.row c.in-Err.gap (as_table c.self.inside.rows.items c.self.inside.numbered) at c.if-self-row.false
    ∙ ap (with_row_back c.args.row) c.self.view_is ∙ ap (with_row_back c.args.row) was ∙ put_back c.args.row before numbered there
