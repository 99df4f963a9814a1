use Rattle.std.proofs.Common.{◌<◌, List, ap, sym, ◌∙◌, length, subst, arith}
use Rattle.std.specs.Prelude.{◌==◌}
use Rattle.std.specs.List.{position}
use Rattle.hall_locked.specs.declared.part.Part.{Part}
use Rattle.hall_locked.proofs.Placed.{none_told, part_told, part_within}
use Rattle.hall_locked.proofs.parts.tell_site.Goals as goal

pub index_mut-requires : goal.index_mut-requires
index_mut-requires g c =
    let parts = c.args.parts.now.items in
    let is = ap (position (λ (p : Part g.row.O.Denot). p.instance == c.args.work.instance)) (sym c.as_slice.ensures.value) ∙ sym c.in-Some.ensures in
    let within : c.in-Some.place < length c.as_slice.result.now = subst (λ (ps : List (Part g.row.O.Denot)). c.in-Some.place < length ps) (sym c.as_slice.ensures.value) (part_within parts c.args.work.instance c.args.work.site c.requires c.in-Some.place is) in
    omega (arith, within, c.as_slice.ensures.len)

pub returns-in-Some : goal.returns-in-Some
returns-in-Some g c =
    let parts = c.args.parts.now.items in
    let is = ap (position (λ (p : Part g.row.O.Denot). p.instance == c.args.work.instance)) (sym c.as_slice.ensures.value) ∙ sym c.in-Some.ensures in
    part_told parts c.args.work.instance c.args.work.site c.requires c.in-Some.place is c.index_mut.result.now c.index_mut.ensures.value

pub returns-in-None : goal.returns-in-None
returns-in-None g c =
    let parts = c.args.parts.now.items in
    let none = ap (position (λ (p : Part g.row.O.Denot). p.instance == c.args.work.instance)) (sym c.as_slice.ensures.value) ∙ sym c.in-None.ensures in
    none_told parts c.args.work.instance c.args.work.site c.requires none
