use Rattle.std.proofs.Common.{◌≡◌, ◌-◌, length, ◌++◌, ◌∷◌, ap, subst, ◌∙◌, arith, length-take}
use Rattle.shared_map.specs.Parts.{rows_of}
use Rattle.shared_map.specs.Rows.{HaveSameRows}
use Rattle.shared_map.proofs.PartLemmas.{merged_apart, parts_apart}
use Rattle.shared_map.proofs.parts.merged_with.Goals as goal

pub loop-unmerged-preserved : goal.loop-unmerged-preserved
loop-unmerged-preserved g c =
    let part : c.as_slice.result.now ≡ c.part-item.result = c.as_slice.ensures ∙ c.get.ensures in
    let same : HaveSameRows c.in_ok-rows-2.rows.items (c.loop-unmerged.rows.items ++ c.part-item.result) =
    subst (HaveSameRows c.in_ok-rows-2.rows.items) (ap (λ l. l ++ c.as_slice.result.now) c.as_slice-in-len1-up.ensures.value ∙ ap (λ l. c.loop-unmerged.rows.items ++ l) part) c.in_ok-rows-2.ensures.rows in
    record {
      within = omega (arith, length-take (length c.loop-unmerged.unmerged.now - 1) c.loop-unmerged.unmerged.now);
      parts = (parts_apart c.loop-unmerged.unmerged.now c.part-item.result c.in-len1-up.len_at_least c.part-item.is c.loop-unmerged.invariant.parts).0;
      order = c.in_ok-rows-2.ensures.order;
      same = merged_apart c.loop-unmerged.unmerged.now c.part-item.result c.in-len1-up.len_at_least c.part-item.is c.in_ok-rows-2.rows.items c.loop-unmerged.rows.items (c.args.row ∷ rows_of c.args.parts.now) same c.loop-unmerged.invariant.same;
    }
