use Rattle.std.proofs.Common.{◌-◌, length, ap, sym, ◌∙◌, arith, length-take}
use Rattle.shared_map.specs.Rows.{value_of}
use Rattle.shared_map.proofs.PartLemmas.{found_apart, left_apart, parts_apart}
use Rattle.shared_map.proofs.parts.value_of.Goals as goal

pub returns-then-is_some : goal.returns-then-is_some
returns-then-is_some g c =
    found_apart c.loop-left.left.now c.part-item.result c.in-len1-up.len_at_least c.part-item.is c.args.key.now c.value_in-value.result (sym c.is_some.ensures ∙ c.if-is_some.true)
    (c.value_in-value.ensures ∙ ap (value_of c.args.key.now) (c.as_slice.ensures ∙ c.get.ensures))
    ∙ c.loop-left.invariant.same

pub loop-left-preserved : goal.loop-left-preserved
loop-left-preserved g c = record {
  within = omega (arith, length-take (length c.loop-left.left.now - 1) c.loop-left.left.now);
  parts = (parts_apart c.loop-left.left.now c.part-item.result c.in-len1-up.len_at_least c.part-item.is c.loop-left.invariant.parts).0;
  same = left_apart c.loop-left.left.now c.part-item.result c.in-len1-up.len_at_least c.part-item.is c.args.key.now c.value_in-value.result (sym c.is_some.ensures ∙ c.if-is_some.false)
      (c.value_in-value.ensures ∙ ap (value_of c.args.key.now) (c.as_slice.ensures ∙ c.get.ensures))
      ∙ c.loop-left.invariant.same;
}
