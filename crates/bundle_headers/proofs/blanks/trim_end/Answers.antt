use Rattle.std.proofs.Common.{◌≡◌, arith, sym, ap, ◌∙◌, take}
use Rattle.std.proofs.lemmas.Bool.{ne_eqb}
use Rattle.bundle_headers.specs.Blanks.{trim_end}
use Rattle.bundle_headers.proofs.BlankLemmas.{trim_end-shorter, trim_end-same}
use Rattle.bundle_headers.proofs.blanks.trim_end.Goals as goal
use Rattle.bundle_headers.proofs.blanks.trim_end.Goals.{then-loop-end-test+else-bytes-end-eq32, else-loop-end-test}

pub loop-end-preserved : goal.loop-end-preserved
loop-end-preserved c = record {
  same = trim_end-shorter c.args.bytes.now c.loop-end.end c.loop-end-test.true c.loop-end.invariant.within c.if-bytes-end-eq32.true ∙ c.loop-end.invariant.same;
  within = omega arith;
}

pub returns : goal.returns
returns c = c.split_at.ensures.front ∙ elim c.loop-end-test.branch [
  | then-loop-end-test+else-bytes-end-eq32 w ↦
      sym (trim_end-same c.args.bytes.now c.loop-end.end w.loop-end-test.true c.loop-end.invariant.within (ne_eqb _ _ w.if-bytes-end-eq32.false)) ∙ c.loop-end.invariant.same
  | else-loop-end-test w ↦ let none : c.loop-end.end ≡ 0 = omega arith in rw none (sym (ap (λ n. trim_end (take n c.args.bytes.now)) none) ∙ c.loop-end.invariant.same)
]
