use Rattle.std.proofs.Common.{◌≡◌, ◌∷◌, [], ◌++◌, ◌+◌, ◌∙◌, arith, ap, sym, drop}
use Rattle.bundle_headers.specs.Lines.{end_length, line_length, lines_from, marked, plain_line}
use Rattle.bundle_headers.proofs.LineLemmas.{section_more, section_ends, section_at_end, shown}
use Rattle.bundle_headers.proofs.line.section.Goals as goal
use Rattle.bundle_headers.proofs.line.section.Goals.{else-loop-start-test, then-loop-start-test+then-length-eq0}

pub loop-start-preserved : goal.loop-start-preserved
loop-start-preserved c =
    let bytes = c.args.bytes.now in
    let rest = c.split_at.ensures.back in
    let is_n : line_length (drop c.loop-start.start bytes) ≡ c.line_length-length.result = ap line_length (sym rest) ∙ sym c.line_length-length.ensures.value in
    let is_e : end_length (drop c.line_length-length.result (drop c.loop-start.start bytes)) ≡ c.end_length.result =
    ap (λ xs. end_length (drop c.line_length-length.result xs)) (sym rest) ∙ (ap end_length (sym c.split_at-in-loop-start.ensures.back) ∙ sym c.end_length.ensures.value) in
    let pushed : c.push.new.self.items ≡ c.loop-start.lines.items ++ marked bytes (plain_line c.loop-start.number c.loop-start.start (c.loop-start.start + c.line_length-length.result)) ∷ [] =
    c.in_ok-push.ensures.items ∙ ap (λ l. c.loop-start.lines.items ++ l ∷ []) c.marked.ensures in
    record {
      told = ap (λ ls. ls ++ shown bytes (lines_from (c.loop-start.number + 1) (c.loop-start.start + (c.line_length-length.result + c.end_length.result)) (drop (c.loop-start.start + (c.line_length-length.result + c.end_length.result)) bytes))) pushed
          ∙ section_more bytes c.loop-start.number c.loop-start.start c.line_length-length.result c.end_length.result c.loop-start.lines.items c.loop-start-test.true is_n (omega arith) is_e c.loop-start.invariant.told;
      counted = omega arith;
      within = omega arith;
    }

pub returns : goal.returns
returns c = elim c.loop-start-test.branch [
  | else-loop-start-test w ↦ section_at_end c.args.bytes.now c.loop-start.number c.loop-start.start c.loop-start.lines.items w.loop-start-test.false c.loop-start.invariant.told
  | then-loop-start-test+then-length-eq0 w ↦
      section_ends c.args.bytes.now c.loop-start.number c.loop-start.start c.loop-start.lines.items w.loop-start-test.true
      (ap line_length (sym w.split_at.ensures.back) ∙ (sym w.line_length-length.ensures.value ∙ w.if-length-eq0.true)) c.loop-start.invariant.told
]
