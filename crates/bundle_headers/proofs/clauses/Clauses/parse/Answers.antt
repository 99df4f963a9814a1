use Rattle.std.proofs.Common.{◌≡◌, Some, None, get_or, subst, ◌∙◌}
use Rattle.osgi_version.specs.Readings.{IsBadAt}
use Rattle.osgi_version.proofs.Readers.{run_more, run_whole, bad_in, bad_at_end, read_at_end}
use Rattle.bundle_headers.specs.ClauseSteps.{clauses_at_end, clauses_start, clauses_step}
use Rattle.bundle_headers.specs.Clauses.{SpellsClauses}
use Rattle.bundle_headers.proofs.ClauseReader.{clauses_reader}
use Rattle.bundle_headers.proofs.ClauseTexts.{text_before, text_behind}
use Rattle.bundle_headers.proofs.clauses.Clauses.parse.Goals as goal

pub step-requires : goal.step-requires
step-requires c = text_before c.loop-at.reading c.as_bytes-byte-items.result.now c.loop-at.at c.loop-at-test.true c.loop-at.invariant.text

pub returns-in-None : goal.returns-in-None
returns-in-None c =
    let bytes = c.as_bytes-byte-items.result.now in
    let dead : clauses_step c.loop-at.reading (get_or bytes c.loop-at.at 0) ≡ None = cc (c.in_ok-next.ensures) in
    subst (λ xs. IsBadAt SpellsClauses xs c.loop-at.at) c.as_bytes-byte-items.ensures.value
    (bad_in clauses_reader bytes c.loop-at.at c.loop-at.reading c.loop-at-test.true c.loop-at.invariant.led dead)

pub loop-at-preserved : goal.loop-at-preserved
loop-at-preserved c =
    let bytes = c.as_bytes-byte-items.result.now in
    let next : clauses_step c.loop-at.reading (get_or bytes c.loop-at.at 0) ≡ Some c.in-Some.next = cc (c.in_ok-next.ensures) in
    record {
      led = run_more clauses_step clauses_start c.loop-at.reading bytes c.loop-at.at c.loop-at-test.true c.loop-at.invariant.led ∙ next;
      text = text_behind c.loop-at.reading c.in-Some.next bytes c.loop-at.at c.loop-at-test.true next c.loop-at.invariant.text;
    }

pub returns-in-Some-2 : goal.returns-in-Some-2
returns-in-Some-2 c =
    let whole = run_whole clauses_step clauses_start c.loop-at.reading c.as_bytes-byte-items.result.now c.args.text.now c.loop-at.at c.loop-at-test.false c.as_bytes-byte-items.ensures.value c.loop-at.invariant.led in
    let ended : clauses_at_end c.loop-at.reading ≡ Some c.in-Some-2.clauses = cc (c.in_ok-clauses.ensures) in
    read_at_end clauses_reader c.args.text.now c.loop-at.reading c.in-Some-2.clauses whole ended

pub returns-in-None-2 : goal.returns-in-None-2
returns-in-None-2 c =
    let whole = run_whole clauses_step clauses_start c.loop-at.reading c.as_bytes-byte-items.result.now c.args.text.now c.loop-at.at c.loop-at-test.false c.as_bytes-byte-items.ensures.value c.loop-at.invariant.led in
    let ended : clauses_at_end c.loop-at.reading ≡ None = cc (c.in_ok-clauses.ensures) in
    bad_at_end clauses_reader c.args.text.now c.loop-at.reading whole ended
