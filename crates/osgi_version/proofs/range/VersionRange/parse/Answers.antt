use Rattle.std.proofs.Common.{◌≡◌, Some, None, get_or, subst, sym, ◌∙◌}
use Rattle.osgi_version.specs.Readings.{IsBadAt}
use Rattle.osgi_version.specs.Ranges.{SpellsRange}
use Rattle.osgi_version.specs.RangeSteps.{range_step}
use Rattle.osgi_version.specs.declared.range_reading.RangeReading.TheVariants.{Before}
use Rattle.osgi_version.proofs.Readers.{run_more, run_whole, bad_in, bad_at_end, read_at_end}
use Rattle.osgi_version.proofs.RangeReader.{range_reader}
use Rattle.osgi_version.proofs.range.VersionRange.parse.Goals as goal

pub returns-in-None : goal.returns-in-None
returns-in-None c =
    let bytes = c.as_bytes-byte-items.result.now in
    let dead : range_step c.loop-at.reading (get_or bytes c.loop-at.at 0) ≡ None = cc (c.in_ok-next.ensures) in
    subst (λ xs. IsBadAt SpellsRange xs c.loop-at.at) c.as_bytes-byte-items.ensures.value
    (bad_in range_reader bytes c.loop-at.at c.loop-at.reading c.loop-at-test.true c.loop-at.invariant dead)

pub loop-at-preserved : goal.loop-at-preserved
loop-at-preserved c =
    let bytes = c.as_bytes-byte-items.result.now in
    let next : range_step c.loop-at.reading (get_or bytes c.loop-at.at 0) ≡ Some c.in-Some.next = cc (c.in_ok-next.ensures) in
    run_more range_step Before c.loop-at.reading bytes c.loop-at.at c.loop-at-test.true c.loop-at.invariant ∙ next

pub returns-in-Some-range : goal.returns-in-Some-range
returns-in-Some-range c =
    let whole = run_whole range_step Before c.loop-at.reading c.as_bytes-byte-items.result.now c.args.text.now c.loop-at.at c.loop-at-test.false c.as_bytes-byte-items.ensures.value c.loop-at.invariant in
    read_at_end range_reader c.args.text.now c.loop-at.reading c.in-Some-range.range whole (sym c.range.ensures ∙ c.in-Some-range.is)

pub returns-in-None-range : goal.returns-in-None-range
returns-in-None-range c =
    let whole = run_whole range_step Before c.loop-at.reading c.as_bytes-byte-items.result.now c.args.text.now c.loop-at.at c.loop-at-test.false c.as_bytes-byte-items.ensures.value c.loop-at.invariant in
    bad_at_end range_reader c.args.text.now c.loop-at.reading whole (sym c.range.ensures ∙ c.in-None-range.is)
