use Rattle.std.proofs.Common.{◌≡◌, Some, None, get_or, subst, sym, ◌∙◌}
use Rattle.osgi_version.specs.Readings.{IsBadAt}
use Rattle.osgi_version.specs.Versions.{SpellsVersion}
use Rattle.osgi_version.specs.VersionSteps.{version_step}
use Rattle.osgi_version.specs.declared.version_reading.VersionReading.TheVariants.{Before}
use Rattle.osgi_version.proofs.Readers.{run_more, run_whole, bad_in, bad_at_end, read_at_end}
use Rattle.osgi_version.proofs.VersionReader.{version_reader}
use Rattle.osgi_version.proofs.version.Version.parse.Goals as goal

pub returns-in-None : goal.returns-in-None
returns-in-None c =
    let bytes = c.as_bytes-byte-items.result.now in
    let dead : version_step c.loop-at.reading (get_or bytes c.loop-at.at 0) ≡ None = cc (c.in_ok-next.ensures) in
    subst (λ xs. IsBadAt SpellsVersion xs c.loop-at.at) c.as_bytes-byte-items.ensures.value
    (bad_in version_reader bytes c.loop-at.at c.loop-at.reading c.loop-at-test.true c.loop-at.invariant dead)

pub loop-at-preserved : goal.loop-at-preserved
loop-at-preserved c =
    let bytes = c.as_bytes-byte-items.result.now in
    let next : version_step c.loop-at.reading (get_or bytes c.loop-at.at 0) ≡ Some c.in-Some.next = cc (c.in_ok-next.ensures) in
    run_more version_step Before c.loop-at.reading bytes c.loop-at.at c.loop-at-test.true c.loop-at.invariant ∙ next

pub returns-in-Some-version : goal.returns-in-Some-version
returns-in-Some-version c =
    let whole = run_whole version_step Before c.loop-at.reading c.as_bytes-byte-items.result.now c.args.text.now c.loop-at.at c.loop-at-test.false c.as_bytes-byte-items.ensures.value c.loop-at.invariant in
    read_at_end version_reader c.args.text.now c.loop-at.reading c.in-Some-version.version whole (sym c.version.ensures ∙ c.in-Some-version.is)

pub returns-in-None-version : goal.returns-in-None-version
returns-in-None-version c =
    let whole = run_whole version_step Before c.loop-at.reading c.as_bytes-byte-items.result.now c.args.text.now c.loop-at.at c.loop-at-test.false c.as_bytes-byte-items.ensures.value c.loop-at.invariant in
    bad_at_end version_reader c.args.text.now c.loop-at.reading whole (sym c.version.ensures ∙ c.in-None-version.is)
