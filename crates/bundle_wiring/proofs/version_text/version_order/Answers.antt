use Rattle.std.proofs.Common.{◌≡◌, Some, None, get_or, length, sym, ap, ◌∙◌, refl, ◌<◌, ◌≤◌, arith, option_map}
use Rattle.osgi_version.specs.Versions.{version_cmp}
use Rattle.bundle_wiring.specs.Inside.{seen_step, seen_version}
use Rattle.bundle_wiring.specs.Texts.{version_of}
use Rattle.bundle_wiring.proofs.VersionTexts.{ended_with, led_on, places_go, stopped}
use Rattle.bundle_wiring.proofs.version_text.version_order.Goals as goal

pub returns-in-None : goal.returns-in-None
returns-in-None c =
    let bytes = c.as_bytes-bytes.result.now in
    let order = option_map (version_cmp c.args.version.now) in
    let k : c.loop-at.at < length bytes = omega (arith, c.loop-at-test.true) in
    let is : seen_step c.loop-at.at c.loop-at.seen (get_or bytes c.loop-at.at 0) ≡ None = sym c.seen_step.ensures ∙ c.in-None.is in
    sym (ap (λ t. order (version_of t)) (sym c.as_bytes-bytes.ensures.value) ∙ ap order (stopped bytes c.loop-at.at c.loop-at.seen (get_or bytes c.loop-at.at 0) k refl c.loop-at.invariant.places c.loop-at.invariant.led is))

pub loop-at-preserved : goal.loop-at-preserved
loop-at-preserved c =
    let bytes = c.as_bytes-bytes.result.now in
    let k : c.loop-at.at < length bytes = omega (arith, c.loop-at-test.true) in
    let is : seen_step c.loop-at.at c.loop-at.seen (get_or bytes c.loop-at.at 0) ≡ Some c.in-Some.next = sym c.seen_step.ensures ∙ c.in-Some.is in
    record {
      led = led_on bytes c.loop-at.at c.loop-at.seen (get_or bytes c.loop-at.at 0) c.in-Some.next k refl c.loop-at.invariant.places c.loop-at.invariant.led is;
      places = places_go c.loop-at.at c.loop-at.seen (get_or bytes c.loop-at.at 0) c.in-Some.next c.loop-at.invariant.places is;
    }

pub returns : goal.returns
returns c =
    let bytes = c.as_bytes-bytes.result.now in
    let order = option_map (version_cmp c.args.version.now) in
    let k : length bytes ≤ c.loop-at.at = omega (arith, c.loop-at-test.false) in
    let at_end : c.loop-at.at ≡ length bytes = omega (arith, c.loop-at-test.false, c.loop-at.auto.at-end) in
    c.order_at_end.ensures
    ∙ (ap order (sym (ended_with bytes c.loop-at.at c.loop-at.seen k c.loop-at.invariant.led ∙ ap (λ n. seen_version bytes n c.loop-at.seen) at_end))
    ∙ ap (λ t. order (version_of t)) c.as_bytes-bytes.ensures.value)
