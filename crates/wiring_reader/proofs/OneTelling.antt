-- Of the wiring of all bundles, and of one, only one answer is to be told.
use Rattle.std.proofs.Common.{◌≡◌, ◌∙◌, ℕ, List, [], ◌∷◌, ap, sym, refl, subst, Bool, true, false, ◌&&◌, Option, Some, None, Ok, Err, Result}
use Rattle.std.specs.Prelude.{filter, is_some, not}
use Rattle.std.specs.List.{All, AllByRecursion}
use Rattle.std.proofs.lemmas.List.Elements.{All-from_recursion, recursion_from_All}
use Rattle.bundle_wiring.specs.Resolution.{Bundle, IsGreatest, missing_need}
use Rattle.bundle_wiring.specs.declared.fault.WireFault.{WireFault}
use Rattle.bundle_wiring.specs.declared.wiring.WireNeed.{WireNeed}
use Rattle.bundle_wiring.specs.declared.wiring.Wiring.{Wiring}
use Rattle.bundle_wiring.proofs.MissingNeeds.{missing as missing_law, one_set}
use Rattle.scr_world.specs.declared.contents.Contents.{Contents}
use Rattle.kept_wirings.specs.DocumentWirings.{part_of, wiring_in}
use Rattle.wiring_reader.specs.Parts.{bundle_of, bundles_of, is_faulty}
use Rattle.wiring_reader.specs.Telling.{TellsBundle, TellsNeeds, TellsPart, TellsWiring, bundle_line, is_resolved, line_by, need_lines, resolved_line, wiring_lines}
use Rattle.wiring_reader.specs.declared.wiring_line.NeedLine.{NeedLine}
use Rattle.wiring_reader.specs.declared.wiring_line.WiringLine.{WiringLine}

pub one_wiring : (cs : List Contents) (one other : List WiringLine) → TellsWiring cs one → TellsWiring cs other → one ≡ other
one_wiring cs one other (test, g, is) (test', h, is') = is ∙ (ap (λ set. wiring_lines set cs) (one_set (bundles_of cs) test test' g h) ∙ sym is')

one_part : (cs : List Contents) (wiring : Wiring) (one other : List NeedLine) → TellsPart cs wiring one → TellsPart cs wiring other → one ≡ other
one_part cs wiring one other (test, g, is) (test', h, is') = is ∙ (ap (λ set. need_lines set wiring) (one_set (bundles_of cs) test test' g h) ∙ sym is')

one_needs : (cs : List Contents) (r : Result Wiring WireFault) (one other : List NeedLine) → TellsNeeds cs r one → TellsNeeds cs r other → one ≡ other
one_needs cs (Ok wiring) one other h k = one_part cs wiring one other h k
one_needs cs (Err fault) one other h k = h ∙ sym k

some_same : (c d : Contents) → Some c ≡ Some d → c ≡ d
some_same c d e = cc

pub one_bundle_wiring : (cs : List Contents) (bundle : ℕ) (one other : Option (List NeedLine)) → TellsBundle cs bundle one → TellsBundle cs bundle other → one ≡ other
one_bundle_wiring cs bundle None None h k = refl
one_bundle_wiring cs bundle None (Some other) h (c, found, k) = let no : None ≡ Some c = sym h ∙ found in absurd (cc)
one_bundle_wiring cs bundle (Some one) None (c, found, h) k = let no : Some c ≡ None = sym found ∙ k in absurd (cc)
one_bundle_wiring cs bundle (Some one) (Some other) (c, found, h) (d, found', k) =
    let same : d ≡ c = some_same d c (sym found' ∙ found) in
    ap Some (one_needs cs (wiring_in c) one other h (subst (λ (e : Contents). TellsNeeds cs (wiring_in e) other) same k))

-- ---- who is told as resolved

resolved_by : (n : ℕ) (o : Option WireNeed) → is_resolved (resolved_line n o) ≡ not (is_some o)
resolved_by n None = refl
resolved_by n (Some need) = refl

twice : (b : Bool) → not (not b) ≡ b
twice true = refl
twice false = refl

resolved_one : (set : List Bundle) (test : Bundle → Bool) (n : ℕ) (r : Result Wiring WireFault) → is_some (missing_need set (n, part_of r)) ≡ not (test (n, part_of r))
    → is_resolved (line_by set n r) ≡ (not (is_faulty r) && test (n, part_of r))
resolved_one set test n (Ok wiring) h = resolved_by n (missing_need set (n, wiring)) ∙ (ap not h ∙ twice (test (n, wiring)))
resolved_one set test n (Err fault) h = refl

each : (set : List Bundle) (test : Bundle → Bool) (cs : List Contents) → AllByRecursion (λ (b : Bundle). is_some (missing_need set b) ≡ not (test b)) (bundles_of cs)
    → AllByRecursion (λ (c : Contents). is_resolved (bundle_line set c) ≡ (not (is_faulty (wiring_in c)) && test (bundle_of c))) cs
each set test [] h = tt
each set test (c ∷ cs) h = (resolved_one set test c.bundle (wiring_in c) h.0, each set test cs h.1)

pub resolved : (cs : List Contents) (test : Bundle → Bool) → IsGreatest (bundles_of cs) test
    → All (λ (c : Contents). is_resolved (bundle_line (filter test (bundles_of cs)) c) ≡ (not (is_faulty (wiring_in c)) && test (bundle_of c))) cs
resolved cs test g = All-from_recursion _ cs (each (filter test (bundles_of cs)) test cs (recursion_from_All _ (bundles_of cs) (missing_law (bundles_of cs) test g)))
