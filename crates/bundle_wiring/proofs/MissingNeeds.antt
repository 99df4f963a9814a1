-- Of the greatest set each bundle is met in it, and no other is. So each other one lacks a need, and there is one resolution.
use Rattle.std.proofs.Common.{◌≡◌, refl, sym, ap, ◌∙◌, ◌&&◌, Bool, true, false, List, [], ◌∷◌, Option, Some, None}
use Rattle.std.specs.Prelude.{map, ◌||◌, find, not, filter, if◌then◌else◌, is_some, IsTrue}
use Rattle.std.specs.List.{All, AllByRecursion, list_all}
use Rattle.std.proofs.lemmas.Bool.{and_parts}
use Rattle.std.proofs.lemmas.List.Elements.{All-from_recursion}
use Rattle.bundle_wiring.specs.Resolution.{Bundle, IsGreatest, IsResolution, has_candidate, is_consistent, is_met, missing_need, wires_of}
use Rattle.bundle_wiring.specs.declared.resolved.Resolved.{Resolved}
use Rattle.bundle_wiring.specs.declared.wiring.WireNeed.{WireNeed}
use Rattle.bundle_wiring.proofs.Sets.{and_both, any_more, kept_all, met_wider}

same_bool : (p q : Bool) → not p || q ≡ true → not q || p ≡ true → p ≡ q
same_bool true q h k = sym h
same_bool false true h k = absurd (cc)
same_bool false false h k = refl

module _ {X : Type 0} where
  pass_step : (P : X → Bool) (x : X) (xs : List X) (t all : Bool) → (list_all P xs ≡ true → all ≡ true) → list_all P (if t then x ∷ xs else xs) ≡ true → (not t || P x) && all ≡ true
  pass_step P x xs true all g h = let parts = and_parts (P x) (list_all P xs) h in and_both (P x) all parts.0 (g parts.1)
  pass_step P x xs false all g h = g h

  pass_if : (P test : X → Bool) (xs : List X) → list_all P (filter test xs) ≡ true → list_all (λ b. not (test b) || P b) xs ≡ true
  pass_if P test [] h = refl
  pass_if P test (x ∷ xs) h = pass_step P x (filter test xs) (test x) (list_all (λ b. not (test b) || P b) xs) (pass_if P test xs) h

  both_ways : (P Q : X → Bool) (xs : List X) → list_all (λ b. not (P b) || Q b) xs ≡ true → list_all (λ b. not (Q b) || P b) xs ≡ true → AllByRecursion (λ b. P b ≡ Q b) xs
  both_ways P Q [] h k = tt
  both_ways P Q (x ∷ xs) h k =
      let there = and_parts (not (P x) || Q x) (list_all (λ b. not (P b) || Q b) xs) h in
      let back = and_parts (not (Q x) || P x) (list_all (λ b. not (Q b) || P b) xs) k in
      (same_bool (P x) (Q x) there.0 back.0, both_ways P Q xs there.1 back.1)

  same_kept : (P Q : X → Bool) (xs : List X) → AllByRecursion (λ b. P b ≡ Q b) xs → filter P xs ≡ filter Q xs
  same_kept P Q [] h = refl
  same_kept P Q (x ∷ xs) h = ap (λ b. if b then x ∷ filter P xs else filter P xs) h.0 ∙ ap (λ ys. if Q x then x ∷ ys else ys) (same_kept P Q xs h.1)

  turned : (P Q R : X → Bool) (xs : List X) → ((x : X) → P x ≡ Q x → R x ≡ not (Q x)) → AllByRecursion (λ b. P b ≡ Q b) xs → AllByRecursion (λ b. R b ≡ not (Q b)) xs
  turned P Q R [] f h = tt
  turned P Q R (x ∷ xs) f h = (f x h.0, turned P Q R xs f h.1)

  found_step : (x : X) (rest : Option X) (t all : Bool) → is_some rest ≡ not all → is_some (if not t then Some x else rest) ≡ not (t && all)
  found_step x rest true all h = h
  found_step x rest false all h = refl

  found : (P : X → Bool) (xs : List X) → is_some (find (λ x. not (P x)) xs) ≡ not (list_all P xs)
  found P [] = refl
  found P (x ∷ xs) = found_step x (find (λ y. not (P y)) xs) (P x) (list_all P xs) (found P xs)

-- of the greatest set the test is whether a bundle is met in it
met_is_test : (bundles : List Bundle) (test : Bundle → Bool) → IsGreatest bundles test → AllByRecursion (λ b. is_met (filter test bundles) b ≡ test b) bundles
met_is_test bundles test g =
    let set = filter test bundles in
    let inside : list_all (λ b. not (test b) || is_met set b) bundles ≡ true = pass_if (is_met set) test bundles g.consistent in
    let wider : is_consistent (filter (is_met set) bundles) ≡ true =
    kept_all (is_met set) (is_met (filter (is_met set) bundles)) bundles (met_wider set (filter (is_met set) bundles) (λ P. any_more P test (is_met set) bundles inside)) in
    both_ways (is_met set) test bundles (g.greatest (is_met set) wider) inside

pub missing : (bundles : List Bundle) (test : Bundle → Bool) → IsGreatest bundles test → All (λ b. is_some (missing_need (filter test bundles) b) ≡ not (test b)) bundles
missing bundles test g =
    let set = filter test bundles in
    All-from_recursion _ bundles
    (turned (is_met set) test (λ b. is_some (missing_need set b)) bundles
    (λ b e. found (λ (need : WireNeed). need.optional || has_candidate set need) b.1.needs ∙ ap not e) (met_is_test bundles test g))

pub one_set : (bundles : List Bundle) (test other : Bundle → Bool) → IsGreatest bundles test → IsGreatest bundles other → filter test bundles ≡ filter other bundles
one_set bundles test other g h = same_kept test other bundles (both_ways test other bundles (h.greatest test g.consistent) (g.greatest other h.consistent))

pub one_resolution : (bundles : List Bundle) (one other : Resolved) → IsResolution bundles one → IsResolution bundles other → one ≡ other
one_resolution bundles one other (test, g, numbers, wires) (test', h, numbers', wires') =
    let set : filter test bundles ≡ filter test' bundles = one_set bundles test test' g h in
    let same_numbers : one.bundles ≡ other.bundles = numbers ∙ (ap (map (λ (b : Bundle). b.0)) set ∙ sym numbers') in
    let same_wires : one.wires ≡ other.wires = wires ∙ (ap wires_of set ∙ sym wires') in
    ap (λ ns. record one { bundles = ns }) same_numbers ∙ ap (λ ws. record other { wires = ws }) same_wires
