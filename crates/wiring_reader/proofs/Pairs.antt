-- What the code makes of needs that are wired is what is told.
use Rattle.std.proofs.Common.{◌≡◌, ◌∙◌, ◌<◌, ℕ, List, [], ◌∷◌, ◌++◌, length, get_or, map, flat_map, ap, refl, sym, Bool, true, false, ◌&&◌, Option, Some, None, Ok, Err, Result}
use Rattle.std.specs.Prelude.{◌||◌, filter, find, is_none, is_some, not, option_map, if◌then◌else◌}
use Rattle.std.specs.List.{AllByRecursion}
use Rattle.std.proofs.lemmas.List.Elements.{recursion_from_All}
use Rattle.bundle_wiring.specs.ByNeed.{AreWired, Wired, wired_in, wired_of, wired_to}
use Rattle.bundle_wiring.specs.Resolution.{Bundle, IsGreatest, has_candidate, missing_need}
use Rattle.bundle_wiring.specs.declared.by_need.WiredNeed.{WiredNeed}
use Rattle.bundle_wiring.specs.declared.fault.WireFault.{WireFault}
use Rattle.bundle_wiring.specs.declared.wiring.WireNeed.{WireNeed}
use Rattle.bundle_wiring.specs.declared.wiring.Wiring.{Wiring}
use Rattle.bundle_wiring.proofs.MissingNeeds.{missing as missing_law}
use Rattle.bundle_wiring.proofs.WiredNeeds.{wired_candidate}
use Rattle.scr_world.specs.declared.contents.Contents.{Contents}
use Rattle.wiring_reader.specs.Lines.{head_line, head_lines, is_missing, missing, need_line_of, paired, resolved_wires, wire_line_of}
use Rattle.kept_wirings.specs.DocumentWirings.{fault_of, part_of, wiring_in}
use Rattle.wiring_reader.specs.Parts.{bundle_of, bundles_of, head_of, is_faulty}
use Rattle.wiring_reader.specs.Telling.{TellsNeeds, TellsPart, TellsWiring, bundle_line, line_by, need_line, offer_line, resolved_line, wire_line, wire_lines}
use Rattle.wiring_reader.specs.declared.parts.Head.{Head}
use Rattle.wiring_reader.specs.declared.wiring_line.NeedLine.{NeedLine}
use Rattle.wiring_reader.specs.declared.wiring_line.NeedLine.TheVariants.{Fault}
use Rattle.wiring_reader.specs.declared.wiring_line.WiringLine.{WiringLine}
use Rattle.wiring_reader.proofs.Places.{at_place, mapped_at}

-- ---- lists

pub map_twice : {A B C : Type 0} (g : B → C) (f : A → B) (xs : List A) → map g (map f xs) ≡ map (λ x. g (f x)) xs
map_twice g f [] = refl
map_twice g f (x ∷ xs) = ap (λ ys. g (f x) ∷ ys) (map_twice g f xs)

paired_maps : {A B C D : Type 0} (f : A → B → List C) (g : D → A) (h : D → B) (xs : List D) → paired f (map g xs) (map h xs) ≡ flat_map (λ x. f (g x) (h x)) xs
paired_maps f g h [] = refl
paired_maps f g h (x ∷ xs) = ap (λ ys. f (g x) (h x) ++ ys) (paired_maps f g h xs)

kept_step : {X : Type 0} (x : X) (rest other : List X) (t : Bool) → rest ≡ other → (if not (not t) then x ∷ rest else rest) ≡ (if t then x ∷ other else other)
kept_step x rest other true e = ap (λ ys. x ∷ ys) e
kept_step x rest other false e = e

same_kept : {X : Type 0} (P Q : X → Bool) (xs : List X) → AllByRecursion (λ x. P x ≡ not (Q x)) xs → filter (λ x. not (P x)) xs ≡ filter Q xs
same_kept P Q [] h = refl
same_kept P Q (x ∷ xs) h =
    ap (λ (b : Bool). if not b then x ∷ filter (λ y. not (P y)) xs else filter (λ y. not (P y)) xs) h.0
    ∙ kept_step x (filter (λ y. not (P y)) xs) (filter Q xs) (Q x) (same_kept P Q xs h.1)

-- ---- the first need that is missing

none_is : (o : Option ℕ) → is_none o ≡ not (is_some o)
none_is None = refl
none_is (Some n) = refl

not_or : (o h : Bool) → not o && not h ≡ not (o || h)
not_or true h = refl
not_or false h = refl

module _ (set : List Bundle) where
  missing_one : (need : WireNeed) → is_missing (need, wired_to set need) ≡ not (need.optional || has_candidate set need)
  missing_one need = ap (λ b. not need.optional && b) (none_is (wired_to set need) ∙ ap not (wired_candidate set need)) ∙ not_or need.optional (has_candidate set need)

  found_step : (w : Wired) (found : Option Wired) (other : Option WireNeed) (t u : Bool) → t ≡ u → option_map (λ (v : Wired). v.0) found ≡ other → option_map (λ (v : Wired). v.0) (if t then Some w else found) ≡ (if u then Some w.0 else other)
  found_step w found other true u e h = ap (λ b. if b then Some w.0 else other) e
  found_step w found other false u e h = h ∙ ap (λ b. if b then Some w.0 else other) e

  found_in : (needs : List WireNeed) → missing (map (λ (need : WireNeed). (need, wired_to set need)) needs) ≡ find (λ (need : WireNeed). not (need.optional || has_candidate set need)) needs
  found_in [] = refl
  found_in (need ∷ needs) =
      found_step (need, wired_to set need) (find is_missing (map (λ (n : WireNeed). (n, wired_to set n)) needs)) (find (λ (n : WireNeed). not (n.optional || has_candidate set n)) needs)
      (is_missing (need, wired_to set need)) (not (need.optional || has_candidate set need)) (missing_one need) (found_in needs)

  missing_in : (b : Bundle) → missing (wired_in set b) ≡ missing_need set b
  missing_in b = found_in b.1.needs

  -- ---- a line for each bundle

  one_head : (n : ℕ) (r : Result Wiring WireFault) → head_line (record { bundle = n; faulty = is_faulty r }) (missing (wired_in set (n, part_of r))) ≡ line_by set n r
  one_head n (Ok wiring) = ap (resolved_line n) (missing_in (n, wiring))
  one_head n (Err fault) = refl

  heads : (cs : List Contents) → flat_map (λ (c : Contents). head_line (head_of c) (missing (wired_in set (bundle_of c))) ∷ []) cs ≡ map (bundle_line set) cs
  heads [] = refl
  heads (c ∷ cs) =
      ap (λ (l : WiringLine). l ∷ flat_map (λ (d : Contents). head_line (head_of d) (missing (wired_in set (bundle_of d))) ∷ []) cs) (one_head c.bundle (wiring_in c))
      ∙ ap (λ ls. bundle_line set c ∷ ls) (heads cs)

  -- ---- a line for each wire

  wires_of_needs : (n : ℕ) (needs : List WireNeed) → flat_map (wire_line_of n) (map (λ (need : WireNeed). (need, wired_to set need)) needs) ≡ flat_map (λ (need : WireNeed). wire_line n need.name (wired_to set need)) needs
  wires_of_needs n [] = refl
  wires_of_needs n (need ∷ needs) = ap (λ ls. wire_line n need.name (wired_to set need) ++ ls) (wires_of_needs n needs)

  wires_step : (b : Bundle) (bs : List Bundle) (rest : List WiringLine) (t u : Bool) → t ≡ u → rest ≡ flat_map (wire_lines set) bs
      → (if t then [] else flat_map (wire_line_of b.0) (wired_in set b)) ++ rest ≡ flat_map (wire_lines set) (if not u then b ∷ bs else bs)
  wires_step b bs rest true u e h = h ∙ ap (λ x. flat_map (wire_lines set) (if not x then b ∷ bs else bs)) e
  wires_step b bs rest false u e h =
      ap (λ ls. ls ++ rest) (wires_of_needs b.0 b.1.needs)
      ∙ (ap (λ ls. wire_lines set b ++ ls) h ∙ ap (λ x. flat_map (wire_lines set) (if not x then b ∷ bs else bs)) e)

  wires : (cs : List Contents) → flat_map (λ (c : Contents). resolved_wires (head_of c) (wired_in set (bundle_of c))) cs ≡ flat_map (wire_lines set) (filter (λ b. not (is_some (missing_need set b))) (bundles_of cs))
  wires [] = refl
  wires (c ∷ cs) =
      wires_step (bundle_of c) (filter (λ b. not (is_some (missing_need set b))) (bundles_of cs)) (flat_map (λ (d : Contents). resolved_wires (head_of d) (wired_in set (bundle_of d))) cs)
      (is_some (missing (wired_in set (bundle_of c)))) (is_some (missing_need set (bundle_of c))) (ap is_some (missing_in (bundle_of c))) (wires cs)

  -- ---- a line for each need

  needs : (ns : List WireNeed) → map need_line_of (map (λ (need : WireNeed). (need, wired_to set need)) ns) ≡ map (λ (need : WireNeed). need_line need (wired_to set need)) ns
  needs [] = refl
  needs (n ∷ ns) = ap (λ ls. need_line n (wired_to set n) ∷ ls) (needs ns)

-- ---- all of it

by_contents : (f : Head → List Wired → List WiringLine) (set : List Bundle) (cs : List Contents) → paired f (map head_of cs) (map (wired_in set) (bundles_of cs)) ≡ flat_map (λ c. f (head_of c) (wired_in set (bundle_of c))) cs
by_contents f set cs = ap (paired f (map head_of cs)) (map_twice (wired_in set) bundle_of cs) ∙ paired_maps f head_of (λ c. wired_in set (bundle_of c)) cs

pub wiring_told : (cs : List Contents) (wired : List (List Wired)) (lines : List WiringLine) → AreWired (bundles_of cs) wired
    → lines ≡ paired head_lines (map head_of cs) wired ++ paired resolved_wires (map head_of cs) wired → TellsWiring cs lines
wiring_told cs wired lines (test, greatest, are) is =
    let set = filter test (bundles_of cs) in
    let kept = same_kept (λ b. is_some (missing_need set b)) test (bundles_of cs) (recursion_from_All _ (bundles_of cs) (missing_law (bundles_of cs) test greatest)) in (
      test,
      greatest,
      is ∙ (ap (λ ws. paired head_lines (map head_of cs) ws ++ paired resolved_wires (map head_of cs) ws) are
          ∙ (ap (λ ls. ls ++ paired resolved_wires (map head_of cs) (map (wired_in set) (bundles_of cs))) (by_contents head_lines set cs ∙ heads set cs)
          ∙ ap (λ ls. map (bundle_line set) cs ++ ls) (by_contents resolved_wires set cs ∙ (wires set cs ∙ ap (flat_map (wire_lines set)) kept)))),
    )

-- the needs of one of the bundles, and its offers
pub part_told : (cs : List Contents) (c : Contents) (ws : List Wired) (lines : List NeedLine) (test : Bundle → Bool) → IsGreatest (bundles_of cs) test → ws ≡ wired_in (filter test (bundles_of cs)) (bundle_of c)
    → lines ≡ map need_line_of ws ++ map offer_line (part_of (wiring_in c)).offers → TellsPart cs (part_of (wiring_in c)) lines
part_told cs c ws lines test greatest are is =
    let set = filter test (bundles_of cs) in
    (test, greatest, is ∙ ap (λ ls. ls ++ map offer_line (part_of (wiring_in c)).offers) (ap (map need_line_of) are ∙ needs set (part_of (wiring_in c)).needs))

pub part_at : (cs : List Contents) (place : ℕ) (d : Contents) (rows : List (List WiredNeed)) (row : List WiredNeed) (bundles : List Bundle) (b : Bundle) (lines : List NeedLine) → place < length cs → bundles ≡ bundles_of cs
    → AreWired (bundles_of cs) (map (map wired_of) rows) → row ≡ get_or rows place row → b ≡ get_or bundles place b → lines ≡ map need_line_of (map wired_of row) ++ map offer_line b.1.offers
    → TellsPart cs (part_of (wiring_in (get_or cs place d))) lines
part_at cs place d rows row bundles b lines low same (test, greatest, are) row_is b_is is =
    let set = filter test (bundles_of cs) in
    let row_told = at_place (map wired_of) (λ (c : Contents). wired_in set (bundle_of c)) rows cs place row d (are ∙ map_twice (wired_in set) bundle_of cs) low row_is in
    let itself = mapped_at bundle_of cs bundles place b d same low b_is in
    part_told cs (get_or cs place d) (map wired_of row) lines test greatest row_told (is ∙ ap (λ (x : Bundle). map need_line_of (map wired_of row) ++ map offer_line x.1.offers) itself)

-- of a bundle without a fault its part is told, of any other its fault
pub needs_told : (cs : List Contents) (r : Result Wiring WireFault) (lines : List NeedLine) → fault_of r ≡ None → TellsPart cs (part_of r) lines → TellsNeeds cs r lines
needs_told cs (Ok wiring) lines e h = h
needs_told cs (Err fault) lines e h = absurd (cc)

some_fault : (a b : WireFault) → Some a ≡ Some b → a ≡ b
some_fault a b e = cc

pub fault_told : (cs : List Contents) (r : Result Wiring WireFault) (fault : WireFault) (lines : List NeedLine) → fault_of r ≡ Some fault → lines ≡ Fault fault ∷ [] → TellsNeeds cs r lines
fault_told cs (Ok wiring) fault lines e is = absurd (cc)
fault_told cs (Err other) fault lines e is = is ∙ ap (λ (f : WireFault). Fault f ∷ []) (sym (some_fault other fault e))
