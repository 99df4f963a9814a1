-- That the rounds of a search find the shortest ways.
use Rattle.std.proofs.Common.{◌≡◌, ◌<◌, ◌≤◌, ℕ, zero, suc, ◌+◌, ◌-◌, List, [], ◌∷◌, length, get_or, ap, sym, ◌∙◌, refl, Bool, true, false, cond, ◌||◌, arith, inl, inr, subst, Option, Some, None}
use Rattle.std.specs.Prelude.{map, ◌==◌}
use Rattle.std.specs.Cmp.{both_ways}
use Rattle.std.specs.List.{list_any}
use Rattle.std.specs.Option.{is_some}
use Rattle.std.proofs.lemmas.Bool.{cases_lt, eq-eqb, eqb-true, and_from, false≢true}
use Rattle.std.proofs.lemmas.List.{length-map, get_or_past}
use Rattle.component_dto.specs.declared.description.Description.{Description}
use Rattle.level_order.specs.Links.{AreLinks, comes_from}
use Rattle.level_order.specs.Spread.{AreMarked, IsKept, marked}
use Rattle.level_order.specs.Uses.{all_uses, uses_of}
use Rattle.level_order.specs.Ways.{Measures, direct, has, is_at, known_count, leads_by, wider, wider_at}
use Rattle.level_order.proofs.PlaceLemmas.{has_all_uses, consumes_at_within}
use Rattle.level_order.proofs.StepLemmas.{Within, any_has, has_any, direct_at, length-wider, wider-at, wider_counts, within_all, within_direct, within_end, within_grown}

none_some : {X : Type 0} {x : X} → None ≡ Some x → ⊥
none_some e = cc

same_lists : (xs ys : List (Option ℕ)) → length xs ≡ length ys → ((i : ℕ) → i < length xs → get_or xs i None ≡ get_or ys i None) → xs ≡ ys
same_lists [] [] same each = refl
same_lists [] (y ∷ ys) same each = absurd (omega (arith, same))
same_lists (x ∷ xs) [] same each = absurd (omega (arith, same))
same_lists (x ∷ xs) (y ∷ ys) same each = ap (λ w. w ∷ xs) (each 0 (omega arith)) ∙ ap (λ w. y ∷ w) (same_lists xs ys (omega (arith, same)) (λ i within. each (suc i) (omega (arith, within))))

pub uses_length : (ds : List Description) → length (all_uses ds) ≡ length ds
uses_length ds = length-map ds (λ d. uses_of d ds)

used_within : (ds : List Description) (i j : ℕ) → has (get_or (all_uses ds) i []) j ≡ true → j < length ds
used_within ds i j used = consumes_at_within ds i j (sym (has_all_uses ds i j) ∙ used)

is_at_some : (o : Option ℕ) (r : ℕ) → is_at o r ≡ true → o ≡ Some r
is_at_some None r e = absurd (false≢true e)
is_at_some (Some m) r e = ap Some (eqb-true m r e)

some_is_at : (o : Option ℕ) (r : ℕ) → o ≡ Some r → is_at o r ≡ true
some_is_at None r e = absurd (none_some e)
some_is_at (Some m) r e = eq-eqb m r (same e) where
  same : {m n : ℕ} → Some m ≡ Some n → m ≡ n
  same e = cc

known : (o : Option ℕ) → is_some o ≡ true → (m : ℕ) × (o ≡ Some m)
known None e = absurd (false≢true e)
known (Some m) e = (m, refl)

-- ---- before the first round

pub nothing_kept : (back : List (List ℕ)) (count : ℕ) (seen : List Bool) (steps : List (Option ℕ)) → length seen ≡ length back → ((k : ℕ) → get_or seen k false ≡ false) → ((k : ℕ) → get_or steps k None ≡ None) → IsKept back seen steps [] count
nothing_kept back count seen steps long unseen unknown = record {
  long = long;
  reached = λ x p looked below there. absurd (false≢true (sym (unseen x) ∙ looked));
  last = λ p. sym (ap (λ o. is_at o count) (unknown p));
}

-- ---- the first round

pub first_round : (ds : List Description) (onward back : List (List ℕ)) (to : ℕ) (steps next : List (Option ℕ)) → AreLinks ds onward back → to < length ds → length steps ≡ length ds → ((k : ℕ) → get_or steps k None ≡ None)
    → AreMarked 0 (λ p. list_any (λ w. comes_from back w p) (to ∷ [])) steps next → Within (all_uses ds) to 1 next
first_round ds onward back to steps next links within long unknown marks = within_direct (all_uses ds) to next (same_lists next (direct to (all_uses ds))
    (marks.same ∙ long ∙ sym (length-map (all_uses ds) (λ places. cond (has places to) (Some 0) None) ∙ uses_length ds)) each) where
      or_false : (b : Bool) → cond (b) (Some 0) None ≡ marked 0 b None
      or_false true = refl
      or_false false = refl

      one : (b : Bool) → list_any (λ (w : Bool). w) (b ∷ []) ≡ b
      one true = refl
      one false = refl

      each : (i : ℕ) → i < length next → get_or next i None ≡ get_or (direct to (all_uses ds)) i None
      each i below =
          let low : i < length ds = omega (arith, below, marks.same, long) in
          marks.at i (omega (arith, low, long))
          ∙ ap (λ o. marked 0 (list_any (λ w. comes_from back w i) (to ∷ [])) o) (unknown i)
          ∙ ap (λ b. marked 0 b None) (one (comes_from back to i) ∙ links.turned i to low within)
          ∙ sym (or_false (has (get_or (all_uses ds) i []) to)) ∙ sym (direct_at to (all_uses ds) i)

-- ---- a round more

-- what was found last has no more places than the count
pub kept_next : (back : List (List ℕ)) (seen : List Bool) (uses : List (List ℕ)) (to k old : ℕ) (steps : List (Option ℕ)) (found : List ℕ) → Within uses to k steps → IsKept back seen steps found old → IsKept back seen steps [] k
kept_next back seen uses to k old steps found within kept = record {
  long = kept.long;
  reached = kept.reached;
  last = λ p. sym (none p (get_or steps p None) refl);
} where
  none : (p : ℕ) (o : Option ℕ) → get_or steps p None ≡ o → is_at (get_or steps p None) k ≡ false
  none p None is = ap (λ o. is_at o k) is
  none p (Some m) is = ap (λ o. is_at o k) is ∙ both_ways (m == k) false (λ e. absurd (omega (arith, eqb-true m k e, (within.sound p m is).3))) (λ e. absurd (false≢true e))

pub next_round : (ds : List Description) (onward back : List (List ℕ)) (seen : List Bool) (to k : ℕ) (steps next : List (Option ℕ)) (from : List ℕ) → AreLinks ds onward back → Within (all_uses ds) to k steps → IsKept back seen steps from (k - 1)
    → AreMarked k (λ p. list_any (λ w. comes_from back w p) from) steps next → next ≡ wider k steps (all_uses ds) steps
next_round ds onward back seen to k steps next from links within kept marks =
    same_lists next (wider k steps (all_uses ds) steps) (marks.same ∙ within.same ∙ sym (length-wider k steps (all_uses ds) steps within.same))
    (λ i below. marks.at i (omega (arith, below, marks.same)) ∙ by_known i (omega (arith, below, marks.same, within.same, uses_length ds)) (get_or steps i None) refl ∙ sym (wider-at k steps (all_uses ds) steps i within.same)) where
      by_known : (i : ℕ) → i < length ds → (o : Option ℕ) → get_or steps i None ≡ o
          → marked k (list_any (λ w. comes_from back w i) from) (get_or steps i None) ≡ wider_at k steps (get_or (all_uses ds) i []) (get_or steps i None)
      by_known i low (Some m) is = ap (λ o. marked k (list_any (λ w. comes_from back w i) from) o) is ∙ sym (ap (λ o. wider_at k steps (get_or (all_uses ds) i []) o) is)
      by_known i low None is =
          ap (λ o. marked k (list_any (λ w. comes_from back w i) from) o) is
          ∙ ap (λ b. cond b (Some k) None) (both_ways (list_any (λ w. comes_from back w i) from) (list_any (λ p. is_some (get_or steps p None)) (get_or (all_uses ds) i [])) forth back_again)
          ∙ sym (ap (λ o. wider_at k steps (get_or (all_uses ds) i []) o) is) where
            forth : list_any (λ w. comes_from back w i) from ≡ true → list_any (λ p. is_some (get_or steps p None)) (get_or (all_uses ds) i []) ≡ true
            forth any =
                let some = any_has (λ w. comes_from back w i) from any in
                let last = is_at_some (get_or steps some.0 None) (k - 1) (sym (kept.last some.0) ∙ some.1) in
                let low_some : some.0 < length ds = known_within some.0 (k - 1) last in
                has_any (λ p. is_some (get_or steps p None)) (get_or (all_uses ds) i []) some.0 (sym (links.turned i some.0 low low_some) ∙ some.2) (ap is_some last) where
                  known_within : (p m : ℕ) → get_or steps p None ≡ Some m → p < length ds
                  known_within p m e = elim (cases_lt p (length steps)) [
                    | inl below ↦ omega (arith, below, within.same, uses_length ds)
                    | inr past ↦ absurd (none_some (sym (get_or_past steps p None past) ∙ e))
                  ]

            back_again : list_any (λ p. is_some (get_or steps p None)) (get_or (all_uses ds) i []) ≡ true → list_any (λ w. comes_from back w i) from ≡ true
            back_again any =
                let some = any_has (λ p. is_some (get_or steps p None)) (get_or (all_uses ds) i []) any in
                let m = known (get_or steps some.0 None) some.2 in
                let way = within.sound some.0 m.0 m.1 in
                let low_some = used_within ds i some.0 some.1 in
                elim (cases_lt (length (some.0 ∷ way.0)) k) [
                  | inl early ↦ (let old = within.complete i (some.0 ∷ way.0) (and_from (has (get_or (all_uses ds) i []) some.0) (leads_by (all_uses ds) some.0 way.0 to) some.1 way.2) early in absurd (none_some (sym is ∙ old.1)))
                  | inr late ↦ (let last : m.0 ≡ k - 1 = omega (arith, late, way.1, way.3) in
                      has_any (λ w. comes_from back w i) from some.0 (kept.last some.0 ∙ some_is_at (get_or steps some.0 None) (k - 1) (m.1 ∙ ap Some last)) (links.turned i some.0 low low_some ∙ some.1))
                ]

-- where a round finds some, the search goes on
pub round_on : (ds : List Description) (back : List (List ℕ)) (seen : List Bool) (to k : ℕ) (steps next : List (Option ℕ)) (found : List ℕ) → Within (all_uses ds) to k steps → next ≡ wider k steps (all_uses ds) steps → IsKept back seen next found k
    → 0 < length found → Within (all_uses ds) to (k + 1) next
round_on ds back seen to k steps next [] within is kept some = absurd (omega (arith, some))
round_on ds back seen to k steps next (p ∷ found) within is kept some = within_grown (all_uses ds) to k steps within next is (λ same. elim (wider_counts k steps (all_uses ds) steps within.same) [
  | inl more ↦ omega (arith, more, ap known_count is, same)
  | inr stays ↦ (
      let new : get_or next p None ≡ Some k = is_at_some (get_or next p None) k (sym (kept.last p) ∙ first_of p found) in
      let old = within.sound p k (ap (λ w. get_or w p None) (sym (is ∙ stays)) ∙ new) in
      omega (arith, old.3))
]) where
  first_of : (p : ℕ) (ps : List ℕ) → has (p ∷ ps) p ≡ true
  first_of p ps = or_first (p == p) (has ps p) (eq-eqb p p refl) where
    or_first : (a b : Bool) → a ≡ true → (a || b) ≡ true
    or_first true b e = refl
    or_first false b e = absurd (false≢true e)

-- where it finds none, all ways are known
pub round_end : (ds : List Description) (back : List (List ℕ)) (seen : List Bool) (to k : ℕ) (steps next : List (Option ℕ)) (among : ℕ → Bool) → Within (all_uses ds) to k steps → next ≡ wider k steps (all_uses ds) steps → IsKept back seen next [] k
    → AreMarked k among steps next → Measures (all_uses ds) to next
round_end ds back seen to k steps next among within is kept marks =
    subst (λ w. Measures (all_uses ds) to w) (sym stays) (within_all (all_uses ds) to k steps within next is (ap known_count stays)) where
      unmarked : (b : Bool) (o : Option ℕ) → is_at (marked k b o) k ≡ false → marked k b o ≡ o
      unmarked b (Some m) e = refl
      unmarked false None e = refl
      unmarked true None e = absurd (false≢true (sym e ∙ eq-eqb k k refl))

      stays : next ≡ steps
      stays = same_lists next steps marks.same (λ i below.
          let at = marks.at i (omega (arith, below, marks.same)) in
          at ∙ unmarked (among i) (get_or steps i None) (ap (λ o. is_at o k) (sym at) ∙ sym (kept.last i)))

empty_at : (n : ℕ) → (n == 0) ≡ true → n ≡ 0
empty_at n e = eqb-true n 0 e

-- nothing was found
pub none_found : (found : List ℕ) (n : ℕ) (b : Bool) → length found ≡ n → b ≡ (n == 0) → b ≡ true → found ≡ []
none_found [] n b long is sure = refl
none_found (p ∷ found) n b long is sure = absurd (omega (arith, long, empty_at n (sym is ∙ sure)))

pub some_found : (found : List ℕ) (n : ℕ) (b : Bool) → length found ≡ n → b ≡ (n == 0) → b ≡ false → 0 < length found
some_found [] n b long is wrong = absurd (false≢true (sym wrong ∙ is ∙ eq-eqb n 0 (sym long)))
some_found (p ∷ found) n b long is wrong = omega arith
