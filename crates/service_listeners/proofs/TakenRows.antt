-- Listeners that were removed and put back leave the rows as they were.
use Rattle.std.proofs.Common.{◌≡◌, ◌<◌, ℕ, suc, List, [], ◌∷◌, ◌++◌, ap, sym, ◌∙◌, refl, cond, arith, Bool, true, false}
use Rattle.std.proofs.lemmas.Bool.{ne_eqb}
use Rattle.std.proofs.lemmas.List.Elements.{All-filter, All-tail}
use Rattle.std.specs.Cmp.{nat_cmp_is}
use Rattle.std.specs.List.{All}
use Rattle.std.specs.Ordering.{is_lt}
use Rattle.std.specs.Prelude.{filter, not}
use Rattle.std.specs.declared.cmp.Ordering.TheVariants.{Less, Greater}
use Rattle.prop_map.specs.Words.{insert_by}
use Rattle.row_places.specs.RowPlaces.{NoneOf}
use Rattle.row_places.proofs.NumberLaws.{all_with, rising_with}
use Rattle.row_places.proofs.RowPlaceLaws.{filter_none}
use Rattle.service_listeners.specs.declared.listener.Listener.{Listener}
use Rattle.service_listeners.specs.Numbers.{AreNumbered, AreRising, IsGiven, has_number}
use Rattle.service_listeners.specs.Undoing.{has_lower_number, with_row, with_rows}

-- ---- putting each at its place

pub with_last : (more rows : List Listener) (l : Listener) → with_rows (more ++ l ∷ []) rows ≡ with_rows more (with_row l rows)
with_last [] rows l = refl
with_last (k ∷ ks) rows l = ap (with_row k) (with_last ks rows l)

pub numbered_with_rows : (numbered : ℕ) (more rows : List Listener) → All (IsGiven numbered) more → AreNumbered numbered rows → AreNumbered numbered (with_rows more rows)
numbered_with_rows numbered [] rows given ok = ok
numbered_with_rows numbered (l ∷ more) rows given ok =
    let rest = numbered_with_rows numbered more rows (All-tail (IsGiven numbered) l more given) ok in (
      rising_with (λ (k : Listener). k.number) l (with_rows more rows) rest.0,
      all_with (λ (k : Listener). k.number) l (IsGiven numbered) (with_rows more rows) (given 0 l (omega arith)) rest.1,
    )

-- ---- what was removed, put back

abbrev Above : Listener → Listener → Type 0
Above l m = l.number < m.number

abbrev without : Listener → List Listener → List Listener
without k ms = filter (λ (m : Listener). not (has_number k.number m)) ms

none_has : (l : Listener) (ms : List Listener) → All (Above l) ms → NoneOf (has_number l.number) ms
none_has l [] above = tt
none_has l (m ∷ ms) above = (ne_eqb m.number l.number (λ e. omega (arith, e, above 0 m (omega arith))), none_has l ms (All-tail (Above l) m ms above))

put_first : (l : Listener) (ms : List Listener) → All (Above l) ms → insert_by has_lower_number l ms ≡ l ∷ ms
put_first l [] above = refl
put_first l (m ∷ ms) above =
    ap (λ b. cond b (l ∷ m ∷ ms) (m ∷ insert_by has_lower_number l ms)) (ap is_lt (sym (nat_cmp_is l.number m.number Less (above 0 m (omega arith)))))

goes_first : (l : Listener) (ms : List Listener) → All (Above l) ms → with_row l ms ≡ l ∷ ms
goes_first l ms above = ap (insert_by has_lower_number l) (filter_none (has_number l.number) ms (none_has l ms above)) ∙ put_first l ms above

goes_behind : (k l : Listener) (ms : List Listener) → Above l k → with_row k (l ∷ ms) ≡ l ∷ with_row k ms
goes_behind k l ms less =
    ap (λ b. insert_by has_lower_number k (cond (not b) (l ∷ without k ms) (without k ms))) (ne_eqb l.number k.number (λ e. omega (arith, e, less)))
    ∙ ap (λ b. cond b (k ∷ l ∷ without k ms) (l ∷ with_row k ms)) (ap is_lt (sym (nat_cmp_is k.number l.number Greater less)))

all_behind : (ks : List Listener) (l : Listener) (ms : List Listener) → All (Above l) ks → with_rows ks (l ∷ ms) ≡ l ∷ with_rows ks ms
all_behind [] l ms above = refl
all_behind (k ∷ ks) l ms above = ap (with_row k) (all_behind ks l ms (All-tail (Above l) k ks above)) ∙ goes_behind k l (with_rows ks ms) (above 0 k (omega arith))

pub all_back : (taken : Listener → Bool) (ls : List Listener) → AreRising ls → with_rows (filter (λ (l : Listener). not (taken l)) ls) (filter taken ls) ≡ ls
all_back taken [] rising = refl
all_back taken (l ∷ ls) rising = by_test (taken l) (filter (λ (m : Listener). not (taken m)) ls) above_left (all_back taken ls rest) where
  rest : AreRising ls
  rest i j d less within = rising (suc i) (suc j) d (omega (arith, less)) (omega (arith, within))

  above : All (Above l) ls
  above k d within = rising 0 (suc k) d (omega arith) (omega (arith, within))

  above_left : All (Above l) (filter (λ (m : Listener). not (taken m)) ls)
  above_left = All-filter (λ (m : Listener). not (taken m)) (Above l) ls above

  by_test : (b : Bool) (left : List Listener) → All (Above l) left → with_rows left (filter taken ls) ≡ ls
      → with_rows (cond (not b) (l ∷ left) left) (cond b (l ∷ filter taken ls) (filter taken ls)) ≡ l ∷ ls
  by_test true left higher more = all_behind left l (filter taken ls) higher ∙ ap (λ ms. l ∷ ms) more
  by_test false left higher more = ap (with_row l) more ∙ goes_first l ls above
