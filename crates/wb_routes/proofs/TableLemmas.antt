-- Where a text stands among patterns in byte order, and what is found there.
use Rattle.std.proofs.Common.{◌≡◌, ℕ, zero, suc, ◌+◌, ◌<◌, ◌≤◌, List, [], ◌∷◌, ◌++◌, ap, sym, ◌∙◌, refl, cond, arith, Bool, true, false, length, get_or, take, drop, Option, Some, None}
use Rattle.std.specs.Prelude.{◌&&◌, find, min, not, option_map, slice_get}
use Rattle.std.specs.Cmp.{IsStrictWeakOrder}
use Rattle.std.specs.Cmp.Lexicographic.{slice_cmp}
use Rattle.std.specs.List.{AllWithin, list_all}
use Rattle.std.specs.List.Sorted.{IsPartitionedBy}
use Rattle.std.specs.Ordering.{is_eq, is_lt, nat_cmp, ordering_reverse, ordering_then}
use Rattle.std.specs.Str.{bytes_eq}
use Rattle.std.specs.declared.cmp.Ordering.{Ordering}
use Rattle.std.specs.declared.cmp.Ordering.TheVariants.{Less, Equal, Greater}
use Rattle.std.proofs.lemmas.Cmp.{nat_list_cmp_total}
use Rattle.std.proofs.lemmas.List.Sorted.{ranks_by}
use Rattle.std.proofs.lemmas.Map.Text.{is_eq-slice_cmp}
use Rattle.std.proofs.lemmas.Slice.Eq.{bytes_eq-Decides}
use Rattle.prop_map.specs.Words.{text_before}
use Rattle.wb_context.specs.Rising.{NoneBelow}
use Rattle.wb_routes.specs.declared.route_row.RouteRow.{RouteRow}
use Rattle.wb_routes.specs.Choices.{owner_in}
use Rattle.wb_routes.specs.Tables.{Ascends, has_less_pattern, place_of, service_at}

-- ---- a text beside a front and then an end

then_grouped : (a b c : Ordering) → ordering_then (ordering_then a b) c ≡ ordering_then a (ordering_then b c)
then_grouped Less b c = refl
then_grouped Equal b c = refl
then_grouped Greater b c = refl

pub joined : (text front end : List ℕ) (k : ℕ) → k ≡ min (length text) (length front) → ordering_then (slice_cmp nat_cmp (take k text) front) (slice_cmp nat_cmp (drop k text) end) ≡ slice_cmp nat_cmp text (front ++ end)
joined [] [] end zero e = refl
joined (y ∷ ys) [] end zero e = refl
joined [] [] end (suc k) e = absurd (omega (arith, e))
joined (y ∷ ys) [] end (suc k) e = absurd (omega (arith, e))
joined [] (x ∷ xs) end zero e = refl
joined [] (x ∷ xs) end (suc k) e = absurd (omega (arith, e))
joined (y ∷ ys) (x ∷ xs) end zero e = absurd (omega (arith, e))
joined (y ∷ ys) (x ∷ xs) end (suc k) e = then_grouped (nat_cmp y x) (slice_cmp nat_cmp (take k ys) xs) (slice_cmp nat_cmp (drop k ys) end) ∙ ap (ordering_then (nat_cmp y x)) (joined ys xs end k (omega (arith, e)))

-- ---- the order of patterns

pub texts_rank : IsStrictWeakOrder text_before
texts_rank = ranks_by nat_list_cmp_total (λ (t : List ℕ). t)

pub patterns_rank : IsStrictWeakOrder has_less_pattern
patterns_rank = ranks_by nat_list_cmp_total (λ (r : RouteRow). r.pattern)

clash : {A : Type 0} (b : Bool) → b ≡ false → b ≡ true → A
clash b e f = cc

-- none of the rows has a lesser pattern
none_below_at : (r : RouteRow) (rows : List RouteRow) (k : ℕ) (d : RouteRow) → NoneBelow has_less_pattern r rows → k < length rows → has_less_pattern (get_or rows k d) r ≡ false
none_below_at r [] k d none h = absurd (omega (arith, h))
none_below_at r (s ∷ rows) zero d none h = by (has_less_pattern s r) refl where
  by : (b : Bool) → has_less_pattern s r ≡ b → has_less_pattern s r ≡ false
  by true e = clash (not (has_less_pattern s r) && list_all (λ z. not (has_less_pattern z r)) rows) (ap (λ c. not c && list_all (λ z. not (has_less_pattern z r)) rows) e) none
  by false e = e
none_below_at r (s ∷ rows) (suc k) d none h = by (has_less_pattern s r) refl (λ left. none_below_at r rows k d left (omega (arith, h))) where
  by : (b : Bool) → has_less_pattern s r ≡ b → (NoneBelow has_less_pattern r rows → has_less_pattern (get_or rows k d) r ≡ false) → has_less_pattern (get_or rows k d) r ≡ false
  by true e further = clash (not (has_less_pattern s r) && list_all (λ z. not (has_less_pattern z r)) rows) (ap (λ c. not c && list_all (λ z. not (has_less_pattern z r)) rows) e) none
  by false e further = further (sym (ap (λ c. not c && list_all (λ z. not (has_less_pattern z r)) rows) e) ∙ none)

abbrev pub goes_before : List ℕ → RouteRow → Bool
goes_before text r = text_before r.pattern text

-- what isn't above one that goes before the text goes before it
lower : (text : List ℕ) (r s : RouteRow) → has_less_pattern s r ≡ false → goes_before text s ≡ true → goes_before text r ≡ true
lower text r s e f = by (goes_before text r) refl where
  by : (b : Bool) → goes_before text r ≡ b → goes_before text r ≡ true
  by true g = g
  by false g = clash (text_before s.pattern text) (texts_rank.chain s.pattern r.pattern text e g) f

pub rows_parted : (text : List ℕ) (rows : List RouteRow) → Ascends rows → IsPartitionedBy (goes_before text) rows
rows_parted text [] up i j d h k e = absurd (omega (arith, k))
rows_parted text (r ∷ rows) up zero zero d h k e = e
rows_parted text (r ∷ rows) up zero (suc j) d h k e = lower text r (get_or rows j d) (none_below_at r rows j d up.0 (omega (arith, k))) e
rows_parted text (r ∷ rows) up (suc i) zero d h k e = absurd (omega (arith, h))
rows_parted text (r ∷ rows) up (suc i) (suc j) d h k e = rows_parted text rows up.1 i j d (omega (arith, h)) (omega (arith, k)) e

pub place_from_point : (text : List ℕ) (rows : List RouteRow) (i : ℕ) → i ≤ length rows → AllWithin (λ r. goes_before text r ≡ true) rows 0 i → AllWithin (λ r. goes_before text r ≡ false) rows i (length rows) → i ≡ place_of text rows
place_from_point text [] i h before after = omega (arith, h)
place_from_point text (r ∷ rows) zero h before after = sym (ap (λ b. cond b (suc (place_of text rows)) 0) (after 0 r (omega arith) (omega arith)))
place_from_point text (r ∷ rows) (suc i) h before after =
    ap suc (place_from_point text rows i (omega (arith, h)) (λ k d l m. before (suc k) d (omega arith) (omega (arith, m))) (λ k d l m. after (suc k) d (omega (arith, l)) (omega (arith, m))))
    ∙ sym (ap (λ b. cond b (suc (place_of text rows)) 0) (before 0 r (omega arith) (omega arith)))

-- ---- what is found at the place of a text

greater_is_less : (a b : List ℕ) → slice_cmp nat_cmp a b ≡ Greater → text_before b a ≡ true
greater_is_less a b e = ap is_lt (nat_list_cmp_total.antisymm b a ∙ ap ordering_reverse e)

-- behind a pattern above the text there is none that is equal
none_behind : (text : List ℕ) (r : RouteRow) (rows : List RouteRow) → NoneBelow has_less_pattern r rows → slice_cmp nat_cmp r.pattern text ≡ Greater → find (λ (s : RouteRow). bytes_eq s.pattern text) rows ≡ None
none_behind text r [] none e = refl
none_behind text r (s ∷ rows) none e =
    by (bytes_eq s.pattern text) refl (none_behind text r rows (sym (ap (λ c. not c && list_all (λ z. not (has_less_pattern z r)) rows) (none_below_at r (s ∷ rows) 0 s none (omega arith))) ∙ none) e) where
      by : (b : Bool) → bytes_eq s.pattern text ≡ b → find (λ (z : RouteRow). bytes_eq z.pattern text) rows ≡ None → cond (bytes_eq s.pattern text) (Some s) (find (λ (z : RouteRow). bytes_eq z.pattern text) rows) ≡ None
      by true f further = let same : s.pattern ≡ text = (bytes_eq-Decides s.pattern text).0 f in
          clash (has_less_pattern s r) (none_below_at r (s ∷ rows) 0 s none (omega arith)) (ap (λ t. text_before t r.pattern) same ∙ greater_is_less r.pattern text e)
      by false f further = ap (λ c. cond c (Some s) (find (λ (z : RouteRow). bytes_eq z.pattern text) rows)) f ∙ further

pub found_there : (text : List ℕ) (rows : List RouteRow) → Ascends rows → service_at text (slice_get rows (place_of text rows)) ≡ owner_in rows text
found_there text [] up = refl
found_there text (r ∷ rows) up = by (slice_cmp nat_cmp r.pattern text) refl (found_there text rows up.1) where
  equal_by : (o : Ordering) → slice_cmp nat_cmp r.pattern text ≡ o → bytes_eq r.pattern text ≡ is_eq o
  equal_by o e = sym (is_eq-slice_cmp r.pattern text) ∙ ap is_eq e

  place_by : (o : Ordering) → slice_cmp nat_cmp r.pattern text ≡ o → place_of text (r ∷ rows) ≡ cond (is_lt o) (suc (place_of text rows)) 0
  place_by o e = ap (λ p. cond (is_lt p) (suc (place_of text rows)) 0) e

  owner_by : (b : Bool) → bytes_eq r.pattern text ≡ b → owner_in (r ∷ rows) text ≡ option_map (λ (z : RouteRow). z.service) (cond b (Some r) (find (λ (z : RouteRow). bytes_eq z.pattern text) rows))
  owner_by b e = ap (λ c. option_map (λ (z : RouteRow). z.service) (cond c (Some r) (find (λ (z : RouteRow). bytes_eq z.pattern text) rows))) e

  by : (o : Ordering) → slice_cmp nat_cmp r.pattern text ≡ o → service_at text (slice_get rows (place_of text rows)) ≡ owner_in rows text → service_at text (slice_get (r ∷ rows) (place_of text (r ∷ rows))) ≡ owner_in (r ∷ rows) text
  by Less e further = ap (λ n. service_at text (slice_get (r ∷ rows) n)) (place_by Less e) ∙ further ∙ sym (owner_by false (equal_by Less e))
  by Equal e further = ap (λ n. service_at text (slice_get (r ∷ rows) n)) (place_by Equal e) ∙ ap (λ b. cond b (Some r.service) None) (equal_by Equal e) ∙ sym (owner_by true (equal_by Equal e))
  by Greater e further =
      ap (λ n. service_at text (slice_get (r ∷ rows) n)) (place_by Greater e) ∙ ap (λ b. cond b (Some r.service) None) (equal_by Greater e)
      ∙ sym (owner_by false (equal_by Greater e) ∙ ap (λ (f : Option RouteRow). option_map (λ (z : RouteRow). z.service) f) (none_behind text r rows up.0 e))
