-- What happened to direct services, row by row.
use Rattle.std.proofs.Common.{◌≡◌, ℕ, zero, suc, ◌<◌, Result, Ok, Err, Bool, true, false, List, [], ◌∷◌, ◌++◌, ◌∙◌, ap, sym, refl, cond, get_or}
use Rattle.std.specs.Prelude.{Option, Some, None, ◌==◌, ◌||◌, is_ok, not, filter}
use Rattle.std.specs.List.{All, AllPairs, flat_map}
use Rattle.std.specs.Result.{result_ok}
use Rattle.std.proofs.lemmas.Bool.{and_parts, eqb-true}
use Rattle.std.proofs.lemmas.Grind.{flat_map-append}
use Rattle.std.proofs.lemmas.List.Elements.{All-head, All-tail}
use Rattle.prop_map.specs.Words.{has}
use Rattle.row_places.specs.RowPlaces.{IsOnlyPlace, NoneOf, OnlyAt}
use Rattle.scr_world.specs.Lists.{change_between}
use Rattle.scr_consequences.specs.Changes.{IsOwn, change_from, change_of_new}
use Rattle.scr_consequences.specs.Moves.{row_stays, rows_behind}
use Rattle.scr_consequences.proofs.FlatMaps.{flat_map_agree}
use Rattle.scr_consequences.proofs.MovedLemmas.{one_service}
use Rattle.scr_consequences.proofs.RisingLemmas.{own_items}
use Rattle.scr_consequences.proofs.RowAtLemmas.{or_left, or_right}
use Rattle.service_listeners.specs.Listening.{Change}
use Rattle.service_registry.specs.Registries.{has_number, row_of}
use Rattle.service_registry.specs.Services.{ids}
use Rattle.service_registry.specs.declared.row.ServiceRow.{ServiceRow}

abbrev pub AreRising : List ServiceRow → Type 0
AreRising rows = AllPairs (λ (a b : ServiceRow). a.id < b.id) rows

-- rows with rising numbers are found by them
pub own_rows : (rows : List ServiceRow) → AreRising rows → All (IsOwn rows) rows
own_rows rows rising = own_items (λ (r : ServiceRow). r.id) rows rising

-- a number that isn't one of theirs finds none
pub not_there : (rows : List ServiceRow) (n : ℕ) → has (ids rows) n ≡ false → row_of rows n ≡ None
not_there [] n none = refl
not_there (r ∷ rows) n none =
    ap (λ b. cond b (Some r) (row_of rows n)) (or_left (r.id == n) (has (ids rows) n) none) ∙ not_there rows n (or_right (r.id == n) (has (ids rows) n) none)

module _ (was now : List ServiceRow) where
  abbrev pub at_number : ℕ → List Change
  at_number s = change_between (row_of was s) (row_of now s)

  by_number : (xs : List ServiceRow) → flat_map at_number (ids xs) ≡ flat_map (λ (r : ServiceRow). at_number r.id) xs
  by_number [] = refl
  by_number (x ∷ xs) = ap (λ (l : List Change). at_number x.id ++ l) (by_number xs)

  -- those that were registered
  pub of_old : AreRising was → flat_map (change_from now) was ≡ flat_map at_number (ids was)
  of_old rising =
      flat_map_agree (change_from now) (λ (r : ServiceRow). at_number r.id) was (λ k d within. ap (λ (o : Option ServiceRow). change_between o (row_of now (get_or was k d).id)) (sym (own_rows was rising k d within)))
      ∙ sym (by_number was)

  module _ (before : List ℕ) (all : (n : ℕ) → has before n ≡ has (ids was) n) where
    one_new : (r : ServiceRow) (rest : List ServiceRow) (b : Bool) → has (ids was) r.id ≡ b → IsOwn now r
        → cond b [] ((None, Some r) ∷ []) ++ flat_map at_number (filter (λ s. not (has (ids was) s)) (ids rest))
        ≡ flat_map at_number (cond (not b) (r.id ∷ filter (λ s. not (has (ids was) s)) (ids rest)) (filter (λ s. not (has (ids was) s)) (ids rest)))
    one_new r rest true e own = refl
    one_new r rest false e own =
        let others = flat_map at_number (filter (λ s. not (has (ids was) s)) (ids rest)) in
        let change : change_between (row_of was r.id) (row_of now r.id) ≡ (None, Some r) ∷ [] =
        ap (λ (o : Option ServiceRow). change_between o (row_of now r.id)) (not_there was r.id e) ∙ ap (change_between None) own in
        ap (λ (l : List Change). l ++ others) (sym change)

    of_news : (xs : List ServiceRow) → All (IsOwn now) xs → flat_map (change_of_new before) xs ≡ flat_map at_number (filter (λ s. not (has (ids was) s)) (ids xs))
    of_news [] own = refl
    of_news (x ∷ xs) own =
        ap (λ (l : List Change). change_of_new before x ++ l) (of_news xs (All-tail (IsOwn now) x xs own))
        ∙ ap (λ b. cond b [] ((None, Some x) ∷ []) ++ flat_map at_number (filter (λ s. not (has (ids was) s)) (ids xs))) (all x.id)
        ∙ one_new x xs (has (ids was) x.id) refl (All-head (IsOwn now) x xs own)

    -- those that weren't
    pub of_new : AreRising now → flat_map (change_of_new before) now ≡ flat_map at_number (filter (λ s. not (has (ids was) s)) (ids now))
    of_new rising = of_news now (own_rows now rising)

    -- all direct services
    pub of_direct : AreRising was → AreRising now → flat_map (change_from now) was ++ flat_map (change_of_new before) now ≡ flat_map at_number (ids was ++ filter (λ s. not (has (ids was) s)) (ids now))
    of_direct rising_was rising_now =
        ap (λ (l : List Change). l ++ flat_map (change_of_new before) now) (of_old rising_was)
        ∙ ap (λ (l : List Change). flat_map at_number (ids was) ++ l) (of_new rising_now)
        ∙ sym (flat_map-append at_number (ids was) (filter (λ s. not (has (ids was) s)) (ids now)))

-- ---- those that moved

-- nothing happened to one that stands first in the rest of those that are, with its revision
pub stays_same : (rows rest : List ServiceRow) (r : ServiceRow) → All (IsOwn rows) rest → row_stays r rest ≡ true → change_from rows r ≡ []
stays_same rows [] r own e = cc
stays_same rows (s ∷ rest) r own e =
    let parts = and_parts (r.id == s.id) (r.revision == s.revision) e in
    ap (λ (n : ℕ). change_between (Some r) (row_of rows n)) (eqb-true r.id s.id parts.0)
    ∙ ap (change_between (Some r)) (All-head (IsOwn rows) s rest own)
    ∙ one_service r s parts.0 parts.1

-- what is so of each of a list is so of those behind its first one
pub all_behind : (P : ServiceRow → Type 0) (n : ℕ) (rest : List ServiceRow) → All P rest → All P (rows_behind n rest)
all_behind P n [] all = all
all_behind P n (s ∷ rest) all = by_test (s.id == n)
  where
    by_test : (b : Bool) → All P (cond b rest (s ∷ rest))
    by_test true = All-tail P s rest all
    by_test false = all

-- one that was registered isn't told as a new one
pub behind_told : (before : List ℕ) (n : ℕ) (rest : List ServiceRow) → has before n ≡ true → flat_map (change_of_new before) (rows_behind n rest) ≡ flat_map (change_of_new before) rest
behind_told before n [] there = refl
behind_told before n (s ∷ rest) there = by_test (s.id == n) refl
  where
    by_test : (b : Bool) → (s.id == n) ≡ b → flat_map (change_of_new before) (cond b rest (s ∷ rest)) ≡ flat_map (change_of_new before) (s ∷ rest)
    by_test true same =
        let nothing : change_of_new before s ≡ [] = ap (λ b. cond b [] ((None, Some s) ∷ [])) (ap (has before) (eqb-true s.id n same) ∙ there) in
        ap (λ (l : List Change). l ++ flat_map (change_of_new before) rest) (sym nothing)
    by_test false same = refl

-- ---- a number among those of a table

none_has : (n : ℕ) (rows : List ServiceRow) → NoneOf (has_number n) rows → has (ids rows) n ≡ false
none_has n [] none = refl
none_has n (r ∷ rows) none = ap (λ b. b || has (ids rows) n) none.0 ∙ none_has n rows none.1

only_has : (n k : ℕ) (rows : List ServiceRow) → OnlyAt (has_number n) k rows → has (ids rows) n ≡ true
only_has n k [] only = absurd only
only_has n zero (r ∷ rows) only = ap (λ b. b || has (ids rows) n) only.0
only_has n (suc k) (r ∷ rows) only = ap (λ b. b || has (ids rows) n) only.0 ∙ only_has n k rows only.1

pub place_has : (n : ℕ) (r : Result ℕ ℕ) (rows : List ServiceRow) → IsOnlyPlace (has_number n) (result_ok r) rows → is_ok r ≡ has (ids rows) n
place_has n (Ok k) rows only = sym (only_has n k rows only)
place_has n (Err gap) rows none = sym (none_has n rows none)
