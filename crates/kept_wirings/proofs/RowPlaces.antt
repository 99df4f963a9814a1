-- Rows with numbers of their own: the row of a number stands where the first one does that is found, and nowhere else.
use Rattle.std.proofs.Common.{◌≡◌, ◌∙◌, ◌<◌, ◌≤◌, ◌+◌, ℕ, suc, List, [], ◌∷◌, ◌++◌, ap, sym, refl, subst, arith, cond, Bool, true, false, length, map, drop, take, Option, Some, None, Result}
use Rattle.std.proofs.lemmas.Bool.{eqb-true}
use Rattle.std.proofs.lemmas.Bool.Decides.{nat_tests}
use Rattle.std.proofs.lemmas.List.{drop-map, length-map, map-append, map-set, take-map}
use Rattle.std.specs.List.{position_or_len}
use Rattle.std.specs.Prelude.{◌==◌, nat_lt, not, position, remove}
use Rattle.bundle_wiring.specs.Resolution.{Bundle}
use Rattle.bundle_wiring.specs.declared.fault.WireFault.{WireFault}
use Rattle.bundle_wiring.specs.declared.wiring.Wiring.{Wiring}
use Rattle.kept_wirings.specs.Places.{removed_at, set_at}
use Rattle.kept_wirings.specs.WiringChanges.{reread, without}
use Rattle.kept_wirings.specs.WiringRows.{HaveOwnNumbers, WiringRow, part_in}
use Rattle.row_places.specs.RowPlaces.{IsOnlyPlace, NoneOf, OnlyAt}
use Rattle.row_places.proofs.RowPlaceLaws.{filter_none, filter_only, map_none, map_only}

pub map-remove : {X Y : Type 0} (g : X → Y) (xs : List X) (i : ℕ) → map g (remove xs i) ≡ remove (map g xs) i
map-remove g xs i =
    map-append g (take i xs) (drop (suc i) xs)
    ∙ (ap (λ ys. ys ++ map g (drop (suc i) xs)) (sym (take-map g i xs)) ∙ ap (λ ys. take i (map g xs) ++ ys) (sym (drop-map g (suc i) xs)))

module _ (number : ℕ) where
  abbrev is_it : WiringRow → Bool
  is_it row = row.0 == number

  abbrev is_bundle : Bundle → Bool
  is_bundle bundle = bundle.0 == number

  none_behind : (row : WiringRow) (rows : List WiringRow) → (row.0 == number) ≡ true → NoneOf (λ (other : WiringRow). other.0 == row.0) rows → NoneOf is_it rows
  none_behind row rows on none = subst (λ (n : ℕ). NoneOf (λ (other : WiringRow). other.0 == n) rows) (eqb-true row.0 number on) none

  later : (row : WiringRow) (rows : List WiringRow) (k m : ℕ) → m ≡ suc k → is_it row ≡ false → OnlyAt is_it k rows → OnlyAt is_it m (row ∷ rows)
  later row rows k m is off only = subst (λ (n : ℕ). OnlyAt is_it n (row ∷ rows)) (sym is) (off, only)

  only_first : (rows : List WiringRow) → HaveOwnNumbers rows → position_or_len is_it rows < length rows → OnlyAt is_it (position_or_len is_it rows) rows
  only_first [] own low = absurd (omega (arith, low))
  only_first (row ∷ rows) own low = go (is_it row) refl low (only_first rows own.1)
    where
      go : (b : Bool) → is_it row ≡ b → cond (not b) (1 + position_or_len is_it rows) 0 < length (row ∷ rows) → (position_or_len is_it rows < length rows → OnlyAt is_it (position_or_len is_it rows) rows)
          → OnlyAt is_it (cond (not b) (1 + position_or_len is_it rows) 0) (row ∷ rows)
      go true on within rest = (on, none_behind row rows on own.0)
      go false off within rest = later row rows (position_or_len is_it rows) (1 + position_or_len is_it rows) (omega arith) off (rest (omega (arith, within)))

  none_first : (rows : List WiringRow) → length rows ≤ position_or_len is_it rows → NoneOf is_it rows
  none_first [] past = tt
  none_first (row ∷ rows) past = go (is_it row) refl past (none_first rows)
    where
      go : (b : Bool) → is_it row ≡ b → length (row ∷ rows) ≤ cond (not b) (1 + position_or_len is_it rows) 0 → (length rows ≤ position_or_len is_it rows → NoneOf is_it rows) → NoneOf is_it (row ∷ rows)
      go true on beyond rest = absurd (omega (arith, beyond))
      go false off beyond rest = (off, rest (omega (arith, beyond)))

  place_mapped : (rows : List WiringRow) → position_or_len is_bundle (map part_in rows) ≡ position_or_len is_it rows
  place_mapped [] = refl
  place_mapped (row ∷ rows) = ap (λ (k : ℕ). cond (not (row.0 == number)) (1 + k) 0) (place_mapped rows)

  -- the place of the row
  placed : (rows : List WiringRow) → HaveOwnNumbers rows → IsOnlyPlace is_it (position is_bundle (map part_in rows)) rows
  placed rows own = go (nat_lt place (length (map part_in rows))) refl
    where
      place : ℕ
      place = position_or_len is_bundle (map part_in rows)

      go : (b : Bool) → nat_lt (position_or_len is_bundle (map part_in rows)) (length (map part_in rows)) ≡ b → IsOnlyPlace is_it (cond b (Some (position_or_len is_bundle (map part_in rows))) None) rows
      go true low =
          let same = place_mapped rows in
          let long = length-map rows part_in in
          let within : position_or_len is_it rows < length rows = grind (arith, nat_tests) in
          subst (λ (k : ℕ). OnlyAt is_it k rows) (sym same) (only_first rows own within)
      go false high =
          let same = place_mapped rows in
          let long = length-map rows part_in in
          let past : length rows ≤ position_or_len is_it rows = grind (arith, nat_tests) in
          none_first rows past

  module _ {Y : Type 0} (g : WiringRow → Y) (rows : List WiringRow) (own : HaveOwnNumbers rows) where
    reread_by : (read : Result Wiring WireFault) (o : Option ℕ) → IsOnlyPlace is_it o rows → map g (map (reread number read) rows) ≡ set_at o (g (number, read)) (map g rows)
    reread_by read None none = ap (map g) (map_none is_it (λ (row : WiringRow). (number, read)) rows none)
    reread_by read (Some place) only = ap (map g) (map_only is_it (λ (row : WiringRow). (number, read)) place rows (number, read) only) ∙ map-set g rows place (number, read)

    -- another row in its place
    pub reread_at : (read : Result Wiring WireFault) → map g (map (reread number read) rows) ≡ set_at (position is_bundle (map part_in rows)) (g (number, read)) (map g rows)
    reread_at read = reread_by read (position is_bundle (map part_in rows)) (placed rows own)

    removed_by : (o : Option ℕ) → IsOnlyPlace is_it o rows → map g (without number rows) ≡ removed_at o (map g rows)
    removed_by None none = ap (map g) (filter_none is_it rows none)
    removed_by (Some place) only = ap (map g) (filter_only is_it place rows only) ∙ map-remove g rows place

    -- the row taken out
    pub without_at : map g (without number rows) ≡ removed_at (position is_bundle (map part_in rows)) (map g rows)
    without_at = removed_by (position is_bundle (map part_in rows)) (placed rows own)
