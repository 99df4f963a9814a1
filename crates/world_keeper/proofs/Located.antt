-- Bundles by their locations.
use Rattle.std.proofs.Common.{◌≡◌, ℕ, List, [], ◌∷◌, ◌++◌, Bool, true, false, cond, refl, ap, sym, subst, ◌∙◌}
use Rattle.std.proofs.lemmas.Bool.{false_from_ne_true}
use Rattle.std.proofs.lemmas.Slice.Eq.{bytes_eq-Decides}
use Rattle.std.specs.List.{list_any}
use Rattle.std.specs.Prelude.{filter, map, not, ◌&&◌, ◌||◌}
use Rattle.std.specs.Str.{bytes_eq}
use Rattle.row_places.specs.RowPlaces.{NoneOf}
use Rattle.row_places.proofs.RowPlaceLaws.{filter_none}
use Rattle.world_keeper.specs.declared.kept.KeptBundle.{KeptBundle}
use Rattle.world_keeper.specs.KeptWorlds.{is_marked, with_document, with_install, with_mark, without_location}
use Rattle.world_keeper.specs.Orders.{AreApart, is_at}

pub marked : (location : List ℕ) (so : Bool) (b : KeptBundle) → bytes_eq b.location location ≡ true → with_mark location so b ≡ record b { started = so }
marked location so b e = ap (λ t. cond t (record b { started = so }) b) e

pub marked_not : (location : List ℕ) (so : Bool) (b : KeptBundle) → bytes_eq b.location location ≡ false → with_mark location so b ≡ b
marked_not location so b e = ap (λ t. cond t (record b { started = so }) b) e

pub documented : (location document : List ℕ) (b : KeptBundle) → bytes_eq b.location location ≡ true → with_document location document b ≡ record b { document = document }
documented location document b e = ap (λ t. cond t (record b { document = document }) b) e

pub documented_not : (location document : List ℕ) (b : KeptBundle) → bytes_eq b.location location ≡ false → with_document location document b ≡ b
documented_not location document b e = ap (λ t. cond t (record b { document = document }) b) e

-- a bundle with another document
abbrev pub with_text : KeptBundle → List ℕ → KeptBundle
with_text b text = record b { document = text }

same_location : (location : List ℕ) (t : Bool) (b d : KeptBundle) → d.location ≡ b.location → (cond t d b).location ≡ b.location
same_location location true b d e = e
same_location location false b d e = refl

-- ---- apart

pub other_way : (a b : List ℕ) → bytes_eq a b ≡ false → bytes_eq b a ≡ false
other_way a b e = false_from_ne_true (bytes_eq b a) (λ t. clash ((bytes_eq-Decides a b).1 (sym ((bytes_eq-Decides b a).0 t)))) where
  clash : bytes_eq a b ≡ true → ⊥
  clash t = cc

none_filtered : (location : List ℕ) (test : KeptBundle → Bool) (bs : List KeptBundle) → NoneOf (is_at location) bs → NoneOf (is_at location) (filter test bs)
none_filtered location test [] h = tt
none_filtered location test (b ∷ bs) h = by_test (test b) (none_filtered location test bs h.1) where
  by_test : (t : Bool) → NoneOf (is_at location) (filter test bs) → NoneOf (is_at location) (cond t (b ∷ filter test bs) (filter test bs))
  by_test true more = (h.0, more)
  by_test false more = more

pub apart_filtered : (test : KeptBundle → Bool) (bs : List KeptBundle) → AreApart bs → AreApart (filter test bs)
apart_filtered test [] h = tt
apart_filtered test (b ∷ bs) h = by_test (test b) (apart_filtered test bs h.1) where
  by_test : (t : Bool) → AreApart (filter test bs) → AreApart (cond t (b ∷ filter test bs) (filter test bs))
  by_test true more = (none_filtered b.location test bs h.0, more)
  by_test false more = more

module _ (f : KeptBundle → KeptBundle) (same : (b : KeptBundle) → (f b).location ≡ b.location) where
  pub none_mapped : (location : List ℕ) (bs : List KeptBundle) → NoneOf (is_at location) bs → NoneOf (is_at location) (map f bs)
  none_mapped location [] h = tt
  none_mapped location (b ∷ bs) h = (ap (λ l. bytes_eq l location) (same b) ∙ h.0, none_mapped location bs h.1)

  pub apart_mapped : (bs : List KeptBundle) → AreApart bs → AreApart (map f bs)
  apart_mapped [] h = tt
  apart_mapped (b ∷ bs) h = (none_mapped (f b).location bs (subst (λ l. NoneOf (is_at l) bs) (sym (same b)) h.0), apart_mapped bs h.1)

pub none_left : (location : List ℕ) (bs : List KeptBundle) → NoneOf (is_at location) (without_location location bs)
none_left location [] = tt
none_left location (b ∷ bs) = by_test (bytes_eq b.location location) refl (none_left location bs) where
  by_test : (t : Bool) → bytes_eq b.location location ≡ t → NoneOf (is_at location) (without_location location bs)
      → NoneOf (is_at location) (cond (not t) (b ∷ without_location location bs) (without_location location bs))
  by_test true e more = more
  by_test false e more = (e, more)

none_pushed : (location : List ℕ) (bs : List KeptBundle) (x : KeptBundle) → NoneOf (is_at location) bs → bytes_eq x.location location ≡ false → NoneOf (is_at location) (bs ++ x ∷ [])
none_pushed location [] x h e = (e, tt)
none_pushed location (b ∷ bs) x h e = (h.0, none_pushed location bs x h.1 e)

pub apart_pushed : (bs : List KeptBundle) (x : KeptBundle) → AreApart bs → NoneOf (is_at x.location) bs → AreApart (bs ++ x ∷ [])
apart_pushed [] x h none = (tt, tt)
apart_pushed (b ∷ bs) x h none = (none_pushed b.location bs x h.0 (other_way b.location x.location none.0), apart_pushed bs x h.1 none.1)

pub none_marked : (location : List ℕ) (bs : List KeptBundle) → NoneOf (is_at location) bs → is_marked location bs ≡ false
none_marked location [] h = refl
none_marked location (b ∷ bs) h = ap (λ t. t && b.started || is_marked location bs) h.0 ∙ none_marked location bs h.1

-- ---- what a change leaves apart

pub apart_installed : (location document : List ℕ) (bs : List KeptBundle) → AreApart bs → AreApart (with_install location document bs)
apart_installed location document bs h = apart_pushed (without_location location bs) _ (apart_filtered _ bs h) (none_left location bs)

pub apart_documented : (location document : List ℕ) (bs : List KeptBundle) → AreApart bs → AreApart (map (with_document location document) bs)
apart_documented location document bs h = apart_mapped (with_document location document) (λ b. same_location location (bytes_eq b.location location) b (record b { document = document }) refl) bs h

pub apart_marked : (location : List ℕ) (so : Bool) (bs : List KeptBundle) → AreApart bs → AreApart (map (with_mark location so) bs)
apart_marked location so bs h = apart_mapped (with_mark location so) (λ b. same_location location (bytes_eq b.location location) b (record b { started = so }) refl) bs h
