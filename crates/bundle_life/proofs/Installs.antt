-- The last change was an install exactly where the row and the event that came last are those of one.
use Rattle.std.proofs.Common.{◌≡◌, ◌<◌, ◌+◌, ℕ, suc, List, [], ◌∷◌, ◌++◌, ap, sym, subst, ◌∙◌, refl, arith, Bool, true, false, length, get_or, Option, Some, None}
use Rattle.std.specs.Prelude.{◌-◌, ◌==◌, ◌&&◌, take}
use Rattle.std.specs.List.{slice_get}
use Rattle.std.proofs.Math.Seq.{take-suc}
use Rattle.std.proofs.lemmas.Bool.{and_from, and_parts, eq-eqb, eqb-true, false≢true}
use Rattle.std.proofs.lemmas.List.{length-append}
use Rattle.std.proofs.lemmas.Option.{get_or_from_slice_get, slice_get_within}
use Rattle.osgi_version.specs.declared.version.Version.{Version}
use Rattle.bundle_life.specs.declared.bundle.BundleEvent.{BundleEvent}
use Rattle.bundle_life.specs.declared.bundle.BundleLife.{BundleLife}
use Rattle.bundle_life.specs.declared.bundle.BundleState.{BundleState}
use Rattle.bundle_life.specs.declared.bundle.BundleState.TheVariants.{Installed, Resolved, Stopping, Active}
use Rattle.bundle_life.specs.Lives.{BundleTable, after_install, is_installed, new_row}
use Rattle.bundle_life.specs.Numbers.{NumberedRows}
use Rattle.bundle_life.specs.Undoing.{is_install, last_of}
use Rattle.bundle_life.proofs.Steps.{as_table, rows_of}

-- ---- the last item of a list

slice_get_at : {X : Type 0} (xs : List X) (x : X) → slice_get (xs ++ x ∷ []) (length xs) ≡ Some x
slice_get_at [] x = refl
slice_get_at (y ∷ ys) x = slice_get_at ys x

pub last_is : {X : Type 0} (xs : List X) (x : X) → last_of (xs ++ x ∷ []) ≡ Some x
last_is xs x =
    let place : length (xs ++ x ∷ []) - 1 ≡ length xs = omega (arith, length-append xs (x ∷ [])) in
    ap (slice_get (xs ++ x ∷ [])) place ∙ slice_get_at xs x

pub front_and_last : {X : Type 0} (xs : List X) (x : X) → last_of xs ≡ Some x → xs ≡ take (length xs - 1) xs ++ x ∷ []
front_and_last {X = X} xs x last =
    let within : length xs - 1 < length xs = slice_get_within xs (length xs - 1) x last in
    let whole : suc (length xs - 1) ≡ length xs = omega (arith, within) in
    sym (ap (λ n. take n xs) whole ∙ all xs)
    ∙ take-suc xs (length xs - 1) x within
    ∙ ap (λ y. take (length xs - 1) xs ++ y ∷ []) (get_or_from_slice_get xs (length xs - 1) x x last)
  where
    all : (ys : List X) → take (length ys) ys ≡ ys
    all [] = refl
    all (y ∷ ys) = ap (λ zs. y ∷ zs) (all ys)

-- ---- an install

pub install_ends : (before : BundleTable) (location name : List ℕ) (version : Version)
    → is_install (after_install location name version before).numbered (last_of (after_install location name version before).rows) (last_of (after_install location name version before).events) ≡ true
install_ends before location name version =
    let n = before.numbered + 1 in
    let row : BundleLife = new_row n location name version in
    let event : BundleEvent = record { value = 1; bundle = n } in
    let same : (n == n) ≡ true = eq-eqb n n refl in
    ap (λ r. is_install n r (last_of (before.events ++ event ∷ []))) (last_is before.rows row)
    ∙ ap (is_install n (Some row)) (last_is before.events event)
    ∙ and_from _ _ (and_from _ _ (and_from _ _ same refl) same) refl

pub ends_so : (t before : BundleTable) (location name : List ℕ) (version : Version) → t ≡ after_install location name version before
    → is_install t.numbered (last_of t.rows) (last_of t.events) ≡ true
ends_so t before location name version e =
    ap (λ (s : BundleTable). is_install s.numbered (last_of s.rows) (last_of s.events)) e ∙ install_ends before location name version

is_new : (b : BundleLife) (n : ℕ) → b.number ≡ n → is_installed b.state ≡ true → b ≡ new_row n b.location b.name b.version
is_new b n number installed = by_state b.state refl installed where
  by_state : (s : BundleState) → b.state ≡ s → is_installed s ≡ true → b ≡ new_row n b.location b.name b.version
  by_state Installed is h = grind (arith, number, is)
  by_state Resolved is h = absurd (false≢true h)
  by_state Stopping is h = absurd (false≢true h)
  by_state Active is h = absurd (false≢true h)

-- the rows in front, and the events but the last, are those before an install
pub install_is : (t : BundleTable) (front : NumberedRows) (row : BundleLife) → t.rows ≡ front.rows ++ row ∷ [] → t.numbered ≡ front.numbered + 1
    → is_install t.numbered (last_of t.rows) (last_of t.events) ≡ true
    → t ≡ after_install row.location row.name row.version (as_table front (take (length t.events - 1) t.events))
install_is t front row rows numbered ends = by_event (last_of t.events) refl
    (sym (ap (λ r. is_install t.numbered r (last_of t.events)) (ap last_of rows ∙ last_is front.rows row)) ∙ ends)
  where
    joined : {rs : List BundleLife} {n : ℕ} {es : List BundleEvent} → t.rows ≡ rs → t.numbered ≡ n → t.events ≡ es → t ≡ record { rows = rs; numbered = n; events = es }
    joined r n e = grind (arith, r, n, e)

    by_event : (o : Option BundleEvent) → last_of t.events ≡ o → is_install t.numbered (Some row) (last_of t.events) ≡ true
        → t ≡ after_install row.location row.name row.version (as_table front (take (length t.events - 1) t.events))
    by_event None is h = absurd (false≢true (sym (ap (is_install t.numbered (Some row)) is) ∙ h))
    by_event (Some e) is h =
        let parts = and_parts _ _ (sym (ap (is_install t.numbered (Some row)) is) ∙ h) in
        let told = and_parts _ _ parts.0 in
        let new_one = and_parts _ _ told.0 in
        let number : row.number ≡ t.numbered = eqb-true row.number t.numbered new_one.0 in
        let bundle : e.bundle ≡ t.numbered = eqb-true e.bundle t.numbered told.1 in
        let value : e.value ≡ 1 = eqb-true e.value 1 parts.1 in
        let new : row ≡ new_row (front.numbered + 1) row.location row.name row.version = is_new row (front.numbered + 1) (number ∙ numbered) new_one.1 in
        let event : e ≡ record { value = 1; bundle = front.numbered + 1 } = grind (arith, value, bundle, numbered) in
        let events : t.events ≡ take (length t.events - 1) t.events ++ (record { value = 1; bundle = front.numbered + 1 }) ∷ [] =
        front_and_last t.events e is ∙ ap (λ x. take (length t.events - 1) t.events ++ x ∷ []) event in
        joined (rows ∙ ap (λ r. front.rows ++ r ∷ []) new) numbered events
