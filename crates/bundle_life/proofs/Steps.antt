-- A bundle that was kept before a step can be put back after it.
use Rattle.std.proofs.Common.{◌≡◌, ◌<◌, ◌≤◌, ◌+◌, ℕ, List, [], ◌∷◌, ◌++◌, ap, sym, subst, ◌∙◌, refl, cond, arith, Bool, true, false, length, Option, Some, None}
use Rattle.std.proofs.lemmas.Bool.Decides.{nat_tests}
use Rattle.std.proofs.lemmas.List.{length-append}
use Rattle.std.proofs.Math.Seq.{take-append_seam}
use Rattle.std.specs.Option.{option_map_or}
use Rattle.std.specs.Prelude.{◌-◌, ◌==◌, map, not, take}
use Rattle.osgi_version.specs.declared.version.Version.{Version}
use Rattle.prop_map.specs.Words.{has}
use Rattle.row_places.proofs.RowPlaceLaws.{only_within}
use Rattle.bundle_life.specs.declared.bundle.BundleEvent.{BundleEvent}
use Rattle.bundle_life.specs.declared.bundle.BundleLife.{BundleLife}
use Rattle.bundle_life.specs.declared.bundle.BundleState.{BundleState}
use Rattle.bundle_life.specs.declared.bundle.BundleState.TheVariants.{Installed, Resolved, Stopping, Active}
use Rattle.bundle_life.specs.Lives.{BundleTable, after_start, after_uninstall, after_update, bundle_of, events_of, is_active, is_stopping, state_is, stop_begun, stop_completed, unresolving, with_state}
use Rattle.bundle_life.specs.Numbers.{AreNumbered, IsGiven, NumberedRows, has_number, stops, without_number}
use Rattle.bundle_life.specs.Refusals.{started_once, stop_begun_once}
use Rattle.bundle_life.specs.Undoing.{IsKeptOf, IsStepped, IsUndoneBy, Kept, owing, with_kept}
use Rattle.row_places.proofs.NumberLaws.{put_back, stands, without_twice}
use Rattle.bundle_life.proofs.RowLaws.{active_isnt}

-- ---- the rows of the others

others_mapped : (n : ℕ) (f : BundleLife → BundleLife) → ((b : BundleLife) → (f b).number ≡ b.number) → (rows : List BundleLife)
    → without_number n (map (λ (b : BundleLife). cond (has_number n b) (f b) b) rows) ≡ without_number n rows
others_mapped n f keeps [] = refl
others_mapped n f keeps (b ∷ bs) = by_test (has_number n b) refl (map (λ (b : BundleLife). cond (has_number n b) (f b) b) bs) (others_mapped n f keeps bs) where
  by_test : (t : Bool) → has_number n b ≡ t → (mapped : List BundleLife) → without_number n mapped ≡ without_number n bs
      → without_number n (cond (has_number n b) (f b) b ∷ mapped) ≡ without_number n (b ∷ bs)
  by_test true e mapped more =
      ap (λ t. without_number n (cond t (f b) b ∷ mapped)) e
      ∙ ap (λ t. cond (not t) (f b ∷ without_number n mapped) (without_number n mapped)) (ap (λ k. k == n) (keeps b) ∙ e)
      ∙ more ∙ sym (ap (λ t. cond (not t) (b ∷ without_number n bs) (without_number n bs)) e)
  by_test false e mapped more =
      ap (λ t. without_number n (cond t (f b) b ∷ mapped)) e
      ∙ ap (λ t. cond (not t) (b ∷ without_number n mapped) (without_number n mapped)) e
      ∙ ap (λ l. b ∷ l) more ∙ sym (ap (λ t. cond (not t) (b ∷ without_number n bs) (without_number n bs)) e)

one_number : (n m : ℕ) → has (n ∷ []) m ≡ (m == n)
one_number n m = grind (arith, nat_tests)

others_resolved : (n : ℕ) (t : BundleTable) → without_number n (stop_completed (n ∷ []) t).rows ≡ without_number n t.rows
others_resolved n t =
    (λ i. without_number n (map (λ (b : BundleLife). cond (one_number n b.number i) (record b { state = Resolved }) b) t.rows))
    ∙ others_mapped n (λ (b : BundleLife). record b { state = Resolved }) (λ b. refl) t.rows

not_longer : (n : ℕ) (rows : List BundleLife) → length (without_number n rows) ≤ length rows
not_longer n [] = omega arith
not_longer n (b ∷ bs) = by_test (has_number n b) (not_longer n bs) where
  by_test : (t : Bool) → length (without_number n bs) ≤ length bs → length (cond (not t) (b ∷ without_number n bs) (without_number n bs)) ≤ length (b ∷ bs)
  by_test true more = omega (arith, more)
  by_test false more = omega (arith, more)

shorter : (n : ℕ) (rows : List BundleLife) (row : BundleLife) → bundle_of rows n ≡ Some row → length (without_number n rows) < length rows
shorter n [] row e = absurd (none e) where
  none : None ≡ Some row → ⊥
  none h = cc
shorter n (b ∷ bs) row e = by_test (has_number n b) refl (shorter n bs row) where
  by_test : (t : Bool) → has_number n b ≡ t → (bundle_of bs n ≡ Some row → length (without_number n bs) < length bs) → length (without_number n (b ∷ bs)) < length (b ∷ bs)
  by_test true f more = subst (λ t. length (cond (not t) (b ∷ without_number n bs) (without_number n bs)) < length (b ∷ bs)) (sym f) (omega (arith, not_longer n bs))
  by_test false f more =
      let rest = more (sym (ap (λ t. cond t (Some b) (bundle_of bs n)) f) ∙ e) in
      subst (λ t. length (cond (not t) (b ∷ without_number n bs) (without_number n bs)) < length (b ∷ bs)) (sym f) (omega (arith, rest))

-- ---- what a step changes

none_came : (events : List BundleEvent) → events ≡ events ++ []
none_came [] = refl
none_came (e ∷ es) = ap (λ l. e ∷ l) (none_came es)

module _ (n : ℕ) (t : BundleTable) where
  same : IsStepped n t t
  same = record { others = refl; numbered = refl; more = []; events = none_came t.events }

  in_other_state : (state : BundleState) (values : List ℕ) → IsStepped n t (with_state n state values t)
  in_other_state state values = record {
    others = others_mapped n (λ (b : BundleLife). record b { state = state }) (λ b. refl) t.rows;
    numbered = refl;
    more = events_of n values;
    events = refl;
  }

  completed : IsStepped n t (stop_completed (n ∷ []) t)
  completed = record { others = others_resolved n t; numbered = refl; more = map (λ k. record { value = 4; bundle = k }) (n ∷ []); events = refl }

  updated : (name : List ℕ) (version : Version) → IsStepped n t (after_update n name version t)
  updated name version = record {
    others = others_mapped n (λ (b : BundleLife). record b { name = name; version = version; state = Installed }) (λ b. refl) t.rows;
    numbered = refl;
    more = events_of n (unresolving n t.rows ++ 8 ∷ []);
    events = refl;
  }

  uninstalled : IsStepped n t (after_uninstall n t)
  uninstalled = record {
    others = without_twice (λ (b : BundleLife). b.number) n t.rows;
    numbered = refl;
    more = events_of n (unresolving n t.rows ++ 16 ∷ []);
    events = refl;
  }

-- ---- what was kept can be put back

pub given_of : (n : ℕ) (t : BundleTable) (row : BundleLife) → AreNumbered t.numbered t.rows → bundle_of t.rows n ≡ Some row → IsGiven t.numbered row
given_of n t row ok there =
    let s = stands (λ (b : BundleLife). b.number) n t.rows row ok.0 there in
    subst (IsGiven t.numbered) (sym s.is) (ok.1 s.place row (only_within _ s.place t.rows s.only))

module _ (kept : Kept) (t : BundleTable) (is : IsKeptOf kept t) where
  abbrev number : ℕ
  number = kept.row.number

  state_kept : (test : BundleState → Bool) → state_is test t.rows number ≡ test kept.row.state
  state_kept test = ap (λ (o : Option BundleLife). option_map_or (λ (b : BundleLife). test b.state) o false) is.row

  undone_where : (now : BundleTable) → (step : IsStepped number t now) → length t.events + owing (stops kept.row) ≤ length now.events + owing (state_is is_stopping now.rows number) → IsUndoneBy kept t now
  undone_where now step owed = (
    record {
      given = subst (λ m. IsGiven m kept.row) (sym step.numbered) (given_of number t kept.row is.table is.row);
      room = let others : length (without_number number now.rows) ≡ length (without_number number t.rows) = ap length step.others in
          omega (arith, others, shorter number t.rows kept.row is.row, is.room);
      owed = omega (arith, owed, is.events);
    },
    step,
  )

  -- a bundle that isn't STOPPING owes nothing
  idle_undone : (now : BundleTable) → IsStepped number t now → state_is is_stopping t.rows number ≡ false → IsUndoneBy kept t now
  idle_undone now step idle =
      let none : owing (stops kept.row) ≡ 0 = ap owing (sym (state_kept is_stopping) ∙ idle) in
      let longer : length now.events ≡ length t.events + length step.more = ap length step.events ∙ length-append t.events step.more in
      undone_where now step (omega (arith, none, longer))

  same_undone : IsUndoneBy kept t t
  same_undone = undone_where t (same number t) (let alike : owing (stops kept.row) ≡ owing (state_is is_stopping t.rows number) = ap owing (sym (state_kept is_stopping)) in omega (arith, alike))

  pub start_undone : state_is is_stopping t.rows number ≡ false → IsUndoneBy kept t (started_once number t)
  start_undone idle = by_test (state_is is_active t.rows number) where
    by_test : (b : Bool) → IsUndoneBy kept t (cond b t (after_start number t))
    by_test true = same_undone
    by_test false = idle_undone (after_start number t) (in_other_state number t Active _) idle

  pub stop_undone : IsUndoneBy kept t (stop_begun_once number t)
  stop_undone = by_test (state_is is_active t.rows number) refl where
    by_test : (b : Bool) → state_is is_active t.rows number ≡ b → IsUndoneBy kept t (cond b (stop_begun number t) t)
    by_test true active = idle_undone (stop_begun number t) (in_other_state number t Stopping (256 ∷ [])) (state_kept is_stopping ∙ active_isnt kept.row.state (sym (state_kept is_active) ∙ active))
    by_test false other = same_undone

  one_or_none : (b : Bool) → owing b ≤ 1
  one_or_none true = omega arith
  one_or_none false = omega arith

  pub stopped_undone : IsUndoneBy kept t (stop_completed (number ∷ []) t)
  stopped_undone =
      let longer : length (stop_completed (number ∷ []) t).events ≡ length t.events + 1 = length-append t.events (map (λ k. record { value = 4; bundle = k }) (number ∷ [])) in
      undone_where (stop_completed (number ∷ []) t) (completed number t) (omega (arith, longer, one_or_none (stops kept.row)))

  pub update_undone : (name : List ℕ) (version : Version) → state_is is_stopping t.rows number ≡ false → IsUndoneBy kept t (after_update number name version t)
  update_undone name version idle = idle_undone (after_update number name version t) (updated number t name version) idle

  pub uninstall_undone : state_is is_stopping t.rows number ≡ false → IsUndoneBy kept t (after_uninstall number t)
  uninstall_undone idle = idle_undone (after_uninstall number t) (uninstalled number t) idle

-- ---- what it undoes

abbrev pub as_table : NumberedRows → List BundleEvent → BundleTable
as_table r events = record { rows = r.rows; numbered = r.numbered; events = events }

abbrev pub rows_of : BundleTable → NumberedRows
rows_of t = record { rows = t.rows; numbered = t.numbered }

pub undone : (kept : Kept) (before now : BundleTable) → IsKeptOf kept before → IsStepped kept.row.number before now → with_kept kept now ≡ before
undone kept before now is step =
    let rows = put_back (λ (b : BundleLife). b.number) kept.row now.rows before.rows is.table.0 is.row step.others in
    let events = ap (λ n. take n now.events) is.events ∙ ap (take (length before.events)) step.events ∙ take-append_seam before.events step.more in
    ap (λ (l : List BundleLife). as_table (record { rows = l; numbered = now.numbered }) (take kept.events now.events)) rows
    ∙ ap (λ n. as_table (record { rows = before.rows; numbered = n }) (take kept.events now.events)) step.numbered
    ∙ ap (λ (l : List BundleEvent). as_table (rows_of before) l) events

-- the last event away
pub last_away : (events : List BundleEvent) (e : BundleEvent) → take (length (events ++ e ∷ []) - 1) (events ++ e ∷ []) ≡ events
last_away events e =
    let count : length (events ++ e ∷ []) - 1 ≡ length events = omega (arith, length-append events (e ∷ [])) in
    ap (λ n. take n (events ++ e ∷ [])) count ∙ take-append_seam events (e ∷ [])
