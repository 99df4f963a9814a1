-- Stops that are completed.
use Rattle.std.proofs.Common.{◌≡◌, ℕ, ◌+◌, ◌<◌, Bool, true, false, List, [], ◌∷◌, ◌++◌, ◌∙◌, ap, sym, subst, refl, cond, arith, length, get_or, take, append_assoc}
use Rattle.std.specs.Prelude.{Option, Some, None, ◌==◌, ◌||◌, filter, map, not}
use Rattle.std.specs.List.{All, AllPairs, list_any}
use Rattle.std.specs.Option.{option_map_or}
use Rattle.std.proofs.lemmas.Bool.{and_parts, eqb-true}
use Rattle.std.proofs.lemmas.List.{append-nil, get_or_default, get_or-take, length-take-le, map-append, take_more}
use Rattle.std.proofs.lemmas.List.Elements.{All-filter, All-head, All-map, All-tail, filter_passes}
use Rattle.std.proofs.lemmas.List.Folds.{list_any_none}
use Rattle.std.proofs.lemmas.List.Kept.{AllPairs-filter}
use Rattle.bundle_life.specs.declared.bundle.BundleEvent.{BundleEvent}
use Rattle.bundle_life.specs.declared.bundle.BundleLife.{BundleLife}
use Rattle.bundle_life.specs.declared.bundle.BundleState.{BundleState}
use Rattle.bundle_life.specs.declared.bundle.BundleState.TheVariants.{Active, Installed, Resolved, Stopping}
use Rattle.bundle_life.specs.Lives.{BundleTable, bundle_of, is_active, is_stopping, resolved_among, state_is, stop_completed}
use Rattle.prop_map.specs.Words.{has}
use Rattle.scr_world.specs.Consequences.{has_stopped, keeps_bundle, stopped_in}
use Rattle.scr_world.specs.declared.world.World.{World}
use Rattle.scr_consequences.proofs.RisingLemmas.{AreRising, IsOwn, numbers_rise, own_items}
use Rattle.scr_consequences.proofs.SortedLemmas.{eqb-ne}

abbrev number_of : BundleLife → ℕ
number_of b = b.number

-- ---- a state after stops are completed

number_by : (b : BundleLife) (t : Bool) → (cond t (record b { state = Resolved }) b).number ≡ b.number
number_by b true = refl
number_by b false = refl

number_kept : (ns : List ℕ) (b : BundleLife) → (resolved_among ns b).number ≡ b.number
number_kept ns b = number_by b (has ns b.number)

module _ (test : BundleState → Bool) where
  abbrev in_state : Option BundleLife → Bool
  in_state o = option_map_or (λ (b : BundleLife). test b.state) o false

  one : (b : BundleLife) (t : Bool) → (t ≡ true → test b.state ≡ test Resolved) → test (cond t (record b { state = Resolved }) b).state ≡ test b.state
  one b true known = sym (known refl)
  one b false known = refl

  by_key : (ns : List ℕ) (r : BundleLife) (rest later : Option BundleLife) (n : ℕ) (k : Bool) → (r.number == n) ≡ k → (has ns n ≡ true → in_state (cond k (Some r) rest) ≡ test Resolved)
      → ((has ns n ≡ true → in_state rest ≡ test Resolved) → in_state later ≡ in_state rest)
      → in_state (cond k (Some (resolved_among ns r)) later) ≡ in_state (cond k (Some r) rest)
  by_key ns r rest later n true same known others = one r (has ns r.number) (λ e. known (ap (has ns) (sym (eqb-true r.number n same)) ∙ e))
  by_key ns r rest later n false same known others = others known

  pub same_state : (ns : List ℕ) (rows : List BundleLife) (n : ℕ) → (has ns n ≡ true → state_is test rows n ≡ test Resolved) → state_is test (map (resolved_among ns) rows) n ≡ state_is test rows n
  same_state ns [] n known = refl
  same_state ns (r ∷ rs) n known =
      ap (λ k. in_state (cond (k == n) (Some (resolved_among ns r)) (bundle_of (map (resolved_among ns) rs) n))) (number_kept ns r)
      ∙ by_key ns r (bundle_of rs n) (bundle_of (map (resolved_among ns) rs) n) n (r.number == n) refl known (same_state ns rs n)

not_both : (s : BundleState) → is_stopping s ≡ true → is_active s ≡ false
not_both Installed e = refl
not_both Resolved e = refl
not_both Stopping e = refl
not_both Active e = cc

not_active : (o : Option BundleLife) → option_map_or (λ (b : BundleLife). is_stopping b.state) o false ≡ true → option_map_or (λ (b : BundleLife). is_active b.state) o false ≡ false
not_active None e = refl
not_active (Some b) e = not_both b.state e

-- ---- the bundles that have stopped

module _ (w : World) (rising : AreRising number_of w.bundles.rows) where
  stops : BundleLife → Bool
  stops b = has_stopped w.components w.instances b

  -- they are stopping
  pub stopped_are : All (λ n. state_is is_stopping w.bundles.rows n ≡ true) (stopped_in w)
  unfolding stopped_in stops
  stopped_are =
      let rows = w.bundles.rows in
      let some = filter stops rows in
      All-map (λ n. state_is is_stopping rows n ≡ true) number_of some
      (λ k d within.
      let b = get_or some k d in
      let own : IsOwn number_of rows b = All-filter stops (IsOwn number_of rows) rows (own_items number_of rows rising) k d within in
      let passes : stops b ≡ true = filter_passes stops rows k d within in
      ap (λ (o : Option BundleLife). option_map_or (λ (c : BundleLife). is_stopping c.state) o false) own
      ∙ (and_parts (is_stopping b.state) (not (list_any (keeps_bundle w.components b.number) w.instances)) passes).0)

  -- each once
  pub stopped_rise : AllPairs (λ (a b : ℕ). a < b) (stopped_in w)
  unfolding stopped_in stops
  stopped_rise = numbers_rise number_of (filter stops w.bundles.rows) (AllPairs-filter (λ (a b : BundleLife). a.number < b.number) stops w.bundles.rows rising)

has_all : (P : ℕ → Type 0) (ns : List ℕ) (n : ℕ) → has ns n ≡ true → All P ns → P n
has_all P [] n e all = cc
has_all P (m ∷ ms) n e all = by_first (m == n) refl e (λ later. has_all P ms n later (All-tail P m ms all)) (All-head P m ms all) where
  by_first : (k : Bool) → (m == n) ≡ k → (k || has ms n) ≡ true → (has ms n ≡ true → P n) → P m → P n
  by_first true same e later here = subst P (eqb-true m n same) here
  by_first false same e later here = later e

-- so no bundle becomes active or ceases to be so
pub active_same : (w : World) → AreRising number_of w.bundles.rows → (n : ℕ) → state_is is_active (stop_completed (stopped_in w) w.bundles).rows n ≡ state_is is_active w.bundles.rows n
active_same w rising n =
    same_state is_active (stopped_in w) w.bundles.rows n
    (λ e. not_active (bundle_of w.bundles.rows n) (has_all (λ m. state_is is_stopping w.bundles.rows m ≡ true) (stopped_in w) n e (stopped_are w rising)))

-- ---- one stop after the other

resolved_by : (b : BundleLife) (p q : Bool) → cond (p || (q || false)) (record b { state = Resolved }) b
    ≡ cond q (record (cond p (record b { state = Resolved }) b) { state = Resolved }) (cond p (record b { state = Resolved }) b)
resolved_by b true true = refl
resolved_by b true false = refl
resolved_by b false true = refl
resolved_by b false false = refl

has_push : (ns : List ℕ) (n m : ℕ) → has (ns ++ n ∷ []) m ≡ (has ns m || ((n == m) || false))
has_push [] n m = refl
has_push (k ∷ ks) n m = ap (λ b. (k == m) || b) (has_push ks n m) ∙ or_assoc (k == m) (has ks m) ((n == m) || false) where
  or_assoc : (a b c : Bool) → (a || (b || c)) ≡ ((a || b) || c)
  or_assoc true b c = refl
  or_assoc false b c = refl

resolved_more : (ns : List ℕ) (n : ℕ) (b : BundleLife) → resolved_among (ns ++ n ∷ []) b ≡ resolved_among (n ∷ []) (resolved_among ns b)
resolved_more ns n b =
    let c = resolved_among ns b in
    ap (λ t. cond t (record b { state = Resolved }) b) (has_push ns n b.number)
    ∙ resolved_by b (has ns b.number) (n == b.number)
    ∙ ap (λ (m : ℕ). cond (n == m) (record c { state = Resolved }) c) (sym (number_kept ns b))
    ∙ ap (λ t. cond t (record c { state = Resolved }) c) (sym (or_none (n == c.number))) where
      or_none : (a : Bool) → (a || false) ≡ a
      or_none true = refl
      or_none false = refl

rows_more : (ns : List ℕ) (n : ℕ) (rows : List BundleLife) → map (resolved_among (ns ++ n ∷ [])) rows ≡ map (resolved_among (n ∷ [])) (map (resolved_among ns) rows)
rows_more ns n [] = refl
rows_more ns n (b ∷ bs) =
    ap (λ (c : BundleLife). c ∷ map (resolved_among (ns ++ n ∷ [])) bs) (resolved_more ns n b)
    ∙ ap (λ (cs : List BundleLife). resolved_among (n ∷ []) (resolved_among ns b) ∷ cs) (rows_more ns n bs)

stopped_event : ℕ → BundleEvent
stopped_event n = record { value = 4; bundle = n }

completed_more : (ns : List ℕ) (n : ℕ) (t : BundleTable) → stop_completed (ns ++ n ∷ []) t ≡ stop_completed (n ∷ []) (stop_completed ns t)
unfolding stopped_event
completed_more ns n t =
    ap (λ (rows : List BundleLife). record t { rows = rows; events = t.events ++ map stopped_event (ns ++ n ∷ []) }) (rows_more ns n t.rows)
    ∙ ap (λ (es : List BundleEvent). record t { rows = map (resolved_among (n ∷ [])) (map (resolved_among ns) t.rows); events = es })
    (ap (λ (es : List BundleEvent). t.events ++ es) (map-append stopped_event ns (n ∷ [])) ∙ sym (append_assoc t.events (map stopped_event ns) (stopped_event n ∷ [])))

pub completed_next : (ns : List ℕ) (i n : ℕ) (a b c : BundleTable) → i < length ns → n ≡ get_or ns i 0 → b ≡ stop_completed (take i ns) a → c ≡ stop_completed (n ∷ []) b → c ≡ stop_completed (take (i + 1) ns) a
completed_next ns i n a b c within is e f =
    f ∙ ap (stop_completed (n ∷ [])) e ∙ sym (completed_more (take i ns) n a)
    ∙ ap (λ (l : List ℕ). stop_completed l a) (ap (λ (m : ℕ). take i ns ++ m ∷ []) is ∙ sym (take_more ns i 0 within))

rows_none : (rows : List BundleLife) → map (resolved_among []) rows ≡ rows
rows_none [] = refl
rows_none (b ∷ bs) = ap (λ (cs : List BundleLife). b ∷ cs) (rows_none bs)

pub completed_none : (t : BundleTable) → t ≡ stop_completed [] t
completed_none t = sym (ap (λ (rows : List BundleLife). record t { rows = rows; events = t.events ++ [] }) (rows_none t.rows) ∙ ap (λ (es : List BundleEvent). record t { events = es }) (append-nil t.events))

-- one that comes later is still stopping
not_yet : (ns : List ℕ) (i n : ℕ) → AllPairs (λ (a b : ℕ). a < b) ns → i < length ns → n ≡ get_or ns i 0 → has (take i ns) n ≡ false
not_yet ns i n rise within is =
    list_any_none (λ m. m == n) (take i ns) (λ k d lt.
    let front : length (take i ns) ≡ i = length-take-le i ns (omega arith) in
    let before : k < i = omega (arith, front) in
    let less = rise k i d before within in
    let same : n ≡ get_or ns i d = is ∙ get_or_default ns i 0 d within in
    rw (get_or-take i ns k d before) (eqb-ne (get_or ns k d) n (λ e. omega (arith, less, e, same))))

pub still_stopping : (ns : List ℕ) (i n : ℕ) (a b : BundleTable) → AllPairs (λ (x y : ℕ). x < y) ns → i < length ns → n ≡ get_or ns i 0 → All (λ m. state_is is_stopping a.rows m ≡ true) ns
    → b ≡ stop_completed (take i ns) a → state_is is_stopping b.rows n ≡ true
still_stopping ns i n a b rise within is all e =
    ap (λ (t : BundleTable). state_is is_stopping t.rows n) e
    ∙ same_state is_stopping (take i ns) a.rows n (λ yes. absurd (false_true (sym (not_yet ns i n rise within is) ∙ yes)))
    ∙ subst (λ (m : ℕ). state_is is_stopping a.rows m ≡ true) (sym is) (all i 0 within) where
      false_true : false ≡ true → ⊥
      false_true e = cc
