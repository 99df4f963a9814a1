-- A table that took a step has only gained events, and owes no fewer than it has to.
use Rattle.std.proofs.Common.{◌≡◌, ◌≤◌, ◌+◌, ◌++◌, ◌∷◌, [], ◌∙◌, ℕ, List, Bool, true, false, Option, Some, None, ap, arith, cond, length, refl, sym}
use Rattle.std.specs.Prelude.{◌==◌, filter, map, not, is_none, option_and_then}
use Rattle.std.specs.List.{Contains, count_by}
use Rattle.std.specs.Option.{option_map_or}
use Rattle.std.proofs.lemmas.Bool.{both_ways, eq-eqb, eqb-true}
use Rattle.std.proofs.lemmas.List.{append-nil, length-append}
use Rattle.std.proofs.lemmas.List.Sums.{sum_by-append}
use Rattle.bundle_life.specs.declared.bundle.BundleEvent.{BundleEvent}
use Rattle.bundle_life.specs.declared.bundle.BundleLife.{BundleLife}
use Rattle.bundle_life.specs.declared.bundle.BundleState.{BundleState}
use Rattle.bundle_life.specs.declared.bundle.BundleState.TheVariants.{Installed, Resolved, Stopping, Active}
use Rattle.bundle_life.specs.declared.life_fault.LifeFault.{LifeFault}
use Rattle.bundle_life.specs.declared.life_fault.LifeFault.TheVariants.{NoBundle, WrongState, StillStopping}
use Rattle.bundle_life.specs.Lives.{BundleTable, bundle_of, events_of, in_state, is_active, is_stopping, new_row, renamed, resolving, state_is, state_number, unresolving}
use Rattle.bundle_life.specs.Numbers.{saved_of, stops}
use Rattle.bundle_life.specs.Refusals.{refuse_if, same_name}
use Rattle.osgi_version.specs.declared.version.Version.{Version}
use Rattle.prop_map.specs.Words.{first_some}
use Rattle.scr_bundles.specs.Changes.{MayChange, WasSaved}
use Rattle.scr_laws.proofs.Listed.{found_is}
use Rattle.component_state.proofs.Apart.{in_first, in_rest}
use Rattle.scr_laws.specs.Askeds.{HasOneOfEach}
use Rattle.scr_world.specs.Tables.{bundles_by}
use Rattle.scr_world.specs.declared.command.Command.TheVariants.{Install, Update, Start, Stop, Uninstall}
use Rattle.scr_world.specs.declared.step.Step.{Step}
use Rattle.scr_world.specs.declared.step.Step.TheVariants.{Command as Commanded}

-- ---- how many pass a test

one_more : (b c : Bool) → (b ≡ true → c ≡ true) → cond b 1 0 ≤ cond c 1 0
one_more true true stays = omega arith
one_more true false stays = absurd (both_ways false refl (stays refl))
one_more false true stays = omega arith
one_more false false stays = omega arith

module _ {X : Type 0} (p : X → Bool) where
  one_before : (x : X) (xs : List X) → count_by p (x ∷ xs) ≡ cond (p x) 1 0 + count_by p xs
  one_before x xs =
      let parts : count_by p (x ∷ xs) ≡ (0 + cond (p x) 1 0) + count_by p xs = sum_by-append (λ y. cond (p y) 1 0) (x ∷ []) xs in
      omega (arith, parts)

  count_mapped : (f : X → X) (xs : List X) → ((x : X) → Contains xs x → p x ≡ true → p (f x) ≡ true) → count_by p xs ≤ count_by p (map f xs)
  count_mapped f [] stays = omega arith
  count_mapped f (x ∷ xs) stays =
      let one = one_more (p x) (p (f x)) (stays x (in_first x xs)) in
      let later = count_mapped f xs (λ y h. stays y (in_rest x xs y h)) in
      let before = one_before x xs in
      let now = one_before (f x) (map f xs) in
      omega (arith, one, later, before, now)

  count_kept : (t : X → Bool) (xs : List X) → ((x : X) → Contains xs x → p x ≡ true → t x ≡ true) → count_by p xs ≤ count_by p (filter t xs)
  count_kept t [] stays = omega arith
  count_kept t (x ∷ xs) stays = go (t x) (stays x (in_first x xs)) (count_kept t xs (λ y h. stays y (in_rest x xs y h)))
    where
      go : (b : Bool) → (p x ≡ true → b ≡ true) → count_by p xs ≤ count_by p (filter t xs)
          → count_by p (x ∷ xs) ≤ count_by p (cond b (x ∷ filter t xs) (filter t xs))
      go true stay later =
          let before = one_before x xs in
          let now = one_before x (filter t xs) in
          omega (arith, later, before, now)
      go false stay later =
          let before = one_before x xs in
          let none = one_more (p x) false stay in
          omega (arith, none, later, before)

-- ---- the bundle of a number

pub state_found : (test : BundleState → Bool) (rows : List BundleLife) → HasOneOfEach (λ (b : BundleLife). b.number) rows
    → (b : BundleLife) → Contains rows b → (n : ℕ) → b.number ≡ n → state_is test rows n ≡ test b.state
state_found test rows one b here n is =
    ap (λ o. option_map_or (λ (c : BundleLife). test c.state) o false)
    (found_is (λ (c : BundleLife). c.number == n) rows b here (eq-eqb b.number n is) (λ c h k. one c b h here (eqb-true c.number n k ∙ sym is)))

-- what is neither refused as ACTIVE nor as STOPPING isn't STOPPING
abbrev row_active : Option BundleLife → Option LifeFault
row_active o = option_and_then (λ (b : BundleLife). refuse_if (is_active b.state) (WrongState (state_number b.state))) o

abbrev row_stopping : Option BundleLife → Option LifeFault
row_stopping o = option_and_then (λ (b : BundleLife). refuse_if (is_stopping b.state) StillStopping) o

abbrev is_stopping_one : Option BundleLife → Bool
is_stopping_one o = option_map_or (λ (b : BundleLife). is_stopping b.state) o false

idle_state : (s : BundleState) (rest : List (Option LifeFault))
    → first_some (refuse_if (is_active s) (WrongState (state_number s)) ∷ refuse_if (is_stopping s) StillStopping ∷ rest) ≡ None
    → is_stopping s ≡ false
idle_state Installed rest free = refl
idle_state Resolved rest free = refl
idle_state Active rest free = refl
idle_state Stopping rest free = absurd cc

idle : (o : Option BundleLife) (n : ℕ) (rest : List (Option LifeFault))
    → first_some (refuse_if (is_none o) (NoBundle n) ∷ row_active o ∷ row_stopping o ∷ rest) ≡ None → is_stopping_one o ≡ false
idle None n rest free = refl
idle (Some b) n rest free = idle_state b.state rest free

startable_state : (s : BundleState) → first_some (refuse_if (is_stopping s) StillStopping ∷ []) ≡ None → is_stopping s ≡ false
startable_state Installed free = refl
startable_state Resolved free = refl
startable_state Active free = refl
startable_state Stopping free = absurd cc

startable : (o : Option BundleLife) (n : ℕ) → first_some (refuse_if (is_none o) (NoBundle n) ∷ row_stopping o ∷ []) ≡ None → is_stopping_one o ≡ false
startable None n free = refl
startable (Some b) n free = startable_state b.state free

-- ---- a step

module _ (t : BundleTable) (apart : HasOneOfEach (λ (b : BundleLife). b.number) t.rows) (n : ℕ) where
  -- a bundle that is STOPPING isn't this one
  other : state_is is_stopping t.rows n ≡ false
      → (b : BundleLife) → Contains t.rows b → stops b ≡ true → (b.number == n) ≡ false
  other rests b here on = go (b.number == n) refl
    where
      go : (k : Bool) → (b.number == n) ≡ k → k ≡ false
      go true is = absurd (both_ways (stops b) (sym (state_found is_stopping t.rows apart b here n (eqb-true b.number n is)) ∙ rests) on)
      go false is = refl

  module _ (rests : state_is is_stopping t.rows n ≡ false) where
    renamed_stays : (name : List ℕ) (version : Version) → count_by stops t.rows ≤ count_by stops (map (renamed n name version) t.rows)
    renamed_stays name version = count_mapped stops (renamed n name version) t.rows
        (λ b here on. ap (λ k. stops (cond k (record b { name = name; version = version; state = Installed }) b)) (other rests b here on) ∙ on)

    activated_stays : count_by stops t.rows ≤ count_by stops (map (in_state n Active) t.rows)
    activated_stays = count_mapped stops (in_state n Active) t.rows
        (λ b here on. ap (λ k. stops (cond k (record b { state = Active }) b)) (other rests b here on) ∙ on)

    removed_stays : count_by stops t.rows ≤ count_by stops (filter (λ (b : BundleLife). not (b.number == n)) t.rows)
    removed_stays = count_kept stops (λ (b : BundleLife). not (b.number == n)) t.rows
        (λ b here on. ap not (other rests b here on))

stopping_stays : (n : ℕ) (rows : List BundleLife) → count_by stops rows ≤ count_by stops (map (in_state n Stopping) rows)
stopping_stays n rows = count_mapped stops (in_state n Stopping) rows (λ b here on. go b (b.number == n) on)
  where
    go : (b : BundleLife) (k : Bool) → stops b ≡ true → stops (cond k (record b { state = Stopping }) b) ≡ true
    go b true on = refl
    go b false on = on

-- a table with more events, and no fewer that are STOPPING
grown : (t now : BundleTable) (more : List BundleEvent) → now.events ≡ t.events ++ more
    → count_by stops t.rows ≤ count_by stops now.rows → WasSaved t now (saved_of t)
grown t now more events owed = record {
  is = refl;
  more = more;
  events = events;
  room = (let long = ap length events in let both = length-append t.events more in omega (arith, owed, long, both));
}

left : (t : BundleTable) → WasSaved t t (saved_of t)
left t = grown t t [] (sym (append-nil t.events)) (omega arith)

-- what undoes a step is the table as it was saved before it
pub saved_before : (t : BundleTable) (step : Step) → MayChange t step → WasSaved t (bundles_by step t) (saved_of t)
saved_before t (Commanded (Install doc)) may =
    let row = new_row (t.numbered + 1) doc.location doc.name doc.version in
    let both = sum_by-append (λ (b : BundleLife). cond (stops b) 1 0) t.rows (row ∷ []) in
    grown t (bundles_by (Commanded (Install doc)) t) (events_of (t.numbered + 1) (1 ∷ [])) refl (omega (arith, both))
saved_before t (Commanded (Update n doc)) may = grown t (bundles_by (Commanded (Update n doc)) t) (events_of n (unresolving n t.rows ++ 8 ∷ [])) refl
    (renamed_stays t may.apart n (idle (bundle_of t.rows n) n (same_name doc.name doc.version n t ∷ []) may.takes) doc.name doc.version)
saved_before t (Commanded (Start n)) may = grown t (bundles_by (Commanded (Start n)) t) (events_of n (resolving n t.rows ++ 128 ∷ 2 ∷ [])) refl
    (activated_stays t may.apart n (startable (bundle_of t.rows n) n may.takes.1))
saved_before t (Commanded (Stop n)) may = grown t (bundles_by (Commanded (Stop n)) t) (events_of n (256 ∷ [])) refl (stopping_stays n t.rows)
saved_before t (Commanded (Uninstall n)) may = grown t (bundles_by (Commanded (Uninstall n)) t) (events_of n (unresolving n t.rows ++ 16 ∷ [])) refl
    (removed_stays t may.apart n (idle (bundle_of t.rows n) n [] may.takes))
saved_before t _ may = left t
