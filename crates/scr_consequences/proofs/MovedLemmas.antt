-- A component configuration whose periods stand in both lists has one service in both, with one revision: nothing happened to it.
use Rattle.std.proofs.Common.{◌≡◌, ℕ, zero, suc, Bool, true, false, List, [], ◌∷◌, ◌++◌, ◌∙◌, ap, sym, refl, cond, arith, length}
use Rattle.std.specs.Prelude.{Option, Some, None, ◌==◌, ◌&&◌, not}
use Rattle.std.proofs.lemmas.Bool.{and_parts, eq-eqb, eqb-true}
use Rattle.std.proofs.lemmas.Grind.{flat_map-append}
use Rattle.std.specs.List.{flat_map}
use Rattle.prop_map.specs.Words.{has}
use Rattle.component_dto.specs.declared.description.Description.{Description}
use Rattle.component_state.specs.Components.{level_count, level_of, of_level, pass_order, pass_order_below}
use Rattle.component_state.specs.declared.component.Component.{Component}
use Rattle.component_state.specs.declared.open_period.OpenPeriod.{OpenPeriod}
use Rattle.scr_world.specs.Lists.{change_between, change_of_one, row_at}
use Rattle.scr_consequences.specs.Changes.{change_at}
use Rattle.scr_consequences.specs.Moves.{is_unmoved, moved, numbered_in, period_stays, periods_behind}
use Rattle.scr_consequences.proofs.FlatMaps.{flat_map_fewer, flat_map_nothing}
use Rattle.scr_consequences.proofs.RowAtLemmas.{is_of, is_real, not_open, or_left, or_right, row_at-cons, skipped}
use Rattle.service_listeners.specs.Listening.{Change}
use Rattle.service_registry.specs.declared.row.ServiceRow.{ServiceRow}

-- one service with one revision
pub one_service : (old new : ServiceRow) → (old.id == new.id) ≡ true → (old.revision == new.revision) ≡ true → change_of_one old new ≡ []
one_service old new same kept = rw (same, kept)

kept_by : (p q : OpenPeriod) (old new : Option ServiceRow) (of real : Bool) → change_of_one p.row q.row ≡ [] → change_between old new ≡ []
    → change_between (cond of (cond real (Some p.row) old) old) (cond of (cond real (Some q.row) new) new) ≡ []
kept_by p q old new true true here later = here
kept_by p q old new true false here later = later
kept_by p q old new false real here later = later

kept : (p q : OpenPeriod) (was now : List OpenPeriod) (n : ℕ) → is_unmoved p q ≡ true → change_between (row_at was n) (row_at now n) ≡ [] → change_between (row_at (p ∷ was) n) (row_at (q ∷ now) n) ≡ []
kept p q was now n unmoved later =
    let parts = and_parts (p.configuration == q.configuration) ((p.row.id == q.row.id) && (p.row.revision == q.row.revision)) unmoved in
    let row = and_parts (p.row.id == q.row.id) (p.row.revision == q.row.revision) parts.1 in
    let of : is_of n q ≡ is_of n p = ap (λ (m : ℕ). m == n) (sym (eqb-true p.configuration q.configuration parts.0)) in
    let real : is_real q.row ≡ is_real p.row = ap (λ (m : ℕ). not (m == 0)) (sym (eqb-true p.row.id q.row.id row.0)) in
    let old = row_at was n in
    let new = row_at now n in
    let right : row_at (q ∷ now) n ≡ cond (is_of n p) (cond (is_real p.row) (Some q.row) new) new =
    row_at-cons q now n ∙ ap (λ b. cond b (cond (is_real q.row) (Some q.row) new) new) of ∙ ap (λ b. cond (is_of n p) (cond b (Some q.row) new) new) real in
    ap (λ (o : Option ServiceRow). change_between o (row_at (q ∷ now) n)) (row_at-cons p was n)
    ∙ ap (change_between (cond (is_of n p) (cond (is_real p.row) (Some p.row) old) old)) right
    ∙ kept_by p q old new (is_of n p) (is_real p.row) (one_service p.row q.row row.0 row.1) later

left : (p : OpenPeriod) (was : List OpenPeriod) (new : Option ServiceRow) (n : ℕ) → is_of n p ≡ false → change_between (row_at was n) new ≡ [] → change_between (row_at (p ∷ was) n) new ≡ []
left p was new n other later = ap (λ (o : Option ServiceRow). change_between o new) (skipped p was n other) ∙ later

-- behind a period of another component configuration
behind_at : (configuration n : ℕ) (now : List OpenPeriod) → (configuration == n) ≡ false → row_at (periods_behind configuration now) n ≡ row_at now n
behind_at configuration n [] other = refl
behind_at configuration n (q ∷ now) other = by_first (q.configuration == configuration) refl
  where
    by_first : (b : Bool) → (q.configuration == configuration) ≡ b → row_at (cond b now (q ∷ now)) n ≡ row_at (q ∷ now) n
    by_first true same = sym (skipped q now n (ap (λ (m : ℕ). m == n) (eqb-true q.configuration configuration same) ∙ other))
    by_first false same = refl

-- behind one that stays
behind_same : (p q : OpenPeriod) (now : List OpenPeriod) → is_unmoved p q ≡ true → periods_behind p.configuration (q ∷ now) ≡ now
behind_same p q now unmoved =
    let parts = and_parts (p.configuration == q.configuration) ((p.row.id == q.row.id) && (p.row.revision == q.row.revision)) unmoved in
    ap (λ b. cond b now (q ∷ now)) (eq-eqb q.configuration p.configuration (sym (eqb-true p.configuration q.configuration parts.0)))

along : (p : OpenPeriod) (was now : List OpenPeriod) (n : ℕ) (stays : Bool) → period_stays p now ≡ stays
    → has (cond stays (moved was (periods_behind p.configuration now)) (p.configuration ∷ moved was (periods_behind p.configuration now))) n ≡ false
    → (has (moved was (periods_behind p.configuration now)) n ≡ false → change_between (row_at was n) (row_at (periods_behind p.configuration now) n) ≡ [])
    → change_between (row_at (p ∷ was) n) (row_at now n) ≡ []
along p was [] n true e none more = cc
along p was (q ∷ now) n true e none more = kept p q was now n e (ap (λ (ps : List OpenPeriod). change_between (row_at was n) (row_at ps n)) (sym (behind_same p q now e)) ∙ more none)
along p was now n false e none more =
    let rest = moved was (periods_behind p.configuration now) in
    let other : is_of n p ≡ false = or_left (is_of n p) (has rest n) none in
    left p was (row_at now n) n other (ap (change_between (row_at was n)) (sym (behind_at p.configuration n now other)) ∙ more (or_right (is_of n p) (has rest n) none))

-- a component configuration of which no period moved
pub unmoved_at : (was now : List OpenPeriod) (n : ℕ) → has (moved was now) n ≡ false → change_between (row_at was n) (row_at now n) ≡ []
unmoved_at [] now n none = ap (change_between None) (not_open now n none)
unmoved_at (p ∷ was) now n none = along p was now n (period_stays p now) refl none (unmoved_at was (periods_behind p.configuration now) n)

-- where no period moved nothing happened
pub nothing_moved : (was now : List OpenPeriod) → moved was now ≡ [] → (ds : List Description) (levels : List ℕ) (cs : List Component)
    → flat_map (change_at was now) (pass_order ds levels cs) ≡ []
nothing_moved was now none ds levels cs =
    flat_map_nothing (change_at was now) (λ c. unmoved_at was now c.number (ap (λ (ns : List ℕ). has ns c.number) none)) (pass_order ds levels cs)

pub none_left : (numbers : List ℕ) (n : ℕ) → length numbers ≡ n → (n == 0) ≡ true → numbers ≡ []
none_left [] n long none = refl
none_left (m ∷ numbers) n long none = absurd (omega (arith, long, eqb-true n 0 none))

-- so the others need not be looked at
module _ (was now : List OpenPeriod) (numbers : List ℕ) (all : (n : ℕ) → has numbers n ≡ has (moved was now) n) (ds : List Description) (levels : List ℕ) where
  nothing : (c : Component) → has numbers c.number ≡ false → change_at was now c ≡ []
  nothing c none = unmoved_at was now c.number (sym (all c.number) ∙ none)

  fewer_below : (cs : List Component) (n : ℕ) → flat_map (change_at was now) (pass_order_below ds levels cs n) ≡ flat_map (change_at was now) (pass_order_below ds levels (numbered_in numbers cs) n)
  fewer_below cs zero = refl
  fewer_below cs (suc n) =
      let few = numbered_in numbers cs in
      let f = change_at was now in
      flat_map-append f (pass_order_below ds levels cs n) (of_level ds levels cs n)
      ∙ ap (λ (l : List Change). l ++ flat_map f (of_level ds levels cs n)) (fewer_below cs n)
      ∙ ap (λ (l : List Change). flat_map f (pass_order_below ds levels few n) ++ l) (flat_map_fewer f (λ (c : Component). level_of ds levels c == n) (λ (c : Component). has numbers c.number) nothing cs)
      ∙ sym (flat_map-append f (pass_order_below ds levels few n) (of_level ds levels few n))

  pub fewer : (cs : List Component) → flat_map (change_at was now) (pass_order ds levels cs) ≡ flat_map (change_at was now) (pass_order ds levels (numbered_in numbers cs))
  fewer cs = fewer_below cs (suc (level_count levels))
