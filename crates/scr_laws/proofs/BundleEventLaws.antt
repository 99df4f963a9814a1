-- The events of a bundle are in order, and the last one tells its state.
use Rattle.std.proofs.Common.{◌≡◌, ◌<◌, ◌≤◌, ◌⊎◌, ℕ, ◌+◌, List, [], ◌∷◌, ◌++◌, ap, sym, ◌∙◌, refl, subst, cond, arith, Bool, true, false, ◌&&◌, ◌||◌, inl, inr, Option, Some, None, append-nil}
use Rattle.std.specs.Prelude.{filter, find, is_none, map, not, option_and_then, option_map, ◌==◌}
use Rattle.std.specs.List.{Contains, list_any}
use Rattle.std.specs.Option.{option_map_or}
use Rattle.std.proofs.lemmas.Bool.{and_from, and_parts, both_ways, cases_Bool, cases_eq, eq-eqb, eqb-true, ne_eqb}
use Rattle.bundle_doc.specs.declared.document.BundleDoc.{BundleDoc}
use Rattle.bundle_life.specs.declared.bundle.BundleEvent.{BundleEvent}
use Rattle.bundle_life.specs.declared.bundle.BundleLife.{BundleLife}
use Rattle.bundle_life.specs.declared.bundle.BundleState.{BundleState}
use Rattle.bundle_life.specs.declared.bundle.BundleState.TheVariants.{Installed, Resolved, Stopping, Active}
use Rattle.bundle_life.specs.Lives.{BundleTable, bundle_of, events_of, in_state, is_active, is_installed, is_resolved, is_stopping, new_row as new_bundle, renamed, resolved_among, resolving, state_is, state_number, stop_completed, unresolving}
use Rattle.component_state.specs.Inside.Ready.{are_apart}
use Rattle.component_state.proofs.Apart.{apart_both, apart_kept, in_first, in_rest, keyed, kept_over, kept_was, not_true, one_of}
use Rattle.journal_core.specs.declared.entry.Entry.{Entry}
use Rattle.prop_map.specs.Words.{first_some, has}
use Rattle.scr_laws.specs.Askeds.{HasOneOfEach}
use Rattle.scr_laws.proofs.Described.{none_first, not_refused, second}
use Rattle.scr_laws.proofs.Histories.{legal_is_asked}
use Rattle.scr_laws.proofs.Listed.{found_is, found_was}
use Rattle.scr_laws.proofs.Sounding.{found_number, resolved_number}
use Rattle.scr_laws.proofs.StoppingBundles.{found_kept}
use Rattle.scr_laws.proofs.InstanceLemmas.{mapped_alike, mapped_over}
use Rattle.scr_laws.proofs.Tables.{bundle_below}
use Rattle.scr_laws.specs.BundleEvents.{HasLived, are_in_order, events_for, last_of, may_follow, state_behind}
use Rattle.scr_laws.proofs.AnswerLaws.{found_map, found_new}
use Rattle.scr_laws.proofs.LimitLaws.{third}
use Rattle.scr_laws.proofs.OwnerLaws.{in_state_number, renamed_number}
use Rattle.scr_world.specs.Consequences.{has_stopped, keeps_bundle, stopped_by, stopped_in}
use Rattle.scr_world.specs.Legal.{IsLegal, MayCome}
use Rattle.scr_world.specs.Lists.{world_after_entry, world_of}
use Rattle.scr_world.specs.Refusals.{components_full, cyclic, descriptions_with, no_bundle, of_known_bundle, refuse_if, same_name, still_active, still_stopping, lowest_keeping}
use Rattle.scr_world.specs.Steps.{History}
use Rattle.scr_world.specs.Stepping.{components_by, instances_by, world_after_step}
use Rattle.scr_world.specs.Tables.{bundles_by}
use Rattle.scr_world.specs.declared.command.Command.TheVariants.{Install, Update, Start, Stop, Uninstall, Enable, Disable, Register, Unregister, SetProperties, Get, Unget, Listen, Unlisten, Configure, ConfigureFactory, Unconfigure}
use Rattle.scr_world.specs.declared.reply.CoreFault.{CoreFault}
use Rattle.scr_world.specs.declared.reply.CoreFault.TheVariants.{NoBundle, WrongState, Stopping as StoppingStill}
use Rattle.scr_world.specs.declared.step.Step.{Step}
use Rattle.scr_world.specs.declared.step.Step.TheVariants.{Command as Commanded, Begin, End, Drained, Got, Released}
use Rattle.scr_world.specs.declared.world.World.{World}

-- ---- lists of events

goes_on : (last : ℕ) (these more : List ℕ) → are_in_order last these ≡ true → are_in_order (last_of last these) more ≡ true → are_in_order last (these ++ more) ≡ true
goes_on last [] more one two = two
goes_on last (v ∷ vs) more one two = let both = and_parts (may_follow last v) (are_in_order v vs) one in and_from (may_follow last v) (are_in_order v (vs ++ more)) both.0 (goes_on v vs more both.1 two)

last_over : (last : ℕ) (these more : List ℕ) → last_of last (these ++ more) ≡ last_of (last_of last these) more
last_over last [] more = refl
last_over last (v ∷ vs) more = last_over v vs more

for_over : (n : ℕ) (these more : List BundleEvent) → events_for n (these ++ more) ≡ events_for n these ++ events_for n more
for_over n these more = ap (map (λ (e : BundleEvent). e.value)) (kept_over (λ (e : BundleEvent). e.bundle == n) these more)
    ∙ mapped_over (λ (e : BundleEvent). e.value) (filter (λ (e : BundleEvent). e.bundle == n) these) (filter (λ (e : BundleEvent). e.bundle == n) more)

-- events of one bundle are that bundle's alone
of_values : (n k : ℕ) (values : List ℕ) (b : Bool) → (k == n) ≡ b → events_for n (events_of k values) ≡ cond b values []
of_values n k [] true is = refl
of_values n k [] false is = refl
of_values n k (v ∷ vs) true is = ap (λ b. map (λ (e : BundleEvent). e.value) (cond b (record { value = v; bundle = k } ∷ filter (λ (e : BundleEvent). e.bundle == n) (events_of k vs)) (filter (λ (e : BundleEvent). e.bundle == n) (events_of k vs)))) is ∙ ap (λ ns. v ∷ ns) (of_values n k vs true is)
of_values n k (v ∷ vs) false is = ap (λ b. map (λ (e : BundleEvent). e.value) (cond b (record { value = v; bundle = k } ∷ filter (λ (e : BundleEvent). e.bundle == n) (events_of k vs)) (filter (λ (e : BundleEvent). e.bundle == n) (events_of k vs)))) is ∙ of_values n k vs false is

-- ---- what the last event was, by the state

told_active : (last : ℕ) → state_behind last ≡ Some Active → last ≡ 2
told_active last is = go ((last == 1) || (last == 8)) (last == 2) (last == 256) (last == 4) refl refl refl is
  where
    go : (a b c d : Bool) → (last == 2) ≡ b → (last == 256) ≡ c → (last == 4) ≡ d → cond a (Some Installed) (cond b (Some Active) (cond c (Some Stopping) (cond d (Some Resolved) None))) ≡ Some Active → last ≡ 2
    go true b c d on stops rests h = cc
    go false true c d on stops rests h = eqb-true last 2 on
    go false false true d on stops rests h = cc
    go false false false true on stops rests h = cc
    go false false false false on stops rests h = cc

told_stopping : (last : ℕ) → state_behind last ≡ Some Stopping → last ≡ 256
told_stopping last is = go ((last == 1) || (last == 8)) (last == 2) (last == 256) (last == 4) refl refl refl is
  where
    go : (a b c d : Bool) → (last == 2) ≡ b → (last == 256) ≡ c → (last == 4) ≡ d → cond a (Some Installed) (cond b (Some Active) (cond c (Some Stopping) (cond d (Some Resolved) None))) ≡ Some Stopping → last ≡ 256
    go true b c d on stops rests h = cc
    go false true c d on stops rests h = cc
    go false false true d on stops rests h = eqb-true last 256 stops
    go false false false true on stops rests h = cc
    go false false false false on stops rests h = cc

told_resolved : (last : ℕ) → state_behind last ≡ Some Resolved → last ≡ 4
told_resolved last is = go ((last == 1) || (last == 8)) (last == 2) (last == 256) (last == 4) refl refl refl is
  where
    go : (a b c d : Bool) → (last == 2) ≡ b → (last == 256) ≡ c → (last == 4) ≡ d → cond a (Some Installed) (cond b (Some Active) (cond c (Some Stopping) (cond d (Some Resolved) None))) ≡ Some Resolved → last ≡ 4
    go true b c d on stops rests h = cc
    go false true c d on stops rests h = cc
    go false false true d on stops rests h = cc
    go false false false true on stops rests h = eqb-true last 4 rests
    go false false false false on stops rests h = cc

told_installed : (last : ℕ) → state_behind last ≡ Some Installed → (last ≡ 1) ⊎ (last ≡ 8)
told_installed last is = go (last == 1) (last == 8) (last == 2) (last == 256) (last == 4) refl refl is
  where
    go : (a b c d e : Bool) → (last == 1) ≡ a → (last == 8) ≡ b → cond (a || b) (Some Installed) (cond c (Some Active) (cond d (Some Stopping) (cond e (Some Resolved) None))) ≡ Some Installed → (last ≡ 1) ⊎ (last ≡ 8)
    go true b c d e one eight h = inl (eqb-true last 1 one)
    go false true c d e one eight h = inr (eqb-true last 8 eight)
    go false false true d e one eight h = cc
    go false false false true e one eight h = cc
    go false false false false true one eight h = cc
    go false false false false false one eight h = cc

-- ---- one bundle's row

abbrev state_in : List BundleLife → ℕ → Option BundleState
state_in rows n = option_map (λ (b : BundleLife). b.state) (bundle_of rows n)

-- what holds over a table, of one number: that of numbers that weren't given yet there are no events is for the proof
record HasLivedSoFar (t : BundleTable) (n : ℕ) : Type 0 where
  lived : HasLived t n
  fresh : t.numbered < n → events_for n t.events ≡ []

-- a bundle whose row and events stay
stays : (t u : BundleTable) (n : ℕ) (more : List BundleEvent) → u.events ≡ t.events ++ more → events_for n more ≡ [] → state_in u.rows n ≡ state_in t.rows n → (u.numbered < n → t.numbered < n) → HasLivedSoFar t n → HasLivedSoFar u n
stays t u n more events none state numbered was = record {
  lived = record {
    order = ap (are_in_order 0) same ∙ was.lived.order;
    state = state ∙ was.lived.state ∙ ap (λ es. state_behind (last_of 0 es)) (sym same);
  };
  fresh = λ high. same ∙ was.fresh (numbered high);
}
  where
    same : events_for n u.events ≡ events_for n t.events
    same = ap (events_for n) events ∙ for_over n t.events more ∙ ap (λ es. events_for n t.events ++ es) none ∙ append-nil (events_for n t.events)

-- a bundle that gets these events, and the state behind them
moves : (t u : BundleTable) (n : ℕ) (more : List BundleEvent) (values : List ℕ) → u.events ≡ t.events ++ more → events_for n more ≡ values → are_in_order (last_of 0 (events_for n t.events)) values ≡ true
    → state_in u.rows n ≡ state_behind (last_of (last_of 0 (events_for n t.events)) values) → (u.numbered < n → ⊥) → HasLivedSoFar t n → HasLivedSoFar u n
moves t u n more values events are order state numbered was = record {
  lived = record {
    order = ap (are_in_order 0) same ∙ goes_on 0 (events_for n t.events) values was.lived.order order;
    state = state ∙ ap state_behind (sym (last_over 0 (events_for n t.events) values) ∙ ap (last_of 0) (sym same));
  };
  fresh = λ high. absurd (numbered high);
}
  where
    same : events_for n u.events ≡ events_for n t.events ++ values
    same = ap (events_for n) events ∙ for_over n t.events more ∙ ap (λ es. events_for n t.events ++ es) are

-- a change of a bundle's row leaves the others
other_row : (f : BundleLife → BundleLife) → ((b : BundleLife) → (f b).number ≡ b.number) → (rows : List BundleLife) (n : ℕ) → ((b : BundleLife) → b.number ≡ n → (f b).state ≡ b.state) → state_in (map f rows) n ≡ state_in rows n
other_row f number rows n same = ap (option_map (λ (b : BundleLife). b.state)) (found_map f number rows n) ∙ go (bundle_of rows n) refl
  where
    go : (o : Option BundleLife) → bundle_of rows n ≡ o → option_map (λ (b : BundleLife). b.state) (option_map f o) ≡ option_map (λ (b : BundleLife). b.state) o
    go None is = refl
    go (Some b) is = ap (λ (s : BundleState). Some s) (same b (found_number rows n b is))

-- and gives its own a state
own_row : (f : BundleLife → BundleLife) → ((b : BundleLife) → (f b).number ≡ b.number) → (rows : List BundleLife) (n : ℕ) (s : BundleState) → ((b : BundleLife) → b.number ≡ n → (f b).state ≡ s) → is_none (bundle_of rows n) ≡ false → state_in (map f rows) n ≡ Some s
own_row f number rows n s same there = ap (option_map (λ (b : BundleLife). b.state)) (found_map f number rows n) ∙ go (bundle_of rows n) refl there
  where
    go : (o : Option BundleLife) → bundle_of rows n ≡ o → is_none o ≡ false → option_map (λ (b : BundleLife). b.state) (option_map f o) ≡ Some s
    go None is denied = cc
    go (Some b) is denied = ap (λ (k : BundleState). Some k) (same b (found_number rows n b is))

other_key : (n k : ℕ) → (k == n) ≡ false → (n == k) ≡ false
other_key n k off = elim (cases_Bool (n == k)) [ inl same ↦ absurd (both_ways (k == n) off (eq-eqb k n (sym (eqb-true n k same)))) | inr other ↦ other ]

-- ---- commands of bundles

-- a known bundle that is neither active nor stopping is INSTALLED or RESOLVED
abbrev IsRest : Option BundleState → Type 0
IsRest s = (s ≡ Some Installed) ⊎ (s ≡ Some Resolved)

rests : (w : World) (n : ℕ) → no_bundle w n ≡ None → state_is is_active w.bundles.rows n ≡ false → still_stopping w n ≡ None → IsRest (state_in w.bundles.rows n)
rests w n known active stopping = go (bundle_of w.bundles.rows n) known active stopping
  where
    by : (s : BundleState) → is_active s ≡ false → refuse_if (is_stopping s) (StoppingStill (lowest_keeping w n)) ≡ None → IsRest (Some s)
    by Installed a b = inl refl
    by Resolved a b = inr refl
    by Stopping a b = cc
    by Active a b = cc

    go : (o : Option BundleLife) → refuse_if (is_none o) (NoBundle n) ≡ None → option_map_or (λ (b : BundleLife). is_active b.state) o false ≡ false
        → option_and_then (λ (b : BundleLife). refuse_if (is_stopping b.state) (StoppingStill (lowest_keeping w n))) o ≡ None → IsRest (option_map (λ (b : BundleLife). b.state) o)
    go None there a b = cc
    go (Some b) there a c = by b.state a c

not_up : (w : World) (n : ℕ) → still_active w n ≡ None → state_is is_active w.bundles.rows n ≡ false
not_up w n is = go (bundle_of w.bundles.rows n) is
  where
    by : (k : Bool) → refuse_if k (WrongState 32) ≡ None → k ≡ false
    by true h = cc
    by false h = refl

    go : (o : Option BundleLife) → option_and_then (λ (b : BundleLife). refuse_if (is_active b.state) (WrongState 32)) o ≡ None → option_map_or (λ (b : BundleLife). is_active b.state) o false ≡ false
    go None h = refl
    go (Some b) h = by (is_active b.state) h

known : (w : World) (n : ℕ) → no_bundle w n ≡ None → is_none (bundle_of w.bundles.rows n) ≡ false
known w n is = go (is_none (bundle_of w.bundles.rows n)) is
  where
    go : (k : Bool) → refuse_if k (NoBundle n) ≡ None → k ≡ false
    go true h = cc
    go false h = refl

state_test : (test : BundleState → Bool) (rows : List BundleLife) (n : ℕ) (s : BundleState) → state_in rows n ≡ Some s → state_is test rows n ≡ test s
state_test test rows n s is = go (bundle_of rows n) is
  where
    go : (o : Option BundleLife) → option_map (λ (b : BundleLife). b.state) o ≡ Some s → option_map_or (λ (b : BundleLife). test b.state) o false ≡ test s
    go None h = cc
    go (Some b) h = (let same : b.state ≡ s = cc in ap test same)

module _ (w : World) (low : (b : BundleLife) → Contains w.bundles.rows b → b.number ≤ w.bundles.numbered) (n : ℕ) (was : HasLivedSoFar w.bundles n) where
  abbrev last : ℕ
  last = last_of 0 (events_for n w.bundles.events)

  given : is_none (bundle_of w.bundles.rows n) ≡ false → w.bundles.numbered < n → ⊥
  given there high = go (bundle_of w.bundles.rows n) refl there
    where
      go : (o : Option BundleLife) → bundle_of w.bundles.rows n ≡ o → is_none o ≡ false → ⊥
      go None is denied = cc
      go (Some b) is denied =
          let found = found_was (λ (x : BundleLife). x.number == n) w.bundles.rows b is in
          let most = low b found.0 in
          let same = eqb-true b.number n found.1 in
          omega (arith, most, same, high)

  behind : (s : BundleState) → state_in w.bundles.rows n ≡ Some s → state_behind last ≡ Some s
  behind s is = sym was.lived.state ∙ is

  -- behind an end of its stop, or an install or update, these may come
  resting_order : (after : ℕ → List ℕ) → are_in_order 1 (after 1) ≡ true → are_in_order 8 (after 8) ≡ true → (k : ℕ) → (k ≡ 1) ⊎ (k ≡ 8) → are_in_order k (after k) ≡ true
  resting_order after one eight k (inl is) = subst (λ m. are_in_order m (after m) ≡ true) (sym is) one
  resting_order after one eight k (inr is) = subst (λ m. are_in_order m (after m) ≡ true) (sym is) eight

  lived_start : (k : ℕ) → MayCome w (Commanded (Start k)) → (b : Bool) → (k == n) ≡ b → HasLivedSoFar (bundles_by (Commanded (Start k)) w.bundles) n
  lived_start k may false off = stays w.bundles (bundles_by (Commanded (Start k)) w.bundles) n (events_of k (resolving k w.bundles.rows ++ 128 ∷ 2 ∷ [])) refl (of_values n k (resolving k w.bundles.rows ++ 128 ∷ 2 ∷ []) false off)
      (other_row (in_state k Active) (in_state_number k Active) w.bundles.rows n (λ b is. ap (λ v. (cond v (record b { state = Active }) b).state) (ap (λ m. m == k) is ∙ other_key n k off))) (λ high. high) was
  lived_start k may true on = go (rests w k free.0 (not_true (state_is is_active w.bundles.rows k) free_all.1) free.1)
    where
      same : k ≡ n
      same = eqb-true k n on

      free_all : (is_none (first_some (no_bundle w k ∷ of_known_bundle w k (λ (b : BundleLife). cond (is_active b.state) None (first_some (still_stopping w k ∷ components_full w (Start k) ∷ []))) ∷ [])) ≡ true) × (not (state_is is_active w.bundles.rows k) ≡ true)
      free_all = not_refused w (Start k) may

      test : Option CoreFault
      test = of_known_bundle w k (λ (b : BundleLife). cond (is_active b.state) None (first_some (still_stopping w k ∷ components_full w (Start k) ∷ [])))

      tested : (o : Option BundleLife) → option_and_then (λ (b : BundleLife). cond (is_active b.state) None (first_some (still_stopping w k ∷ components_full w (Start k) ∷ []))) o ≡ None → option_map_or (λ (b : BundleLife). is_active b.state) o false ≡ false → bundle_of w.bundles.rows k ≡ o → still_stopping w k ≡ None
      tested None h off is = ap (option_and_then (λ (b : BundleLife). refuse_if (is_stopping b.state) (StoppingStill (lowest_keeping w k)))) is
      tested (Some b) h off is = none_first (still_stopping w k ∷ components_full w (Start k) ∷ []) (ap is_none (sym (ap (λ v. cond v None (first_some (still_stopping w k ∷ components_full w (Start k) ∷ []))) off) ∙ h)) (still_stopping w k) (in_first (still_stopping w k) (components_full w (Start k) ∷ []))

      free : (no_bundle w k ≡ None) × (still_stopping w k ≡ None)
      free = (
        none_first (no_bundle w k ∷ test ∷ []) free_all.0 (no_bundle w k) (in_first (no_bundle w k) (test ∷ [])),
        tested (bundle_of w.bundles.rows k) (none_first (no_bundle w k ∷ test ∷ []) free_all.0 test (second (no_bundle w k) test [])) (not_true (state_is is_active w.bundles.rows k) free_all.1) refl,
      )

      there : is_none (bundle_of w.bundles.rows n) ≡ false
      there = ap (λ m. is_none (bundle_of w.bundles.rows m)) (sym same) ∙ known w k free.0

      by : (values : List ℕ) → resolving k w.bundles.rows ++ 128 ∷ 2 ∷ [] ≡ values → are_in_order last values ≡ true → last_of last values ≡ 2 → HasLivedSoFar (bundles_by (Commanded (Start k)) w.bundles) n
      by values is order ends = moves w.bundles (bundles_by (Commanded (Start k)) w.bundles) n (events_of k (resolving k w.bundles.rows ++ 128 ∷ 2 ∷ [])) values refl (of_values n k (resolving k w.bundles.rows ++ 128 ∷ 2 ∷ []) true on ∙ is) order
          (own_row (in_state k Active) (in_state_number k Active) w.bundles.rows n Active (λ b e. ap (λ v. (cond v (record b { state = Active }) b).state) (eq-eqb b.number k (e ∙ sym same))) there ∙ ap state_behind (sym ends)) (given there) was

      go : IsRest (state_in w.bundles.rows k) → HasLivedSoFar (bundles_by (Commanded (Start k)) w.bundles) n
      go (inl is) = by (32 ∷ 128 ∷ 2 ∷ []) (ap (λ v. cond v (32 ∷ []) [] ++ 128 ∷ 2 ∷ []) (state_test is_installed w.bundles.rows k Installed is))
          (resting_order (λ m. 32 ∷ 128 ∷ 2 ∷ []) refl refl last (told_installed last (behind Installed (ap (state_in w.bundles.rows) (sym same) ∙ is)))) refl
      go (inr is) = by (128 ∷ 2 ∷ []) (ap (λ v. cond v (32 ∷ []) [] ++ 128 ∷ 2 ∷ []) (state_test is_installed w.bundles.rows k Resolved is))
          (ap (λ m. are_in_order m (128 ∷ 2 ∷ [])) (told_resolved last (behind Resolved (ap (state_in w.bundles.rows) (sym same) ∙ is)))) refl

  lived_stop : (k : ℕ) → MayCome w (Commanded (Stop k)) → (b : Bool) → (k == n) ≡ b → HasLivedSoFar (bundles_by (Commanded (Stop k)) w.bundles) n
  lived_stop k may false off = stays w.bundles (bundles_by (Commanded (Stop k)) w.bundles) n (events_of k (256 ∷ [])) refl (of_values n k (256 ∷ []) false off)
      (other_row (in_state k Stopping) (in_state_number k Stopping) w.bundles.rows n (λ b is. ap (λ v. (cond v (record b { state = Stopping }) b).state) (ap (λ m. m == k) is ∙ other_key n k off))) (λ high. high) was
  lived_stop k may true on = moves w.bundles (bundles_by (Commanded (Stop k)) w.bundles) n (events_of k (256 ∷ [])) (256 ∷ []) refl (of_values n k (256 ∷ []) true on)
      (ap (λ m. are_in_order m (256 ∷ [])) (told_active last (behind Active (ap (state_in w.bundles.rows) (sym same) ∙ active))))
      (own_row (in_state k Stopping) (in_state_number k Stopping) w.bundles.rows n Stopping (λ b e. ap (λ v. (cond v (record b { state = Stopping }) b).state) (eq-eqb b.number k (e ∙ sym same))) there) (given there) was
    where
      same : k ≡ n
      same = eqb-true k n on

      by : (s : BundleState) → is_active s ≡ true → s ≡ Active
      by Installed h = cc
      by Resolved h = cc
      by Stopping h = cc
      by Active h = refl

      active : state_in w.bundles.rows k ≡ Some Active
      active = go (bundle_of w.bundles.rows k) (not_refused w (Stop k) may).1
        where
          go : (o : Option BundleLife) → option_map_or (λ (b : BundleLife). is_active b.state) o false ≡ true → option_map (λ (b : BundleLife). b.state) o ≡ Some Active
          go None h = cc
          go (Some b) h = ap (λ (s : BundleState). Some s) (by b.state h)

      there : is_none (bundle_of w.bundles.rows n) ≡ false
      there = ap (λ m. is_none (bundle_of w.bundles.rows m)) (sym same) ∙ known w k (none_first (no_bundle w k ∷ []) (not_refused w (Stop k) may).0 (no_bundle w k) (in_first (no_bundle w k) []))

  lived_update : (k : ℕ) (doc : BundleDoc) → MayCome w (Commanded (Update k doc)) → (b : Bool) → (k == n) ≡ b → HasLivedSoFar (bundles_by (Commanded (Update k doc)) w.bundles) n
  lived_update k doc may false off = stays w.bundles (bundles_by (Commanded (Update k doc)) w.bundles) n (events_of k (unresolving k w.bundles.rows ++ 8 ∷ [])) refl (of_values n k (unresolving k w.bundles.rows ++ 8 ∷ []) false off)
      (other_row (renamed k doc.name doc.version) (renamed_number k doc.name doc.version) w.bundles.rows n
      (λ b is. ap (λ v. (cond v (record b { name = doc.name; version = doc.version; state = Installed }) b).state) (ap (λ m. m == k) is ∙ other_key n k off))) (λ high. high) was
  lived_update k doc may true on = go (rests w k known_one (not_up w k active) stopping)
    where
      same : k ≡ n
      same = eqb-true k n on

      all : List (Option CoreFault)
      all = no_bundle w k ∷ still_active w k ∷ still_stopping w k ∷ same_name w doc k ∷ cyclic (descriptions_with w doc k) ∷ []

      known_one : no_bundle w k ≡ None
      known_one = none_first all (not_refused w (Update k doc) may).0 (no_bundle w k) (in_first (no_bundle w k) (still_active w k ∷ still_stopping w k ∷ same_name w doc k ∷ cyclic (descriptions_with w doc k) ∷ []))

      active : still_active w k ≡ None
      active = none_first all (not_refused w (Update k doc) may).0 (still_active w k) (second (no_bundle w k) (still_active w k) (still_stopping w k ∷ same_name w doc k ∷ cyclic (descriptions_with w doc k) ∷ []))

      stopping : still_stopping w k ≡ None
      stopping = none_first all (not_refused w (Update k doc) may).0 (still_stopping w k) (third (no_bundle w k) (still_active w k) (still_stopping w k) (same_name w doc k ∷ cyclic (descriptions_with w doc k) ∷ []))

      there : is_none (bundle_of w.bundles.rows n) ≡ false
      there = ap (λ m. is_none (bundle_of w.bundles.rows m)) (sym same) ∙ known w k known_one

      by : (values : List ℕ) → unresolving k w.bundles.rows ++ 8 ∷ [] ≡ values → are_in_order last values ≡ true → last_of last values ≡ 8 → HasLivedSoFar (bundles_by (Commanded (Update k doc)) w.bundles) n
      by values is order ends = moves w.bundles (bundles_by (Commanded (Update k doc)) w.bundles) n (events_of k (unresolving k w.bundles.rows ++ 8 ∷ [])) values refl (of_values n k (unresolving k w.bundles.rows ++ 8 ∷ []) true on ∙ is) order
          (own_row (renamed k doc.name doc.version) (renamed_number k doc.name doc.version) w.bundles.rows n Installed
          (λ b e. ap (λ v. (cond v (record b { name = doc.name; version = doc.version; state = Installed }) b).state) (eq-eqb b.number k (e ∙ sym same))) there ∙ ap state_behind (sym ends)) (given there) was

      go : IsRest (state_in w.bundles.rows k) → HasLivedSoFar (bundles_by (Commanded (Update k doc)) w.bundles) n
      go (inl is) = by (8 ∷ []) (ap (λ v. cond v (64 ∷ []) [] ++ 8 ∷ []) (state_test is_resolved w.bundles.rows k Installed is))
          (resting_order (λ m. 8 ∷ []) refl refl last (told_installed last (behind Installed (ap (state_in w.bundles.rows) (sym same) ∙ is)))) refl
      go (inr is) = by (64 ∷ 8 ∷ []) (ap (λ v. cond v (64 ∷ []) [] ++ 8 ∷ []) (state_test is_resolved w.bundles.rows k Resolved is))
          (ap (λ m. are_in_order m (64 ∷ 8 ∷ [])) (told_resolved last (behind Resolved (ap (state_in w.bundles.rows) (sym same) ∙ is)))) refl

  lived_uninstall : (k : ℕ) → MayCome w (Commanded (Uninstall k)) → (b : Bool) → (k == n) ≡ b → HasLivedSoFar (bundles_by (Commanded (Uninstall k)) w.bundles) n
  lived_uninstall k may false off = stays w.bundles (bundles_by (Commanded (Uninstall k)) w.bundles) n (events_of k (unresolving k w.bundles.rows ++ 16 ∷ [])) refl (of_values n k (unresolving k w.bundles.rows ++ 16 ∷ []) false off)
      (ap (option_map (λ (b : BundleLife). b.state)) (found_kept (λ (b : BundleLife). b.number == n) (λ (b : BundleLife). not (b.number == k)) w.bundles.rows (λ b is. ap not (ap (λ m. m == k) (eqb-true b.number n is) ∙ other_key n k off)))) (λ high. high) was
  lived_uninstall k may true on = go (rests w k known_one (not_up w k active) stopping)
    where
      same : k ≡ n
      same = eqb-true k n on

      all : List (Option CoreFault)
      all = no_bundle w k ∷ still_active w k ∷ still_stopping w k ∷ []

      known_one : no_bundle w k ≡ None
      known_one = none_first all (not_refused w (Uninstall k) may).0 (no_bundle w k) (in_first (no_bundle w k) (still_active w k ∷ still_stopping w k ∷ []))

      active : still_active w k ≡ None
      active = none_first all (not_refused w (Uninstall k) may).0 (still_active w k) (second (no_bundle w k) (still_active w k) (still_stopping w k ∷ []))

      stopping : still_stopping w k ≡ None
      stopping = none_first all (not_refused w (Uninstall k) may).0 (still_stopping w k) (third (no_bundle w k) (still_active w k) (still_stopping w k) [])

      there : is_none (bundle_of w.bundles.rows n) ≡ false
      there = ap (λ m. is_none (bundle_of w.bundles.rows m)) (sym same) ∙ known w k known_one

      gone : (rows : List BundleLife) → state_in (filter (λ (b : BundleLife). not (b.number == k)) rows) n ≡ None
      gone [] = refl
      gone (b ∷ bs) = one (b.number == k) refl (gone bs)
        where
          one : (v : Bool) → (b.number == k) ≡ v → state_in (filter (λ (x : BundleLife). not (x.number == k)) bs) n ≡ None → state_in (cond (not v) (b ∷ filter (λ (x : BundleLife). not (x.number == k)) bs) (filter (λ (x : BundleLife). not (x.number == k)) bs)) n ≡ None
          one true is rest = rest
          one false is rest = ap (λ v. option_map (λ (x : BundleLife). x.state) (cond v (Some b) (bundle_of (filter (λ (x : BundleLife). not (x.number == k)) bs) n))) (ap (λ m. b.number == m) (sym same) ∙ is) ∙ rest

      by : (values : List ℕ) → unresolving k w.bundles.rows ++ 16 ∷ [] ≡ values → are_in_order last values ≡ true → last_of last values ≡ 16 → HasLivedSoFar (bundles_by (Commanded (Uninstall k)) w.bundles) n
      by values is order ends = moves w.bundles (bundles_by (Commanded (Uninstall k)) w.bundles) n (events_of k (unresolving k w.bundles.rows ++ 16 ∷ [])) values refl (of_values n k (unresolving k w.bundles.rows ++ 16 ∷ []) true on ∙ is) order
          (gone w.bundles.rows ∙ ap state_behind (sym ends)) (given there) was

      go : IsRest (state_in w.bundles.rows k) → HasLivedSoFar (bundles_by (Commanded (Uninstall k)) w.bundles) n
      go (inl is) = by (16 ∷ []) (ap (λ v. cond v (64 ∷ []) [] ++ 16 ∷ []) (state_test is_resolved w.bundles.rows k Installed is))
          (resting_order (λ m. 16 ∷ []) refl refl last (told_installed last (behind Installed (ap (state_in w.bundles.rows) (sym same) ∙ is)))) refl
      go (inr is) = by (64 ∷ 16 ∷ []) (ap (λ v. cond v (64 ∷ []) [] ++ 16 ∷ []) (state_test is_resolved w.bundles.rows k Resolved is))
          (ap (λ m. are_in_order m (64 ∷ 16 ∷ [])) (told_resolved last (behind Resolved (ap (state_in w.bundles.rows) (sym same) ∙ is)))) refl

  lived_install : (doc : BundleDoc) → (b : Bool) → ((w.bundles.numbered + 1) == n) ≡ b → HasLivedSoFar (bundles_by (Commanded (Install doc)) w.bundles) n
  lived_install doc false off = stays w.bundles (bundles_by (Commanded (Install doc)) w.bundles) n (events_of (w.bundles.numbered + 1) (1 ∷ [])) refl (of_values n (w.bundles.numbered + 1) (1 ∷ []) false off)
      (ap (option_map (λ (b : BundleLife). b.state)) (added_other w.bundles.rows)) (λ high. omega (arith, high)) was
    where
      added_other : (rows : List BundleLife) → bundle_of (rows ++ new_bundle (w.bundles.numbered + 1) doc.location doc.name doc.version ∷ []) n ≡ bundle_of rows n
      added_other [] = ap (λ v. cond v (Some (new_bundle (w.bundles.numbered + 1) doc.location doc.name doc.version)) None) off
      added_other (b ∷ bs) = ap (λ o. cond (b.number == n) (Some b) o) (added_other bs)
  lived_install doc true on = record {
    lived = record {
      order = ap (are_in_order 0) events;
      state = ap (option_map (λ (b : BundleLife). b.state)) (ap (bundle_of (w.bundles.rows ++ new_bundle (w.bundles.numbered + 1) doc.location doc.name doc.version ∷ [])) (sym same)
          ∙ found_new (λ (b : BundleLife). b.number) w.bundles.rows (new_bundle (w.bundles.numbered + 1) doc.location doc.name doc.version) w.bundles.numbered low refl) ∙ ap (λ es. state_behind (last_of 0 es)) (sym events);
    };
    fresh = λ high. absurd (omega (arith, high, same));
  }
    where
      same : w.bundles.numbered + 1 ≡ n
      same = eqb-true (w.bundles.numbered + 1) n on

      events : events_for n (w.bundles.events ++ events_of (w.bundles.numbered + 1) (1 ∷ [])) ≡ 1 ∷ []
      events = for_over n w.bundles.events (events_of (w.bundles.numbered + 1) (1 ∷ [])) ∙ ap (λ es. es ++ events_for n (events_of (w.bundles.numbered + 1) (1 ∷ []))) (was.fresh (omega (arith, same)))
          ∙ of_values n (w.bundles.numbered + 1) (1 ∷ []) true on

  lived_step : (step : Step) → MayCome w step → HasLivedSoFar (bundles_by step w.bundles) n
  lived_step (Commanded (Install doc)) may = lived_install doc ((w.bundles.numbered + 1) == n) refl
  lived_step (Commanded (Update bundle doc)) may = lived_update bundle doc may (bundle == n) refl
  lived_step (Commanded (Start bundle)) may = lived_start bundle may (bundle == n) refl
  lived_step (Commanded (Stop bundle)) may = lived_stop bundle may (bundle == n) refl
  lived_step (Commanded (Uninstall bundle)) may = lived_uninstall bundle may (bundle == n) refl
  lived_step (Commanded (Enable bundle name)) may = was
  lived_step (Commanded (Disable bundle name)) may = was
  lived_step (Commanded (Register bundle interfaces properties)) may = was
  lived_step (Commanded (Unregister bundle service)) may = was
  lived_step (Commanded (SetProperties bundle service properties)) may = was
  lived_step (Commanded (Get bundle service)) may = was
  lived_step (Commanded (Unget bundle service)) may = was
  lived_step (Commanded (Listen bundle test)) may = was
  lived_step (Commanded (Unlisten listener)) may = was
  lived_step (Commanded (Configure pid given)) may = was
  lived_step (Commanded (ConfigureFactory factory name given)) may = was
  lived_step (Commanded (Unconfigure pid)) may = was
  lived_step (Begin turn instance configuration consumer callback chosen) may = was
  lived_step (End turn outcome) may = was
  lived_step (Drained instance) may = was
  lived_step (Got bundle service) may = was
  lived_step (Released place) may = was

-- ---- bundles have numbers of their own

module _ (w : World) (low : (b : BundleLife) → Contains w.bundles.rows b → b.number ≤ w.bundles.numbered) (apart : are_apart (map (λ (b : BundleLife). b.number) w.bundles.rows) ≡ true) where
  mapped_apart : (f : BundleLife → BundleLife) → ((b : BundleLife) → (f b).number ≡ b.number) → are_apart (map (λ (b : BundleLife). b.number) (map f w.bundles.rows)) ≡ true
  mapped_apart f same = ap are_apart (mapped_alike (λ (b : BundleLife). b.number) f same w.bundles.rows) ∙ apart

  new_number : (n : ℕ) → has (map (λ (b : BundleLife). b.number) w.bundles.rows) n ≡ true → has ((w.bundles.numbered + 1) ∷ []) n ≡ true → ⊥
  new_number n old new = go ((w.bundles.numbered + 1) == n) refl new
    where
      go : (b : Bool) → ((w.bundles.numbered + 1) == n) ≡ b → (b || false) ≡ true → ⊥
      go false off h = cc
      go true is h =
          let found = keyed (λ (b : BundleLife). b.number) w.bundles.rows n old in
          let most = low found.0 found.1 in
          let same = eqb-true (w.bundles.numbered + 1) n is in
          let key = found.2 in
          omega (arith, most, same, key)

  apart_by_step : (step : Step) → are_apart (map (λ (b : BundleLife). b.number) (bundles_by step w.bundles).rows) ≡ true
  apart_by_step (Commanded (Install doc)) = ap are_apart (mapped_over (λ (b : BundleLife). b.number) w.bundles.rows (new_bundle (w.bundles.numbered + 1) doc.location doc.name doc.version ∷ [])) ∙ apart_both (map (λ (b : BundleLife). b.number) w.bundles.rows) ((w.bundles.numbered + 1) ∷ []) apart refl new_number
  apart_by_step (Commanded (Update bundle doc)) = mapped_apart (renamed bundle doc.name doc.version) (renamed_number bundle doc.name doc.version)
  apart_by_step (Commanded (Start bundle)) = mapped_apart (in_state bundle Active) (in_state_number bundle Active)
  apart_by_step (Commanded (Stop bundle)) = mapped_apart (in_state bundle Stopping) (in_state_number bundle Stopping)
  apart_by_step (Commanded (Uninstall bundle)) = apart_kept (λ (b : BundleLife). b.number) (λ (b : BundleLife). not (b.number == bundle)) w.bundles.rows apart
  apart_by_step (Commanded (Enable bundle name)) = apart
  apart_by_step (Commanded (Disable bundle name)) = apart
  apart_by_step (Commanded (Register bundle interfaces properties)) = apart
  apart_by_step (Commanded (Unregister bundle service)) = apart
  apart_by_step (Commanded (SetProperties bundle service properties)) = apart
  apart_by_step (Commanded (Get bundle service)) = apart
  apart_by_step (Commanded (Unget bundle service)) = apart
  apart_by_step (Commanded (Listen bundle test)) = apart
  apart_by_step (Commanded (Unlisten listener)) = apart
  apart_by_step (Commanded (Configure pid given)) = apart
  apart_by_step (Commanded (ConfigureFactory factory name given)) = apart
  apart_by_step (Commanded (Unconfigure pid)) = apart
  apart_by_step (Begin turn instance configuration consumer callback chosen) = apart
  apart_by_step (End turn outcome) = apart
  apart_by_step (Drained instance) = apart
  apart_by_step (Got bundle service) = apart
  apart_by_step (Released place) = apart

legal_apart : (limit : ℕ) (past : History) → IsLegal limit past → are_apart (map (λ (b : BundleLife). b.number) (world_of past).bundles.rows) ≡ true
unfolding world_of world_after_entry world_after_step
legal_apart limit [] legal = refl
legal_apart limit (entry ∷ past) legal =
    ap are_apart (mapped_alike (λ (b : BundleLife). b.number) (resolved_among entry.stopped) (resolved_number entry.stopped) (bundles_by entry.step (world_of past).bundles).rows)
    ∙ apart_by_step (world_of past) (legal_is_asked limit past legal.1).apart.bundles_so_far (legal_apart limit past legal.1) entry.step

-- ---- the end of stopping

one_at_most : (ns : List ℕ) (n : ℕ) → are_apart ns ≡ true → (b : Bool) → has ns n ≡ b → filter (λ m. m == n) ns ≡ cond b (n ∷ []) []
one_at_most [] n apart true is = cc
one_at_most [] n apart false is = refl
one_at_most (m ∷ ms) n apart b is =
    let parts = and_parts (not (has ms m)) (are_apart ms) apart in go (m == n) refl parts.0 (one_at_most ms n parts.1) is
  where
    go : (k : Bool) → (m == n) ≡ k → not (has ms m) ≡ true → ((c : Bool) → has ms n ≡ c → filter (λ x. x == n) ms ≡ cond c (n ∷ []) []) → (k || has ms n) ≡ b → cond k (m ∷ filter (λ x. x == n) ms) (filter (λ x. x == n) ms) ≡ cond b (n ∷ []) []
    go true same alone later h =
        ap (λ xs. m ∷ xs) (later false (ap (has ms) (sym (eqb-true m n same)) ∙ not_true (has ms m) alone)) ∙ ap (λ x. x ∷ []) (eqb-true m n same) ∙ ap (λ c. cond c (n ∷ []) []) h
    go false other alone later h = later b h

-- each stop that is complete is told by a 4
abbrev four : ℕ → ℕ
four m = 4

stopped_values : (n : ℕ) (ns : List ℕ) → events_for n (map (λ m. record { value = 4; bundle = m }) ns) ≡ map four (filter (λ m. m == n) ns)
stopped_values n [] = refl
stopped_values n (m ∷ ms) = go (m == n) (stopped_values n ms)
  where
    go : (b : Bool) → events_for n (map (λ k. record { value = 4; bundle = k }) ms) ≡ map four (filter (λ k. k == n) ms)
        → map (λ (e : BundleEvent). e.value) (cond b (record { value = 4; bundle = m } ∷ filter (λ (e : BundleEvent). e.bundle == n) (map (λ k. record { value = 4; bundle = k }) ms)) (filter (λ (e : BundleEvent). e.bundle == n) (map (λ k. record { value = 4; bundle = k }) ms)))
        ≡ map four (cond b (m ∷ filter (λ k. k == n) ms) (filter (λ k. k == n) ms))
    go true rest = ap (λ xs. 4 ∷ xs) rest
    go false rest = rest

module _ (t : BundleTable) (stopped : List ℕ) (apart : are_apart stopped ≡ true) (n : ℕ) (stops : has stopped n ≡ true → state_in t.rows n ≡ Some Stopping) (low : (b : BundleLife) → Contains t.rows b → b.number ≤ t.numbered) (was : HasLivedSoFar t n) where
  values : (b : Bool) → has stopped n ≡ b → events_for n (map (λ m. record { value = 4; bundle = m }) stopped) ≡ cond b (4 ∷ []) []
  values b is = stopped_values n stopped ∙ ap (map four) (one_at_most stopped n apart b is) ∙ go b
    where
      go : (c : Bool) → map four (cond c (n ∷ []) []) ≡ cond c (4 ∷ []) []
      go true = refl
      go false = refl

  there : state_in t.rows n ≡ Some Stopping → is_none (bundle_of t.rows n) ≡ false
  there is = go (bundle_of t.rows n) is
    where
      go : (o : Option BundleLife) → option_map (λ (b : BundleLife). b.state) o ≡ Some Stopping → is_none o ≡ false
      go None h = cc
      go (Some b) h = refl

  was_given : is_none (bundle_of t.rows n) ≡ false → t.numbered < n → ⊥
  was_given found high = go (bundle_of t.rows n) refl found
    where
      go : (o : Option BundleLife) → bundle_of t.rows n ≡ o → is_none o ≡ false → ⊥
      go None is denied = cc
      go (Some b) is denied =
          let here = found_was (λ (x : BundleLife). x.number == n) t.rows b is in
          let most = low b here.0 in
          let same = eqb-true b.number n here.1 in
          omega (arith, most, same, high)

  lived_rest : (b : Bool) → has stopped n ≡ b → HasLivedSoFar (stop_completed stopped t) n
  lived_rest false off = stays t (stop_completed stopped t) n (map (λ m. record { value = 4; bundle = m }) stopped) refl (values false off)
      (other_row (resolved_among stopped) (resolved_number stopped) t.rows n (λ b is. ap (λ v. (cond v (record b { state = Resolved }) b).state) (ap (has stopped) is ∙ off))) (λ high. high) was
  lived_rest true on = moves t (stop_completed stopped t) n (map (λ m. record { value = 4; bundle = m }) stopped) (4 ∷ []) refl (values true on)
      (ap (λ m. are_in_order m (4 ∷ [])) (told_stopping (last_of 0 (events_for n t.events)) (sym was.lived.state ∙ stops on)))
      (own_row (resolved_among stopped) (resolved_number stopped) t.rows n Resolved (λ b e. ap (λ v. (cond v (record b { state = Resolved }) b).state) (ap (has stopped) e ∙ on)) (there (stops on))) (was_given (there (stops on))) was

-- ---- over a journal

module _ (step : Step) (w : World) (apart : are_apart (map (λ (b : BundleLife). b.number) (bundles_by step w.bundles).rows) ≡ true) where
  stopped_apart : are_apart (stopped_by step w) ≡ true
  unfolding stopped_by stopped_in world_after_step
  stopped_apart = apart_kept (λ (b : BundleLife). b.number) (has_stopped (components_by step w) (instances_by step w)) (bundles_by step w.bundles).rows apart

  stopped_stopping : (n : ℕ) → has (stopped_by step w) n ≡ true → state_in (bundles_by step w.bundles).rows n ≡ Some Stopping
  unfolding stopped_by stopped_in world_after_step
  stopped_stopping n is =
      let found = keyed (λ (b : BundleLife). b.number) (filter (has_stopped (components_by step w) (instances_by step w)) (bundles_by step w.bundles).rows) n is in
      let kept = kept_was (has_stopped (components_by step w) (instances_by step w)) (bundles_by step w.bundles).rows found.0 found.1 in
      ap (option_map (λ (b : BundleLife). b.state)) (found_is (λ (b : BundleLife). b.number == n) (bundles_by step w.bundles).rows found.0 kept.0 (eq-eqb found.0.number n found.2)
      (λ y h same. one_of (λ (b : BundleLife). b.number) (bundles_by step w.bundles).rows apart y found.0 h kept.0 (eqb-true y.number n same ∙ sym found.2)))
      ∙ ap (λ (s : BundleState). Some s) (by found.0.state (and_parts (is_stopping found.0.state) (not (list_any (keeps_bundle (components_by step w) found.0.number) (instances_by step w))) kept.1).0)
    where
      by : (s : BundleState) → is_stopping s ≡ true → s ≡ Stopping
      by Installed h = cc
      by Resolved h = cc
      by Stopping h = refl
      by Active h = cc

so_far : (limit : ℕ) (past : History) → IsLegal limit past → (n : ℕ) → HasLivedSoFar (world_of past).bundles n
unfolding world_of world_after_entry world_after_step
so_far limit [] legal n = record { lived = record { order = refl; state = refl }; fresh = λ high. refl }
so_far limit (entry ∷ past) legal n =
    let w = world_of past in
    let low = (legal_is_asked limit past legal.1).apart.bundles_so_far in
    let apart = apart_by_step w low (legal_apart limit past legal.1) entry.step in
    lived_rest (bundles_by entry.step w.bundles) entry.stopped (ap are_apart legal.0.stopped ∙ stopped_apart entry.step w apart) n
    (λ is. stopped_stopping entry.step w apart n (ap (λ ns. has ns n) (sym legal.0.stopped) ∙ is)) (bundle_below entry.step w.bundles low)
    (lived_step w low n (so_far limit past legal.1 n) entry.step legal.0.step) (has entry.stopped n) refl

pub has_lived : (limit : ℕ) (past : History) → IsLegal limit past → (n : ℕ) → HasLived (world_of past).bundles n
has_lived limit past legal n = (so_far limit past legal n).lived
