-- The end of a turn without consequences makes no pass, and no bundle has stopped by it.
use Rattle.std.proofs.Common.{◌≡◌, ℕ, List, [], ◌∷◌, ap, sym, ◌∙◌, refl, subst, cond, Bool, true, false, ◌&&◌, ◌||◌, inl, inr, ◌⊎◌, Some}
use Rattle.std.specs.Prelude.{not, filter, map}
use Rattle.std.specs.List.{Contains, list_all, list_any}
use Rattle.std.proofs.lemmas.Bool.{and_from, and_parts, both_ways, cases_Bool, or_left, or_right}
use Rattle.bundle_life.specs.declared.bundle.BundleLife.{BundleLife}
use Rattle.bundle_life.specs.Lives.{is_stopping}
use Rattle.callback_orders.specs.declared.callback.Outcome.{Outcome}
use Rattle.callback_orders.specs.Grammar.{is_activate, is_create}
use Rattle.callback_orders.specs.Sequences.{is_failed}
use Rattle.component_state.specs.Periods.{is_current}
use Rattle.component_state.proofs.Apart.{any_found, any_from, in_cases, in_first, in_none, in_rest, kept_from, not_true}
use Rattle.prop_map.specs.Words.{has, is_empty}
use Rattle.scr_laws.specs.Entries.{IsCalm}
use Rattle.scr_laws.specs.Stills.{IsStill, is_past}
use Rattle.scr_laws.proofs.Listed.{in_mapped, none_kept, none_passes}
use Rattle.scr_laws.proofs.QuietEnds.{ends_quietly}
use Rattle.scr_laws.proofs.StillLaw.{legal_calm}
use Rattle.scr_laws.proofs.Stillness.{is_still}
use Rattle.scr_still.specs.StillEnds.{ends_life, ends_still, fails_open, is_kept_beside, is_still_end, waits_for}
use Rattle.scr_still.proofs.LivesEnded.{life_goes_on}
use Rattle.scr_world.specs.Consequences.{has_stopped, keeps_bundle, stage_of, stopped_by, stopped_in}
use Rattle.scr_world.specs.Instances.{ended_in, has_turn, last_is, lives_on, with_outcome}
use Rattle.scr_world.specs.Legal.{IsLegal}
use Rattle.scr_world.specs.Lists.{world_of}
use Rattle.scr_world.specs.Steps.{History}
use Rattle.scr_world.specs.Stepping.{ending_in, failing, instances_told, world_after_step}
use Rattle.scr_world.specs.Worlds.{satisfied_in}
use Rattle.scr_world.specs.declared.instance.Instance.{Instance}
use Rattle.scr_world.specs.declared.step.Step.TheVariants.{End}
use Rattle.scr_world.specs.declared.world.World.{World}

-- ---- lists

module _ {X : Type 0} where
  all_at : (p : X → Bool) (xs : List X) → list_all p xs ≡ true → (x : X) → Contains xs x → p x ≡ true
  all_at p [] all x here = absurd (in_none x here)
  all_at p (y ∷ ys) all x here = let both = and_parts (p y) (list_all p ys) all in elim (in_cases y ys x here) [
    | inl same ↦ ap p (sym same) ∙ both.0
    | inr later ↦ all_at p ys both.1 x later
  ]

  all_mapped : (p : X → Bool) (f : X → X) (xs : List X) → ((x : X) → Contains xs x → p (f x) ≡ true) → list_all p (map f xs) ≡ true
  all_mapped p f [] each = refl
  all_mapped p f (x ∷ xs) each = and_from (p (f x)) (list_all p (map f xs)) (each x (in_first x xs)) (all_mapped p f xs (λ y here. each y (in_rest x xs y here)))

  none_any : (p : X → Bool) (xs : List X) → list_any p xs ≡ false → (x : X) → Contains xs x → p x ≡ false
  none_any p xs none x here = elim (cases_Bool (p x)) [
    | inl is ↦ absurd (both_ways (list_any p xs) none (any_from p xs x here is))
    | inr off ↦ off
  ]

none_mapped : {X Y : Type 0} (f : X → Y) (xs : List X) → map f xs ≡ [] → xs ≡ []
none_mapped f [] none = refl
none_mapped f (x ∷ xs) none = absurd cc

-- ---- bits

first_off : (f e : Bool) → (not f && e) ≡ true → f ≡ false
first_off false e is = refl
first_off true e is = absurd cc

then_both : (f e s b : Bool) → (not f && (not e || (not s && not b))) ≡ true → e ≡ true → (s ≡ false) × (b ≡ false)
then_both f true s b is e = let parts = and_parts (not f) (not s && not b) is in let both = and_parts (not s) (not b) parts.1 in (not_true s both.0, not_true b both.1)
then_both f false s b is e = absurd cc

kept_so : (a k : Bool) → (a && not k) ≡ false → a ≡ true → k ≡ true
kept_so true true off a = refl
kept_so true false off a = absurd cc
kept_so false k off a = absurd cc

beside_so : (a k o : Bool) → (a && (k && not o)) ≡ false → a ≡ true → k ≡ true → o ≡ true
beside_so true true true off a k = refl
beside_so true true false off a k = absurd cc
beside_so true false o off a k = absurd cc
beside_so false k o off a so = absurd cc

turn_so : (h e : Bool) → (not h || e) ≡ true → h ≡ true → e ≡ true
turn_so true e is h = is
turn_so false e is h = absurd cc

module _ (limit : ℕ) (past : History) (legal : IsLegal limit past) (turn : ℕ) (outcome : Outcome) (still : is_still_end turn outcome (world_of past) ≡ true) where
  abbrev w : World
  w = world_of past

  abbrev g : Instance → Instance
  g i = ended_in turn outcome (world_of past).generations i

  calm : IsCalm (world_of past)
  calm = legal_calm limit past legal

  its_end : (i : Instance) → Contains w.instances i → has_turn turn i ≡ true → ends_still turn outcome w (satisfied_in w) i ≡ true
  its_end i here its = turn_so (has_turn turn i) (ends_still turn outcome w (satisfied_in w) i)
      (all_at (λ (x : Instance). not (has_turn turn x) || ends_still turn outcome w (satisfied_in w) x) w.instances still i here) its

  -- ---- who lives on

  others_live : (i : Instance) → Contains w.instances i → has_turn turn i ≡ false → lives_on (g i) ≡ true
  others_live i here off = ap (λ b. lives_on (cond b (with_outcome outcome w.generations i) i)) off ∙ calm.living i here

  same_live : (i : Instance) → Contains w.instances i → ends_life outcome i ≡ false → lives_on (g i) ≡ true
  same_live i here going = go (has_turn turn i)
    where
      go : (b : Bool) → lives_on (cond b (with_outcome outcome w.generations i) i) ≡ true
      go false = calm.living i here
      go true = life_goes_on outcome i (calm.living i here) going

  own_origin : (i : Instance) → (g i).origin ≡ i.origin
  own_origin i = go (has_turn turn i)
    where
      go : (b : Bool) → (cond b (with_outcome outcome w.generations i) i).origin ≡ i.origin
      go true = refl
      go false = refl

  is_past_then : (i : Instance) → Contains w.instances i → is_past w (g i) ≡ true
  is_past_then i here = elim (cases_Bool (has_turn turn i)) [
    | inr off ↦ or_left (lives_on (g i)) (not (has (satisfied_in w) (g i).origin.configuration)) (others_live i here off)
    | inl its ↦ elim (cases_Bool (ends_life outcome i)) [
      | inr going ↦ or_left (lives_on (g i)) (not (has (satisfied_in w) (g i).origin.configuration)) (same_live i here going)
      | inl ending ↦ (
          let unsatisfied = (then_both (fails_open outcome w i) (ends_life outcome i) (has (satisfied_in w) i.origin.configuration) (list_any (waits_for w turn i) w.bundles.rows) (its_end i here its) ending).0 in
          or_right (lives_on (g i)) (not (has (satisfied_in w) (g i).origin.configuration)) (ap (λ o. not (has (satisfied_in w) o.configuration)) (own_origin i) ∙ ap not unsatisfied))
    ]
  ]

  -- ---- nothing fails

  ends_nothing : (i : Instance) → Contains w.instances i → is_failed (Some outcome) ≡ true
      → (has_turn turn i && ((last_is is_create i.callbacks || last_is is_activate i.callbacks) && is_current w.open_periods i.origin)) ≡ false
  ends_nothing i here failed = elim (cases_Bool (has_turn turn i)) [
    | inr off ↦ ap (λ b. b && ((last_is is_create i.callbacks || last_is is_activate i.callbacks) && is_current w.open_periods i.origin)) off
    | inl its ↦ (
        let so = first_off (fails_open outcome w i) (not (ends_life outcome i) || (not (has (satisfied_in w) i.origin.configuration) && not (list_any (waits_for w turn i) w.bundles.rows))) (its_end i here its) in
        ap (λ b. b && ((last_is is_create i.callbacks || last_is is_activate i.callbacks) && is_current w.open_periods i.origin)) its
        ∙ sym (ap (λ b. b && ((last_is is_create i.callbacks || last_is is_activate i.callbacks) && is_current w.open_periods i.origin)) failed) ∙ so)
  ]

  none_fail : failing (End turn outcome) w ≡ []
  none_fail = go (is_failed (Some outcome)) refl
    where
      go : (b : Bool) → is_failed (Some outcome) ≡ b → cond b (map (λ (i : Instance). i.origin.configuration) (ending_in turn w)) [] ≡ []
      go false off = refl
      go true failed = ap (map (λ (i : Instance). i.origin.configuration))
          (none_kept (λ (i : Instance). has_turn turn i && ((last_is is_create i.callbacks || last_is is_activate i.callbacks) && is_current w.open_periods i.origin)) w.instances
          (λ i here. ends_nothing i here failed))

  pub still_stage : IsStill (stage_of (End turn outcome) (world_of past))
  still_stage = is_still (End turn outcome) w calm.rest (ends_quietly turn outcome w calm.rest
      (and_from (list_all (is_past w) (instances_told (End turn outcome) w)) (is_empty (failing (End turn outcome) w))
      (all_mapped (is_past w) g w.instances is_past_then) (ap (λ (ns : List ℕ). is_empty ns) none_fail)))

  -- ---- no bundle has stopped

  abbrev then_living : List Instance
  then_living = filter lives_on (map g w.instances)

  module _ (b : BundleLife) (there : Contains w.bundles.rows b) where
    abbrev keeps : Instance → Bool
    keeps i = keeps_bundle w.components b.number i

    keeps_on : (i : Instance) → keeps (g i) ≡ keeps i
    keeps_on i = go (has_turn turn i)
      where
        go : (h : Bool) → keeps (cond h (with_outcome outcome w.generations i) i) ≡ keeps i
        go true = refl
        go false = refl

    kept_by : (i : Instance) → Contains w.instances i → lives_on (g i) ≡ true → keeps i ≡ true → list_any keeps then_living ≡ true
    kept_by i here lives so = any_from keeps then_living (g i) (kept_from lives_on (map g w.instances) (g i) (in_mapped g w.instances i here) lives) (keeps_on i ∙ so)

    was_kept : is_stopping b.state ≡ true → list_any keeps w.instances ≡ true
    unfolding stopped_in
    was_kept stopping = kept_so (is_stopping b.state) (list_any keeps w.instances)
        (none_passes (has_stopped w.components w.instances) w.bundles.rows (none_mapped (λ (x : BundleLife). x.number) (filter (has_stopped w.components w.instances) w.bundles.rows) calm.waiting) b there) stopping

    kept_beside : (i : Instance) → Contains w.instances i → has_turn turn i ≡ true → ends_life outcome i ≡ true → is_stopping b.state ≡ true → keeps i ≡ true → is_kept_beside w turn b.number ≡ true
    kept_beside i here its ending stopping so =
        let none = (then_both (fails_open outcome w i) (ends_life outcome i) (has (satisfied_in w) i.origin.configuration) (list_any (waits_for w turn i) w.bundles.rows) (its_end i here its) ending).1 in
        beside_so (is_stopping b.state) (keeps i) (is_kept_beside w turn b.number) (none_any (waits_for w turn i) w.bundles.rows none b there) stopping so

    still_kept : is_stopping b.state ≡ true → list_any keeps then_living ≡ true
    still_kept stopping =
        let found = any_found keeps w.instances (was_kept stopping) in
        elim (cases_Bool (has_turn turn found.0)) [
          | inr off ↦ kept_by found.0 found.1 (others_live found.0 found.1 off) found.2
          | inl its ↦ elim (cases_Bool (ends_life outcome found.0)) [
            | inr going ↦ kept_by found.0 found.1 (same_live found.0 found.1 going) found.2
            | inl ending ↦ (
                let other = any_found (λ (j : Instance). not (has_turn turn j) && keeps j) w.instances (kept_beside found.0 found.1 its ending stopping found.2) in
                let both = and_parts (not (has_turn turn other.0)) (keeps other.0) other.2 in
                kept_by other.0 other.1 (others_live other.0 other.1 (not_true (has_turn turn other.0) both.0)) both.1)
          ]
        ]

    not_stopped : has_stopped w.components then_living b ≡ false
    not_stopped = elim (cases_Bool (is_stopping b.state)) [
      | inr off ↦ ap (λ a. a && not (list_any keeps then_living)) off
      | inl stopping ↦ ap (λ a. a && not (list_any keeps then_living)) stopping ∙ ap not (still_kept stopping)
    ]

  pub none_stop : stopped_by (End turn outcome) (world_of past) ≡ []
  unfolding stopped_by stopped_in world_after_step
  none_stop = ap (map (λ (b : BundleLife). b.number)) (none_kept (has_stopped w.components then_living) w.bundles.rows not_stopped)
