-- A step that leaves what a pass looks at makes a pass that closes and opens nothing.
use Rattle.std.proofs.Common.{◌≡◌, ◌≤◌, ℕ, zero, suc, ◌+◌, List, [], ◌∷◌, ◌++◌, ap, sym, ◌∙◌, refl, subst, cond, arith, Bool, true, false, ◌&&◌, ◌||◌, inl, inr, ◌⊎◌}
use Rattle.std.specs.Prelude.{filter, map, not, ◌==◌}
use Rattle.std.specs.List.{Contains, list_any}
use Rattle.std.proofs.lemmas.Bool.{and_parts, and_from, eqb-true, eq-eqb, cases_Bool, cases_lt, both_ways}
use Rattle.component_dto.specs.declared.description.Description.{Description}
use Rattle.component_state.specs.declared.component.Component.{Component}
use Rattle.component_state.specs.declared.origin.Origin.{Origin}
use Rattle.component_state.specs.declared.open_period.OpenPeriod.{OpenPeriod}
use Rattle.component_state.specs.Components.{existing, numbers_of, of_level, level_of, level_count, is_changed_at}
use Rattle.component_state.specs.Marks.{failed_after, held_back, exists_unchanged, with_leaving}
use Rattle.component_state.specs.Passes.{HasPassed, Stage, closing, pass_order_of, next_from, opened_from, opening, held_back_in, satisfied_where, services_in}
use Rattle.component_state.specs.Periods.{is_open}
use Rattle.component_state.specs.Inside.Misled.{is_misled}
use Rattle.component_state.specs.Reasons.{has_reason}
use Rattle.component_state.proofs.Apart.{any_from, in_cases, in_either, in_first, in_left, in_none, in_rest, kept_was, or_true}
use Rattle.component_state.proofs.ReasonLaws.{reasons_are}
use Rattle.component_state.specs.Scratch.{is_satisfied, offered, offering, satisfied, satisfied_below}
use Rattle.prop_map.specs.Words.{has}
use Rattle.scr_world.specs.declared.step.Step.{Step}
use Rattle.scr_world.specs.declared.world.World.{World}
use Rattle.scr_world.specs.Consequences.{stage_in, stage_of}
use Rattle.scr_world.specs.Levels.{levels_of}
use Rattle.scr_world.specs.Stepping.{failing, world_after_step}
use Rattle.scr_world.specs.Tables.{descriptions_of}
use Rattle.scr_world.specs.Worlds.{direct_services, origins_of, satisfied_in as satisfied_at}
use Rattle.service_registry.specs.declared.row.ServiceRow.{ServiceRow}
use Rattle.scr_laws.specs.Stills.{IsStill, IsAtRest, LeavesLives, LeavesPass, LeavesStage, passed_nothing}

pub or_false : (b : Bool) → (b || false) ≡ b
or_false true = refl
or_false false = refl

-- ---- lists

module _ {X : Type 0} where
  none_kept : (t : X → Bool) (xs : List X) → ((x : X) → Contains xs x → t x ≡ false) → filter t xs ≡ []
  none_kept t [] each = refl
  none_kept t (x ∷ xs) each = ap (λ b. cond b (x ∷ filter t xs) (filter t xs)) (each x (in_first x xs)) ∙ none_kept t xs (λ y h. each y (in_rest x xs y h))

  pub all_kept : (xs : List X) → filter (λ x. true) xs ≡ xs
  all_kept [] = refl
  all_kept (x ∷ xs) = ap (λ ys. x ∷ ys) (all_kept xs)

  pub none_added : (xs : List X) → xs ++ [] ≡ xs
  none_added [] = refl
  none_added (x ∷ xs) = ap (λ ys. x ∷ ys) (none_added xs)

  pub same_kept : (t u : X → Bool) (xs : List X) → ((x : X) → Contains xs x → t x ≡ u x) → filter t xs ≡ filter u xs
  same_kept t u [] each = refl
  same_kept t u (x ∷ xs) each = ap (λ b. cond b (x ∷ filter t xs) (filter t xs)) (each x (in_first x xs)) ∙ ap (λ ys. cond (u x) (x ∷ ys) ys) (same_kept t u xs (λ y h. each y (in_rest x xs y h)))

-- ---- numbers in lists

has_cons : (n m : ℕ) (ns : List ℕ) → has (m ∷ ns) n ≡ ((m == n) || has ns n)
has_cons n m ns = refl

apart : (t : ℕ → Bool) (m n : ℕ) → t m ≡ false → t n ≡ true → (m == n) ≡ false
apart t m n off is = elim (cases_Bool (m == n)) [
  | inl same ↦ absurd (both_ways (t m) off (ap t (eqb-true m n same) ∙ is))
  | inr other ↦ other
]

-- a filter by a test that passes the number leaves it where it was
has_kept : (t : ℕ → Bool) (ns : List ℕ) (n : ℕ) → t n ≡ true → has (filter t ns) n ≡ has ns n
has_kept t [] n is = refl
has_kept t (m ∷ ns) n is = go (has_kept t ns n is) (t m) refl
  where
    go : has (filter t ns) n ≡ has ns n → (b : Bool) → t m ≡ b → has (cond b (m ∷ filter t ns) (filter t ns)) n ≡ ((m == n) || has ns n)
    go rest true on = ap (λ b. (m == n) || b) rest
    go rest false off = rest ∙ ap (λ b. b || has ns n) (sym (apart t m n off is))

has_both : (xs ys : List ℕ) (n : ℕ) → has (xs ++ ys) n ≡ (has xs n || has ys n)
has_both [] ys n = refl
has_both (x ∷ xs) ys n = ap (λ b. (x == n) || b) (has_both xs ys n) ∙ assoc (x == n)
  where
    assoc : (b : Bool) → (b || (has xs n || has ys n)) ≡ ((b || has xs n) || has ys n)
    assoc true = refl
    assoc false = refl

numbered : (cs : List Component) (n : ℕ) → has (numbers_of cs) n ≡ true → (c : Component) × Contains cs c × (c.number ≡ n)
numbered [] n is = cc
numbered (c ∷ cs) n is = go (numbered cs n) (c.number == n) refl is
  where
    go : (has (numbers_of cs) n ≡ true → (d : Component) × Contains cs d × (d.number ≡ n)) → (b : Bool) → (c.number == n) ≡ b → (b || has (numbers_of cs) n) ≡ true → (d : Component) × Contains (c ∷ cs) d × (d.number ≡ n)
    go rest true same h = (c, in_first c cs, eqb-true c.number n same)
    go rest false apart h = let found = rest h in (found.0, in_rest c cs found.0 found.1, found.2)

pub number_in : (cs : List Component) (c : Component) → Contains cs c → has (numbers_of cs) c.number ≡ true
number_in [] c h = absurd (in_none c h)
number_in (d ∷ ds) c h = elim (in_cases d ds c h) [
  | inl same ↦ ap (λ b. b || has (numbers_of ds) c.number) (ap (λ (x : Component). x.number == c.number) same ∙ eq-eqb c.number c.number refl)
  | inr later ↦ ap (λ b. (d.number == c.number) || b) (number_in ds c later) ∙ or_true (d.number == c.number)
]

-- ---- satisfied from scratch

module _ (ds : List Description) (levels : List ℕ) (direct : List ServiceRow) (open_ones : List OpenPeriod) (cs : List Component) where
  below_among : (out : List ℕ) (n : ℕ) (c : Component) → Contains (satisfied_below ds levels direct open_ones cs out n) c → Contains cs c
  below_among out zero c h = absurd (in_none c h)
  below_among out (suc n) c h =
      elim (in_either (satisfied_below ds levels direct open_ones cs out n) (filter (is_satisfied (direct ++ map (offered open_ones) (offering out (satisfied_below ds levels direct open_ones cs out n)))) (of_level ds levels cs n)) c h) [
        | inl l ↦ below_among out n c l
        | inr r ↦ (kept_was (λ c. level_of ds levels c == n) cs c (kept_was (is_satisfied (direct ++ map (offered open_ones) (offering out (satisfied_below ds levels direct open_ones cs out n)))) (of_level ds levels cs n) c r).0).0
      ]

  below_more : (out : List ℕ) (n : ℕ) (c : Component) → Contains (satisfied_below ds levels direct open_ones cs out n) c → Contains (satisfied_below ds levels direct open_ones cs out (suc n)) c
  below_more out n c h = in_left (satisfied_below ds levels direct open_ones cs out n) (filter (is_satisfied (direct ++ map (offered open_ones) (offering out (satisfied_below ds levels direct open_ones cs out n)))) (of_level ds levels cs n)) c h

  below_within : (out : List ℕ) (most n : ℕ) (c : Component) → n ≤ most → Contains (satisfied_below ds levels direct open_ones cs out n) c → Contains (satisfied_below ds levels direct open_ones cs out most) c
  below_within out zero n c low h = subst (λ k. Contains (satisfied_below ds levels direct open_ones cs out k) c) (let e : n ≡ 0 = omega (arith, low) in e) h
  below_within out (suc most) n c low h = elim (cases_lt n (suc most)) [
    | inl less ↦ below_more out most c (below_within out most n c (omega (arith, less)) h)
    | inr more ↦ subst (λ k. Contains (satisfied_below ds levels direct open_ones cs out k) c) (let e : n ≡ suc most = omega (arith, low, more) in e) h
  ]

  -- what is left out matters for the satisfied ones alone
  below_same : (out other : List ℕ) (most : ℕ) → ((c : Component) → Contains (satisfied_below ds levels direct open_ones cs out most) c → has out c.number ≡ has other c.number) → (n : ℕ) → n ≤ most
      → satisfied_below ds levels direct open_ones cs out n ≡ satisfied_below ds levels direct open_ones cs other n
  below_same out other most each zero low = refl
  below_same out other most each (suc n) low =
      ap (λ below. satisfied_below ds levels direct open_ones cs out n ++ filter (is_satisfied (direct ++ map (offered open_ones) below)) (of_level ds levels cs n))
      (same_kept (λ (c : Component). not (has out c.number)) (λ (c : Component). not (has other c.number)) (satisfied_below ds levels direct open_ones cs out n)
      (λ c h. ap not (each c (below_within out most n c (omega (arith, low)) h))))
      ∙ ap (λ below. below ++ filter (is_satisfied (direct ++ map (offered open_ones) (offering other below))) (of_level ds levels cs n)) (below_same out other most each n (omega (arith, low)))

-- ---- a still stage

module _ (s : Stage) (still : IsStill s) where
  no_reason : (c : Component) → Contains (pass_order_of s) c → (is_open s.open_before c.number && has_reason s.place s.open_before (services_in s s.open_before) (satisfied_where s s.open_before) s.origins s.failing c) ≡ false
  no_reason c here = go (is_open s.open_before c.number) refl
    where
      met : (b : Bool) → is_open s.open_before c.number ≡ true → has (satisfied_where s s.open_before) c.number ≡ true
      met b is = (and_parts (has (satisfied_where s s.open_before) c.number) (not (has (held_back_in s s.open_before) c.number)) (sym (still.scratch c.number) ∙ is)).0

      quiet : is_open s.open_before c.number ≡ true → ((not (has (satisfied_where s s.open_before) c.number) || has s.failing c.number) || list_any (is_misled s.place s.open_before (services_in s s.open_before) c) s.origins) ≡ false
      quiet is = rw (met true is, still.failing, still.led c is here) refl

      go : (b : Bool) → is_open s.open_before c.number ≡ b → (b && has_reason s.place s.open_before (services_in s s.open_before) (satisfied_where s s.open_before) s.origins s.failing c) ≡ false
      go false is = refl
      go true is = reasons_are s.place s.open_before (services_in s s.open_before) (satisfied_where s s.open_before) s.origins s.failing c (λ sure. still.living c is here) ∙ quiet is

  none_close : closing s s.open_before ≡ []
  none_close = ap numbers_of (none_kept (λ (c : Component). is_open s.open_before c.number && has_reason s.place s.open_before (services_in s s.open_before) (satisfied_where s s.open_before) s.origins s.failing c) (pass_order_of s) no_reason)

  none_open : opening s s.open_before ≡ []
  none_open = none_kept (λ (c : Component). has (satisfied_where s s.open_before) c.number && (not (has (held_back_in s s.open_before) c.number) && not (is_open s.open_before c.number))) (pass_order_of s)
      (λ c here. ap (λ b. has (satisfied_where s s.open_before) c.number && (not (has (held_back_in s s.open_before) c.number) && not b)) (still.scratch c.number) ∙ never (has (satisfied_where s s.open_before) c.number) (has (held_back_in s s.open_before) c.number))
    where
      never : (a b : Bool) → (a && (not b && not (a && not b))) ≡ false
      never true true = refl
      never true false = refl
      never false b = refl

  pub passes_nothing : HasPassed s (passed_nothing s)
  passes_nothing = record {
    closed = sym none_close;
    opened = ap (opened_from s.next) (sym none_open);
    open_now = sym (none_added (filter (λ (p : OpenPeriod). true) s.open_before) ∙ all_kept s.open_before);
    satisfied = refl;
    next = ap (next_from s.next) (sym none_open);
    scratch = still.scratch;
  }

-- ---- between two entries

-- the stage of a step that leaves what a pass looks at
rest_of : List Origin → World → Stage
unfolding satisfied_at
rest_of all w = let ds = descriptions_of w.documents in record {
  place = w.entries;
  next = w.registry.numbered + 1;
  descriptions = ds;
  levels = levels_of ds;
  direct = direct_services w;
  components = w.components;
  open_before = w.open_periods;
  origins = all;
  failed = failed_after w.entries (satisfied_at w) w.components [] w.failed;
  failing = [];
}

failed_is : (step : Step) (w : World) → (world_after_step step w).failed ≡ failed_after w.entries (satisfied_at w) (world_after_step step w).components (failing step w) w.failed
unfolding world_after_step
failed_is step w = refl

stage_is : (step : Step) (w : World) → LeavesPass step w → stage_of step w ≡ rest_of (origins_of (world_after_step step w).instances) w
unfolding stage_of stage_in rest_of
stage_is step w leaves = rw (failed_is step w, leaves.place, leaves.documents, leaves.registry, leaves.components, leaves.open_periods, leaves.failing) refl

module _ (w : World) (rest : IsAtRest w) (lives_then : List Origin) (same : LeavesLives lives_then w) where
  all_of : List Component
  all_of = let ds = descriptions_of w.documents in satisfied ds (levels_of ds) (direct_services w) w.open_periods w.components (held_back w.failed w.open_periods (origins_of w.instances))

  at_is : satisfied_at w ≡ numbers_of all_of
  unfolding satisfied_at all_of
  at_is = refl

  failed_then : List ℕ
  failed_then = failed_after w.entries (satisfied_at w) w.components [] w.failed

  -- a satisfied one is failed after the step where it was before
  mark_stays : (c : Component) → Contains all_of c → has failed_then c.number ≡ has w.failed c.number
  unfolding failed_then all_of
  mark_stays c here =
      has_both (filter (λ n. has (satisfied_at w) n && exists_unchanged w.entries w.components n) w.failed) [] c.number
      ∙ or_false (has (filter (λ n. has (satisfied_at w) n && exists_unchanged w.entries w.components n) w.failed) c.number)
      ∙ has_kept (λ n. has (satisfied_at w) n && exists_unchanged w.entries w.components n) w.failed c.number (and_from (has (satisfied_at w) c.number) (exists_unchanged w.entries w.components c.number)
      (ap (λ ns. has ns c.number) at_is ∙ number_in all_of c here)
      (let lives = kept_was (λ (d : Component). d.exists) w.components c (below_among (descriptions_of w.documents) (levels_of (descriptions_of w.documents)) (direct_services w) w.open_periods (existing w.components) (held_back w.failed w.open_periods (origins_of w.instances)) (suc (level_count (levels_of (descriptions_of w.documents)))) c here) in
      any_from (λ (d : Component). (d.number == c.number) && (d.exists && not (is_changed_at w.entries d))) w.components c lives.0 (rw (eq-eqb c.number c.number refl, lives.1, rest.behind c lives.0) refl)))

  out_stays : (c : Component) → Contains all_of c → has (held_back w.failed w.open_periods (origins_of w.instances)) c.number ≡ has (held_back failed_then w.open_periods lives_then) c.number
  out_stays c here =
      has_both w.failed (with_leaving w.open_periods (origins_of w.instances)) c.number
      ∙ ap (λ b. b || has (with_leaving w.open_periods (origins_of w.instances)) c.number) (sym (mark_stays c here))
      ∙ ap (λ b. has failed_then c.number || b) (sym (same.leaving c (ap (λ ns. has ns c.number) at_is ∙ number_in all_of c here)))
      ∙ sym (has_both failed_then (with_leaving w.open_periods lives_then) c.number)

  all_stays : all_of ≡ (let ds = descriptions_of w.documents in satisfied ds (levels_of ds) (direct_services w) w.open_periods w.components (held_back failed_then w.open_periods lives_then))
  unfolding all_of
  all_stays = below_same (descriptions_of w.documents) (levels_of (descriptions_of w.documents)) (direct_services w) w.open_periods (existing w.components) (held_back w.failed w.open_periods (origins_of w.instances))
      (held_back failed_then w.open_periods lives_then) (suc (level_count (levels_of (descriptions_of w.documents)))) out_stays (suc (level_count (levels_of (descriptions_of w.documents)))) (omega arith)

  scratch_stays : (n : ℕ) → is_open w.open_periods n ≡ (has (numbers_of all_of) n && not (has (held_back failed_then w.open_periods lives_then) n))
  scratch_stays n = rest.scratch n ∙ ap (λ ns. has ns n && not (has (held_back w.failed w.open_periods (origins_of w.instances)) n)) at_is ∙ go (has (numbers_of all_of) n) refl
    where
      go : (b : Bool) → has (numbers_of all_of) n ≡ b → (b && not (has (held_back w.failed w.open_periods (origins_of w.instances)) n)) ≡ (b && not (has (held_back failed_then w.open_periods lives_then) n))
      go false is = refl
      go true is = let found = numbered all_of n is in ap not (subst (λ k. has (held_back w.failed w.open_periods (origins_of w.instances)) k ≡ has (held_back failed_then w.open_periods lives_then) k) found.2 (out_stays found.0 found.1))

  rest_is_still : IsStill (rest_of lives_then w)
  unfolding rest_of failed_then stage_in
  rest_is_still = record {
    failing = refl;
    scratch = λ n. scratch_stays n ∙ ap (λ cs. has (numbers_of cs) n && not (has (held_back failed_then w.open_periods lives_then) n)) all_stays;
    living = rest.living;
    led = same.led;
  }

pub is_still : (step : Step) (w : World) → IsAtRest w → LeavesPass step w → IsStill (stage_of step w)
is_still step w rest leaves = rw (stage_is step w leaves) (rest_is_still w rest (origins_of (world_after_step step w).instances) leaves.lives)

-- where the living instances are the same
pub same_lives : (step : Step) (w : World) → IsAtRest w → LeavesStage step w → LeavesPass step w
unfolding stage_in
same_lives step w rest leaves = record {
  place = leaves.place;
  documents = leaves.documents;
  registry = leaves.registry;
  components = leaves.components;
  open_periods = leaves.open_periods;
  failing = leaves.failing;
  lives = rw (leaves.origins) (record { leaving = λ c is. refl; led = rest.choices });
}
