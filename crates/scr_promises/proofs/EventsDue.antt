-- Each event of a service that an entry makes true is told.
use Rattle.std.proofs.Common.{◌≡◌, ◌<◌, ℕ, [], ◌∷◌, ap, sym, ◌∙◌, refl, subst, cond, arith, Bool, true, false, ◌&&◌, Option, Some, None}
use Rattle.std.specs.Prelude.{flat_map, nat_lt, not, ◌==◌}
use Rattle.std.specs.List.{Contains}
use Rattle.std.proofs.lemmas.Bool.{and_parts, both_ways, eq-eqb, eqb-true, ltb-true}
use Rattle.component_state.proofs.Apart.{any_found, any_from, in_first, in_rest, not_true}
use Rattle.journal_core.specs.declared.entry.Entry.{Entry}
use Rattle.ldap_filter.specs.Matching.{matches}
use Rattle.ldap_filter.specs.Trees.{Tree}
use Rattle.prop_map.specs.Words.{has}
use Rattle.scr_laws.proofs.Described.{into_flat}
use Rattle.scr_promises.specs.Events.{is_listed, is_listed_above, matching, tells_truth, was_set}
use Rattle.scr_promises.proofs.ChangeLaws.{IsPair, match_is, match_was}
use Rattle.scr_promises.proofs.ServicePairs.{after_is, are, are_then, listed_one, pair_of_new, pair_of_old}
use Rattle.scr_world.specs.Legal.{IsLegal}
use Rattle.scr_world.specs.Lists.{change_between, change_of_one, changes_between, world_of}
use Rattle.scr_world.specs.Readers.{listed}
use Rattle.scr_world.specs.Steps.{History}
use Rattle.scr_world.specs.declared.step.Step.{Step}
use Rattle.scr_world.specs.declared.world.World.{World}
use Rattle.service_listeners.specs.declared.listener.ServiceEvent.{ServiceEvent}
use Rattle.service_listeners.specs.Listening.{Change, events_for, one_event}
use Rattle.service_registry.specs.declared.row.ServiceRow.{ServiceRow}

abbrev event : ℕ → ℕ → ServiceEvent
event value service = record { value = value; service = service }

abbrev to_new : ServiceRow → Change
to_new fresh = (None, Some fresh)

abbrev from_old : ServiceRow → Change
from_old old = (Some old, None)

abbrev set_to : ServiceRow → ServiceRow → Change
set_to old fresh = (Some old, Some fresh)

-- an event is known by its parts
made : (e : ServiceEvent) (value service : ℕ) → e.value ≡ value → e.service ≡ service
    → Contains (one_event value service) e
made e value service kind same =
    subst (λ (x : ServiceEvent). Contains (one_event value service) x)
    (sym (ap (λ n. event n e.service) kind ∙ ap (event value) same)) (in_first (event value service) [])

-- no service of a number is listed
none_listed : (w : World) (s : ℕ) → is_listed w s ≡ false → (x : ServiceRow) → Contains (listed w) x → x.id ≡ s → ⊥
none_listed w s off x h same = both_ways (is_listed w s) off
    (any_from (λ (r : ServiceRow). r.id == s) (listed w) x h (eq-eqb x.id s same))

-- a service of a number whose properties were set
record WasSet (was now : World) (s : ℕ) : Type 0 where
  old : ServiceRow
  fresh : ServiceRow
  there : Contains (listed was) old
  here : Contains (listed now) fresh
  same : fresh.id ≡ old.id
  number : fresh.id ≡ s
  change : Contains (changes_between was now) (set_to old fresh)

module _ (limit : ℕ) (entry : Entry Step) (past : History) (legal : IsLegal limit (entry ∷ past)) (tree : Tree) where
  abbrev w : World
  w = world_of past

  abbrev then : World
  then = world_of (entry ∷ past)

  abbrev IsTold : ServiceEvent → Type 0
  IsTold e = Contains (flat_map (events_for tree) (changes_between w then)) e

  told_by : (c : Change) → Contains (changes_between w then) c → (e : ServiceEvent) → Contains (events_for tree c) e
      → IsTold e
  told_by c h e k = into_flat (events_for tree) (changes_between w then) c e h k

  -- ---- one that came

  came_change : (x : ServiceRow) → is_listed w x.id ≡ false → (before : Option ServiceRow)
      → IsPair w then before (Some x) → Contains (change_between before (Some x)) (to_new x)
  came_change x new None pair = in_first (to_new x) []
  came_change x new (Some old) pair = go (old.id == x.id) refl (old.revision == x.revision)
    where
      go : (a : Bool) → (old.id == x.id) ≡ a → (b : Bool)
          → Contains (cond a (cond b [] (set_to old x ∷ [])) (from_old old ∷ to_new x ∷ [])) (to_new x)
      go true is b = absurd (none_listed w x.id new old (pair.old_listed old refl) (eqb-true old.id x.id is))
      go false is b = in_rest (from_old old) (to_new x ∷ []) (to_new x) (in_first (to_new x) [])

  came : (e : ServiceEvent) → e.value ≡ 1 → is_listed w e.service ≡ false → has (matching then tree) e.service ≡ true
      → IsTold e
  came e kind new on =
      let x = match_was then tree e.service on in
      let p = pair_of_new limit entry past legal x.0 x.1 in
      told_by (to_new x.0)
      (p.1.within (to_new x.0) (came_change x.0 (ap (is_listed w) x.2 ∙ new) p.0 p.1.pair)) e
      (subst (λ b. Contains (cond b (one_event 1 x.0.id) []) e) (sym x.3) (made e 1 x.0.id kind (sym x.2)))

  -- ---- one that left

  left_change : (old : ServiceRow) → is_listed then old.id ≡ false → (after : Option ServiceRow)
      → IsPair w then (Some old) after → Contains (change_between (Some old) after) (from_old old)
  left_change old gone None pair = in_first (from_old old) []
  left_change old gone (Some x) pair = go (old.id == x.id) refl (old.revision == x.revision)
    where
      go : (a : Bool) → (old.id == x.id) ≡ a → (b : Bool)
          → Contains (cond a (cond b [] (set_to old x ∷ [])) (from_old old ∷ to_new x ∷ [])) (from_old old)
      go true is b = absurd (none_listed then old.id gone x (pair.new_listed x refl) (sym (eqb-true old.id x.id is)))
      go false is b = in_first (from_old old) (to_new x ∷ [])

  left : (e : ServiceEvent) → e.value ≡ 4 → has (matching w tree) e.service ≡ true → is_listed then e.service ≡ false
      → IsTold e
  left e kind on gone =
      let old = match_was w tree e.service on in
      let p = pair_of_old limit entry past legal old.0 old.1 in
      told_by (from_old old.0)
      (p.1.within (from_old old.0) (left_change old.0 (ap (is_listed then) old.2 ∙ gone) p.0 p.1.pair)) e
      (subst (λ b. Contains (cond b (one_event 4 old.0.id) []) e) (sym old.3) (made e 4 old.0.id kind (sym old.2)))

  -- ---- one whose properties were set

  -- the change of two of one number, whose revision rose
  risen : (old fresh : ServiceRow) → fresh.id ≡ old.id → old.revision < fresh.revision
      → Contains (change_of_one old fresh) (set_to old fresh)
  risen old fresh same low = go (old.id == fresh.id) (old.revision == fresh.revision) refl refl
    where
      go : (a b : Bool) → (old.id == fresh.id) ≡ a → (old.revision == fresh.revision) ≡ b
          → Contains (cond a (cond b [] (set_to old fresh ∷ [])) (from_old old ∷ to_new fresh ∷ []))
          (set_to old fresh)
      go true false is differ = in_first (set_to old fresh) []
      go true true is even = let e = eqb-true old.revision fresh.revision even in absurd (omega (arith, e, low))
      go false b is differ = absurd (both_ways (old.id == fresh.id) is (eq-eqb old.id fresh.id (sym same)))

  set_from : (s : ℕ) → was_set w then s ≡ true → WasSet w then s
  set_from s on =
      let a = any_found (λ (x : ServiceRow). (x.id == s) && is_listed_above then s x.revision) (listed w) on in
      let is = and_parts (a.0.id == s) (is_listed_above then s a.0.revision) a.2 in
      let b = any_found (λ (y : ServiceRow). (y.id == s) && nat_lt a.0.revision y.revision) (listed then) is.1 in
      let its = and_parts (b.0.id == s) (nat_lt a.0.revision b.0.revision) b.2 in
      let number = eqb-true b.0.id s its.0 in
      let same : b.0.id ≡ a.0.id = number ∙ sym (eqb-true a.0.id s is.0) in
      let p = pair_of_old limit entry past legal a.0 a.1 in
      record {
        old = a.0;
        fresh = b.0;
        there = a.1;
        here = b.1;
        same = same;
        number = number;
        change = p.1.within (set_to a.0 b.0)
            (subst (λ (o : Option ServiceRow). Contains (change_between (Some a.0) o) (set_to a.0 b.0))
            (sym (after_is limit entry past legal a.0 p.0 p.1.pair b.0 b.1 same))
            (risen a.0 b.0 same (ltb-true a.0.revision b.0.revision its.1)));
      }

  now_matches : (s : ℕ) (it : WasSet w then s) (b : Bool) → has (matching then tree) s ≡ b
      → matches tree it.fresh.properties ≡ b
  now_matches s it b is = sym
      (match_is then tree s (listed_one then (are_then limit entry past legal)) it.fresh it.here it.number) ∙ is

  was_matching : (s : ℕ) (it : WasSet w then s) → has (matching w tree) s ≡ true → matches tree it.old.properties ≡ true
  was_matching s it on =
      let x = match_was w tree s on in
      ap (λ (r : ServiceRow). matches tree r.properties)
      (listed_one w (are limit entry past legal) it.old x.0 it.there x.1 (sym it.same ∙ it.number ∙ sym x.2)) ∙ x.3

  set_matching : (e : ServiceEvent) → e.value ≡ 2 → was_set w then e.service ≡ true
      → has (matching then tree) e.service ≡ true → IsTold e
  set_matching e kind set on =
      let it = set_from e.service set in
      told_by (set_to it.old it.fresh) it.change e
      (subst (λ b. Contains
      (cond b (one_event 2 it.fresh.id) (cond (matches tree it.old.properties) (one_event 8 it.fresh.id) [])) e)
      (sym (now_matches e.service it true on))
      (made e 2 it.fresh.id kind (sym it.number)))

  set_ending : (e : ServiceEvent) → e.value ≡ 8 → was_set w then e.service ≡ true
      → has (matching w tree) e.service ≡ true → has (matching then tree) e.service ≡ false → IsTold e
  set_ending e kind set on off =
      let it = set_from e.service set in
      told_by (set_to it.old it.fresh) it.change e
      (subst (λ b. Contains
      (cond b (one_event 2 it.fresh.id) (cond (matches tree it.old.properties) (one_event 8 it.fresh.id) [])) e)
      (sym (now_matches e.service it false off))
      (subst (λ b. Contains (cond b (one_event 8 it.fresh.id) []) e) (sym (was_matching e.service it on))
      (made e 8 it.fresh.id kind (sym it.number))))

  -- ---- each

  pub due_told : (e : ServiceEvent) → tells_truth w then tree e ≡ true → IsTold e
  due_told e on = go (e.value == 1) (e.value == 2) (e.value == 4) (e.value == 8) refl refl refl refl on
    where
      go : (a b c d : Bool) → (e.value == 1) ≡ a → (e.value == 2) ≡ b → (e.value == 4) ≡ c → (e.value == 8) ≡ d
          → cond a (not (is_listed w e.service) && has (matching then tree) e.service)
          (cond b (was_set w then e.service && has (matching then tree) e.service)
          (cond c (has (matching w tree) e.service && not (is_listed then e.service))
          (d && (was_set w then e.service &&
          (has (matching w tree) e.service && not (has (matching then tree) e.service)))))) ≡ true → IsTold e
      go true b c d is x y z so = let parts = and_parts (not (is_listed w e.service))
          (has (matching then tree) e.service) so in came e (eqb-true e.value 1 is)
          (not_true (is_listed w e.service) parts.0) parts.1
      go false true c d x is y z so = let parts = and_parts (was_set w then e.service)
          (has (matching then tree) e.service) so in set_matching e (eqb-true e.value 2 is) parts.0 parts.1
      go false false true d x y is z so = let parts = and_parts (has (matching w tree) e.service)
          (not (is_listed then e.service)) so in left e (eqb-true e.value 4 is) parts.0
          (not_true (is_listed then e.service) parts.1)
      go false false false true x y z is so =
          let parts = and_parts (was_set w then e.service)
          (has (matching w tree) e.service && not (has (matching then tree) e.service)) so in
          let rest = and_parts (has (matching w tree) e.service) (not (has (matching then tree) e.service)) parts.1 in
          set_ending e (eqb-true e.value 8 is) parts.0 rest.0 (not_true (has (matching then tree) e.service) rest.1)
      go false false false false x y z is so = absurd cc
