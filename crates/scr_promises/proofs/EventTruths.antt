-- Each event of a change says what happened.
use Rattle.std.proofs.Common.{◌≡◌, ◌<◌, ◌≤◌, ℕ, [], ◌∷◌, ap, sym, ◌∙◌, refl, subst, cond, Bool, true, false, ◌&&◌, inl, inr, Option, Some, None, arith}
use Rattle.std.specs.Prelude.{nat_lt, not, ◌==◌}
use Rattle.std.specs.List.{Contains}
use Rattle.std.proofs.lemmas.Bool.{and_from, both_ways, cases_Bool, eq-eqb, eqb-true, lt-ltb}
use Rattle.component_state.proofs.Apart.{any_found, any_from, in_cases, in_none}
use Rattle.ldap_filter.specs.Matching.{matches}
use Rattle.ldap_filter.specs.Trees.{Tree}
use Rattle.prop_map.specs.Words.{has}
use Rattle.scr_promises.specs.Events.{is_listed, is_listed_above, matching, tells_truth, was_set}
use Rattle.scr_promises.proofs.ChangeLaws.{IsPair, match_is, match_on}
use Rattle.scr_world.specs.Lists.{change_between, change_of_one}
use Rattle.scr_world.specs.Readers.{listed}
use Rattle.scr_world.specs.declared.world.World.{World}
use Rattle.service_listeners.specs.declared.listener.ServiceEvent.{ServiceEvent}
use Rattle.service_listeners.specs.Listening.{Change, events_for, one_event}
use Rattle.service_registry.specs.declared.row.ServiceRow.{ServiceRow}

listed_is : (w : World) (x : ServiceRow) → Contains (listed w) x → is_listed w x.id ≡ true
listed_is w x h = any_from (λ (r : ServiceRow). r.id == x.id) (listed w) x h (eq-eqb x.id x.id refl)

listed_none : (w : World) (s : ℕ) → ((x : ServiceRow) → Contains (listed w) x → x.id ≡ s → ⊥) → is_listed w s ≡ false
listed_none w s none = elim (cases_Bool (is_listed w s)) [
  | inr off ↦ off
  | inl on ↦ (let x = any_found (λ (r : ServiceRow). r.id == s) (listed w) on in absurd
      (none x.0 x.1 (eqb-true x.0.id s x.2)))
]

abbrev OneEach : World → Type 0
OneEach w = (a b : ServiceRow) → Contains (listed w) a → Contains (listed w) b → a.id ≡ b.id → a ≡ b

-- no revision falls
abbrev pub NoneFalls : World → World → Type 0
NoneFalls was now = (old fresh : ServiceRow) → Contains (listed was) old → Contains (listed now) fresh → fresh.id ≡
    old.id → old.revision ≤ fresh.revision

module _ (was now : World) (tree : Tree) (one : OneEach now) (one_before : OneEach was) (rises : NoneFalls was now)
  where
    abbrev IsTrue : ServiceEvent → Type 0
    IsTrue e = tells_truth was now tree e ≡ true

    abbrev AreTrue : Change → Type 0
    AreTrue c = (e : ServiceEvent) → Contains (events_for tree c) e → tells_truth was now tree e ≡ true

    -- a single event
    only : (value service : ℕ) → IsTrue (record { value = value; service = service }) → (e : ServiceEvent)
        → Contains (one_event value service) e → IsTrue e
    only value service right e h = elim (in_cases (record { value = value; service = service }) [] e h) [
      | inl same ↦ subst IsTrue same right
      | inr none ↦ absurd (in_none e none)
    ]

    came_true : (fresh : ServiceRow) → Contains (listed now) fresh
        → ((x : ServiceRow) → Contains (listed was) x → x.id ≡ fresh.id → ⊥) → AreTrue (None, Some fresh)
    came_true fresh h none e k = go (matches tree fresh.properties) refl k
      where
        go : (b : Bool) → matches tree fresh.properties ≡ b → Contains (cond b (one_event 1 fresh.id) []) e → IsTrue e
        go true on = only 1 fresh.id
            (and_from (not (is_listed was fresh.id)) (has (matching now tree) fresh.id)
            (ap not (listed_none was fresh.id none)) (match_on now tree fresh.id fresh h refl on)) e
        go false off = λ there. absurd (in_none e there)

    left_true : (old : ServiceRow) → Contains (listed was) old
        → ((x : ServiceRow) → Contains (listed now) x → x.id ≡ old.id → ⊥) → AreTrue (Some old, None)
    left_true old h none e k = go (matches tree old.properties) refl k
      where
        go : (b : Bool) → matches tree old.properties ≡ b → Contains (cond b (one_event 4 old.id) []) e → IsTrue e
        go true on = only 4 old.id
            (and_from (has (matching was tree) old.id) (not (is_listed now old.id))
            (match_on was tree old.id old h refl on) (ap not (listed_none now old.id none))) e
        go false off = λ there. absurd (in_none e there)

    -- its properties were set
    risen : (old fresh : ServiceRow) → Contains (listed was) old → Contains (listed now) fresh → old.id ≡ fresh.id
        → (old.revision == fresh.revision) ≡ false → was_set was now fresh.id ≡ true
    risen old fresh h k same differ =
        let low = rises old fresh h k (sym same) in
        let other : old.revision ≡ fresh.revision → ⊥ = λ e. both_ways (old.revision == fresh.revision) differ
        (eq-eqb old.revision fresh.revision e) in
        let above : old.revision < fresh.revision = omega (arith, low, other) in
        any_from (λ (x : ServiceRow). (x.id == fresh.id) && is_listed_above now fresh.id x.revision) (listed was) old h
        (and_from (old.id == fresh.id) (is_listed_above now fresh.id old.revision) (eq-eqb old.id fresh.id same)
        (any_from (λ (y : ServiceRow). (y.id == fresh.id) && nat_lt old.revision y.revision) (listed now) fresh k
        (and_from (fresh.id == fresh.id) (nat_lt old.revision fresh.revision) (eq-eqb fresh.id fresh.id refl)
        (lt-ltb old.revision fresh.revision above))))

    set_true : (old fresh : ServiceRow) → Contains (listed was) old → Contains (listed now) fresh → old.id ≡ fresh.id
        → (old.revision == fresh.revision) ≡ false → AreTrue (Some old, Some fresh)
    set_true old fresh h k same differ e there = go (matches tree fresh.properties) (matches tree old.properties) refl
        refl there
      where
        set_is : was_set was now fresh.id ≡ true
        set_is = risen old fresh h k same differ

        go : (a b : Bool) → matches tree fresh.properties ≡ a → matches tree old.properties ≡ b
            → Contains (cond a (one_event 2 fresh.id) (cond b (one_event 8 fresh.id) [])) e → IsTrue e
        go true b on old_is = only 2 fresh.id
            (and_from (was_set was now fresh.id) (has (matching now tree) fresh.id) set_is
            (match_on now tree fresh.id fresh k refl on)) e
        go false true off old_on = only 8 fresh.id
            (and_from (was_set was now fresh.id)
            (has (matching was tree) fresh.id && not (has (matching now tree) fresh.id)) set_is
            (and_from (has (matching was tree) fresh.id) (not (has (matching now tree) fresh.id))
            (match_on was tree fresh.id old h same old_on) (ap not (match_is now tree fresh.id one fresh k refl ∙ off))))
            e
        go false false off old_off = λ none. absurd (in_none e none)

    single_true : (c d : Change) → AreTrue c → Contains (c ∷ []) d → AreTrue d
    single_true c d true_one h = elim (in_cases c [] d h) [
      | inl same ↦ subst AreTrue same true_one
      | inr none ↦ absurd (in_none d none)
    ]

    same_true : (old fresh : ServiceRow) → Contains (listed was) old → Contains (listed now) fresh
        → ((fresh.id ≡ old.id → ⊥) → (x : ServiceRow) → Contains (listed now) x → x.id ≡ old.id → ⊥)
        → ((old.id ≡ fresh.id → ⊥) → (x : ServiceRow) → Contains (listed was) x → x.id ≡ fresh.id → ⊥)
        → (d : Change) → Contains (change_of_one old fresh) d → AreTrue d
    same_true old fresh h k gone came d here = go (old.id == fresh.id) (old.revision == fresh.revision) refl refl here
      where
        go : (a b : Bool) → (old.id == fresh.id) ≡ a → (old.revision == fresh.revision) ≡ b
            → Contains (cond a (cond b [] ((Some old, Some fresh) ∷ [])) ((Some old, None) ∷ (None, Some fresh) ∷ [])) d
            → AreTrue d
        go true true is even there = absurd (in_none d there)
        go true false is differ there = single_true (Some old, Some fresh) d
            (set_true old fresh h k (eqb-true old.id fresh.id is) differ) there
        go false b is any there = elim (in_cases (Some old, None) ((None, Some fresh) ∷ []) d there) [
          | inl same ↦ subst AreTrue same
              (left_true old h (gone (λ e. both_ways (old.id == fresh.id) is (eq-eqb old.id fresh.id (sym e)))))
          | inr later ↦ single_true (None, Some fresh) d
              (came_true fresh k (came (λ e. both_ways (old.id == fresh.id) is (eq-eqb old.id fresh.id e)))) later
        ]

    some_same : (a b : ServiceRow) → Some a ≡ Some b → a ≡ b
    some_same a b e = cc

    never : (x : ServiceRow) → None ≡ Some x → ⊥
    never x e = cc

    pub pair_true : (before after : Option ServiceRow) → IsPair was now before after → (d : Change)
        → Contains (change_between before after) d → (e : ServiceEvent) → Contains (events_for tree d) e
        → tells_truth was now tree e ≡ true
    pair_true None None pair d h = absurd (in_none d h)
    pair_true None (Some fresh) pair d h = single_true (None, Some fresh) d
        (came_true fresh (pair.new_listed fresh refl) (pair.came fresh refl (λ old is. absurd (never old is)))) h
    pair_true (Some old) None pair d h = single_true (Some old, None) d
        (left_true old (pair.old_listed old refl) (pair.gone old refl (λ fresh is. absurd (never fresh is)))) h
    pair_true (Some old) (Some fresh) pair d h = same_true old fresh (pair.old_listed old refl)
        (pair.new_listed fresh refl)
        (λ other. pair.gone old refl (λ y is same. other (ap (λ (r : ServiceRow). r.id) (some_same fresh y is) ∙ same)))
        (λ other. pair.came fresh refl (λ y is same. other (ap (λ (r : ServiceRow). r.id) (some_same old y is) ∙ same)))
        d h
