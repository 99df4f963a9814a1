-- What an entry tells a listener leads from the services that matched its filter before to those that match it afterwards.
use Rattle.std.proofs.Common.{◌≡◌, ◌⊎◌, ℕ, [], ◌∷◌, ap, sym, ◌∙◌, refl, subst, cond, Bool, true, false, inl, inr, Option, Some, None}
use Rattle.std.specs.Prelude.{filter, ◌==◌}
use Rattle.std.specs.List.{Contains}
use Rattle.std.proofs.lemmas.Bool.{both_ways, cases_Bool, eq-eqb, eqb-true}
use Rattle.component_state.proofs.Apart.{in_cases, in_first, in_none, in_rest, kept_from, kept_was, key_in, keyed}
use Rattle.ldap_filter.specs.Matching.{matches}
use Rattle.ldap_filter.specs.Trees.{Tree}
use Rattle.prop_map.specs.Words.{has}
use Rattle.scr_promises.specs.Events.{matching, tells_match}
use Rattle.scr_promises.proofs.Statuses.{status, told_it}
use Rattle.scr_world.specs.Lists.{change_between, change_of_one}
use Rattle.scr_world.specs.Readers.{listed}
use Rattle.scr_world.specs.declared.world.World.{World}
use Rattle.service_listeners.specs.Listening.{Change, events_for, one_event}
use Rattle.service_registry.specs.declared.row.ServiceRow.{ServiceRow}

abbrev number_of : ServiceRow → ℕ
number_of r = r.id

-- ---- whether a service matches

module _ (w : World) (tree : Tree) (s : ℕ) where
  abbrev matched : Bool
  matched = has (matching w tree) s

  pub match_on : (x : ServiceRow) → Contains (listed w) x → x.id ≡ s → matches tree x.properties ≡ true → has (matching w tree) s ≡ true
  match_on x h is on = ap (has (matching w tree)) (sym is) ∙ key_in (λ (r : ServiceRow). r.id) (filter (λ (r : ServiceRow). matches tree r.properties) (listed w)) x (kept_from (λ (r : ServiceRow). matches tree r.properties) (listed w) x h on)

  pub match_was : has (matching w tree) s ≡ true → (x : ServiceRow) × Contains (listed w) x × (x.id ≡ s) × (matches tree x.properties ≡ true)
  match_was on =
      let found = keyed (λ (r : ServiceRow). r.id) (filter (λ (r : ServiceRow). matches tree r.properties) (listed w)) s on in
      let kept = kept_was (λ (r : ServiceRow). matches tree r.properties) (listed w) found.0 found.1 in
      (found.0, kept.0, found.2, kept.1)

  pub match_gone : ((x : ServiceRow) → Contains (listed w) x → x.id ≡ s → ⊥) → has (matching w tree) s ≡ false
  match_gone none = elim (cases_Bool (has (matching w tree) s)) [
    | inr off ↦ off
    | inl on ↦ (let x = match_was on in absurd (none x.0 x.1 x.2))
  ]

  pub match_is : ((a b : ServiceRow) → Contains (listed w) a → Contains (listed w) b → a.id ≡ b.id → a ≡ b) → (x : ServiceRow) → Contains (listed w) x → x.id ≡ s → has (matching w tree) s ≡ matches tree x.properties
  match_is one x h is = elim (cases_Bool (has (matching w tree) s)) [
    | inl on ↦ (let y = match_was on in on ∙ sym (ap (λ (r : ServiceRow). matches tree r.properties) (one x y.0 h y.1 (is ∙ sym y.2)) ∙ y.3))
    | inr off ↦ elim (cases_Bool (matches tree x.properties)) [
      | inl on ↦ absurd (both_ways (has (matching w tree) s) off (match_on x h is on))
      | inr different ↦ off ∙ sym different
    ]
  ]

-- ---- the changes of a service before and after

-- two services, one of a world and one of the next: what is gone isn't listed any more
pub record IsPair (was now : World) (before after : Option ServiceRow) : Type 0 where
  pub old_listed : (old : ServiceRow) → before ≡ Some old → Contains (listed was) old
  pub new_listed : (fresh : ServiceRow) → after ≡ Some fresh → Contains (listed now) fresh
  pub gone : (old : ServiceRow) → before ≡ Some old → ((fresh : ServiceRow) → after ≡ Some fresh → fresh.id ≡ old.id → ⊥) → (x : ServiceRow) → Contains (listed now) x → x.id ≡ old.id → ⊥
  pub came : (fresh : ServiceRow) → after ≡ Some fresh → ((old : ServiceRow) → before ≡ Some old → old.id ≡ fresh.id → ⊥) → (x : ServiceRow) → Contains (listed was) x → x.id ≡ fresh.id → ⊥

module _ (was now : World) (tree : Tree) (s : ℕ) (one : (a b : ServiceRow) → Contains (listed now) a → Contains (listed now) b → a.id ≡ b.id → a ≡ b) where
  abbrev then : Bool
  then = has (matching now tree) s

  abbrev pub Keeps : Change → Type 0
  Keeps c = status s then (events_for tree c) ≡ then

  -- a single event keeps what is so, or is of another service
  event_keeps : (value service : ℕ) → (service ≡ s → tells_match (record { value = value; service = service }) ≡ then) → status s then (one_event value service) ≡ then
  event_keeps value service right = go (service == s) refl
    where
      go : (b : Bool) → (service == s) ≡ b → cond b (tells_match (record { value = value; service = service })) (has (matching now tree) s) ≡ has (matching now tree) s
      go true is = right (eqb-true service s is)
      go false is = refl

  came_keeps : (fresh : ServiceRow) → Contains (listed now) fresh → Keeps (None, Some fresh)
  came_keeps fresh h = go (matches tree fresh.properties) refl
    where
      go : (b : Bool) → matches tree fresh.properties ≡ b → status s (has (matching now tree) s) (cond b (one_event 1 fresh.id) []) ≡ has (matching now tree) s
      go true on = event_keeps 1 fresh.id (λ is. sym (match_on now tree s fresh h is on))
      go false off = refl

  left_keeps : (old : ServiceRow) → ((x : ServiceRow) → Contains (listed now) x → x.id ≡ old.id → ⊥) → Keeps (Some old, None)
  left_keeps old gone = go (matches tree old.properties)
    where
      go : (b : Bool) → status s (has (matching now tree) s) (cond b (one_event 4 old.id) []) ≡ has (matching now tree) s
      go true = event_keeps 4 old.id (λ is. sym (match_gone now tree s (λ x h same. gone x h (same ∙ sym is))))
      go false = refl

  set_keeps : (old fresh : ServiceRow) → Contains (listed now) fresh → Keeps (Some old, Some fresh)
  set_keeps old fresh h = go (matches tree fresh.properties) (matches tree old.properties) refl
    where
      go : (a b : Bool) → matches tree fresh.properties ≡ a → status s (has (matching now tree) s) (cond a (one_event 2 fresh.id) (cond b (one_event 8 fresh.id) [])) ≡ has (matching now tree) s
      go true b on = event_keeps 2 fresh.id (λ is. sym (match_on now tree s fresh h is on))
      go false true off = event_keeps 8 fresh.id (λ is. sym (match_is now tree s one fresh h is ∙ off))
      go false false off = refl

  single_keeps : (c d : Change) → Keeps c → Contains (c ∷ []) d → Keeps d
  single_keeps c d keeps h = elim (in_cases c [] d h) [
    | inl same ↦ subst Keeps same keeps
    | inr none ↦ absurd (in_none d none)
  ]

  same_keeps : (old fresh : ServiceRow) → Contains (listed now) fresh → ((fresh.id ≡ old.id → ⊥) → (x : ServiceRow) → Contains (listed now) x → x.id ≡ old.id → ⊥) → (d : Change) → Contains (change_of_one old fresh) d → Keeps d
  same_keeps old fresh h gone d here = go (old.id == fresh.id) (old.revision == fresh.revision) refl here
    where
      go : (a b : Bool) → (old.id == fresh.id) ≡ a → Contains (cond a (cond b [] ((Some old, Some fresh) ∷ [])) ((Some old, None) ∷ (None, Some fresh) ∷ [])) d → Keeps d
      go true true is k = absurd (in_none d k)
      go true false is k = single_keeps (Some old, Some fresh) d (set_keeps old fresh h) k
      go false b is k = elim (in_cases (Some old, None) ((None, Some fresh) ∷ []) d k) [
        | inl same ↦ subst Keeps same (left_keeps old (gone (λ e. both_ways (old.id == fresh.id) is (eq-eqb old.id fresh.id (sym e)))))
        | inr later ↦ single_keeps (None, Some fresh) d (came_keeps fresh h) later
      ]

  pub pair_keeps : (before after : Option ServiceRow) → IsPair was now before after → (d : Change) → Contains (change_between before after) d → Keeps d
  pair_keeps None None pair d h = absurd (in_none d h)
  pair_keeps None (Some fresh) pair d h = single_keeps (None, Some fresh) d (came_keeps fresh (pair.new_listed fresh refl)) h
  pair_keeps (Some old) None pair d h = single_keeps (Some old, None) d (left_keeps old (pair.gone old refl (λ fresh is. none_some fresh is))) h
    where
      none_some : (fresh : ServiceRow) → None ≡ Some fresh → fresh.id ≡ old.id → ⊥
      none_some fresh is = λ e. absurd cc
  pair_keeps (Some old) (Some fresh) pair d h = same_keeps old fresh (pair.new_listed fresh refl) (λ other. pair.gone old refl (λ y is same. other (ap number_of (some_same fresh y is) ∙ same))) d h
    where
      some_same : (a b : ServiceRow) → Some a ≡ Some b → a ≡ b
      some_same a b e = cc

  -- ---- some change makes it so

  abbrev Makes : Bool → Change → Type 0
  Makes b c = status s b (events_for tree c) ≡ then

  -- a service that was there, and matched or didn't
  left_makes : (old : ServiceRow) → old.id ≡ s → then ≡ false → Makes (matches tree old.properties) (Some old, None)
  left_makes old is off = go (matches tree old.properties)
    where
      go : (b : Bool) → status s b (cond b (one_event 4 old.id) []) ≡ has (matching now tree) s
      go true = told_it s true (record { value = 4; service = old.id }) is ∙ sym off
      go false = sym off

  set_makes : (old fresh : ServiceRow) → Contains (listed now) fresh → fresh.id ≡ s → Makes (matches tree old.properties) (Some old, Some fresh)
  set_makes old fresh h is = go (matches tree fresh.properties) (matches tree old.properties) refl
    where
      so : (a : Bool) → matches tree fresh.properties ≡ a → has (matching now tree) s ≡ a
      so a e = match_is now tree s one fresh h is ∙ e

      go : (a b : Bool) → matches tree fresh.properties ≡ a → status s b (cond a (one_event 2 fresh.id) (cond b (one_event 8 fresh.id) [])) ≡ has (matching now tree) s
      go true b on = told_it s b (record { value = 2; service = fresh.id }) is ∙ sym (so true on)
      go false true off = told_it s true (record { value = 8; service = fresh.id }) is ∙ sym (so false off)
      go false false off = sym (so false off)

  came_makes : (fresh : ServiceRow) → Contains (listed now) fresh → fresh.id ≡ s → Makes false (None, Some fresh)
  came_makes fresh h is = go (matches tree fresh.properties) refl
    where
      go : (b : Bool) → matches tree fresh.properties ≡ b → status s false (cond b (one_event 1 fresh.id) []) ≡ has (matching now tree) s
      go true on = told_it s false (record { value = 1; service = fresh.id }) is ∙ sym (match_is now tree s one fresh h is ∙ on)
      go false off = sym (match_is now tree s one fresh h is ∙ off)

  abbrev pub Made : Bool → Option ServiceRow → Option ServiceRow → Type 0
  Made b before after = (b ≡ has (matching now tree) s) ⊎ ((c : Change) × Contains (change_between before after) c × (status s b (events_for tree c) ≡ has (matching now tree) s))

  pub pair_makes_old : (old : ServiceRow) → old.id ≡ s → (after : Option ServiceRow) → IsPair was now (Some old) after → ((fresh : ServiceRow) → after ≡ Some fresh → fresh.id ≡ old.id → fresh.revision ≡ old.revision → fresh ≡ old) → Made (matches tree old.properties) (Some old) after
  pair_makes_old old is None pair same = inr ((Some old, None), in_first (Some old, None) [], left_makes old is (match_gone now tree s (λ x h e. pair.gone old refl (λ fresh none. absurd cc) x h (e ∙ sym is))))
  pair_makes_old old is (Some fresh) pair same = go (old.id == fresh.id) refl (old.revision == fresh.revision) refl
    where
      some_same : (a b : ServiceRow) → Some a ≡ Some b → a ≡ b
      some_same a b e = cc

      go : (a : Bool) → (old.id == fresh.id) ≡ a → (b : Bool) → (old.revision == fresh.revision) ≡ b
          → (matches tree old.properties ≡ has (matching now tree) s) ⊎ ((c : Change) × Contains (cond a (cond b [] ((Some old, Some fresh) ∷ [])) ((Some old, None) ∷ (None, Some fresh) ∷ [])) c × (status s (matches tree old.properties) (events_for tree c) ≡ has (matching now tree) s))
      go true number true revision =
          let it = same fresh refl (sym (eqb-true old.id fresh.id number)) (sym (eqb-true old.revision fresh.revision revision)) in
          inl (ap (λ (r : ServiceRow). matches tree r.properties) (sym it) ∙ sym (match_is now tree s one fresh (pair.new_listed fresh refl) (ap number_of it ∙ is)))
      go true number false revision = inr ((Some old, Some fresh), in_first (Some old, Some fresh) [], set_makes old fresh (pair.new_listed fresh refl) (sym (eqb-true old.id fresh.id number) ∙ is))
      go false number b revision = inr (
        (Some old, None),
        in_first (Some old, None) ((None, Some fresh) ∷ []),
        left_makes old is (match_gone now tree s (λ x h e. pair.gone old refl (λ y some k. both_ways (old.id == fresh.id) number (eq-eqb old.id fresh.id (sym (ap number_of (some_same fresh y some) ∙ k)))) x h (e ∙ sym is))),
      )

  pub pair_makes_new : (fresh : ServiceRow) → fresh.id ≡ s → (before : Option ServiceRow) → IsPair was now before (Some fresh) → ((old : ServiceRow) → before ≡ Some old → old.id ≡ s → ⊥) → Made false before (Some fresh)
  pair_makes_new fresh is None pair none = inr ((None, Some fresh), in_first (None, Some fresh) [], came_makes fresh (pair.new_listed fresh refl) is)
  pair_makes_new fresh is (Some old) pair none = go (old.id == fresh.id) refl (old.revision == fresh.revision)
    where
      go : (a : Bool) → (old.id == fresh.id) ≡ a → (b : Bool)
          → (false ≡ has (matching now tree) s) ⊎ ((c : Change) × Contains (cond a (cond b [] ((Some old, Some fresh) ∷ [])) ((Some old, None) ∷ (None, Some fresh) ∷ [])) c × (status s false (events_for tree c) ≡ has (matching now tree) s))
      go true number b = absurd (none old refl (eqb-true old.id fresh.id number ∙ is))
      go false number b = inr ((None, Some fresh), in_rest (Some old, None) ((None, Some fresh) ∷ []) (None, Some fresh) (in_first (None, Some fresh) []), came_makes fresh (pair.new_listed fresh refl) is)
