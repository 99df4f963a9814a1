-- No bundle stops by a step that leaves bundles and instances.
use Rattle.std.proofs.Common.{◌≡◌, ℕ, List, [], ◌∷◌, ◌++◌, ap, sym, ◌∙◌, refl, subst, cond, Bool, true, false, ◌&&◌, ◌||◌, inl, inr, Some}
use Rattle.std.specs.Prelude.{filter, find, map, not, ◌==◌}
use Rattle.std.specs.List.{Contains, list_any}
use Rattle.std.specs.Option.{option_map_or}
use Rattle.std.proofs.lemmas.Bool.{both_ways, cases_Bool, eq-eqb, eqb-true}
use Rattle.bundle_life.specs.declared.bundle.BundleLife.{BundleLife}
use Rattle.bundle_life.specs.declared.bundle.BundleState.TheVariants.{Resolved}
use Rattle.bundle_life.specs.Lives.{is_stopping, resolved_among}
use Rattle.component_state.specs.declared.component.Component.{Component}
use Rattle.component_state.specs.Components.{component_of, declaring_bundle}
use Rattle.journal_core.specs.declared.entry.Entry.{Entry}
use Rattle.prop_map.specs.Words.{has}
use Rattle.scr_world.specs.declared.step.Step.{Step}
use Rattle.scr_world.specs.declared.instance.Instance.{Instance}
use Rattle.scr_world.specs.declared.world.World.{World}
use Rattle.scr_world.specs.Consequences.{has_stopped, keeps_bundle, stopped_by, stopped_in}
use Rattle.scr_world.specs.Lists.{world_after_entry}
use Rattle.scr_world.specs.Stepping.{is_counted, world_after_step}
use Rattle.component_state.proofs.Apart.{any_from, in_first, in_rest, or_true}
use Rattle.scr_laws.proofs.Listed.{in_mapped, kept_in, mapped_was, none_kept}

module _ (cs ds : List Component) (is js : List Instance) (kept : (n : ℕ) → list_any (keeps_bundle cs n) is ≡ true → list_any (keeps_bundle ds n) js ≡ true) where
  one_waits : (b : BundleLife) → has_stopped cs is b ≡ false → has_stopped ds js b ≡ false
  one_waits b off = go (is_stopping b.state) (list_any (keeps_bundle cs b.number) is) refl off
    where
      go : (s k : Bool) → list_any (keeps_bundle cs b.number) is ≡ k → (s && not k) ≡ false → (s && not (list_any (keeps_bundle ds b.number) js)) ≡ false
      go false k is none = refl
      go true true is none = ap not (kept b.number is)
      go true false is none = absurd cc

  -- where each bundle that was kept is kept, none stops that hadn't
  pub all_wait : (rows : List BundleLife) → map (λ (b : BundleLife). b.number) (filter (has_stopped cs is) rows) ≡ [] → map (λ (b : BundleLife). b.number) (filter (has_stopped ds js) rows) ≡ []
  all_wait [] none = refl
  all_wait (b ∷ bs) none = go (has_stopped cs is b) refl none (all_wait bs)
    where
      go : (k : Bool) → has_stopped cs is b ≡ k → map (λ (b : BundleLife). b.number) (cond k (b ∷ filter (has_stopped cs is) bs) (filter (has_stopped cs is) bs)) ≡ [] → (map (λ (b : BundleLife). b.number) (filter (has_stopped cs is) bs) ≡ [] → map (λ (b : BundleLife). b.number) (filter (has_stopped ds js) bs) ≡ [])
          → map (λ (b : BundleLife). b.number) (filter (has_stopped ds js) (b ∷ bs)) ≡ []
      go true is none later = absurd cc
      go false is none later = ap (λ k. map (λ (b : BundleLife). b.number) (cond k (b ∷ filter (has_stopped ds js) bs) (filter (has_stopped ds js) bs))) (one_waits b is) ∙ later none

-- a function that leaves life and consumer leaves what is kept
pub mapped_keep : (cs : List Component) (f : Instance → Instance) → ((i : Instance) → (f i).origin ≡ i.origin) → ((i : Instance) → (f i).consumer ≡ i.consumer) → (n : ℕ) (is : List Instance) → list_any (keeps_bundle cs n) (map f is) ≡ list_any (keeps_bundle cs n) is
mapped_keep cs f life consumer n [] = refl
mapped_keep cs f life consumer n (i ∷ is) =
    ap (λ b. b || list_any (keeps_bundle cs n) (map f is)) (ap (λ l. (declaring_bundle cs l.configuration == n) || ((f i).consumer == n)) (life i) ∙ ap (λ k. (declaring_bundle cs i.origin.configuration == n) || (k == n)) (consumer i))
    ∙ ap (λ b. keeps_bundle cs n i || b) (mapped_keep cs f life consumer n is)

pub added_keep : (cs : List Component) (n : ℕ) (is js : List Instance) → list_any (keeps_bundle cs n) is ≡ true → list_any (keeps_bundle cs n) (is ++ js) ≡ true
added_keep cs n [] js e = absurd cc
added_keep cs n (i ∷ is) js e = go (keeps_bundle cs n i) (added_keep cs n is js) e
  where
    go : (b : Bool) → (list_any (keeps_bundle cs n) is ≡ true → list_any (keeps_bundle cs n) (is ++ js) ≡ true) → (b || list_any (keeps_bundle cs n) is) ≡ true → (b || list_any (keeps_bundle cs n) (is ++ js)) ≡ true
    go true later e = refl
    go false later e = later e

-- ---- those that are forgotten keep no bundle

pub found_kept : {X : Type 0} (p t : X → Bool) (xs : List X) → ((x : X) → p x ≡ true → t x ≡ true) → find p (filter t xs) ≡ find p xs
found_kept p t [] each = refl
found_kept p t (x ∷ xs) each = go (p x) (t x) refl refl (found_kept p t xs each)
  where
    go : (a b : Bool) → p x ≡ a → t x ≡ b → find p (filter t xs) ≡ find p xs → find p (cond b (x ∷ filter t xs) (filter t xs)) ≡ cond a (Some x) (find p xs)
    go true true on kept rest = ap (λ k. cond k (Some x) (find p (filter t xs))) on
    go false true off kept rest = ap (λ k. cond k (Some x) (find p (filter t xs))) off ∙ rest
    go true false on gone rest = absurd (both_ways (t x) gone (each x on))
    go false false off gone rest = rest

pub remembered_found : (all : List Instance) (cs : List Component) (i : Instance) → Contains all i → component_of (filter (is_counted all) cs) i.origin.configuration ≡ component_of cs i.origin.configuration
remembered_found all cs i here = found_kept (λ (c : Component). c.number == i.origin.configuration) (is_counted all) cs
    (λ c same. ap (λ b. c.exists || b) (any_from (λ (j : Instance). j.origin.configuration == c.number) all i here (eq-eqb i.origin.configuration c.number (sym (eqb-true c.number i.origin.configuration same)))) ∙ or_true c.exists)

pub any_within : {X : Type 0} (p q : X → Bool) (xs : List X) → ((x : X) → Contains xs x → p x ≡ q x) → list_any p xs ≡ list_any q xs
any_within p q [] each = refl
any_within p q (x ∷ xs) each = ap (λ b. b || list_any p xs) (each x (in_first x xs)) ∙ ap (λ b. q x || b) (any_within p q xs (λ y h. each y (in_rest x xs y h)))

pub remembered_keep : (all : List Instance) (cs : List Component) (n : ℕ) → list_any (keeps_bundle cs n) all ≡ list_any (keeps_bundle (filter (is_counted all) cs) n) all
remembered_keep all cs n = any_within (keeps_bundle cs n) (keeps_bundle (filter (is_counted all) cs) n) all
    (λ i here. ap (λ o. (option_map_or (λ (c : Component). c.bundle) o 0 == n) || (i.consumer == n)) (sym (remembered_found all cs i here)))

-- ---- after an entry each stopping bundle waits for an instance

resting : (cs : List Component) (is : List Instance) (rows : List BundleLife) → filter (has_stopped cs is) (map (resolved_among (map (λ (b : BundleLife). b.number) (filter (has_stopped cs is) rows))) rows) ≡ []
resting cs is rows = none_kept (has_stopped cs is) (map (resolved_among numbers) rows) gone
  where
    numbers : List ℕ
    numbers = map (λ (b : BundleLife). b.number) (filter (has_stopped cs is) rows)

    one : (b : BundleLife) → Contains rows b → has_stopped cs is (resolved_among numbers b) ≡ false
    one b here = go (has numbers b.number) refl
      where
        go : (k : Bool) → has numbers b.number ≡ k → has_stopped cs is (cond k (record b { state = Resolved }) b) ≡ false
        go true is_in = refl
        go false is_out = elim (cases_Bool (has_stopped cs is b)) [
          | inl on ↦ absurd (both_ways (has numbers b.number) is_out (any_from (λ n. n == b.number) numbers b.number (in_mapped (λ (c : BundleLife). c.number) (filter (has_stopped cs is) rows) b (kept_in (has_stopped cs is) rows b here on)) (eq-eqb b.number b.number refl)))
          | inr off ↦ off
        ]

    gone : (b : BundleLife) → Contains (map (resolved_among numbers) rows) b → has_stopped cs is b ≡ false
    gone b h = let was = mapped_was (resolved_among numbers) rows b h in subst (λ c. has_stopped cs is c ≡ false) was.1.1 (one was.0 was.1.0)

pub none_wait_for_nothing : (w : World) (entry : Entry Step) → entry.stopped ≡ stopped_by entry.step w → stopped_in (world_after_entry entry w) ≡ []
unfolding world_after_entry world_after_step stopped_by stopped_in
none_wait_for_nothing w entry stopped = let m = world_after_step entry.step w in
    ap (λ ns. map (λ (b : BundleLife). b.number) (filter (has_stopped m.components m.instances) (map (resolved_among ns) m.bundles.rows))) stopped
    ∙ ap (λ bs. map (λ (b : BundleLife). b.number) bs) (resting m.components m.instances m.bundles.rows)
