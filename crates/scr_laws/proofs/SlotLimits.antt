-- No more than 66,048 instances live, and so slots are below that. There is one for each key, and a key is one of 512 component configurations with one of
-- 128 bundles, or none.
use Rattle.std.proofs.Common.{◌≡◌, ◌<◌, ◌≤◌, ◌⊎◌, ℕ, zero, suc, ◌+◌, ◌*◌, List, [], ◌∷◌, length, ap, sym, ◌∙◌, refl, subst, cond, arith, Bool, true, false, ◌&&◌, ◌||◌, inl, inr, Option, Some, None}
use Rattle.std.specs.Prelude.{filter, map, not, ◌==◌}
use Rattle.std.specs.List.{Contains, list_any}
use Rattle.std.specs.Option.{option_map_or}
use Rattle.std.proofs.lemmas.Bool.{and_from, and_parts, both_ways, cases_Bool, eq-eqb, eqb-true}
use Rattle.bundle_life.specs.declared.bundle.BundleLife.{BundleLife}
use Rattle.bundle_life.specs.Lives.{bundle_of}
use Rattle.component_state.specs.declared.component.Component.{Component}
use Rattle.component_state.specs.Components.{numbers_of}
use Rattle.component_state.specs.Inside.Ready.{are_apart}
use Rattle.component_state.proofs.Apart.{any_from, apart_kept, in_first, in_none, in_rest, kept_from, kept_short, kept_was, key_in, keyed, mapped_long, no_longer, not_true, or_true}
use Rattle.journal_core.specs.declared.entry.Entry.{Entry}
use Rattle.prop_map.specs.Words.{has}
use Rattle.scr_laws.proofs.Sounding.{AreHoused, is_up, legal_housed, up_bundle}
use Rattle.scr_laws.specs.Slots.{HaveOwnSlots, IsLowestFree, WasThere}
use Rattle.scr_laws.proofs.SlotLaws.{crowded, slots_differ_in, slots_taken}
use Rattle.scr_laws.specs.Keys.{HaveOwnKeys}
use Rattle.scr_laws.proofs.ComponentLimits.{components_within}
use Rattle.scr_laws.proofs.ConsumerLaws.{IsFor, legal_consumers}
use Rattle.scr_laws.proofs.KeyLaws.{keys_one}
use Rattle.scr_laws.proofs.LimitLaws.{legal_within}
use Rattle.scr_world.specs.Legal.{IsLegal}
use Rattle.scr_world.specs.Lists.{world_of}
use Rattle.scr_world.specs.Steps.{History}
use Rattle.scr_world.specs.Stepping.{counted_components, is_counted}
use Rattle.scr_world.specs.declared.instance.Instance.{Instance}
use Rattle.scr_world.specs.declared.step.Step.{Step}
use Rattle.scr_world.specs.declared.world.World.{World}

-- ---- items in groups

split_long : {X : Type 0} (t : X → Bool) (xs : List X) → length xs ≡ length (filter t xs) + length (filter (λ x. not (t x)) xs)
split_long t [] = omega arith
split_long t (x ∷ xs) = go (t x) (split_long t xs)
  where
    go : (b : Bool) → length xs ≡ length (filter t xs) + length (filter (λ y. not (t y)) xs)
        → suc (length xs) ≡ length (cond b (x ∷ filter t xs) (filter t xs)) + length (cond (not b) (x ∷ filter (λ y. not (t y)) xs) (filter (λ y. not (t y)) xs))
    go true rest = omega (arith, rest)
    go false rest = omega (arith, rest)

fewer_twice : {X : Type 0} (t u : X → Bool) (xs : List X) → length (filter t (filter u xs)) ≤ length (filter t xs)
fewer_twice t u [] = omega arith
fewer_twice t u (x ∷ xs) = go (u x) (fewer_twice t u xs)
  where
    inner : (b : Bool) → length (filter t (filter u xs)) ≤ length (filter t xs) → length (cond b (x ∷ filter t (filter u xs)) (filter t (filter u xs))) ≤ length (cond b (x ∷ filter t xs) (filter t xs))
    inner true low = omega (arith, low)
    inner false low = low

    more : (b : Bool) → length (filter t (filter u xs)) ≤ length (filter t xs) → length (filter t (filter u xs)) ≤ length (cond b (x ∷ filter t xs) (filter t xs))
    more true low = omega (arith, low)
    more false low = low

    go : (b : Bool) → length (filter t (filter u xs)) ≤ length (filter t xs) → length (filter t (cond b (x ∷ filter u xs) (filter u xs))) ≤ length (cond (t x) (x ∷ filter t xs) (filter t xs))
    go true low = inner (t x) low
    go false low = more (t x) low

-- where each item has one of these numbers, and no more than 129 have the same, there are no more than both say
module _ {X : Type 0} (key : X → ℕ) where
  grouped : (ns : List ℕ) (xs : List X) → ((x : X) → Contains xs x → has ns (key x) ≡ true) → ((n : ℕ) → length (filter (λ x. key x == n) xs) ≤ 129) → length xs ≤ length ns * 129
  grouped [] [] each few = omega arith
  grouped [] (x ∷ xs) each few = absurd (both_ways (has [] (key x)) refl (each x (in_first x xs)))
  grouped (n ∷ ns) xs each few =
      let both = split_long (λ x. key x == n) xs in
      let rest = grouped ns (filter (λ x. not (key x == n)) xs) later (λ m. let low = fewer_twice (λ x. key x == m) (λ x. not (key x == n)) xs in let all = few m in omega (arith, low, all)) in
      let here = few n in
      omega (arith, both, rest, here)
    where
      later : (x : X) → Contains (filter (λ y. not (key y == n)) xs) x → has ns (key x) ≡ true
      later x h =
          let was = kept_was (λ y. not (key y == n)) xs x h in
          ap (λ b. b || has ns (key x)) (sym (other (key x) (not_true (key x == n) was.1))) ∙ each x was.0
        where
          other : (k : ℕ) → (k == n) ≡ false → (n == k) ≡ false
          other k off = elim (cases_Bool (n == k)) [
            | inl same ↦ absurd (both_ways (k == n) off (eq-eqb k n (sym (eqb-true n k same))))
            | inr different ↦ different
          ]

-- what tells items apart that are apart by another number
pub apart_by : {X : Type 0} (slot key : X → ℕ) (xs : List X) → are_apart (map slot xs) ≡ true → ((x y : X) → Contains xs x → Contains xs y → key x ≡ key y → x ≡ y) → are_apart (map key xs) ≡ true
apart_by slot key [] apart one = refl
apart_by slot key (x ∷ xs) apart one =
    let parts = and_parts (not (has (map slot xs) (slot x))) (are_apart (map slot xs)) apart in
    and_from (not (has (map key xs) (key x))) (are_apart (map key xs)) (ap not (off (not_true (has (map slot xs) (slot x)) parts.0) (cases_Bool (has (map key xs) (key x)))))
    (apart_by slot key xs parts.1 (λ y z h k same. one y z (in_rest x xs y h) (in_rest x xs z k) same))
  where
    off : has (map slot xs) (slot x) ≡ false → (has (map key xs) (key x) ≡ true) ⊎ (has (map key xs) (key x) ≡ false) → has (map key xs) (key x) ≡ false
    off none (inr is) = is
    off none (inl is) =
        let found = keyed key xs (key x) is in
        let same = one found.0 x (in_rest x xs found.0 found.1) (in_first x xs) found.2 in
        absurd (both_ways (has (map slot xs) (slot x)) none (ap (has (map slot xs)) (ap slot (sym same)) ∙ key_in slot xs found.0 found.1))

-- ---- instances

module _ (w : World) (housed : AreHoused w.bundles.rows w.documents w.components w.instances) (consumers : (i : Instance) → Contains w.instances i → IsFor w.bundles.rows i.consumer)
    (slots : HaveOwnSlots w.instances) (keys : HaveOwnKeys w) (bundles : length w.bundles.rows ≤ 128) where
  is_there : (n : ℕ) → IsFor w.bundles.rows n → has (0 ∷ map (λ (b : BundleLife). b.number) w.bundles.rows) n ≡ true
  is_there n (inl all) = ap (λ b. b || has (map (λ (b : BundleLife). b.number) w.bundles.rows) n) (eq-eqb 0 n (sym all))
  is_there n (inr up) = ap (λ b. (0 == n) || b) (row w.bundles.rows up) ∙ or_true (0 == n)
    where
      row : (rows : List BundleLife) → is_up rows n ≡ true → has (map (λ (b : BundleLife). b.number) rows) n ≡ true
      row [] h = cc
      row (b ∷ bs) h = go (b.number == n) h (row bs)
        where
          go : (k : Bool) → option_map_or up_bundle (cond k (Some b) (bundle_of bs n)) false ≡ true → (is_up bs n ≡ true → has (map (λ (c : BundleLife). c.number) bs) n ≡ true) → (k || has (map (λ (c : BundleLife). c.number) bs) n) ≡ true
          go true is later = refl
          go false is later = later is

  of_counted : (i : Instance) → Contains w.instances i → has (numbers_of (counted_components w)) i.origin.configuration ≡ true
  of_counted i h =
      let home = housed.homes i h in
      let counted = kept_from (is_counted w.instances) w.components home.0 home.1.0
      (ap (λ b. home.0.exists || b) (any_from (λ (j : Instance). j.origin.configuration == home.0.number) w.instances i h (eq-eqb i.origin.configuration home.0.number (sym home.1.1.0))) ∙ or_true home.0.exists) in
      ap (has (numbers_of (counted_components w))) (sym home.1.1.0) ∙ key_in (λ (c : Component). c.number) (counted_components w) home.0 counted

  few_each : (n : ℕ) → length (filter (λ (i : Instance). i.origin.configuration == n) w.instances) ≤ 129
  few_each n =
      let group = filter (λ (i : Instance). i.origin.configuration == n) w.instances in
      let apart = apart_by (λ (i : Instance). i.slot) (λ (i : Instance). i.consumer) group (apart_kept (λ (i : Instance). i.slot) (λ (i : Instance). i.origin.configuration == n) w.instances slots)
      (λ i j h k same. let a = kept_was (λ (x : Instance). x.origin.configuration == n) w.instances i h in let b = kept_was (λ (x : Instance). x.origin.configuration == n) w.instances j k in
      keys i j a.0 b.0 (eqb-true i.origin.configuration n a.1 ∙ sym (eqb-true j.origin.configuration n b.1)) same) in
      let low = no_longer (map (λ (i : Instance). i.consumer) group) (0 ∷ map (λ (b : BundleLife). b.number) w.bundles.rows) apart
      (λ m is. let found = keyed (λ (i : Instance). i.consumer) group m is in ap (has (0 ∷ map (λ (b : BundleLife). b.number) w.bundles.rows)) (sym found.2)
      ∙ is_there found.0.consumer (consumers found.0 (kept_was (λ (x : Instance). x.origin.configuration == n) w.instances found.0 found.1).0)) in
      let one = mapped_long (λ (i : Instance). i.consumer) group in
      let two = mapped_long (λ (b : BundleLife). b.number) w.bundles.rows in
      omega (arith, low, one, two, bundles)

  few_instances : length w.instances ≤ length (counted_components w) * 129
  few_instances =
      let low = grouped (λ (i : Instance). i.origin.configuration) (numbers_of (counted_components w)) w.instances of_counted few_each in
      let same = mapped_long (λ (c : Component). c.number) (counted_components w) in
      subst (λ n. length w.instances ≤ n * 129) same low

pub instances_within : (limit : ℕ) (past : History) → IsLegal limit past → length (world_of past).instances ≤ 66048
instances_within limit past legal =
    let w = world_of past in
    let low = few_instances w (legal_housed limit past legal) (legal_consumers limit past legal) (slots_differ_in past) (keys_one limit past legal) (legal_within limit past legal).bundles in
    let components = components_within limit past legal in
    omega (arith, low, components)

-- ---- slots

-- the lowest free slot is no higher than there are instances
free_low : (is : List Instance) (slot : ℕ) → IsLowestFree is slot → slot ≤ length is
free_low is slot lowest =
    let many = crowded slot (map (λ (i : Instance). i.slot) is) (λ k low. let taken = lowest.1 k low in ap (has (map (λ (i : Instance). i.slot) is)) (sym taken.2) ∙ key_in (λ (i : Instance). i.slot) is taken.0 taken.1) in
    let same = mapped_long (λ (i : Instance). i.slot) is in
    omega (arith, many, same)

pub slots_low : (limit : ℕ) (past : History) → IsLegal limit past → (i : Instance) → Contains (world_of past).instances i → i.slot ≤ 66048
unfolding world_of
slots_low limit [] legal i h = absurd (in_none i h)
slots_low limit (entry ∷ past) legal i h = elim (slots_taken entry past i h) [
  | inl was ↦ (let low = slots_low limit past legal.1 was.0 was.1 in omega (arith, low, was.3))
  | inr lowest ↦ (let low = free_low (world_of past).instances i.slot lowest in let few = instances_within limit past legal.1 in omega (arith, low, few))
]
