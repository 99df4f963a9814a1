-- The targets of a need are as many as the services that meet it, and differ; where there are as many as its minimum, so are the chosen and the desired ones.
use Rattle.std.proofs.Common.{◌≡◌, ◌≤◌, ℕ, suc, List, [], ◌∷◌, ap, sym, ◌∙◌, refl, subst, cond, arith, length, Bool, true, false, ◌||◌, inl, inr, Option, Some, None}
use Rattle.std.specs.Prelude.{filter, map, not, take, negsuc, pos, ◌==◌}
use Rattle.std.proofs.lemmas.Bool.{and_from, and_parts, both_ways, cases_Bool, eq-eqb, eqb-true}
use Rattle.component_state.specs.Inside.Ready.{are_apart}
use Rattle.component_state.proofs.Apart.{apart_kept, not_true}
use Rattle.prop_map.specs.declared.reference_words.Cardinality.{Cardinality}
use Rattle.prop_map.specs.declared.reference_words.Cardinality.TheVariants.{ZeroOrOne, One, ZeroOrMore, OneOrMore}
use Rattle.prop_map.specs.declared.reference_words.Policy.{Policy}
use Rattle.prop_map.specs.declared.reference_words.Policy.TheVariants.{Static, Dynamic}
use Rattle.prop_map.specs.declared.reference_words.PolicyOption.{PolicyOption}
use Rattle.prop_map.specs.declared.reference_words.PolicyOption.TheVariants.{Reluctant, Greedy}
use Rattle.prop_map.specs.declared.value.Value.{Value}
use Rattle.prop_map.specs.declared.value.Value.TheVariants.{Text, Whole, Flag, Texts, Wholes, Flags}
use Rattle.prop_map.specs.Words.{has, in_order, insert_by, is_empty}
use Rattle.reference_match.specs.declared.need.Need.{Need}
use Rattle.reference_match.specs.Needs.{least, minimum_in, raised}
use Rattle.reference_match.specs.Targets.{chosen, desired_by, is_multiple, is_static, meets, targets}
use Rattle.scr_promises.proofs.RegistrySteps.{number_of}
use Rattle.service_registry.specs.Services.{better}
use Rattle.service_registry.specs.declared.row.ServiceRow.{ServiceRow}

-- ---- an order leaves length and numbers

or_both : (a b c : Bool) → (a || (b || c)) ≡ (b || (a || c))
or_both true true c = refl
or_both true false c = refl
or_both false b c = refl

same_back : (a b : ℕ) → (a == b) ≡ false → (b == a) ≡ false
same_back a b off = elim (cases_Bool (b == a)) [
  | inl same ↦ absurd (both_ways (a == b) off (eq-eqb a b (sym (eqb-true b a same))))
  | inr other ↦ other
]

off_parts : (a b : Bool) → (a || b) ≡ false → (a ≡ false) × (b ≡ false)
off_parts true b off = cc
off_parts false b off = (refl, off)

module _ {X : Type 0} (key : X → ℕ) (before : X → X → Bool) where
  inserted_has : (x : X) (ys : List X) (n : ℕ) → has (map key (insert_by before x ys)) n ≡ ((key x == n) || has (map key ys) n)
  inserted_has x [] n = refl
  inserted_has x (y ∷ ys) n = go (before x y) (inserted_has x ys n)
    where
      go : (b : Bool) → has (map key (insert_by before x ys)) n ≡ ((key x == n) || has (map key ys) n) → has (map key (cond b (x ∷ y ∷ ys) (y ∷ insert_by before x ys))) n ≡ ((key x == n) || ((key y == n) || has (map key ys) n))
      go true rest = refl
      go false rest = ap (λ b. (key y == n) || b) rest ∙ or_both (key y == n) (key x == n) (has (map key ys) n)

  ordered_has : (xs : List X) (n : ℕ) → has (map key (in_order before xs)) n ≡ has (map key xs) n
  ordered_has [] n = refl
  ordered_has (x ∷ xs) n = inserted_has x (in_order before xs) n ∙ ap (λ b. (key x == n) || b) (ordered_has xs n)

  inserted_apart : (x : X) (ys : List X) → has (map key ys) (key x) ≡ false → are_apart (map key ys) ≡ true → are_apart (map key (insert_by before x ys)) ≡ true
  inserted_apart x [] off apart = refl
  inserted_apart x (y ∷ ys) off apart = go (before x y) (inserted_apart x ys both.1 parts.1)
    where
      both : ((key y == key x) ≡ false) × (has (map key ys) (key x) ≡ false)
      both = off_parts (key y == key x) (has (map key ys) (key x)) off

      parts : (not (has (map key ys) (key y)) ≡ true) × (are_apart (map key ys) ≡ true)
      parts = and_parts (not (has (map key ys) (key y))) (are_apart (map key ys)) apart

      go : (b : Bool) → are_apart (map key (insert_by before x ys)) ≡ true → are_apart (map key (cond b (x ∷ y ∷ ys) (y ∷ insert_by before x ys))) ≡ true
      go true rest = and_from (not (has (map key (y ∷ ys)) (key x))) (are_apart (map key (y ∷ ys))) (ap not off) apart
      go false rest = and_from (not (has (map key (insert_by before x ys)) (key y))) (are_apart (map key (insert_by before x ys)))
          (ap not (inserted_has x ys (key y) ∙ ap (λ b. b || has (map key ys) (key y)) (same_back (key y) (key x) both.0) ∙ not_true (has (map key ys) (key y)) parts.0)) rest

  ordered_apart : (xs : List X) → are_apart (map key xs) ≡ true → are_apart (map key (in_order before xs)) ≡ true
  ordered_apart [] apart = refl
  ordered_apart (x ∷ xs) apart =
      let parts = and_parts (not (has (map key xs) (key x))) (are_apart (map key xs)) apart in
      inserted_apart x (in_order before xs) (ordered_has xs (key x) ∙ not_true (has (map key xs) (key x)) parts.0) (ordered_apart xs parts.1)

  inserted_long : (x : X) (ys : List X) → length (map key (insert_by before x ys)) ≡ suc (length ys)
  inserted_long x [] = refl
  inserted_long x (y ∷ ys) = go (before x y) (inserted_long x ys)
    where
      same : (zs : List X) → length (map key zs) ≡ length zs
      same [] = refl
      same (z ∷ zs) = ap suc (same zs)

      go : (b : Bool) → length (map key (insert_by before x ys)) ≡ suc (length ys) → length (map key (cond b (x ∷ y ∷ ys) (y ∷ insert_by before x ys))) ≡ suc (suc (length ys))
      go true rest = ap (λ n. suc (suc n)) (same ys)
      go false rest = ap suc rest

  long_mapped : (zs : List X) → length (map key zs) ≡ length zs
  long_mapped [] = refl
  long_mapped (z ∷ zs) = ap suc (long_mapped zs)

  ordered_long : (xs : List X) → length (map key (in_order before xs)) ≡ length xs
  ordered_long [] = refl
  ordered_long (x ∷ xs) = inserted_long x (in_order before xs) ∙ ap suc (sym (long_mapped (in_order before xs)) ∙ ordered_long xs)

-- ---- targets

-- so many different services
pub record AreEnough (count : ℕ) (services : List ℕ) : Type 0 where
  pub different : are_apart services ≡ true
  pub enough : count ≤ length services

pub fewer : {more less : ℕ} {services : List ℕ} → AreEnough more services → less ≤ more → AreEnough less services
fewer are low = record { different = are.different; enough = (let many = are.enough in omega (arith, low, many)) }

pub targets_enough : (n : Need) (rows : List ServiceRow) (count : ℕ) → are_apart (map number_of rows) ≡ true → count ≤ length (filter (meets n) rows) → AreEnough count (targets n rows)
targets_enough n rows count apart many = record {
  different = ordered_apart number_of better (filter (meets n) rows) (apart_kept number_of (meets n) rows apart);
  enough = subst (λ m. count ≤ m) (sym (ordered_long number_of better (filter (meets n) rows))) many;
}

-- ---- the best one is enough for a unary reference

raised_low : (cardinality : Cardinality) (n : ℕ) → is_multiple cardinality ≡ false → raised cardinality n ≤ 1
raised_low ZeroOrOne n unary = go (n == 1)
  where
    go : (b : Bool) → cond b 1 0 ≤ 1
    go true = omega arith
    go false = omega arith
raised_low One n unary = omega arith
raised_low ZeroOrMore n unary = cc
raised_low OneOrMore n unary = cc

least_low : (cardinality : Cardinality) → is_multiple cardinality ≡ false → least cardinality ≤ 1
least_low ZeroOrOne unary = omega arith
least_low One unary = omega arith
least_low ZeroOrMore unary = cc
least_low OneOrMore unary = cc

pub minimum_low : (cardinality : Cardinality) (v : Option Value) → is_multiple cardinality ≡ false → minimum_in cardinality v ≤ 1
minimum_low cardinality None unary = least_low cardinality unary
minimum_low cardinality (Some (Text t)) unary = least_low cardinality unary
minimum_low cardinality (Some (Whole (pos n))) unary = raised_low cardinality n unary
minimum_low cardinality (Some (Whole (negsuc n))) unary = least_low cardinality unary
minimum_low cardinality (Some (Flag b)) unary = least_low cardinality unary
minimum_low cardinality (Some (Texts ts)) unary = least_low cardinality unary
minimum_low cardinality (Some (Wholes ns)) unary = least_low cardinality unary
minimum_low cardinality (Some (Flags bs)) unary = least_low cardinality unary

one_enough : (services : List ℕ) (count : ℕ) → count ≤ 1 → count ≤ length services → AreEnough count (take 1 services)
one_enough [] count low many = record { different = refl; enough = many }
one_enough (s ∷ ss) count low many = record { different = refl; enough = low }

some_enough : (services : List ℕ) (count : ℕ) → count ≤ 1 → is_empty services ≡ false → AreEnough count (take 1 services)
some_enough [] count low off = cc
some_enough (s ∷ ss) count low off = record { different = refl; enough = low }

-- ---- what is chosen, and what a dynamic reference desires

pub chosen_enough : (n : Need) (services : List ℕ) (count : ℕ) → AreEnough count services → (is_multiple n.cardinality ≡ false → count ≤ 1) → AreEnough count (chosen n services)
chosen_enough n services count are low = go (is_multiple n.cardinality) low
  where
    go : (b : Bool) → (b ≡ false → count ≤ 1) → AreEnough count (cond b services (take 1 services))
    go true l = are
    go false l = one_enough services count (l refl) are.enough

pub dynamic_enough : (policy : Policy) (option : PolicyOption) (multiple : Bool) (choice held services : List ℕ) (count : ℕ) → is_static policy ≡ false → AreEnough count services → (multiple ≡ false → count ≤ 1)
    → AreEnough count (desired_by policy option multiple choice held services)
dynamic_enough Static option multiple choice held services count off are low = cc
dynamic_enough Dynamic option true choice held services count off are low = are
dynamic_enough Dynamic Greedy false choice held services count off are low = one_enough services count (low refl) are.enough
dynamic_enough Dynamic Reluctant false choice held services count off are low = go (is_empty (filter (has held) services)) refl
  where
    go : (b : Bool) → is_empty (filter (has held) services) ≡ b → AreEnough count (cond b (take 1 services) (take 1 (filter (has held) services)))
    go true is = one_enough services count (low refl) are.enough
    go false is = some_enough (filter (has held) services) count (low refl) is
