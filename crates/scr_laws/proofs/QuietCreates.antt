-- The beginning of a Create makes no pass: what it chooses is what is to be chosen now.
use Rattle.std.proofs.Common.{◌≡◌, ◌≤◌, ℕ, ◌+◌, List, [], ◌∷◌, ◌++◌, ap, ◌∙◌, refl, cond, arith, Bool, true, false, ◌&&◌, ◌||◌, inl, inr, ◌⊎◌, Some, None, take}
use Rattle.std.specs.Prelude.{filter, map, not, ◌==◌, flat_map, find}
use Rattle.std.specs.List.{Contains, list_all, list_any}
use Rattle.std.specs.Option.{option_map_or}
use Rattle.std.proofs.lemmas.Bool.{and_from, cases_Bool, eq-eqb, eqb-true, ne_eqb}
use Rattle.callback_orders.specs.declared.callback.Callback.TheVariants.{Create}
use Rattle.component_dto.specs.declared.description.Reference.{Reference}
use Rattle.component_state.specs.declared.component.Component.{Component}
use Rattle.component_state.specs.declared.origin.Choice.{Choice}
use Rattle.component_state.specs.declared.origin.Origin.{Origin}
use Rattle.component_state.specs.Passes.{pass_order_of}
use Rattle.component_state.specs.Periods.{is_current}
use Rattle.component_state.specs.Inside.Misled.{chose_outdated, is_misled, is_outdated}
use Rattle.component_state.specs.Reasons.{choice_at, has_untold_change}
use Rattle.prop_map.specs.declared.properties.Property.{Property}
use Rattle.prop_map.specs.Words.{has, with_places}
use Rattle.reference_match.specs.declared.need.Need.{Need}
use Rattle.reference_match.specs.Needs.{need_of}
use Rattle.reference_match.specs.Targets.{chosen, is_greedy, is_multiple, is_static, targets}
use Rattle.service_registry.specs.declared.row.ServiceRow.{ServiceRow}
use Rattle.scr_world.specs.declared.step.Step.TheVariants.{Begin}
use Rattle.scr_world.specs.declared.instance.Instance.{Instance}
use Rattle.scr_world.specs.declared.world.World.{World}
use Rattle.scr_world.specs.Consequences.{stage_in}
use Rattle.scr_world.specs.Dues.{choice_for, choices, choices_of}
use Rattle.scr_world.specs.Instances.{created_at}
use Rattle.scr_world.specs.Stepping.{before_turn, world_after_step}
use Rattle.scr_world.specs.Worlds.{origins_of, registered_services}
use Rattle.scr_laws.specs.Stills.{IsAtRest, IsKnown, LeavesPass, life_made}
use Rattle.component_state.proofs.Apart.{or_true}

-- ---- a choice of now isn't outdated

has_later : (y : ℕ) (ys xs : List ℕ) → list_all (has ys) xs ≡ true → list_all (has (y ∷ ys)) xs ≡ true
has_later y ys [] all = refl
has_later y ys (x ∷ xs) all = go (has_later y ys xs) (has ys x) refl all
  where
    go : (list_all (has ys) xs ≡ true → list_all (has (y ∷ ys)) xs ≡ true) → (b : Bool) → has ys x ≡ b → (b && list_all (has ys) xs) ≡ true → (((y == x) || has ys x) && list_all (has (y ∷ ys)) xs) ≡ true
    go later true there rest = rw (there, or_true (y == x)) (later rest)
    go later false there rest = cc

has_all : (xs : List ℕ) → list_all (has xs) xs ≡ true
has_all [] = refl
has_all (x ∷ xs) = and_from ((x == x) || has xs x) (list_all (has (x ∷ xs)) xs) (ap (λ b. b || has xs x) (eq-eqb x x refl)) (has_later x xs xs (has_all xs))

has_first : (xs : List ℕ) → list_all (has xs) (take 1 xs) ≡ true
has_first [] = refl
has_first (x ∷ xs) = rw (eq-eqb x x refl) refl

chosen_among : (n : Need) (ts : List ℕ) → list_all (has ts) (chosen n ts) ≡ true
chosen_among n ts = go (is_multiple n.cardinality)
  where
    go : (b : Bool) → list_all (has ts) (cond b ts (take 1 ts)) ≡ true
    go true = has_all ts
    go false = has_first ts

chosen_now : (n : Need) (ts : List ℕ) → is_outdated n (chosen n ts) ts ≡ false
chosen_now n ts = rw (chosen_among n ts, has_all (chosen n ts)) (off (is_greedy n.option))
  where
    off : (b : Bool) → (b && false) ≡ false
    off true = refl
    off false = refl

-- ---- choices by place

find_past : (p : Choice → Bool) (xs ys : List Choice) → find p xs ≡ None → find p (xs ++ ys) ≡ find p ys
find_past p [] ys none = refl
find_past p (x ∷ xs) ys none = go (find_past p xs ys) (p x) none
  where
    go : (find p xs ≡ None → find p (xs ++ ys) ≡ find p ys) → (b : Bool) → cond b (Some x) (find p xs) ≡ None → cond b (Some x) (find p (xs ++ ys)) ≡ find p ys
    go later true some = cc
    go later false none = later none

append_again : (xs ys zs : List Choice) → xs ++ (ys ++ zs) ≡ (xs ++ ys) ++ zs
append_again [] ys zs = refl
append_again (x ∷ xs) ys zs = ap (λ ws. x ∷ ws) (append_again xs ys zs)

module _ (rows : List ServiceRow) (properties : List Property) where
  is_wrong : List Choice → (ℕ × Reference) → Bool
  is_wrong all r = is_static r.1.policy && (let n = need_of properties r.1 in is_outdated n (choice_at all r.0) (targets n rows))

  none_at : (place : ℕ) (r : Reference) (m : ℕ) → place + 1 ≤ m → find (λ (c : Choice). c.reference == m) (choice_for rows properties (place, r)) ≡ None
  none_at place r m above = go (is_static r.policy)
    where
      go : (b : Bool) → find (λ (c : Choice). c.reference == m) (cond b (record { reference = place; services = (let n = need_of properties r in chosen n (targets n rows)) } ∷ []) []) ≡ None
      go true = rw (ne_eqb place m (λ same. omega (arith, same, above))) refl
      go false = refl

  right_at : (front later : List Choice) (place : ℕ) (r : Reference) → find (λ (c : Choice). c.reference == place) front ≡ None → is_wrong (front ++ (choice_for rows properties (place, r) ++ later)) (place, r) ≡ false
  unfolding is_wrong
  right_at front later place r before = go (is_static r.policy)
    where
      go : (b : Bool) → (b && (let n = need_of properties r in is_outdated n (choice_at (front ++ (cond b (record { reference = place; services = chosen n (targets n rows) } ∷ []) [] ++ later)) place) (targets n rows))) ≡ false
      go false = refl
      go true = rw (find_past (λ (c : Choice). c.reference == place) front ((record { reference = place; services = (let n = need_of properties r in chosen n (targets n rows)) } ∷ []) ++ later) before, eq-eqb place place refl)
          (chosen_now (need_of properties r) (targets (need_of properties r) rows))

  right_from : (front : List Choice) (place : ℕ) (refs : List Reference) → ((m : ℕ) → place ≤ m → find (λ (c : Choice). c.reference == m) front ≡ None)
      → list_any (is_wrong (front ++ flat_map (choice_for rows properties) (with_places place refs))) (with_places place refs) ≡ false
  right_from front place [] before = refl
  right_from front place (r ∷ rs) before =
      ap (λ b. b || list_any (is_wrong (front ++ (choice_for rows properties (place, r) ++ flat_map (choice_for rows properties) (with_places (place + 1) rs)))) (with_places (place + 1) rs))
      (right_at front (flat_map (choice_for rows properties) (with_places (place + 1) rs)) place r (before place (omega arith)))
      ∙ ap (λ all. list_any (is_wrong all) (with_places (place + 1) rs)) (append_again front (choice_for rows properties (place, r)) (flat_map (choice_for rows properties) (with_places (place + 1) rs)))
      ∙ right_from (front ++ choice_for rows properties (place, r)) (place + 1) rs
      (λ m above. find_past (λ (c : Choice). c.reference == m) front (choice_for rows properties (place, r)) (before m (omega (arith, above))) ∙ none_at place r m above)

chose_now : (rows : List ServiceRow) (c : Component) (l : Origin) → l.chosen ≡ choices_of rows c → chose_outdated rows c l ≡ false
unfolding is_wrong
chose_now rows c l is = rw (is) (right_from rows c.properties [] 0 c.description.references (λ m above. refl))

-- ---- the new life

lives_added : (is : List Instance) (i : Instance) → origins_of (is ++ i ∷ []) ≡ origins_of is ++ i.origin ∷ []
lives_added [] i = refl
lives_added (j ∷ js) i = ap (λ ls. j.origin ∷ ls) (lives_added js i)

kept_both : (p : Origin → Bool) (ls : List Origin) (l : Origin) → p l ≡ false → filter p (ls ++ l ∷ []) ≡ filter p ls
kept_both p [] l off = ap (λ b. cond b (l ∷ []) []) off
kept_both p (k ∷ ks) l off = ap (λ rest. cond (p k) (k ∷ rest) rest) (kept_both p ks l off)

any_both : (p : Origin → Bool) (ls : List Origin) (l : Origin) → list_any p ls ≡ false → p l ≡ false → list_any p (ls ++ l ∷ []) ≡ false
any_both p [] l none off = rw (off) refl
any_both p (k ∷ ks) l none off = go (any_both p ks l) (p k) none
  where
    go : (list_any p ks ≡ false → p l ≡ false → list_any p (ks ++ l ∷ []) ≡ false) → (b : Bool) → (b || list_any p ks) ≡ false → (b || list_any p (ks ++ l ∷ [])) ≡ false
    go later true some = cc
    go later false rest = later rest off

not_misled : (w : World) (configuration : ℕ) → IsAtRest w → IsKnown w → (c : Component) → Contains (pass_order_of (stage_in w [])) c → is_misled w.entries w.open_periods (registered_services w) c (life_made w configuration) ≡ false
not_misled w configuration rest known c here = go (cases_Bool (configuration == c.number))
  where
    renewed : has_untold_change w.entries c ≡ false
    renewed = rw (rest.behind c (known.there c here)) refl

    off : (b : Bool) → (b && false) ≡ false
    off true = refl
    off false = refl

    well : configuration ≡ c.number → chose_outdated (registered_services w) c (life_made w configuration) ≡ false
    well same = chose_now (registered_services w) c (life_made w configuration) (ap (choices w) same ∙ ap (λ o. option_map_or (choices_of (registered_services w)) o []) (known.found c here))

    go : ((configuration == c.number) ≡ true) ⊎ ((configuration == c.number) ≡ false) → is_misled w.entries w.open_periods (registered_services w) c (life_made w configuration) ≡ false
    go (inl same) = rw (renewed, well (eqb-true configuration c.number same), off (is_current w.open_periods (life_made w configuration)), off (configuration == c.number)) refl
    go (inr other) = rw (other) refl

pub creates_quietly : (turn instance configuration consumer : ℕ) (w : World) → IsAtRest w → IsKnown w → is_current w.open_periods (life_made w configuration) ≡ true → LeavesPass (Begin turn instance configuration consumer Create (choices w configuration)) w
unfolding world_after_step stage_in
creates_quietly turn instance configuration consumer w rest known current =
    let i = created_at (before_turn w) turn instance configuration consumer (choices w configuration) in record {
      place = refl;
      documents = refl;
      registry = refl;
      components = refl;
      open_periods = refl;
      failing = refl;
      lives = rw (lives_added w.instances i) (record {
        leaving = λ c met. ap (λ ls. has (map (λ (l : Origin). l.configuration) ls) c.number) (kept_both (λ l. not (is_current w.open_periods l)) (origins_of w.instances) i.origin (ap not current));
        led = λ c was here. any_both (is_misled w.entries w.open_periods (registered_services w) c) (origins_of w.instances) i.origin (rest.choices c was here) (not_misled w configuration rest known c here);
      });
    }
