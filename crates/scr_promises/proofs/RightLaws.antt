-- A quiet world of a legal journal is right.
use Rattle.std.proofs.Common.{◌≡◌, ℕ, List, [], ◌∷◌, ◌++◌, ap, sym, ◌∙◌, refl, cond, Bool, true, false, ◌&&◌, ◌||◌, inl, inr, append-nil}
use Rattle.std.specs.Prelude.{filter, map, not, take, ◌==◌}
use Rattle.std.specs.List.{Contains}
use Rattle.std.proofs.lemmas.Bool.{and_from, cases_Bool, eqb-true, or_left, or_right}
use Rattle.callback_orders.specs.Lives.{held_for}
use Rattle.component_state.specs.declared.component.Component.{Component}
use Rattle.component_state.specs.declared.origin.Origin.{Origin}
use Rattle.component_state.specs.Components.{numbers_of}
use Rattle.component_state.specs.Marks.{held_back, with_leaving}
use Rattle.component_state.specs.Periods.{is_current, is_open}
use Rattle.component_state.specs.Reasons.{choice_at}
use Rattle.component_state.specs.Scratch.{offering, open_from_scratch, satisfied}
use Rattle.component_state.proofs.Apart.{in_first, in_rest}
use Rattle.prop_map.specs.Words.{has, same_set, with_places}
use Rattle.prop_map.specs.declared.reference_words.Policy.{Policy}
use Rattle.prop_map.specs.declared.reference_words.Policy.TheVariants.{Static, Dynamic}
use Rattle.prop_map.specs.declared.reference_words.PolicyOption.{PolicyOption}
use Rattle.prop_map.specs.declared.reference_words.PolicyOption.TheVariants.{Reluctant, Greedy}
use Rattle.reference_match.specs.Needs.{need_of}
use Rattle.reference_match.specs.Targets.{chosen, desired_by, is_greedy, is_multiple, is_static}
use Rattle.component_dto.specs.declared.description.Reference.{Reference}
use Rattle.callback_orders.specs.declared.instance_view.InstanceView.{InstanceView}
use Rattle.scr_promises.specs.Endings.{outlives_consumer}
use Rattle.scr_promises.proofs.ViewedReferences.{has_sorted}
use Rattle.scr_promises.proofs.KnownLaws.{current_from}
use Rattle.scr_laws.proofs.Legal.{legal_scratch}
use Rattle.scr_promises.proofs.AllActive.{HoldsDesired, all_active, board_holds, made_holds}
use Rattle.scr_promises.proofs.GoingOn.{GoesOn, board_goes_on, made_goes_on}
use Rattle.scr_promises.proofs.NoneEnding.{none_ending}
use Rattle.scr_promises.proofs.Quietness.{none_missing}
use Rattle.scr_promises.proofs.Sets.{set_same, set_to}
use Rattle.scr_promises.proofs.Waits.{all_from}
use Rattle.scr_world.specs.Instances.{has_failed, is_active_instance}
use Rattle.scr_world.specs.Legal.{IsLegal}
use Rattle.scr_world.specs.Levels.{levels_of}
use Rattle.scr_world.specs.Lists.{world_of}
use Rattle.scr_world.specs.Quiet.{IsQuiet, IsRight, holds_right}
use Rattle.scr_world.specs.Steps.{History}
use Rattle.scr_world.specs.Tables.{descriptions_of}
use Rattle.scr_world.specs.Views.{desired_services, ends, properties_in, references_in, targets_for, view_of, whiteboard_view}
use Rattle.scr_world.specs.Worlds.{direct_services, origins_of, satisfied_in, sorted}
use Rattle.scr_world.specs.declared.instance.Instance.{Instance}
use Rattle.scr_world.specs.declared.world.World.{World}

-- ---- what is open: no instance of a period that has ended holds back

out_first : (same out rest : Bool) → (same ≡ true → out ≡ true) → (rest && not out) ≡ ((same || rest) && not out)
out_first true out rest is = let here = is refl in ap (λ b. rest && not b) here ∙ and_nothing rest ∙ sym (ap not here)
  where
    and_nothing : (b : Bool) → (b && false) ≡ false
    and_nothing true = refl
    and_nothing false = refl
out_first false out rest is = refl

in_here : (same out rest : Bool) → (same ≡ true → out ≡ false) → (same || (rest && not out)) ≡ ((same || rest) && not out)
in_here true out rest is = sym (ap not (is refl))
in_here false out rest is = refl

-- the numbers of those that aren't left out
has_offering : (out : List ℕ) (cs : List Component) (n : ℕ) → has (numbers_of (offering out cs)) n ≡ (has (numbers_of cs) n && not (has out n))
has_offering out [] n = refl
has_offering out (c ∷ cs) n = go (has out c.number) refl (has_offering out cs n)
  where
    at : (b : Bool) → has out c.number ≡ b → (c.number == n) ≡ true → has out n ≡ b
    at b is same = ap (has out) (sym (eqb-true c.number n same)) ∙ is

    go : (b : Bool) → has out c.number ≡ b → has (numbers_of (offering out cs)) n ≡ (has (numbers_of cs) n && not (has out n))
        → has (numbers_of (cond (not b) (c ∷ offering out cs) (offering out cs))) n ≡ (((c.number == n) || has (numbers_of cs) n) && not (has out n))
    go true is rest = rest ∙ out_first (c.number == n) (has out n) (has (numbers_of cs) n) (at true is)
    go false is rest = ap (λ b. (c.number == n) || b) rest ∙ in_here (c.number == n) (has out n) (has (numbers_of cs) n) (at false is)

-- without instances of a period that has ended none is left
none_leaving : (w : World) (is : List Instance) → ((i : Instance) → Contains is i → is_current w.open_periods i.origin ≡ true) → with_leaving w.open_periods (origins_of is) ≡ []
none_leaving w [] each = refl
none_leaving w (i ∷ is) each =
    let rest = filter (λ (o : Origin). not (is_current w.open_periods o)) (origins_of is) in
    ap (λ b. map (λ (o : Origin). o.configuration) (cond (not b) (i.origin ∷ rest) rest)) (each i (in_first i is)) ∙ none_leaving w is (λ x h. each x (in_rest i is x h))

-- ---- what a greedy reference holds

dynamic_greedy : (policy : Policy) (option : PolicyOption) (multiple : Bool) (choice held services : List ℕ) → is_static policy ≡ false → is_greedy option ≡ true → desired_by policy option multiple choice held services ≡ cond multiple services (take 1 services)
dynamic_greedy Static option multiple choice held services off greedy = cc
dynamic_greedy Dynamic Reluctant multiple choice held services off greedy = cc
dynamic_greedy Dynamic Greedy true choice held services off greedy = refl
dynamic_greedy Dynamic Greedy false choice held services off greedy = refl

pub static_desired : (policy : Policy) (option : PolicyOption) (multiple : Bool) (choice held services : List ℕ) → is_static policy ≡ true → desired_by policy option multiple choice held services ≡ choice
static_desired Static option multiple choice held services on = refl
static_desired Dynamic option multiple choice held services on = cc

-- one that goes on and holds what it desires holds for a greedy reference what it would choose now
greedy_held : (w : World) (i : Instance) (v : InstanceView) → GoesOn w i v → HoldsDesired w i → (r : ℕ × Reference) → Contains (with_places 0 (references_in w i)) r → is_greedy r.1.policy_option ≡ true
    → same_set (held_for r.1.name i.callbacks) (chosen (need_of (properties_in w i) r.1) (targets_for w i r.1)) ≡ true
greedy_held w i v on holds r in_r greedy = elim (cases_Bool (is_static r.1.policy)) [
  | inl static ↦ set_same held now (λ s. holds r in_r s
      ∙ ap (λ ns. has ns s) (static_desired r.1.policy r.1.policy_option (is_multiple r.1.cardinality) (sorted w choice) held services static)
      ∙ has_sorted w choice s ∙ set_to choice now ((on.stand r in_r static).greedy greedy) s)
  | inr dynamic ↦ set_same held now (λ s. holds r in_r s ∙ ap (λ ns. has ns s) (dynamic_greedy r.1.policy r.1.policy_option (is_multiple r.1.cardinality) (sorted w choice) held services dynamic greedy))
]
  where
    held : List ℕ
    held = held_for r.1.name i.callbacks

    services : List ℕ
    services = targets_for w i r.1

    now : List ℕ
    now = chosen (need_of (properties_in w i) r.1) services

    choice : List ℕ
    choice = choice_at i.origin.chosen r.0

holds_each : (w : World) (i : Instance) (v : InstanceView) → GoesOn w i v → HoldsDesired w i → (r : ℕ × Reference) → Contains (with_places 0 (references_in w i)) r → holds_right false w i r ≡ true
holds_each w i v on holds r in_r = and_from (same_set held (desired_services w i r.0 r.1)) (not (is_greedy r.1.policy_option) || same_set held now) (set_same held (desired_services w i r.0 r.1) (holds r in_r)) (elim (cases_Bool (is_greedy r.1.policy_option)) [
  | inl greedy ↦ or_right (not (is_greedy r.1.policy_option)) (same_set held now) (greedy_held w i v on holds r in_r greedy)
  | inr other ↦ or_left (not (is_greedy r.1.policy_option)) (same_set held now) (ap not other)
])
  where
    held : List ℕ
    held = held_for r.1.name i.callbacks

    now : List ℕ
    now = chosen (need_of (properties_in w i) r.1) (targets_for w i r.1)

-- ---- all of it

module _ (limit : ℕ) (past : History) (legal : IsLegal limit past) (quiet : IsQuiet (world_of past)) where
  abbrev w : World
  w = world_of past

  abbrev goes_on : (i : Instance) → Contains w.instances i → ends w i ≡ false
  goes_on = none_ending limit past legal quiet

  held_back_failed : held_back w.failed w.open_periods (origins_of w.instances) ≡ w.failed
  held_back_failed =
      ap (λ ns. w.failed ++ ns) (none_leaving w w.instances (λ i h. current_from (is_current w.open_periods i.origin) (outlives_consumer w i) (has_failed i.callbacks) (goes_on i h)))
      ∙ append-nil w.failed

  just_open : (n : ℕ) → is_open w.open_periods n ≡ has (open_from_scratch (descriptions_of w.documents) (levels_of (descriptions_of w.documents)) (direct_services w) w.open_periods w.components w.failed) n
  unfolding satisfied_in
  just_open n =
      let ds = descriptions_of w.documents in
      let met = satisfied ds (levels_of ds) (direct_services w) w.open_periods w.components in
      legal_scratch limit past legal n ∙ ap (λ (out : List ℕ). has (numbers_of (met out)) n && not (has out n)) held_back_failed ∙ sym (has_offering w.failed (met w.failed) n)

  holds_all : (i : Instance) → Contains w.instances i → (r : ℕ × Reference) → Contains (with_places 0 (references_in w i)) r → holds_right (ends w i) w i r ≡ true
  holds_all i h r in_r =
      ap (λ e. holds_right e w i r) (goes_on i h) ∙ holds_each w i (view_of w i) (made_goes_on limit past legal i h (goes_on i h)) (made_holds limit past legal quiet i h (goes_on i h)) r in_r

  right : IsRight w
  right = record {
    open_ones = just_open;
    active = all_from (λ (i : Instance). is_active_instance i && not (ends w i)) w.instances
        (λ i h. and_from (is_active_instance i) (not (ends w i)) (all_active limit past legal quiet i h (goes_on i h)) (ap not (goes_on i h)));
    none_missing = none_missing w quiet;
    held = λ i h. all_from (holds_right (ends w i) w i) (with_places 0 (references_in w i)) (holds_all i h);
    whiteboard = all_from (holds_right false w w.whiteboard) (with_places 0 (references_in w w.whiteboard))
        (holds_each w w.whiteboard (whiteboard_view w) (board_goes_on limit past legal) (board_holds limit past legal quiet));
  }

pub quiet_is_right : (limit : ℕ) (past : History) → IsLegal limit past → IsQuiet (world_of past) → IsRight (world_of past)
quiet_is_right limit past legal quiet = right limit past legal quiet
