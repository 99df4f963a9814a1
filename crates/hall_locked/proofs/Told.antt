-- What instances were told of themselves, over the beginning and the end of a turn.
use Rattle.std.proofs.Common.{◌≡◌, ◌⊎◌, ℕ, ◌+◌, List, [], ◌∷◌, ap, sym, ◌∙◌, refl, subst, cond, true, false, inl, inr, Option, Some, None}
use Rattle.std.specs.Prelude.{find, map, ◌==◌, option_and_then, option_map}
use Rattle.std.specs.List.{Contains}
use Rattle.std.proofs.lemmas.Bool.{and_from, both_ways, cases_Bool, eqb-true, eq-eqb}
use Rattle.callback_orders.specs.declared.callback.Callback.{Callback}
use Rattle.callback_orders.specs.declared.callback.Outcome.{Outcome}
use Rattle.callback_orders.specs.Sequences.{is_outstanding}
use Rattle.component_state.specs.declared.origin.Choice.{Choice}
use Rattle.component_state.proofs.Apart.{in_cases, in_either, in_none, in_rest, kept_was}
use Rattle.journal_core.specs.declared.entry.Entry.{Entry}
use Rattle.hall_locked.specs.OwnedCores.{site_told}
use Rattle.hall_locked.proofs.Sites.{IsLike, SitesStay, WasTold, likes_stay, site_stays}
use Rattle.platform_hall.proofs.Steps.{grown_after}
use Rattle.platform_hall.proofs.Turns.{AreTold, begins_next, is_begin, same_number, turn_told}
use Rattle.scr_laws.proofs.Activated.{outstanding_begun}
use Rattle.scr_laws.proofs.InstanceLemmas.{begun_cases, mapped_was}
use Rattle.scr_laws.proofs.Listed.{found_was}
use Rattle.scr_laws.proofs.Numbering.{next_turn}
use Rattle.scr_laws.proofs.Sequences.{told_one, told_other}
use Rattle.scr_world.specs.Calls.{Grown, world_at}
use Rattle.scr_world.specs.Dues.{next_begin}
use Rattle.scr_world.specs.Instances.{begun_by, created_at, ended_in, has_turn, last_callback, lives_on, with_callback_begun, with_outcome}
use Rattle.scr_world.specs.Legal.{IsLegal}
use Rattle.scr_world.specs.Stepping.{before_turn}
use Rattle.scr_world.specs.Steps.{history_of}
use Rattle.scr_world.specs.TurnSteps.{work_for, work_under_way}
use Rattle.scr_world.specs.Worlds.{all_instances}
use Rattle.scr_world.specs.declared.instance.Instance.{Instance}
use Rattle.scr_world.specs.declared.step.Step.{Step}
use Rattle.scr_world.specs.declared.step.Step.TheVariants.{Command as Commanded, Begin, End, Drained, Got, Released}
use Rattle.scr_world.specs.declared.world.World.{World}
use Rattle.turn_work.specs.declared.work.TurnWork.{TurnWork}

-- ---- the work of a turn that is under way

-- the instance of the turn, with what it is told of itself
pub record TellsSite (w : World) (turn : ℕ) (work : TurnWork) : Type 0 where
  pub one : Instance
  pub there : Contains (all_instances w) one
  pub its : has_turn turn one ≡ true
  pub instance : one.number ≡ work.instance
  pub site : work.site ≡ site_told w one

pub tells_site : (w : World) (turn : ℕ) (work : TurnWork) → work_under_way w turn ≡ Some work → TellsSite w turn work
tells_site w turn work is = go (find (has_turn turn) (all_instances w)) refl is
  where
    last_of : (i : Instance) → Contains (all_instances w) i → has_turn turn i ≡ true → (o : Option Callback) → option_map (work_for w turn i) o ≡ Some work → TellsSite w turn work
    last_of i h its None told = cc
    last_of i h its (Some callback) told =
        let here : work_for w turn i callback ≡ work = cc in
        record {
          one = i;
          there = h;
          its = its;
          instance = ap (λ (x : TurnWork). x.instance) here;
          site = ap (λ (x : TurnWork). x.site) (sym here);
        }

    go : (o : Option Instance) → find (has_turn turn) (all_instances w) ≡ o → option_and_then (λ (i : Instance). option_map (work_for w turn i) (last_callback i.callbacks)) o ≡ Some work → TellsSite w turn work
    go None found told = cc
    go (Some i) found told = let there = found_was (has_turn turn) (all_instances w) i found in last_of i there.0 there.1 (last_callback i.callbacks) told

-- what any instance of its number is told of itself is what the work says
pub site_of_work : (w : World) → AreTold w → (turn : ℕ) (work : TurnWork) → work_under_way w turn ≡ Some work → (i : Instance) → Contains w.instances i → i.number ≡ work.instance → work.site ≡ site_told w i
site_of_work w are turn work is i h number =
    let tells = tells_site w turn work is in
    tells.site ∙ ap (λ (x : Instance). site_told w x) (same_number w are tells.one i tells.there (in_rest w.whiteboard w.instances i h) (tells.instance ∙ sym number))

-- ---- a turn that begins

module _ (limit : ℕ) (old new : List (Entry Step)) (turn instance configuration consumer : ℕ) (callback : Callback) (chosen : List Choice) (legal : IsLegal limit (history_of old))
    (grown : Grown limit old (Begin turn instance configuration consumer callback chosen) new) where
  abbrev w : World
  w = world_at old

  abbrev step : Step
  step = Begin turn instance configuration consumer callback chosen

  stays : (i : Instance) → Contains w.instances i → WasTold w (world_at new) i
  stays i h = record { one = i; there = h; number = refl; site = site_stays limit old new step legal grown i i h refl refl }

  made_has : has_turn turn (created_at (before_turn w) turn instance configuration consumer chosen) ≡ true
  made_has = and_from (turn == turn) true (eq-eqb turn turn refl) refl

  told_has : (j : Instance) → j.number ≡ instance → has_turn turn (with_callback_begun (before_turn w) turn instance callback j) ≡ true
  told_has j its =
      let g = with_callback_begun (before_turn w) turn instance callback j in
      and_from (g.turn == turn) (is_outstanding g.callbacks) (eq-eqb g.turn turn (turn_told (before_turn w) turn instance callback j its))
      (ap is_outstanding (told_one (before_turn w) turn instance callback j its) ∙ outstanding_begun j.callbacks callback)

  -- an instance is told by the turn, or was told the same of itself before
  from_step : (i : Instance) → Contains (begun_by (before_turn w) turn instance configuration consumer callback chosen) i → (has_turn turn i ≡ true) ⊎ WasTold w (world_at new) i
  from_step i h = elim (begun_cases callback) [
    | inl create ↦ (
        let made = created_at (before_turn w) turn instance configuration consumer chosen in
        elim (in_either w.instances (made ∷ []) i (subst (λ (c : Callback). Contains (begun_by (before_turn w) turn instance configuration consumer c chosen) i) create h)) [
          | inl before ↦ inr (stays i before)
          | inr added ↦ elim (in_cases made [] i added) [
            | inl same ↦ inl (subst (λ (x : Instance). has_turn turn x ≡ true) same made_has)
            | inr none ↦ absurd (in_none i none)
          ]
        ])
    | inr tells ↦ (
        let g = with_callback_begun (before_turn w) turn instance callback in
        let was = mapped_was g w.instances i (subst (λ (is : List Instance). Contains is i) (tells (before_turn w) turn instance configuration consumer chosen) h) in
        elim (cases_Bool (was.0.number == instance)) [
          | inl its ↦ inl (subst (λ (x : Instance). has_turn turn x ≡ true) was.2 (told_has was.0 (eqb-true was.0.number instance its)))
          | inr other ↦
              inr (subst (λ (x : Instance). WasTold w (world_at new) x)
              (sym (told_other (before_turn w) turn instance callback was.0 (λ e. both_ways (was.0.number == instance) other (eq-eqb was.0.number instance e))) ∙ was.2)
              (stays was.0 was.1))
        ])
  ]

  begin_sites : (i : Instance) → Contains (world_at new).instances i → (has_turn turn i ≡ true) ⊎ WasTold w (world_at new) i
  begin_sites i h = from_step i (subst (λ (is : List Instance). Contains is i) (grown_after limit old new step grown).instances h)

never_begins : {A : Type 0} (w : World) (step : Step) → next_begin w ≡ Some step → is_begin step ≡ false → A
never_begins w step is other = absurd (both_ways (is_begin step) other (begins_next w step is))

-- by the step that begins next, which is a turn's
pub next_sites : (limit : ℕ) (old new : List (Entry Step)) (step : Step) (turn : ℕ) → IsLegal limit (history_of old) → next_begin (world_at old) ≡ Some step → turn ≡ (world_at old).turns_begun + 1 → Grown limit old step new
    → (i : Instance) → Contains (world_at new).instances i → (has_turn turn i ≡ true) ⊎ WasTold (world_at old) (world_at new) i
next_sites limit old new (Begin turn instance configuration consumer callback chosen) number legal is next grown i h =
    let same : turn ≡ number = next_turn (world_at old) turn instance configuration consumer callback chosen is ∙ sym next in
    subst (λ n. (has_turn n i ≡ true) ⊎ WasTold (world_at old) (world_at new) i) same
    (begin_sites limit old new turn instance configuration consumer callback chosen legal grown i h)
next_sites limit old new (Commanded command) number legal is next grown i h = never_begins (world_at old) (Commanded command) is refl
next_sites limit old new (End turn outcome) number legal is next grown i h = never_begins (world_at old) (End turn outcome) is refl
next_sites limit old new (Drained instance) number legal is next grown i h = never_begins (world_at old) (Drained instance) is refl
next_sites limit old new (Got bundle service) number legal is next grown i h = never_begins (world_at old) (Got bundle service) is refl
next_sites limit old new (Released place) number legal is next grown i h = never_begins (world_at old) (Released place) is refl

-- ---- a turn that ends

ended_like : (turn : ℕ) (outcome : Outcome) (generations : List ℕ) (i : Instance) → IsLike (ended_in turn outcome generations i) i
ended_like turn outcome generations i = elim (has_turn turn i) as (λ b. IsLike (cond b (with_outcome outcome generations i) i) i) [
  | true ↦ record { number = refl; origin = refl; properties = refl }
  | false ↦ record { number = refl; origin = refl; properties = refl }
]

pub ended_sites : (limit : ℕ) (old new : List (Entry Step)) (turn : ℕ) (outcome : Outcome) → IsLegal limit (history_of old) → Grown limit old (End turn outcome) new → SitesStay (world_at old) (world_at new)
ended_sites limit old new turn outcome legal grown i h =
    let g = ended_in turn outcome (world_at old).generations in
    let there = kept_was lives_on (map g (world_at old).instances) i (subst (λ (is : List Instance). Contains is i) (grown_after limit old new (End turn outcome) grown).instances h) in
    likes_stay limit old new (End turn outcome) legal grown g (ended_like turn outcome (world_at old).generations) i there.0
