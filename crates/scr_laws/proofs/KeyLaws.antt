-- No two living instances have one key: a Create is due for a key that no instance has.
use Rattle.std.proofs.Common.{◌≡◌, ◌⊎◌, ℕ, List, [], ◌∷◌, ap, sym, ◌∙◌, refl, subst, Bool, true, false, ◌&&◌, inl, inr, Option, Some, None}
use Rattle.std.specs.Prelude.{filter, find, map, not, option_and_then, option_map, ◌==◌}
use Rattle.std.specs.List.{Contains, list_any}
use Rattle.std.proofs.lemmas.Bool.{and_from, both_ways, eq-eqb}
use Rattle.callback_orders.specs.declared.callback.Callback.{Callback}
use Rattle.callback_orders.specs.declared.callback.Callback.TheVariants.{Create as CreateCalled}
use Rattle.callback_orders.specs.declared.callback.Outcome.{Outcome}
use Rattle.callback_orders.specs.declared.due.DueRef.{DueRef}
use Rattle.callback_orders.specs.declared.due.DueRef.TheVariants.{Create as CreateDue, Bind, Updated, Unbind, Activate, Modified, Deactivate, Destroy}
use Rattle.callback_orders.specs.declared.instance_view.Key.{Key}
use Rattle.callback_orders.specs.Lives.{callback_of}
use Rattle.component_state.specs.declared.origin.Choice.{Choice}
use Rattle.component_state.specs.declared.origin.Origin.{Origin}
use Rattle.component_state.proofs.Apart.{any_from, in_either, in_none, kept_was, not_true}
use Rattle.scr_laws.proofs.Listed.{mapped_was, single}
use Rattle.scr_laws.proofs.OpensFirst.{create_is_wanted}
use Rattle.scr_laws.proofs.InstanceLemmas.{begun_cases, drained_same, ended_same, told_same}
use Rattle.scr_laws.specs.Keys.{HaveOwnKeys}
use Rattle.scr_world.specs.Dues.{begin_for, begin_of, choices, due_in, names_of, next_begin}
use Rattle.scr_world.specs.Instances.{begun_by, created_at, drained_in, ended_in, lives_on, with_callback_begun}
use Rattle.scr_world.specs.Legal.{IsLegal, MayCome}
use Rattle.scr_world.specs.Lists.{world_after_entry, world_of}
use Rattle.scr_world.specs.Steps.{History}
use Rattle.scr_world.specs.Stepping.{before_turn, instances_by, instances_told, world_after_step}
use Rattle.scr_world.specs.Views.{views_of}
use Rattle.scr_world.specs.Wanted.{has_instance, missing, wanted}
use Rattle.scr_world.specs.Worlds.{all_instances}
use Rattle.scr_world.specs.declared.instance.Instance.{Instance}
use Rattle.scr_world.specs.declared.step.Step.{Step}
use Rattle.scr_world.specs.declared.step.Step.TheVariants.{Command as Commanded, Begin, End, Drained, Got, Released}
use Rattle.scr_world.specs.declared.world.World.{World}

-- ---- the key of a Create that begins is missing

module _ (w : World) (turn instance configuration consumer : ℕ) (chosen : List Choice) where
  abbrev step : Step
  step = Begin turn instance configuration consumer CreateCalled chosen

  other : (due : DueRef) → ((i : Instance) → callback_of (names_of w i) due ≡ CreateCalled → ⊥) → (o : Option Instance) → option_map (begin_for w due) o ≡ Some step → ⊥
  other due never None e = absurd cc
  other due never (Some i) e = never i cc

  abbrev IsKey : Key → Type 0
  IsKey key = (key.configuration ≡ configuration) × (key.consumer ≡ consumer)

  key_due : (o : Option DueRef) → option_and_then (begin_of w) o ≡ Some step → (key : Key) × ((o ≡ Some (CreateDue key)) × IsKey key)
  key_due None e = absurd cc
  key_due (Some (CreateDue key)) e = (key, (refl, (cc, cc)))
  key_due (Some (Bind i r s)) e = absurd (other (Bind i r s) (λ j k. cc) (find (λ (j : Instance). j.number == i) (all_instances w)) e)
  key_due (Some (Updated i r s)) e = absurd (other (Updated i r s) (λ j k. cc) (find (λ (j : Instance). j.number == i) (all_instances w)) e)
  key_due (Some (Unbind i r s)) e = absurd (other (Unbind i r s) (λ j k. cc) (find (λ (j : Instance). j.number == i) (all_instances w)) e)
  key_due (Some (Activate i)) e = absurd (other (Activate i) (λ j k. cc) (find (λ (j : Instance). j.number == i) (all_instances w)) e)
  key_due (Some (Modified i)) e = absurd (other (Modified i) (λ j k. cc) (find (λ (j : Instance). j.number == i) (all_instances w)) e)
  key_due (Some (Deactivate i)) e = absurd (other (Deactivate i) (λ j k. cc) (find (λ (j : Instance). j.number == i) (all_instances w)) e)
  key_due (Some (Destroy i)) e = absurd (other (Destroy i) (λ j k. cc) (find (λ (j : Instance). j.number == i) (all_instances w)) e)

  -- the key that is missing
  pub key_made : MayCome w step → (key : Key) × (Contains (missing w) key × IsKey key)
  key_made may = let found = key_due (due_in w) may in (found.0, (create_is_wanted (views_of w) (missing w) found.0 found.1.0, found.1.1))

  pub none_yet : MayCome w step → (j : Instance) → Contains w.instances j → j.origin.configuration ≡ configuration → j.consumer ≡ consumer → ⊥
  none_yet may j h same for_one =
      let key = key_made may in
      let off = not_true (has_instance w.instances key.0) (kept_was (λ (k : Key). not (has_instance w.instances k)) (wanted w) key.0 key.1.0).1 in
      both_ways (has_instance w.instances key.0) off
      (any_from (λ (i : Instance). (i.origin.configuration == key.0.configuration) && (i.consumer == key.0.consumer)) w.instances j h
      (and_from (j.origin.configuration == key.0.configuration) (j.consumer == key.0.consumer)
      (eq-eqb j.origin.configuration key.0.configuration (same ∙ sym key.1.1.0)) (eq-eqb j.consumer key.0.consumer (for_one ∙ sym key.1.1.1))))

-- ---- each step keeps keys apart

abbrev AreOne : List Instance → Type 0
AreOne is = (i j : Instance) → Contains is i → Contains is j → i.origin.configuration ≡ j.origin.configuration → i.consumer ≡ j.consumer → i ≡ j

module _ (w : World) (one : AreOne w.instances) where
  mapped_one : (f : Instance → Instance) → ((i : Instance) → (f i).origin ≡ i.origin) → ((i : Instance) → (f i).consumer ≡ i.consumer) → AreOne (map f w.instances)
  mapped_one f origin consumer i j h k same for_one =
      let a = mapped_was f w.instances i h in let b = mapped_was f w.instances j k in
      sym a.1.1 ∙ ap f (one a.0 b.0 a.1.0 b.1.0
      (ap (λ (o : Origin). o.configuration) (sym (origin a.0)) ∙ ap (λ (x : Instance). x.origin.configuration) a.1.1 ∙ same ∙ ap (λ (x : Instance). x.origin.configuration) (sym b.1.1) ∙ ap (λ (o : Origin). o.configuration) (origin b.0))
      (sym (consumer a.0) ∙ ap (λ (x : Instance). x.consumer) a.1.1 ∙ for_one ∙ ap (λ (x : Instance). x.consumer) (sym b.1.1) ∙ consumer b.0)) ∙ b.1.1

  made_one : (turn instance configuration consumer : ℕ) (chosen : List Choice) → MayCome w (Begin turn instance configuration consumer CreateCalled chosen) → AreOne (begun_by (before_turn w) turn instance configuration consumer CreateCalled chosen)
  made_one turn instance configuration consumer chosen may i j h k same for_one = go (in_either w.instances (new ∷ []) i h) (in_either w.instances (new ∷ []) j k)
    where
      new : Instance
      new = created_at (before_turn w) turn instance configuration consumer chosen

      go : Contains w.instances i ⊎ Contains (new ∷ []) i → Contains w.instances j ⊎ Contains (new ∷ []) j → i ≡ j
      go (inl a) (inl b) = one i j a b same for_one
      go (inl a) (inr b) = absurd (none_yet w turn instance configuration consumer chosen may i a (same ∙ ap (λ (x : Instance). x.origin.configuration) (sym (single new j b))) (for_one ∙ ap (λ (x : Instance). x.consumer) (sym (single new j b))))
      go (inr a) (inl b) = absurd (none_yet w turn instance configuration consumer chosen may j b (sym same ∙ ap (λ (x : Instance). x.origin.configuration) (sym (single new i a))) (sym for_one ∙ ap (λ (x : Instance). x.consumer) (sym (single new i a))))
      go (inr a) (inr b) = sym (single new i a) ∙ single new j b

  begun_one : (turn instance configuration consumer : ℕ) (callback : Callback) (chosen : List Choice) → MayCome w (Begin turn instance configuration consumer callback chosen)
      → (callback ≡ CreateCalled) ⊎ (begun_by (before_turn w) turn instance configuration consumer callback chosen ≡ map (with_callback_begun (before_turn w) turn instance callback) w.instances)
      → AreOne (begun_by (before_turn w) turn instance configuration consumer callback chosen)
  begun_one turn instance configuration consumer callback chosen may (inl create) =
      subst (λ (c : Callback). MayCome w (Begin turn instance configuration consumer c chosen) → AreOne (begun_by (before_turn w) turn instance configuration consumer c chosen)) (sym create) (made_one turn instance configuration consumer chosen) may
  begun_one turn instance configuration consumer callback chosen may (inr tells) =
      subst AreOne (sym tells) (mapped_one (with_callback_begun (before_turn w) turn instance callback) (λ i. (told_same (before_turn w) turn instance callback i).origin) (λ i. (told_same (before_turn w) turn instance callback i).consumer))

  told_cases : (turn instance configuration consumer : ℕ) (callback : Callback) (chosen : List Choice)
      → (callback ≡ CreateCalled) ⊎ (begun_by (before_turn w) turn instance configuration consumer callback chosen ≡ map (with_callback_begun (before_turn w) turn instance callback) w.instances)
  told_cases turn instance configuration consumer callback chosen = elim (begun_cases callback) [
    | inl create ↦ inl create
    | inr tells ↦ inr (tells (before_turn w) turn instance configuration consumer chosen)
  ]

  one_after : (step : Step) → MayCome w step → AreOne (instances_by step w)
  one_after (Commanded command) may = one
  one_after (Begin turn instance configuration consumer callback chosen) may = begun_one turn instance configuration consumer callback chosen may (told_cases turn instance configuration consumer callback chosen)
  one_after (End turn outcome) may = λ i j h k.
      mapped_one (ended_in turn outcome w.generations) (λ x. (ended_same turn outcome w.generations x).origin) (λ x. (ended_same turn outcome w.generations x).consumer) i j
      (kept_was lives_on (instances_told (End turn outcome) w) i h).0 (kept_was lives_on (instances_told (End turn outcome) w) j k).0
  one_after (Drained instance) may = mapped_one (drained_in instance) (λ x. (drained_same instance x).origin) (λ x. (drained_same instance x).consumer)
  one_after (Got bundle service) may = one
  one_after (Released place) may = one

pub keys_one : (limit : ℕ) (past : History) → IsLegal limit past → HaveOwnKeys (world_of past)
unfolding world_of world_after_entry world_after_step
keys_one limit [] legal i j h k same for_one = absurd (in_none i h)
keys_one limit (entry ∷ past) legal i j h k same for_one = one_after (world_of past) (keys_one limit past legal.1) entry.step legal.0.step i j h k same for_one
