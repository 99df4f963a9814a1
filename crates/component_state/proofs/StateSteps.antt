-- What lives of instances make of sound states is sound.
use Rattle.std.proofs.Common.{◌≡◌, ◌<◌, ℕ, List, [], ◌∷◌, ◌++◌, ap, sym, ◌∙◌, refl, subst, cond, Bool, true, false, ◌&&◌, inl, inr}
use Rattle.std.specs.Prelude.{filter, map, nat_lt, not, ◌==◌}
use Rattle.std.specs.List.{Contains}
use Rattle.std.proofs.lemmas.Bool.{and_from, eq-eqb, eqb-true, lt-ltb}
use Rattle.component_state.specs.declared.component.Component.{Component}
use Rattle.component_state.specs.declared.living_instance.LivingInstance.{LivingInstance}
use Rattle.component_state.specs.declared.open_period.OpenPeriod.{OpenPeriod}
use Rattle.component_state.specs.declared.origin.Choice.{Choice}
use Rattle.component_state.specs.declared.origin.Origin.{Origin}
use Rattle.component_state.specs.ComponentStates.{HasFailed, States, as_active, nothing_known, origins_of, with_active, with_begun, with_ceased}
use Rattle.component_state.specs.Inside.SoundStates.{AreSound}
use Rattle.component_state.specs.Periods.{is_current, is_open}
use Rattle.component_state.proofs.Apart.{any_found, any_from, in_cases, in_either, in_none, kept_was}
use Rattle.component_state.proofs.Plain.{in_mapped}
use Rattle.component_state.proofs.ReadyStates.{mapped}

-- states with other instances, whose origins are current
with_instances : (s : States) (instances : List LivingInstance) → AreSound s
    → ((o : Origin) → Contains (map (λ (i : LivingInstance). i.origin) instances) o → is_open s.open_periods o.configuration ≡ true → is_current s.open_periods o ≡ true)
    → AreSound (record s { instances = instances })
with_instances s instances sound current = record {
  apart = sound.apart;
  up_to = sound.up_to;
  periods = sound.periods;
  plain = sound.plain;
  earlier = sound.earlier;
  current = current;
  unmarked = sound.unmarked;
}

module _ (s : States) (sound : AreSound s) where
  -- an instance that is made now is of the open period
  now_current : (o : Origin) → o.created ≡ s.passes → is_open s.open_periods o.configuration ≡ true → is_current s.open_periods o ≡ true
  now_current o now opened =
      let p = any_found (λ (q : OpenPeriod). q.configuration == o.configuration) s.open_periods opened in
      any_from (λ (q : OpenPeriod). (q.configuration == o.configuration) && nat_lt q.opened o.created) s.open_periods p.0 p.1
      (and_from (p.0.configuration == o.configuration) (nat_lt p.0.opened o.created) p.2 (ap (nat_lt p.0.opened) now ∙ lt-ltb p.0.opened s.passes (sound.earlier p.0 p.1)))

  pub begun_sound : (configuration instance : ℕ) (chosen : List Choice) → AreSound (with_begun configuration instance chosen s)
  begun_sound configuration instance chosen = with_instances s (s.instances ++ one ∷ []) sound (λ o h opened. (let was = in_mapped (λ (i : LivingInstance). i.origin) (s.instances ++ one ∷ []) o h in
      elim (in_either s.instances (one ∷ []) was.0 was.1) [
        | inl old ↦ sound.current o (subst (λ (x : Origin). Contains (origins_of s) x) was.2 (mapped (λ (i : LivingInstance). i.origin) s.instances was.0 old)) opened
        | inr new ↦ elim (in_cases one [] was.0 new) [
          | inl same ↦ now_current o (ap (λ (x : Origin). x.created) (sym was.2) ∙ ap (λ (i : LivingInstance). i.origin.created) (sym same)) opened
          | inr none ↦ absurd (in_none was.0 none)
        ]
      ]))
    where
      one : LivingInstance
      one = record { number = instance; origin = record { configuration = configuration; created = s.passes; chosen = chosen }; active = false }

  as_active_origin : (instance : ℕ) (active : Bool) (i : LivingInstance) → (as_active instance active i).origin ≡ i.origin
  as_active_origin instance active i = go (i.number == instance)
    where
      go : (b : Bool) → (cond b (record i { active = active }) i).origin ≡ i.origin
      go true = refl
      go false = refl

  pub active_sound : (instance : ℕ) (active : Bool) → AreSound (with_active instance active s)
  active_sound instance active = with_instances s (map (as_active instance active) s.instances) sound (λ o h opened.
      (let was = in_mapped (λ (i : LivingInstance). i.origin) (map (as_active instance active) s.instances) o h in
      let old = in_mapped (as_active instance active) s.instances was.0 was.1 in
      sound.current o (subst (λ (x : Origin). Contains (origins_of s) x) (sym (as_active_origin instance active old.0) ∙ ap (λ (i : LivingInstance). i.origin) old.2 ∙ was.2)
      (mapped (λ (i : LivingInstance). i.origin) s.instances old.0 old.1)) opened))

  pub ceased_sound : (instance : ℕ) → AreSound (with_ceased instance s)
  ceased_sound instance = with_instances s (filter (λ (i : LivingInstance). not (i.number == instance)) s.instances) sound (λ o h opened.
      (let was = in_mapped (λ (i : LivingInstance). i.origin) (filter (λ (i : LivingInstance). not (i.number == instance)) s.instances) o h in
      sound.current o (subst (λ (x : Origin). Contains (origins_of s) x) was.2
      (mapped (λ (i : LivingInstance). i.origin) s.instances was.0 (kept_was (λ (i : LivingInstance). not (i.number == instance)) s.instances was.0 was.1).0)) opened))

  -- other marks
  pub failing_sound : (failing : List ℕ) → AreSound (record s { failing = failing })
  failing_sound failing = record {
    apart = sound.apart;
    up_to = sound.up_to;
    periods = sound.periods;
    plain = sound.plain;
    earlier = sound.earlier;
    current = sound.current;
    unmarked = sound.unmarked;
  }

-- nothing is known, and that is sound
pub nothing_sound : AreSound nothing_known
nothing_sound = record {
  apart = refl;
  up_to = λ n is. cc;
  periods = λ p h. absurd (in_none p h);
  plain = record { apart = refl; silent = λ p h. absurd (in_none p h) };
  earlier = λ p h. absurd (in_none p h);
  current = λ o h. absurd (in_none o h);
  unmarked = λ n is. cc;
}

-- ---- the same, where the instances are given by an equation

pub begun_kept : {s : States} → AreSound s → (configuration instance : ℕ) (chosen : List Choice) (is : List LivingInstance)
    → is ≡ s.instances ++ record { number = instance; origin = record { configuration = configuration; created = s.passes; chosen = chosen }; active = false } ∷ [] → AreSound (record s { instances = is })
begun_kept {s} sound configuration instance chosen is same = subst (λ (l : List LivingInstance). AreSound (record s { instances = l })) (sym same) (begun_sound s sound configuration instance chosen)

pub active_kept : {s : States} → AreSound s → (instance : ℕ) (active : Bool) (is : List LivingInstance) → is ≡ map (as_active instance active) s.instances → AreSound (record s { instances = is })
active_kept {s} sound instance active is same = subst (λ (l : List LivingInstance). AreSound (record s { instances = l })) (sym same) (active_sound s sound instance active)

pub ceased_kept : {s : States} → AreSound s → (instance : ℕ) (is : List LivingInstance) → is ≡ filter (λ (i : LivingInstance). not (i.number == instance)) s.instances → AreSound (record s { instances = is })
ceased_kept {s} sound instance is same = subst (λ (l : List LivingInstance). AreSound (record s { instances = l })) (sym same) (ceased_sound s sound instance)

pub failing_kept : {s : States} → AreSound s → (failing : List ℕ) → AreSound (record s { failing = failing })
failing_kept {s} sound failing = failing_sound s sound failing

-- what is said of a failure holds of equal states
pub failed_from : {configuration : ℕ} {v s t : States} → v ≡ s → HasFailed configuration v t → HasFailed configuration s t
failed_from {configuration} {v} {s} {t} same failed = subst (λ (u : States). HasFailed configuration u t) same failed
