-- A journal that is read again comes to the world that it says.
use Rattle.std.proofs.Common.{◌≡◌, ℕ, ◌+◌, List, [], ◌∷◌, ◌++◌, map, length, Bool, true, false, cond, not, refl, ap, sym, ◌∙◌, subst, arith, None, Some}
use Rattle.std.specs.Prelude.{◌==◌, filter, count_by}
use Rattle.std.specs.declared.option.Option.{Option}
use Rattle.std.specs.Option.{option_map_or}
use Rattle.std.proofs.lemmas.List.{map-append, reverse-append}
use Rattle.std.proofs.lemmas.List.Sums.{sum_by-append, sum_by-cons}
use Rattle.callback_orders.specs.declared.callback.Callback.{Callback}
use Rattle.callback_orders.specs.declared.callback.Callback.TheVariants.{Create, Bind, Updated, Unbind, Activate, Modified, Deactivate, Destroy}
use Rattle.callback_orders.specs.declared.callback.Outcome.{Outcome}
use Rattle.callback_orders.specs.Sequences.{begun}
use Rattle.component_state.specs.declared.component.Component.{Component}
use Rattle.component_state.specs.declared.open_period.OpenPeriod.{OpenPeriod}
use Rattle.component_state.specs.declared.origin.Choice.{Choice}
use Rattle.component_state.specs.Components.{component_of}
use Rattle.component_state.specs.Periods.{open_after, opened_at}
use Rattle.component_state.specs.Rows.{period_with_properties, with_present_properties}
use Rattle.journal_core.specs.declared.entry.Entry.{Entry}
use Rattle.journal_core.specs.declared.entry.Opened.{Opened}
use Rattle.prop_map.specs.Words.{has}
use Rattle.scr_world.specs.declared.instance.Instance.{Instance}
use Rattle.scr_world.specs.declared.step.Step.{Step}
use Rattle.scr_world.specs.declared.step.Step.TheVariants.{Command as Commanded, Begin, End, Drained, Got, Released}
use Rattle.scr_world.specs.declared.world.World.{World}
use Rattle.scr_world.specs.Instances.{BeforeTurn, begun_by, created_at, drained_in, ended_in, has_turn, is_active_instance, lives_on as instance_lives_on, with_callback_begun, with_effect_of_begin, with_outcome}
use Rattle.scr_world.specs.Lists.{world_after_entry, world_of}
use Rattle.scr_world.specs.Stepping.{before_turn, begins_by, components_by, instances_by, periods_with, world_after_step}
use Rattle.scr_world.specs.Steps.{History, history_of}
use Rattle.script_shell.specs.declared.journal_replay.Living.{Living}
use Rattle.script_shell.specs.Replays.{IsReplayOf, begins_turn, configurations_of, is_active_living, is_begin, lived, lives_on, living_after, living_begun, open_after_entry, with_begun, with_ended}

-- ---- lists

module _ {X Y : Type 0} (key : X → Y) where
  -- what is kept, and then its keys
  keys_kept : (p : X → Bool) (q : Y → Bool) → ((x : X) → p x ≡ q (key x)) → (xs : List X) → map key (filter p xs) ≡ filter q (map key xs)
  keys_kept p q same [] = refl
  keys_kept p q same (x ∷ xs) = go (p x) (q (key x)) (same x) (keys_kept p q same xs)
    where
      go : (b c : Bool) → b ≡ c → map key (filter p xs) ≡ filter q (map key xs) → map key (cond b (x ∷ filter p xs) (filter p xs)) ≡ cond c (key x ∷ filter q (map key xs)) (filter q (map key xs))
      go true true e rest = ap (λ ys. key x ∷ ys) rest
      go true false e rest = cc
      go false true e rest = cc
      go false false e rest = rest

  -- what each becomes, and then its key
  keys_mapped : (f : X → X) (g : Y → Y) → ((x : X) → key (f x) ≡ g (key x)) → (xs : List X) → map key (map f xs) ≡ map g (map key xs)
  keys_mapped f g same [] = refl
  keys_mapped f g same (x ∷ xs) = ap (λ y. y ∷ map key (map f xs)) (same x) ∙ ap (λ ys. g (key x) ∷ ys) (keys_mapped f g same xs)

  keys_stay : (f : X → X) → ((x : X) → key (f x) ≡ key x) → (xs : List X) → map key (map f xs) ≡ map key xs
  keys_stay f same [] = refl
  keys_stay f same (x ∷ xs) = ap (λ y. y ∷ map key (map f xs)) (same x) ∙ ap (λ ys. key x ∷ ys) (keys_stay f same xs)

-- ---- instances

told_alike : (before : BeforeTurn) (callback : Callback) (i : Instance) → lived (with_effect_of_begin before callback i) ≡ lived i
told_alike before Create i = refl
told_alike before (Bind reference service) i = refl
told_alike before (Updated reference service) i = refl
told_alike before (Unbind reference service) i = refl
told_alike before Activate i = refl
told_alike before Modified i = refl
told_alike before Deactivate i = refl
told_alike before Destroy i = refl

begun_alike : (before : BeforeTurn) (turn instance : ℕ) (callback : Callback) (i : Instance) → lived (with_callback_begun before turn instance callback i) ≡ with_begun turn instance callback (lived i)
begun_alike before turn instance callback i = go (i.number == instance)
  where
    go : (b : Bool) → lived (cond b (with_effect_of_begin before callback (record i { turn = turn; callbacks = i.callbacks ++ begun callback ∷ [] })) i)
        ≡ cond b (record { number = i.number; turn = turn; callbacks = i.callbacks ++ begun callback ∷ [] }) (lived i)
    go true = told_alike before callback (record i { turn = turn; callbacks = i.callbacks ++ begun callback ∷ [] })
    go false = refl

all_begun : (before : BeforeTurn) (turn instance : ℕ) (callback : Callback) → map lived (map (with_callback_begun before turn instance callback) before.instances) ≡ map (with_begun turn instance callback) (map lived before.instances)
all_begun before turn instance callback = keys_mapped lived (with_callback_begun before turn instance callback) (with_begun turn instance callback) (begun_alike before turn instance callback) before.instances

begins_alike : (before : BeforeTurn) (turn instance configuration consumer : ℕ) (callback : Callback) (chosen : List Choice)
    → map lived (begun_by before turn instance configuration consumer callback chosen) ≡ living_begun turn instance callback (map lived before.instances)
begins_alike before turn instance configuration consumer Create chosen = map-append lived before.instances (created_at before turn instance configuration consumer chosen ∷ [])
begins_alike before turn instance configuration consumer (Bind reference service) chosen = all_begun before turn instance (Bind reference service)
begins_alike before turn instance configuration consumer (Updated reference service) chosen = all_begun before turn instance (Updated reference service)
begins_alike before turn instance configuration consumer (Unbind reference service) chosen = all_begun before turn instance (Unbind reference service)
begins_alike before turn instance configuration consumer Activate chosen = all_begun before turn instance Activate
begins_alike before turn instance configuration consumer Modified chosen = all_begun before turn instance Modified
begins_alike before turn instance configuration consumer Deactivate chosen = all_begun before turn instance Deactivate
begins_alike before turn instance configuration consumer Destroy chosen = all_begun before turn instance Destroy

ended_alike : (turn : ℕ) (outcome : Outcome) (generations : List ℕ) (i : Instance) → lived (ended_in turn outcome generations i) ≡ with_ended turn outcome (lived i)
ended_alike turn outcome generations i = go (has_turn turn i)
  where
    go : (b : Bool) → lived (cond b (with_outcome outcome generations i) i) ≡ cond b (lived (with_outcome outcome generations i)) (lived i)
    go true = refl
    go false = refl

drained_alike : (instance : ℕ) (i : Instance) → lived (drained_in instance i) ≡ lived i
drained_alike instance i = go (i.number == instance)
  where
    go : (b : Bool) → lived (cond b (record i { drained = true }) i) ≡ lived i
    go true = refl
    go false = refl

living_alike : (step : Step) (w : World) → map lived (instances_by step w) ≡ living_after step (map lived w.instances)
living_alike (Begin turn instance configuration consumer callback chosen) w = begins_alike (before_turn w) turn instance configuration consumer callback chosen
living_alike (End turn outcome) w =
    keys_kept lived instance_lives_on lives_on (λ i. refl) (map (ended_in turn outcome w.generations) w.instances)
    ∙ ap (filter lives_on) (keys_mapped lived (ended_in turn outcome w.generations) (with_ended turn outcome) (ended_alike turn outcome w.generations) w.instances)
living_alike (Commanded command) w = refl
living_alike (Drained instance) w = keys_stay lived (drained_in instance) (drained_alike instance) w.instances
living_alike (Got bundle service) w = refl
living_alike (Released place) w = refl

-- ---- open component configurations

present_alike : (cs : List Component) (p : OpenPeriod) → (with_present_properties cs p).configuration ≡ p.configuration
present_alike cs p = go (component_of cs p.configuration)
  where
    go : (found : Option Component) → (option_map_or (period_with_properties p) found p).configuration ≡ p.configuration
    go None = refl
    go (Some c) = refl

all_present : (cs : List Component) (open_ones : List OpenPeriod) → configurations_of (map (with_present_properties cs) open_ones) ≡ configurations_of open_ones
all_present cs open_ones = keys_stay (λ (p : OpenPeriod). p.configuration) (with_present_properties cs) (present_alike cs) open_ones

periods_alike : (step : Step) (cs : List Component) (open_ones : List OpenPeriod) → configurations_of (periods_with step cs open_ones) ≡ configurations_of open_ones
periods_alike (Commanded command) cs open_ones = all_present cs open_ones
periods_alike (Begin turn instance configuration consumer callback chosen) cs open_ones = refl
periods_alike (End turn outcome) cs open_ones = refl
periods_alike (Drained instance) cs open_ones = refl
periods_alike (Got bundle service) cs open_ones = refl
periods_alike (Released place) cs open_ones = refl

opened_alike : (place : ℕ) (cs : List Component) (opened : List Opened) → configurations_of (map (opened_at place cs) opened) ≡ map (λ (o : Opened). o.configuration) opened
opened_alike place cs [] = refl
opened_alike place cs (o ∷ opened) = ap (λ (ns : List ℕ). o.configuration ∷ ns) (opened_alike place cs opened)

open_alike : (place : ℕ) (cs : List Component) (closed : List ℕ) (opened : List Opened) (open_ones : List OpenPeriod)
    → configurations_of (open_after place cs closed opened open_ones) ≡ filter (λ c. not (has closed c)) (configurations_of open_ones) ++ map (λ (o : Opened). o.configuration) opened
open_alike place cs closed opened open_ones =
    map-append (λ (p : OpenPeriod). p.configuration) (filter (λ (p : OpenPeriod). not (has closed p.configuration)) open_ones) (map (opened_at place cs) opened)
    ∙ ap (λ (ns : List ℕ). ns ++ configurations_of (map (opened_at place cs) opened)) (keys_kept (λ (p : OpenPeriod). p.configuration) (λ (p : OpenPeriod). not (has closed p.configuration)) (λ c. not (has closed c)) (λ p. refl) open_ones)
    ∙ ap (λ (ns : List ℕ). filter (λ c. not (has closed c)) (configurations_of open_ones) ++ ns) (opened_alike place cs opened)

-- ---- a journal

-- the journal without entries
replay_none : IsReplayOf (world_of []) [] []
unfolding world_of
replay_none = record { open_ones = refl; living = refl }

-- a world after an entry
record Alike (entry : Entry Step) (w now : World) : Type 0 where
  open_ones : configurations_of now.open_periods ≡ open_after_entry entry (configurations_of w.open_periods)
  living : map lived now.instances ≡ living_after entry.step (map lived w.instances)
  turns : now.turns_begun ≡ w.turns_begun + begins_by entry.step

entry_alike : (entry : Entry Step) (w : World) → Alike entry w (world_after_entry entry w)
unfolding world_after_entry world_after_step
entry_alike entry w = record {
  open_ones =
      let cs = components_by entry.step w in
      let kept = periods_with entry.step cs w.open_periods in
      open_alike w.entries cs entry.closed entry.opened kept ∙ ap (open_after_entry entry) (periods_alike entry.step cs w.open_periods);
  living = living_alike entry.step w;
  turns = refl;
}

history_more : (entries : List (Entry Step)) (entry : Entry Step) → history_of (entries ++ entry ∷ []) ≡ entry ∷ history_of entries
history_more entries entry = reverse-append entries (entry ∷ [])

after_one : (entry : Entry Step) (past : History) → Alike entry (world_of past) (world_of (entry ∷ past))
unfolding world_of
after_one entry past = entry_alike entry (world_of past)

-- nothing is read yet
pub replay_start : (open_ones : List ℕ) (living : List Living) → open_ones ≡ [] → living ≡ [] → IsReplayOf (world_of []) open_ones living
replay_start open_ones living no_open no_living =
    subst (λ (o : List ℕ). IsReplayOf (world_of []) o living) (sym no_open) (subst (λ (l : List Living). IsReplayOf (world_of []) [] l) (sym no_living) replay_none)

-- one entry more is read
pub replay_more : (entries : List (Entry Step)) (entry : Entry Step) (open_ones open_ones' : List ℕ) (living living' : List Living) → IsReplayOf (world_of (history_of entries)) open_ones living
    → open_ones' ≡ open_after_entry entry open_ones → living' ≡ living_after entry.step living → IsReplayOf (world_of (history_of (entries ++ entry ∷ []))) open_ones' living'
replay_more entries entry open_ones open_ones' living living' before open_is living_is =
    let after = after_one entry (history_of entries) in
    subst (λ (h : History). IsReplayOf (world_of h) open_ones' living') (sym (history_more entries entry)) (record {
      open_ones = open_is ∙ ap (open_after_entry entry) before.open_ones ∙ sym after.open_ones;
      living = living_is ∙ ap (living_after entry.step) before.living ∙ sym after.living;
    })

-- ---- turns

begins_one : (step : Step) → begins_by step ≡ cond (is_begin step) 1 0
begins_one (Begin turn instance configuration consumer callback chosen) = refl
begins_one (End turn outcome) = refl
begins_one (Commanded command) = refl
begins_one (Drained instance) = refl
begins_one (Got bundle service) = refl
begins_one (Released place) = refl

counted : (h : History) → (world_of h).turns_begun ≡ count_by begins_turn h
unfolding world_of
counted [] = refl
counted (entry ∷ past) =
    let after = (after_one entry past).turns in
    after ∙ ap (λ n. n + begins_by entry.step) (counted past)
    ∙ ap (λ n. count_by begins_turn past + n) (begins_one entry.step)
    ∙ omega (arith, sum_by-cons (λ (e : Entry Step). cond (begins_turn e) 1 0) entry past)

reversed : (entries : List (Entry Step)) → count_by begins_turn (history_of entries) ≡ count_by begins_turn entries
reversed [] = refl
reversed (entry ∷ entries) =
    ap (count_by begins_turn) (reverse-append (entry ∷ []) entries)
    ∙ sum_by-append (λ (e : Entry Step). cond (begins_turn e) 1 0) (history_of entries) (entry ∷ [])
    ∙ omega (arith, reversed entries, sum_by-cons (λ (e : Entry Step). cond (begins_turn e) 1 0) entry entries, sum_by-cons (λ (e : Entry Step). cond (begins_turn e) 1 0) entry [])

-- the turns that began are those of the entries
pub turns_counted : (entries : List (Entry Step)) → count_by begins_turn entries ≡ (world_of (history_of entries)).turns_begun
turns_counted entries = sym (counted (history_of entries) ∙ reversed entries)

-- ---- active instances

one_more : (b : Bool) (i : Instance) (is : List Instance) → length (cond b (i ∷ filter is_active_instance is) (filter is_active_instance is)) ≡ cond b 1 0 + length (filter is_active_instance is)
one_more true i is = omega arith
one_more false i is = omega arith

pub active_counted : (is : List Instance) → count_by is_active_living (map lived is) ≡ length (filter is_active_instance is)
active_counted [] = refl
active_counted (i ∷ is) =
    sum_by-cons (λ (l : Living). cond (is_active_living l) 1 0) (lived i) (map lived is)
    ∙ ap (λ n. cond (is_active_instance i) 1 0 + n) (active_counted is) ∙ sym (one_more (is_active_instance i) i is)
