-- Quiet steps leave what a pass looks at.
use Rattle.std.proofs.Common.{◌≡◌, ℕ, List, [], ◌∷◌, ap, ◌∙◌, refl, cond, Bool, true, false}
use Rattle.std.specs.Prelude.{filter, map, ◌==◌}
use Rattle.std.specs.List.{list_all}
use Rattle.std.proofs.lemmas.Bool.{and_parts}
use Rattle.callback_orders.specs.declared.callback.Callback.{Callback}
use Rattle.callback_orders.specs.declared.callback.Callback.TheVariants.{Create, Bind, Updated, Unbind, Activate, Modified, Deactivate, Destroy}
use Rattle.component_state.specs.declared.origin.Choice.{Choice}
use Rattle.prop_map.specs.Words.{is_empty}
use Rattle.scr_world.specs.declared.step.Step.{Step}
use Rattle.scr_world.specs.declared.step.Step.TheVariants.{Command as Commanded, Begin, End, Drained, Got, Released}
use Rattle.scr_world.specs.declared.instance.Instance.{Instance}
use Rattle.scr_world.specs.declared.world.World.{World}
use Rattle.scr_world.specs.Instances.{BeforeTurn, drained_in, ended_in, has_turn, lives_on, with_effect_of_begin, with_callback_begun, with_outcome}
use Rattle.scr_world.specs.Stepping.{failing, instances_told, before_turn, world_after_step}
use Rattle.scr_world.specs.Worlds.{origins_of}
use Rattle.scr_laws.specs.Stills.{LeavesStage, is_quiet_step}

lives_kept : (f : Instance → Instance) (is : List Instance) → ((i : Instance) → (f i).origin ≡ i.origin) → origins_of (map f is) ≡ origins_of is
lives_kept f [] each = refl
lives_kept f (i ∷ is) each = ap (λ l. l ∷ origins_of (map f is)) (each i) ∙ ap (λ ls. i.origin ∷ ls) (lives_kept f is each)

pub life_of_either : (b : Bool) (i j k : Instance) → i.origin ≡ k.origin → j.origin ≡ k.origin → (cond b i j).origin ≡ k.origin
life_of_either true i j k a b = a
life_of_either false i j k a b = b

life_taken : (m : BeforeTurn) (callback : Callback) (i : Instance) → (with_effect_of_begin m callback i).origin ≡ i.origin
life_taken m Create i = refl
life_taken m (Bind reference service) i = refl
life_taken m (Updated reference service) i = refl
life_taken m (Unbind reference service) i = refl
life_taken m Activate i = refl
life_taken m Modified i = refl
life_taken m Deactivate i = refl
life_taken m Destroy i = refl

all_live : (is : List Instance) → list_all lives_on is ≡ true → filter lives_on is ≡ is
all_live [] each = refl
all_live (i ∷ is) each = let both = and_parts (lives_on i) (list_all lives_on is) each in
    ap (λ b. cond b (i ∷ filter lives_on is) (filter lives_on is)) both.0 ∙ ap (λ js. i ∷ js) (all_live is both.1)

pub none_in : (ns : List ℕ) → is_empty ns ≡ true → ns ≡ []
none_in [] is = refl
none_in (n ∷ ns) is = cc

-- a beginning that tells an instance
told_leaves : (w : World) (turn instance configuration consumer : ℕ) (callback : Callback) (chosen : List Choice)
    → instances_told (Begin turn instance configuration consumer callback chosen) w ≡ map (with_callback_begun (before_turn w) turn instance callback) w.instances → LeavesStage (Begin turn instance configuration consumer callback chosen) w
unfolding world_after_step
told_leaves w turn instance configuration consumer callback chosen is = record {
  place = refl;
  documents = refl;
  registry = refl;
  components = refl;
  open_periods = refl;
  failing = refl;
  origins = ap origins_of is ∙ lives_kept (with_callback_begun (before_turn w) turn instance callback) w.instances (λ i. life_of_either (i.number == instance) (with_effect_of_begin (before_turn w) callback _) i i (life_taken (before_turn w) callback _) refl);
}

pub leaves_stage : (step : Step) (w : World) → is_quiet_step step w ≡ true → LeavesStage step w
unfolding world_after_step
leaves_stage (Commanded command) w is = cc
leaves_stage (Begin turn instance configuration consumer Create chosen) w is = cc
leaves_stage (Begin turn instance configuration consumer (Bind reference service) chosen) w is = told_leaves w turn instance configuration consumer (Bind reference service) chosen refl
leaves_stage (Begin turn instance configuration consumer (Updated reference service) chosen) w is = told_leaves w turn instance configuration consumer (Updated reference service) chosen refl
leaves_stage (Begin turn instance configuration consumer (Unbind reference service) chosen) w is = told_leaves w turn instance configuration consumer (Unbind reference service) chosen refl
leaves_stage (Begin turn instance configuration consumer Activate chosen) w is = told_leaves w turn instance configuration consumer Activate chosen refl
leaves_stage (Begin turn instance configuration consumer Modified chosen) w is = told_leaves w turn instance configuration consumer Modified chosen refl
leaves_stage (Begin turn instance configuration consumer Deactivate chosen) w is = told_leaves w turn instance configuration consumer Deactivate chosen refl
leaves_stage (Begin turn instance configuration consumer Destroy chosen) w is = told_leaves w turn instance configuration consumer Destroy chosen refl
leaves_stage (End turn outcome) w is =
    let both = and_parts (list_all lives_on (instances_told (End turn outcome) w)) (is_empty (failing (End turn outcome) w)) is in record {
      place = refl;
      documents = refl;
      registry = refl;
      components = refl;
      open_periods = refl;
      failing = none_in (failing (End turn outcome) w) both.1;
      origins = ap origins_of (all_live (instances_told (End turn outcome) w) both.0) ∙ lives_kept (ended_in turn outcome w.generations) w.instances (λ i. life_of_either (has_turn turn i) (with_outcome outcome w.generations i) i i refl refl);
    }
leaves_stage (Drained instance) w is = record {
  place = refl;
  documents = refl;
  registry = refl;
  components = refl;
  open_periods = refl;
  failing = refl;
  origins = lives_kept (drained_in instance) w.instances (λ i. life_of_either (i.number == instance) (record i { drained = true }) i i refl refl);
}
leaves_stage (Got bundle service) w is = record { place = refl; documents = refl; registry = refl; components = refl; open_periods = refl; failing = refl; origins = refl }
leaves_stage (Released place) w is = record { place = refl; documents = refl; registry = refl; components = refl; open_periods = refl; failing = refl; origins = refl }
