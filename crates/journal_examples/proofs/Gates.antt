-- What the examples look at in worlds: gates with what shuts and reopens them, and what instances hold.
use Rattle.std.specs.Prelude.{ℕ, List, [], ◌∷◌, map, filter, not}
use Rattle.std.specs.Option.{option_map_or}
use Rattle.callback_orders.specs.declared.instance_view.HeldService.{HeldService}
use Rattle.callback_orders.specs.declared.instance_view.InstanceView.{InstanceView}
use Rattle.callback_orders.specs.declared.instance_view.ReferenceView.{ReferenceView}
use Rattle.journal_core.specs.declared.entry.GateKey.{GateKey}
use Rattle.prop_map.specs.Words.{is_empty}
use Rattle.scr_world.specs.Consequences.{reopened_by, shut_between}
use Rattle.scr_world.specs.Steps.{History}
use Rattle.scr_world.specs.Views.{view_of}
use Rattle.scr_world.specs.declared.instance.Instance.{Instance}
use Rattle.scr_world.specs.declared.step.Step.{Step}
use Rattle.scr_world.specs.declared.step.Step.TheVariants.{Command as Commanded, Begin, End, Drained, Got, Released}
use Rattle.scr_world.specs.declared.world.World.{World}

-- of each living instance its number, and what it holds for each reference, best first
abbrev pub held_services : World → List (ℕ × List (List ℕ))
held_services w = map (λ (v : InstanceView). (v.instance, map (λ (r : ReferenceView). map (λ (h : HeldService). h.service) r.held) v.references)) (map (view_of w) w.instances)

-- of each living instance its number, the slot of its gate and the generation
abbrev pub gates : World → List (ℕ × ℕ × ℕ)
gates w = map (λ (i : Instance). (i.number, i.slot, i.generation)) w.instances

abbrev pub slot_and_generation : GateKey → ℕ × ℕ
slot_and_generation key = (key.slot, key.generation)

-- the gates that each entry shuts, with its place, the last entry first
abbrev pub shut_by : List World → List (ℕ × List (ℕ × ℕ))
shut_by [] = []
shut_by (now ∷ []) = []
shut_by (now ∷ before ∷ ws) = (before.entries, map slot_and_generation (shut_between before now)) ∷ shut_by (before ∷ ws)

-- those that it reopens
abbrev pub reopened_by_step : Step → World → List (ℕ × ℕ)
reopened_by_step (End turn outcome) before = option_map_or (λ key. slot_and_generation key ∷ []) (reopened_by turn outcome before) []
reopened_by_step (Commanded command) before = []
reopened_by_step (Begin turn instance configuration consumer callback chosen) before = []
reopened_by_step (Drained instance) before = []
reopened_by_step (Got bundle service) before = []
reopened_by_step (Released place) before = []

abbrev pub reopened_by_each : History → List World → List (ℕ × List (ℕ × ℕ))
reopened_by_each [] ws = []
reopened_by_each (entry ∷ past) [] = []
reopened_by_each (entry ∷ past) (now ∷ []) = []
reopened_by_each (entry ∷ past) (now ∷ before ∷ ws) = (before.entries, reopened_by_step entry.step before) ∷ reopened_by_each past (before ∷ ws)

abbrev pub some_of : List (ℕ × List (ℕ × ℕ)) → List (ℕ × List (ℕ × ℕ))
some_of lists = filter (λ l. not (is_empty l.1)) lists
