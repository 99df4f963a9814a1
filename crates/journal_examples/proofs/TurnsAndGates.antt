-- What else is told of a journal: its turns, the work under way, the gates of instances with what shuts, reopens and drains them, what is held and what is reserved.
-- The values are those of an independent model of the platform.
use Rattle.std.specs.Prelude.{◌≡◌, refl, ℕ, List, [], ◌∷◌, codes, map, find, Option, Some, None, option_map}
use Rattle.callback_orders.specs.declared.callback.Callback.{Callback}
use Rattle.callback_orders.specs.declared.callback.Callback.TheVariants.{Create, Bind, Unbind, Activate, Deactivate, Destroy}
use Rattle.callback_orders.specs.declared.callback.Outcome.TheVariants.{Done}
use Rattle.turn_work.specs.declared.work.TurnWork.{TurnWork}
use Rattle.scr_world.specs.Calls.{awaits_drain_at, next_drain}
use Rattle.scr_world.specs.Consequences.{shut_between, stage_in, stage_of, stopped_by, stopped_in}
use Rattle.scr_world.specs.Lists.{world_after_entry, world_of}
use Rattle.scr_world.specs.Readers.{held_lines}
use Rattle.scr_world.specs.Room.{has_room, reserved}
use Rattle.scr_world.specs.Stepping.{world_after_step}
use Rattle.scr_world.specs.TurnLines.{turns_above}
use Rattle.scr_world.specs.TurnSteps.{work_under_way}
use Rattle.scr_world.specs.Worlds.{satisfied_in}
use Rattle.scr_world.specs.declared.instance.Instance.{Instance}
use Rattle.scr_world.specs.declared.lines.HeldLine.{HeldLine}
use Rattle.scr_world.specs.declared.lines.TurnLine.{TurnLine}
use Rattle.scr_world.specs.declared.world.World.{World}
use Rattle.journal_examples.proofs.Gates.{gates, held_services, reopened_by_each, shut_by, some_of}
use Rattle.journal_examples.proofs.Tests.{worlds}
use Rattle.journal_examples.proofs.StopOfProvider.{past13 as binding, past14 as active, past15 as stopped, past16 as half_drained, past17 as drained, past27 as rested}

-- the worlds of the journal, the last one first
abbrev all : List World
all = worlds rested

-- ---- turns

-- a turn that has ended Done, and one that is under way
abbrev ran : ℕ → Callback → ℕ → List ℕ → TurnLine
ran turn callback instance name = record { turn = turn; callback = callback; instance = instance; name = name; outcome = Some Done }

abbrev runs : ℕ → Callback → ℕ → List ℕ → TurnLine
runs turn callback instance name = record { turn = turn; callback = callback; instance = instance; name = name; outcome = None }

all_turns : turns_above 0 rested ≡ (ran 1 Create 1 (codes "c") ∷ ran 2 Create 2 (codes "p") ∷ ran 3 Activate 2 (codes "p") ∷ ran 4 (Bind (codes "p") 1) 1 (codes "c") ∷ ran 5 Activate 1 (codes "c")
    ∷ ran 6 Deactivate 1 (codes "c") ∷ ran 7 (Unbind (codes "p") 1) 1 (codes "c") ∷ ran 8 Destroy 1 (codes "c") ∷ ran 9 Deactivate 2 (codes "p") ∷ ran 10 Destroy 2 (codes "p") ∷ [])
unfolding world_after_entry world_of world_after_step stage_in stage_of stopped_in stopped_by shut_between has_room satisfied_in
all_turns = refl

a_turn_is_under_way : turns_above 4 binding ≡ (runs 5 Activate 1 (codes "c") ∷ [])
unfolding world_after_entry world_of world_after_step stage_in stage_of stopped_in stopped_by shut_between has_room satisfied_in
a_turn_is_under_way = refl

no_later_turn : turns_above 10 rested ≡ []
unfolding world_after_entry world_of world_after_step stage_in stage_of stopped_in stopped_by shut_between has_room satisfied_in
no_later_turn = refl

its_callback : option_map (λ (work : TurnWork). work.callback) (work_under_way (world_of binding) 5) ≡ Some Activate
unfolding world_after_entry world_of world_after_step stage_in stage_of stopped_in stopped_by shut_between has_room satisfied_in
its_callback = refl

its_instance : option_map (λ (work : TurnWork). work.instance) (work_under_way (world_of binding) 5) ≡ Some 1
unfolding world_after_entry world_of world_after_step stage_in stage_of stopped_in stopped_by shut_between has_room satisfied_in
its_instance = refl

its_class : option_map (λ (work : TurnWork). work.site.class) (work_under_way (world_of binding) 5) ≡ Some (codes "C")
unfolding world_after_entry world_of world_after_step stage_in stage_of stopped_in stopped_by shut_between has_room satisfied_in
its_class = refl

its_name : option_map (λ (work : TurnWork). work.name) (work_under_way (world_of binding) 5) ≡ Some (codes "c")
unfolding world_after_entry world_of world_after_step stage_in stage_of stopped_in stopped_by shut_between has_room satisfied_in
its_name = refl

another_number : work_under_way (world_of binding) 4 ≡ None
unfolding world_after_entry world_of world_after_step stage_in stage_of stopped_in stopped_by shut_between has_room satisfied_in
another_number = refl

ended_work : work_under_way (world_of active) 5 ≡ None
unfolding world_after_entry world_of world_after_step stage_in stage_of stopped_in stopped_by shut_between has_room satisfied_in
ended_work = refl

-- ---- what is held

abbrev holds : ℕ → List ℕ → ℕ → HeldLine
holds instance reference service = record { instance = instance; reference = reference; service = service }

held_by_one : held_lines (world_of active) 2 ≡ (holds 1 (codes "p") 1 ∷ [])
unfolding world_after_entry world_of world_after_step stage_in stage_of stopped_in stopped_by shut_between has_room satisfied_in
held_by_one = refl

held_by_none : held_lines (world_of active) 1 ≡ []
unfolding world_after_entry world_of world_after_step stage_in stage_of stopped_in stopped_by shut_between has_room satisfied_in
held_by_none = refl

held : map held_services all ≡ ([] ∷ ((2, []) ∷ []) ∷ ((2, []) ∷ []) ∷ ((2, []) ∷ []) ∷ ((2, []) ∷ []) ∷ ((1, ([] ∷ [])) ∷ (2, []) ∷ []) ∷ ((1, ([] ∷ [])) ∷ (2, []) ∷ []) ∷ ((1, ((1 ∷ []) ∷ [])) ∷ (2, []) ∷ []) ∷ ((1, ((1 ∷ []) ∷ [])) ∷ (2, []) ∷ []) ∷ ((1, ((1 ∷ []) ∷ [])) ∷ (2, []) ∷ []) ∷ ((1, ((1 ∷ []) ∷ [])) ∷ (2, []) ∷ []) ∷ ((1, ((1 ∷ []) ∷ [])) ∷ (2, []) ∷ []) ∷ ((1, ((1 ∷ []) ∷ [])) ∷ (2, []) ∷ []) ∷ ((1, ((1 ∷ []) ∷ [])) ∷ (2, []) ∷ []) ∷ ((1, ((1 ∷ []) ∷ [])) ∷ (2, []) ∷ []) ∷ ((1, ((1 ∷ []) ∷ [])) ∷ (2, []) ∷ []) ∷ ((1, ((1 ∷ []) ∷ [])) ∷ (2, []) ∷ []) ∷ ((1, ([] ∷ [])) ∷ (2, []) ∷ []) ∷ ((1, ([] ∷ [])) ∷ (2, []) ∷ []) ∷ ((1, ([] ∷ [])) ∷ (2, []) ∷ []) ∷ ((1, ([] ∷ [])) ∷ (2, []) ∷ []) ∷ ((1, ([] ∷ [])) ∷ []) ∷ ((1, ([] ∷ [])) ∷ []) ∷ [] ∷ [] ∷ [] ∷ [] ∷ [] ∷ [])
unfolding world_after_entry world_of world_after_step stage_in stage_of stopped_in stopped_by shut_between has_room satisfied_in
held = refl

-- ---- gates

gate_keys : map gates all ≡ ([] ∷ ((2, 1, 1) ∷ []) ∷ ((2, 1, 1) ∷ []) ∷ ((2, 1, 1) ∷ []) ∷ ((2, 1, 1) ∷ []) ∷ ((1, 0, 1) ∷ (2, 1, 1) ∷ []) ∷ ((1, 0, 1) ∷ (2, 1, 1) ∷ []) ∷ ((1, 0, 1) ∷ (2, 1, 1) ∷ []) ∷ ((1, 0, 1) ∷ (2, 1, 1) ∷ []) ∷ ((1, 0, 1) ∷ (2, 1, 1) ∷ []) ∷ ((1, 0, 1) ∷ (2, 1, 1) ∷ []) ∷ ((1, 0, 1) ∷ (2, 1, 1) ∷ []) ∷ ((1, 0, 1) ∷ (2, 1, 1) ∷ []) ∷ ((1, 0, 1) ∷ (2, 1, 1) ∷ []) ∷ ((1, 0, 0) ∷ (2, 1, 1) ∷ []) ∷ ((1, 0, 0) ∷ (2, 1, 1) ∷ []) ∷ ((1, 0, 0) ∷ (2, 1, 1) ∷ []) ∷ ((1, 0, 0) ∷ (2, 1, 1) ∷ []) ∷ ((1, 0, 0) ∷ (2, 1, 0) ∷ []) ∷ ((1, 0, 0) ∷ (2, 1, 0) ∷ []) ∷ ((1, 0, 0) ∷ (2, 1, 0) ∷ []) ∷ ((1, 0, 0) ∷ []) ∷ ((1, 0, 0) ∷ []) ∷ [] ∷ [] ∷ [] ∷ [] ∷ [] ∷ [])
unfolding world_after_entry world_of world_after_step stage_in stage_of stopped_in stopped_by shut_between has_room satisfied_in
gate_keys = refl

shut_gates : some_of (shut_by all) ≡ ((14, ((0, 1) ∷ (1, 1) ∷ [])) ∷ [])
unfolding world_after_entry world_of world_after_step stage_in stage_of stopped_in stopped_by shut_between has_room satisfied_in
shut_gates = refl

reopened_gates : some_of (reopened_by_each rested all) ≡ ((13, ((0, 1) ∷ [])) ∷ (9, ((1, 1) ∷ [])) ∷ [])
unfolding world_after_entry world_of world_after_step stage_in stage_of stopped_in stopped_by shut_between has_room satisfied_in
reopened_gates = refl

no_drain : next_drain (world_of active) ≡ None
unfolding world_after_entry world_of world_after_step stage_in stage_of stopped_in stopped_by shut_between has_room satisfied_in
no_drain = refl

first_drain : next_drain (world_of stopped) ≡ Some (record { slot = 0; generation = 1 })
unfolding world_after_entry world_of world_after_step stage_in stage_of stopped_in stopped_by shut_between has_room satisfied_in
first_drain = refl

second_drain : next_drain (world_of half_drained) ≡ Some (record { slot = 1; generation = 1 })
unfolding world_after_entry world_of world_after_step stage_in stage_of stopped_in stopped_by shut_between has_room satisfied_in
second_drain = refl

last_drain : next_drain (world_of drained) ≡ None
unfolding world_after_entry world_of world_after_step stage_in stage_of stopped_in stopped_by shut_between has_room satisfied_in
last_drain = refl

-- the instance whose drain a gate asks for: both its slot and its generation are those of the key
abbrev drained_at : World → ℕ → ℕ → Option ℕ
drained_at w slot generation = option_map (λ (i : Instance). i.number) (find (awaits_drain_at w (record { slot = slot; generation = generation })) w.instances)

drains_by_gate : (drained_at (world_of stopped) 0 1 ∷ drained_at (world_of stopped) 1 1 ∷ []) ≡ (Some 1 ∷ Some 2 ∷ [])
unfolding world_after_entry world_of world_after_step stage_in stage_of stopped_in stopped_by shut_between has_room satisfied_in
drains_by_gate = refl

no_such_gate : (drained_at (world_of stopped) 0 2 ∷ drained_at (world_of stopped) 1 2 ∷ drained_at (world_of stopped) 2 1 ∷ []) ≡ (None ∷ None ∷ None ∷ [])
unfolding world_after_entry world_of world_after_step stage_in stage_of stopped_in stopped_by shut_between has_room satisfied_in
no_such_gate = refl

-- one that isn't shut has no drain, and one that is drained has none any more
no_drain_due : (drained_at (world_of active) 1 1 ∷ drained_at (world_of half_drained) 0 1 ∷ drained_at (world_of half_drained) 1 1 ∷ []) ≡ (None ∷ None ∷ Some 2 ∷ [])
unfolding world_after_entry world_of world_after_step stage_in stage_of stopped_in stopped_by shut_between has_room satisfied_in
no_drain_due = refl

-- ---- what is reserved

room : map reserved all ≡ (0 ∷ 1 ∷ 0 ∷ 1 ∷ 0 ∷ 1 ∷ 0 ∷ 1 ∷ 0 ∷ 1 ∷ 0 ∷ 1 ∷ 2 ∷ 2 ∷ 3 ∷ 1 ∷ 2 ∷ 1 ∷ 2 ∷ 0 ∷ 1 ∷ 0 ∷ 1 ∷ 0 ∷ 0 ∷ 0 ∷ 0 ∷ 0 ∷ [])
unfolding world_after_entry world_of world_after_step stage_in stage_of stopped_in stopped_by shut_between has_room satisfied_in
room = refl
