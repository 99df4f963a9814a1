-- The drain of a gate that is found.
use Rattle.std.proofs.Common.{◌≡◌, ℕ, List, refl, sym, ap, ◌∙◌, subst, Option, Some, None, ◌&&◌, true}
use Rattle.std.specs.Prelude.{find, option_map, ◌==◌}
use Rattle.std.specs.List.{list_any}
use Rattle.std.proofs.lemmas.Bool.{and_from, and_parts, eq-eqb}
use Rattle.component_state.proofs.Apart.{any_found, any_from}
use Rattle.journal_core.specs.Rooms.{JournalRows}
use Rattle.journal_core.specs.declared.entry.Entry.{Entry}
use Rattle.journal_core.specs.declared.entry.GateKey.{GateKey}
use Rattle.scr_core.proofs.Idle.{some_found}
use Rattle.scr_laws.proofs.Listed.{found_was}
use Rattle.scr_state.specs.Keeps.{Keeps}
use Rattle.scr_state.specs.declared.state.State.{State}
use Rattle.scr_world.specs.Calls.{Drains, Grown, awaits_drain_at, world_at}
use Rattle.scr_world.specs.Legal.{MayCome, awaits_drain}
use Rattle.scr_world.specs.declared.instance.Instance.{Instance}
use Rattle.scr_world.specs.declared.step.Step.{Step}
use Rattle.scr_world.specs.declared.step.Step.TheVariants.{Drained}
use Rattle.scr_world.specs.declared.world.World.{World}

-- the number of the found instance
abbrev pub number_at : World → GateKey → Option ℕ
number_at w key = option_map (λ (i : Instance). i.number) (find (awaits_drain_at w key) w.instances)

found_one : (o : Option Instance) (n : ℕ) → Some n ≡ option_map (λ (i : Instance). i.number) o → (i : Instance) × (o ≡ Some i) × (n ≡ i.number)
found_one None n is = cc
found_one (Some i) n is = (i, refl, (let here : n ≡ i.number = cc in here))

-- where one awaits its drain, one is found
pub some_awaits : (j : JournalRows Step) (s : State) → Keeps j s → (key : GateKey) → list_any (awaits_drain_at (world_at j.entries) key) (world_at j.entries).instances ≡ true → None ≡ number_at s.world key → ⊥
some_awaits j s keeps key awaits none =
    let here = subst (λ (w : World). list_any (awaits_drain_at w key) w.instances ≡ true) (sym keeps.world) awaits in
    let one = any_found (awaits_drain_at s.world key) s.world.instances here in
    let found = some_found (awaits_drain_at s.world key) s.world.instances one.0 one.1 one.2 in
    let both : None ≡ Some found.0.number = none ∙ ap (option_map (λ (i : Instance). i.number)) found.1 in cc

pub drain_may : (w : World) (key : GateKey) (n : ℕ) → Some n ≡ number_at w key → MayCome w (Drained n)
drain_may w key n is =
    let found = found_one (find (awaits_drain_at w key) w.instances) n is in
    let there = found_was (awaits_drain_at w key) w.instances found.0 found.1 in
    any_from (λ (i : Instance). (i.number == n) && awaits_drain w i) w.instances found.0 there.0
    (and_from (found.0.number == n) (awaits_drain w found.0) (eq-eqb found.0.number n (sym found.2)) (and_parts ((found.0.slot == key.slot) && (found.0.generation == key.generation)) (awaits_drain w found.0) there.1).1)

pub drains : (j : JournalRows Step) (s : State) → Keeps j s → (key : GateKey) (n : ℕ) (step : Step) (new : List (Entry Step)) → Some n ≡ number_at s.world key → step ≡ Drained n → Grown j.limit j.entries step new → Drains j.limit j.entries key new
drains j s keeps key n step new named is grown =
    let found = found_one (find (awaits_drain_at (world_at j.entries) key) (world_at j.entries).instances) n (subst (λ (w : World). Some n ≡ number_at w key) keeps.world named) in
    (found.0, found.1, subst (λ (x : Step). Grown j.limit j.entries x new) (is ∙ ap Drained found.2) grown)
