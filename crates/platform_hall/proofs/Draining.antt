-- Drains that are posted one after the other: each leaves less room, and where none is next none is awaited.
use Rattle.std.proofs.Common.{◌≡◌, ◌<◌, ◌-◌, ap, refl, true, false, ◌&&◌, Option, Some, None, arith}
use Rattle.std.specs.Prelude.{find, option_map, ◌==◌}
use Rattle.std.specs.List.{list_any}
use Rattle.std.proofs.lemmas.Bool.{and_from, eq-eqb}
use Rattle.component_state.proofs.Apart.{any_from}
use Rattle.scr_laws.proofs.Listed.{found_was}
use Rattle.journal_core.specs.declared.entry.GateKey.{GateKey}
use Rattle.scr_world.specs.declared.command.Limits.{Limits}
use Rattle.scr_world.specs.declared.step.Step.TheVariants.{Drained as DrainedStep}
use Rattle.scr_world.specs.declared.instance.Instance.{Instance}
use Rattle.scr_world.specs.Calls.{Drains, awaits_drain_at, next_drain}
use Rattle.scr_world.specs.Consequences.{gate_of}
use Rattle.scr_requests.specs.Cores.{CoreView}
use Rattle.scr_world.specs.Legal.{awaits_drain}
use Rattle.scr_world.specs.declared.world.World.{World}
use Rattle.platform_hall.specs.Platforms.{world}
use Rattle.platform_hall.proofs.Lists.{any_not_found}
use Rattle.platform_hall.proofs.Steps.{grown_after, grown_shorter}

module _ (w : World) where
  pub none_awaits : next_drain w ≡ None → list_any (awaits_drain w) w.instances ≡ false
  none_awaits is = go (find (awaits_drain w) w.instances) refl is
    where
      go : (o : Option Instance) → find (awaits_drain w) w.instances ≡ o → option_map gate_of o ≡ None → list_any (awaits_drain w) w.instances ≡ false
      go None found next = any_not_found (awaits_drain w) w.instances found
      go (Some i) found next = cc

-- the gate that is to be drained next awaits its drain
pub next_awaits : (w : World) (key : GateKey) → next_drain w ≡ Some key → list_any (awaits_drain_at w key) w.instances ≡ true
next_awaits w key is = go (find (awaits_drain w) w.instances) refl is
  where
    go : (o : Option Instance) → find (awaits_drain w) w.instances ≡ o → option_map gate_of o ≡ Some key → list_any (awaits_drain_at w key) w.instances ≡ true
    go None found is = cc
    go (Some i) found is =
        let there = found_was (awaits_drain w) w.instances i found in
        let slot : i.slot ≡ key.slot = cc in
        let generation : i.generation ≡ key.generation = cc in
        any_from (awaits_drain_at w key) w.instances i there.0
        (and_from ((i.slot == key.slot) && (i.generation == key.generation)) (awaits_drain w i) (and_from (i.slot == key.slot) (i.generation == key.generation) (eq-eqb i.slot key.slot slot) (eq-eqb i.generation key.generation generation)) there.1)

-- each drain leaves less room
pub room_falls : (before after : CoreView) (key : GateKey) → after.limits ≡ before.limits → Drains before.limits.journal before.journal key after.journal
    → after.limits.journal - (world after).entries < before.limits.journal - (world before).entries
room_falls before after key same (i, found, grown) =
    let short = grown_shorter before.limits.journal before.journal after.journal (DrainedStep i.number) grown in
    let more = (grown_after before.limits.journal before.journal after.journal (DrainedStep i.number) grown).entries in
    let limits : after.limits.journal ≡ before.limits.journal = ap (λ (l : Limits). l.journal) same in omega (arith, short, more, limits)
