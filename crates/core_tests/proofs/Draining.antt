-- The gate that is to be drained next awaits its drain.
use Rattle.std.proofs.Common.{◌≡◌, refl, true, ◌&&◌, Option, Some, None}
use Rattle.std.specs.Prelude.{find, option_map, ◌==◌}
use Rattle.std.specs.List.{list_any}
use Rattle.std.proofs.lemmas.Bool.{and_from, eq-eqb}
use Rattle.component_state.proofs.Apart.{any_from}
use Rattle.journal_core.specs.declared.entry.GateKey.{GateKey}
use Rattle.scr_laws.proofs.Listed.{found_was}
use Rattle.scr_world.specs.Calls.{awaits_drain_at, next_drain}
use Rattle.scr_world.specs.Consequences.{gate_of}
use Rattle.scr_world.specs.Legal.{awaits_drain}
use Rattle.scr_world.specs.declared.instance.Instance.{Instance}
use Rattle.scr_world.specs.declared.world.World.{World}

pub next_awaits : (w : World) (key : GateKey) → next_drain w ≡ Some key → list_any (awaits_drain_at w key) w.instances ≡ true
next_awaits w key is = go (find (awaits_drain w) w.instances) refl is
  where
    go : (o : Option Instance) → find (awaits_drain w) w.instances ≡ o → option_map gate_of o ≡ Some key → list_any (awaits_drain_at w key) w.instances ≡ true
    go None found told = cc
    go (Some i) found told =
        let there = found_was (awaits_drain w) w.instances i found in
        let slot : i.slot ≡ key.slot = cc in
        let generation : i.generation ≡ key.generation = cc in
        any_from (awaits_drain_at w key) w.instances i there.0
        (and_from ((i.slot == key.slot) && (i.generation == key.generation)) (awaits_drain w i) (and_from (i.slot == key.slot) (i.generation == key.generation) (eq-eqb i.slot key.slot slot) (eq-eqb i.generation key.generation generation)) there.1)
