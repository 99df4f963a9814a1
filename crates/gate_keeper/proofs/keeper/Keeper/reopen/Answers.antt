use Rattle.std.proofs.Common.{◌≡◌, ◌*◌, ap, arith, false, subst, sym}
use Rattle.call_gate.specs.declared.rule.GateView.{GateView}
use Rattle.gate_keeper.specs.Keepers.{AreMet, KeeperView, is_shelved, keys_held}
use Rattle.gate_keeper.proofs.Keeping.{moved}
use Rattle.gate_keeper.proofs.Meetings.{set_met}
use Rattle.gate_keeper.proofs.keeper.Keeper.reopen.Goals as goal

pub invariant_of-self : goal.invariant_of-self
invariant_of-self c =
    let seat = c.self.inside.seat in
    let shelf = c.self.inside.shelf.items in
    let key = c.in-Ok.field-0 in
    let ok = c.in-Ok.ensures.ok in
    let away : is_shelved (keys_held shelf) c.args.key.slot ≡ false = subst (λ (k : KeeperView). is_shelved k.shelf c.args.key.slot ≡ false) (sym c.self.view_is) c.requires.can.posted in (
      moved seat shelf _ c.self.invariant.0 c.reopen.new.seat key.slot (4 * key.generation) c.in-Ok.ensures.same (ap (λ (v : GateView). v.keeps) ok.2) (ap (λ (v : GateView). v.inside) ok.2) (ap (λ (v : GateView). v.levels) ok.2)
          (subst (λ s. is_shelved (keys_held shelf) s ≡ false) (sym ok.0) away),
      subst (λ (v : GateView). AreMet v.levels v.visited) (sym ok.2) (set_met seat.knows.levels key.slot (4 * key.generation) seat.knows.visited (λ e. absurd (omega (arith, e))) c.self.invariant.1),
    )
