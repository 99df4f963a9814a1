use Rattle.std.proofs.Common.{◌≡◌, ◌∙◌, ap, sym, false, Some}
use Rattle.std.specs.Prelude.{◌==◌}
use Rattle.std.specs.List.{list_any}
use Rattle.scr_still.specs.StillEnds.{held_still}
use Rattle.scr_still.proofs.StillHeld.{none_lost}
use Rattle.service_registry.specs.declared.row.ServiceRow.{ServiceRow}
use Rattle.scr_still.proofs.leavings.lost_by.Goals as goal

pub returns-then-not-stands_among : goal.returns-then-not-stands_among
returns-then-not-stands_among c =
    let a = c.if-not-stands_among.ensures in
    let b = c.as_slice.ensures in
    let d = c.in-Some.is in
    let unbound : c.args.unbound ≡ Some c.in-Some.service = cc in
    let none : list_any (λ (r : ServiceRow). r.id == c.in-Some.service) c.args.world.now.unregistered_held ≡ false = cc in
    none_lost c.args.world.now c.in-Some.service none ∙ ap (held_still c.args.world.now) (sym unbound)
