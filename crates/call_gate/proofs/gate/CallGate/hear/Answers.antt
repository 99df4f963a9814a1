use Rattle.std.proofs.Common.{◌+◌, ◌*◌, ◌≤◌, get_or, rules, arith, ap, ◌∙◌, subst, sym}
use Rattle.call_gate.specs.Gates.{HasKey}
use Rattle.call_gate.proofs.Keeps.{splits, hears, looks}
use Rattle.call_gate.proofs.Seats.{note_tells, not_known}
use Rattle.call_gate.proofs.gate.CallGate.hear.Goals as goal

pub split_seat-note-requires : goal.split_seat-note-requires
split_seat-note-requires c = (search rules, search rules, splits _ _ _)

pub join_seat-requires : goal.join_seat-requires
join_seat-requires c = (search rules, search rules, search rules, search rules, hears _ _ _ _ _ (ap (λ m. m.0.cut) c.split_seat-note.ensures.4))

pub load-requires : goal.load-requires
load-requires c = let a = c.self.invariant.0 in let b = c.self.invariant.1 in (search rules, search rules, looks _ _ _ _ 0 (omega arith))

pub returns-clause-unclaimed : goal.returns-clause-unclaimed
returns-clause-unclaimed c key has =
    let n = key.slot in let g = key.generation in
    let t = note_tells c.keeper.inside.seat.me.0 c.seat.inside.seat.me.0 _ _ n g (ap (λ s. s.knows.keeps) c.keeper.view_is ∙ c.requires.keeper) (ap (λ m. m.0) c.split_seat-note.ensures.4) (ap (λ m. m.0) c.join_seat.ensures.2)
    (subst (λ s. HasKey n g s.knows.inside) (sym c.seat.view_is) has) c.load.ensures.2.2 in
    not_known _ g (subst (λ s. get_or s.knows.levels n 0 ≤ 4 * g + 1) c.keeper.view_is t)
