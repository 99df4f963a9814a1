use Rattle.std.proofs.Common.{subst, sym, Ok}
use Rattle.std.specs.Prelude.{Bool}
use Rattle.script_shell.specs.Asks.{Setting}
use Rattle.script_shell.specs.Rests.{RestsBy}
use Rattle.script_shell.proofs.NothingDue.{settles_none}
use Rattle.script_shell.proofs.line_run.rest.Goals as goal

pub returns-then-rested : goal.returns-then-rested
returns-then-rested g c =
    let s : Setting = record { is_manual = c.args.manual; refuses = g.K.Kinds.refuses; next = g.K.Kinds.next } in
    let p = c.args.platform.now in
    let settles = settles_none g.K.Kinds.refuses p.limits.turns p (c.requires c.if-rested.true) in
    let P : Bool → Type 0 = λ manual. RestsBy manual s p p in (
      subst P (sym c.if-manual.false) (0, (settles, λ names. c.note_settle_bound.ensures g.K.Kinds.refuses p p (Ok 0) c.core.ensures.legal names settles)),
      λ auto none. (
        c.note_rest.ensures.quiet g.K.Kinds.refuses p.limits.turns 0 p p c.core.ensures.legal none settles,
        c.note_rest.ensures.right g.K.Kinds.refuses p.limits.turns 0 p p c.core.ensures.legal none settles,
      ),
    )

pub returns-in-Ok : goal.returns-in-Ok
returns-in-Ok g c =
    let s : Setting = record { is_manual = c.args.manual; refuses = g.K.Kinds.refuses; next = g.K.Kinds.next } in
    let before = c.args.platform.now in
    let after = c.settle.new.self in
    let P : Bool → Type 0 = λ manual. RestsBy manual s before after in (
      subst P (sym c.if-manual.false) (c.in-Ok.field-0, c.in-Ok.ensures.settles),
      λ auto none. (
        c.note_rest.ensures.quiet g.K.Kinds.refuses before.limits.turns c.in-Ok.field-0 before after c.core.ensures.legal none c.in-Ok.ensures.settles.0,
        c.note_rest.ensures.right g.K.Kinds.refuses before.limits.turns c.in-Ok.field-0 before after c.core.ensures.legal none c.in-Ok.ensures.settles.0,
      ),
    )
