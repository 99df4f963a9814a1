use Rattle.std.proofs.Common.{◌≡◌, ◌∙◌, ◌&&◌, ap, inr, length, refl, rules, sym, true}
use Rattle.std.specs.Prelude.{◌==◌}
use Rattle.script_shell.specs.Asks.{Setting, commands_of}
use Rattle.script_shell.specs.Rests.{HasNothingDue}
use Rattle.script_shell.proofs.NothingDue.{still_nothing_due}
use Rattle.script_shell.proofs.Resting.{asks_still}
use Rattle.script_shell.proofs.line_run.run_line.Goals as goal

pub rest-requires : goal.rest-requires
rest-requires g c =
    let s : Setting = record { is_manual = c.args.manual; refuses = g.K.Kinds.refuses; next = g.K.Kinds.next } in
    let after = c.carry_out.new.platform in
    let still : c.rested_still-still.result ≡ true → HasNothingDue after = λ is.
    still_nothing_due s c.args.asked c.args.platform.now after c.in_ok-told.told c.args.rested c.in_ok-told.ensures c.requires
    (ap (λ n. c.args.rested && (length after.journal == n)) (sym c.entries-before.ensures) ∙ sym c.rested_still-still.ensures ∙ is) in
    (search rules, (search rules, still))

pub returns-in-Ok : goal.returns-in-Ok
returns-in-Ok g c =
    let s : Setting = record { is_manual = c.args.manual; refuses = g.K.Kinds.refuses; next = g.K.Kinds.next } in
    let rests = c.in-Ok.ensures in (
      c.carry_out.new.platform,
      c.in_ok-told.ensures,
      rests.0,
      λ auto none. rests.1 auto (asks_still c.note_turns_end.ensures s c.args.asked c.args.platform.now c.carry_out.new.platform c.in_ok-told.told auto c.core.ensures.legal c.in_ok-told.ensures none),
    )

pub returns-in-Err : goal.returns-in-Err
returns-in-Err g c =
    let cut = c.in-Err.ensures in (commands_of c.args.platform.now c.args.asked, inr (cut.0, (c.carry_out.new.platform, c.in_ok-told.told, c.in_ok-told.ensures, cut.1), refl))
