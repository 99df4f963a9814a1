use Rattle.std.proofs.Common.{◌∙◌, ap, length, sym}
use Rattle.scr_growth.specs.Growths.{reserved_with_tokens}
use Rattle.scr_world.specs.declared.marks.Token.{Token}
use Rattle.std.specs.Prelude.{List}
use Rattle.scr_growth.proofs.settling.rest_of.Goals as goal

pub returns : goal.returns
returns c = λ was before stood draining.
    let left = c.in_ok-left.ensures was (sym before.registry ∙ sym c.rows_with-rows.ensures.rows) (sym before.periods ∙ sym c.periods_before-before.ensures) in
    record {
      entries = c.requires.entries;
      gets = c.in_ok-gets.ensures.standing was stood (c.as_slice.ensures ∙ left);
      held = c.in_ok-unregistered_held_between.ensures was (c.as_slice-2.ensures ∙ left) before.held;
      shut = c.in_ok-shut_since.ensures was (c.as_slice-3.ensures ∙ draining);
      reserved = c.reserved-reserved.ensures ∙ ap (λ (ts : List Token). reserved_with_tokens c.args.world.now (length ts)) c.tokens_left.ensures;
    }
