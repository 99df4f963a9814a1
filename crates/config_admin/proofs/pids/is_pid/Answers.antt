use Rattle.std.proofs.Common.{◌≡◌, ap, sym, ◌∙◌, true, false}
use Rattle.std.specs.List.{list_all}
use Rattle.std.specs.Prelude.{◌&&◌, not}
use Rattle.prop_map.specs.Words.{is_empty}
use Rattle.config_admin.specs.Refusals.{is_pid_byte}
use Rattle.config_admin.proofs.Emptiness.{no_items}
use Rattle.config_admin.proofs.pids.is_pid.Goals as goal

pub returns-then-is_empty : goal.returns-then-is_empty
returns-then-is_empty c =
    let none : is_empty c.args.text.now ≡ true = sym (no_items c.args.text.now) ∙ sym c.is_empty.ensures ∙ c.if-is_empty.true in
    sym (ap (λ b. not b && list_all is_pid_byte c.args.text.now) none)

pub returns : goal.returns
returns c =
    let some : is_empty c.args.text.now ≡ false = sym (no_items c.args.text.now) ∙ sym c.is_empty.ensures ∙ c.if-is_empty.false in
    c.are_pid_bytes.ensures ∙ ap (list_all is_pid_byte) c.as_bytes.ensures.value ∙ sym (ap (λ b. not b && list_all is_pid_byte c.args.text.now) some)
