use Rattle.std.proofs.Common.{sym, ◌∙◌}
use Rattle.std.proofs.lemmas.Bool.{cond-false, cond-true}
use Rattle.callback_orders.specs.Grammar.{is_destroy}
use Rattle.hall_locked.proofs.parts.keep.Goals as goal

pub returns-then-is_destroyed : goal.returns-then-is_destroyed
returns-then-is_destroyed g c =
    (c.keep_made.new.parts.items, c.keep_made.ensures, c.let_part_go.ensures ∙ sym (cond-true (is_destroy c.args.work.callback) _ _ (sym c.is_destroy-is_destroyed.ensures ∙ c.if-is_destroyed.true)))

pub returns-else-is_destroyed : goal.returns-else-is_destroyed
returns-else-is_destroyed g c =
    (c.keep_made.new.parts.items, c.keep_made.ensures, sym (cond-false (is_destroy c.args.work.callback) _ _ (sym c.is_destroy-is_destroyed.ensures ∙ c.if-is_destroyed.false)))
