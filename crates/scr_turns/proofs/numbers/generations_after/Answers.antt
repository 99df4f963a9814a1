use Rattle.std.proofs.Common.{◌≡◌, ◌∙◌, ap, subst, sym, ℕ, List, Option}
use Rattle.std.specs.Option.{option_copied, option_to_list}
use Rattle.std.specs.Prelude.{◌&&◌, find}
use Rattle.scr_consequences.specs.Ends.{HaveNextGenerations}
use Rattle.scr_state.specs.Rows.{with_change}
use Rattle.scr_world.specs.Instances.{becomes_active, has_turn}
use Rattle.scr_world.specs.Stepping.{reopened_for}
use Rattle.scr_world.specs.declared.instance.Instance.{Instance}
use Rattle.scr_turns.proofs.InstanceRows.{reopened_first}
use Rattle.scr_turns.proofs.numbers.generations_after.Goals as goal

pub reopened_for-requires : goal.reopened_for-requires
reopened_for-requires c = subst (λ (gs : List ℕ). HaveNextGenerations gs) (sym c.as_slice-generations.ensures) c.requires.next

pub returns-in-End-clause-rows : goal.returns-in-End-clause-rows
returns-in-End-clause-rows c =
    rw (c.in-End.is, reopened_first)
    (subst (λ (o : Option Instance). with_change c.reopened_for.result c.args.world.now.generations ≡ reopened_for (option_to_list o) c.args.world.now.generations)
    (c.reopening-reopened.ensures ∙ ap (find (λ (i : Instance). has_turn c.in-End.turn i && becomes_active c.in-End.outcome i)) c.as_slice-instances.ensures)
    (subst (λ (gs : List ℕ). with_change c.reopened_for.result gs ≡ reopened_for (option_to_list (option_copied c.reopening-reopened.result)) gs) c.as_slice-generations.ensures c.reopened_for.ensures.rows))
