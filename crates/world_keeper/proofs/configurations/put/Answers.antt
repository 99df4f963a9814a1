use Rattle.std.proofs.Common.{ℕ, List, Option, ap, ap₂, ◌∙◌}
use Rattle.std.specs.Prelude.{position}
use Rattle.prop_map.specs.Words.{insert_by, text_before}
use Rattle.world_keeper.specs.declared.kept.KeptConfiguration.{KeptConfiguration}
use Rattle.world_keeper.specs.KeptWorlds.{pid_before, without_pid}
use Rattle.world_keeper.proofs.Placed.{put_before, put_last}
use Rattle.world_keeper.proofs.configurations.put.Goals as goal

abbrev later : List ℕ → List KeptConfiguration → Option ℕ
later pid cs = position (λ (d : KeptConfiguration). text_before pid d.pid) cs

pub returns-in_ok-insert-in-Some : goal.returns-in_ok-insert-in-Some
returns-in_ok-insert-in-Some c =
    c.in_ok-insert-in-Some.ensures.items
    ∙ put_before pid_before c.args.configuration c.leave_out.new.configurations.items c.in-Some.place (c.in-Some.ensures.at ∙ ap₂ later c.as_str-2.ensures c.as_slice.ensures.value)
    ∙ ap (insert_by pid_before c.args.configuration) (c.leave_out.ensures ∙ ap (λ (pid : List ℕ). without_pid pid c.args.configurations.now.items) c.as_str.ensures)

pub returns-in_ok-push-in-None : goal.returns-in_ok-push-in-None
returns-in_ok-push-in-None c =
    c.in_ok-push-in-None.ensures.items
    ∙ put_last pid_before c.args.configuration c.leave_out.new.configurations.items (c.in-None.ensures.at ∙ ap₂ later c.as_str-2.ensures c.as_slice.ensures.value)
    ∙ ap (insert_by pid_before c.args.configuration) (c.leave_out.ensures ∙ ap (λ (pid : List ℕ). without_pid pid c.args.configurations.now.items) c.as_str.ensures)
