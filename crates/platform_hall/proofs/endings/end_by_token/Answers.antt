use Rattle.std.proofs.Common.{◌++◌, ◌∷◌, [], ap, ◌∙◌, subst}
use Rattle.scr_world.specs.Calls.{Grown}
use Rattle.scr_world.specs.Legal.{is_under_way}
use Rattle.scr_world.specs.declared.step.Step.TheVariants.{End}
use Rattle.platform_hall.specs.Desks.{tokens_of}
use Rattle.platform_hall.specs.Platforms.{world}
use Rattle.platform_hall.proofs.Desks.{back_again, same_view}
use Rattle.platform_hall.proofs.endings.end_by_token.Goals as goal

pub done-requires : goal.done-requires
done-requires c = ap (is_under_way (world c.args.core.now)) c.take_out-turn.ensures.turn ∙ c.requires.under_way

pub returns-in-Ok-clause-ok : goal.returns-in-Ok-clause-ok
returns-in-Ok-clause-ok c =
    let before = c.args.core.now in
    let after = c.done.new.self in
    let grown = subst (λ t. Grown before.limits.journal before.journal (End t c.args.outcome) after.journal) c.take_out-turn.ensures.turn c.in-Ok.ensures.ok.0 in
    (c.in-Ok.ensures.limits, grown)

pub returns-in-Err-clause-same : goal.returns-in-Err-clause-same
returns-in-Err-clause-same c = λ n.
    let rest = c.take_out-turn.new.turns.items in
    let turns = c.push_reserved.ensures.items ∙ ap (λ t. rest ++ t ∷ []) (c.in-Err.ensures.back ∙ c.take_out-turn.ensures.turn) in
    ap (λ xs. tokens_of xs n) turns ∙ back_again c.args.turns.now.items rest c.args.number c.take_out-turn.ensures.others n

pub returns-in-Err-clause-err : goal.returns-in-Err-clause-err
returns-in-Err-clause-err c = same_view c.done.new.self c.args.core.now c.in-Err.ensures.limits c.in-Err.ensures.err
