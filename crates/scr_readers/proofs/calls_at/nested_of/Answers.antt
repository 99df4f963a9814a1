use Rattle.std.proofs.Common.{ap, ◌∙◌, ℕ, List}
use Rattle.scr_world.specs.Worlds.{sorted}
use Rattle.scr_readers.specs.Inside.{first_one}
use Rattle.scr_readers.specs.Reaching.{held_best_first, inward_at, inward_to}
use Rattle.scr_readers.proofs.calls_at.nested_of.Goals as goal

pub returns : goal.returns
returns c =
    let w = c.args.world.now in
    let held = held_best_first w c.args.reference.now c.args.instance.now in
    c.inward_by_best.ensures held (c.best_held-best.ensures ∙ ap (λ (ns : List ℕ). first_one (sorted w ns)) c.held.ensures) ∙ ap (λ b. inward_at (inward_to w b held)) c.bundle_of_instance-bundle.ensures
