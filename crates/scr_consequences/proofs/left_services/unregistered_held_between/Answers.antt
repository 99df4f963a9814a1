use Rattle.std.proofs.Common.{List, ◌++◌, ◌∙◌, ap}
use Rattle.service_registry.specs.declared.row.ServiceRow.{ServiceRow}
use Rattle.std.specs.Prelude.{filter}
use Rattle.scr_consequences.specs.Lefts.{is_left_held}
use Rattle.scr_consequences.proofs.LeftLemmas.{held_are}
use Rattle.scr_consequences.proofs.left_services.unregistered_held_between.Goals as goal

pub returns : goal.returns
returns c =
    λ was e f.
    let p = is_left_held c.args.now.now in
    c.of.ensures ∙ c.in_ok-add_held-2.ensures
    ∙ ap (λ (l : List ServiceRow). l ++ filter p c.args.left.now)
    (c.in_ok-add_held.ensures ∙ ap (λ (l : List ServiceRow). l ++ filter p c.as_slice-kept.result.now) c.new-held.ensures.items ∙ ap (filter p) c.as_slice-kept.ensures)
    ∙ held_are was c.args.now.now c.args.left.now e f
