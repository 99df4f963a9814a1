use Rattle.std.proofs.Common.{◌∙◌, length, subst, sym}
use Rattle.level_order.specs.Levels.{AreLevels}
use Rattle.level_order.proofs.HeightLemmas.{known_levels, unknown_cyclic}
use Rattle.level_order.proofs.level_list.levels.Goals as goal

pub returns-in-Some : goal.returns-in-Some
returns-in-Some c =
    let ds = c.args.descriptions.now in
    let links = c.in_ok-links.links in
    let heights = rw c.deref.ensures.value at c.in_ok-heights.ensures in
    let known = rw c.deref-2.ensures.value at (rw c.in-Some.is at c.in_ok-levels.ensures) in
    subst (λ w. AreLevels ds w) (sym c.of.ensures) (known_levels ds links.onward.items links.back.items c.in_ok-heights.heights.items c.in-Some.levels.items c.in_ok-links.ensures heights known)

pub told_names-requires-clause-cyclic : goal.told_names-requires-clause-cyclic
told_names-requires-clause-cyclic c =
    let ds = c.args.descriptions.now in
    let links = c.in_ok-links.links in
    let heights = rw c.deref.ensures.value at c.in_ok-heights.ensures in
    let none = rw c.deref-2.ensures.value at (rw c.in-None.is at c.in_ok-levels.ensures) in
    unknown_cyclic ds links.onward.items links.back.items c.in_ok-heights.heights.items c.in_ok-links.ensures heights none.0 none.1 none.2

pub returns : goal.returns
returns c =
    let ds = c.args.descriptions.now in
    let links = c.in_ok-links.links in
    let heights = rw c.deref.ensures.value at c.in_ok-heights.ensures in
    let none = rw c.deref-2.ensures.value at (rw c.in-None.is at c.in_ok-levels.ensures) in
    (unknown_cyclic ds links.onward.items links.back.items c.in_ok-heights.heights.items c.in_ok-links.ensures heights none.0 none.1 none.2, c.in_ok-told_names-in-None.ensures)
