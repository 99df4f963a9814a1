use Rattle.std.proofs.Common.{◌≡◌, ◌∙◌, ap, sym}
use Rattle.std.specs.Prelude.{find, ◌==◌}
use Rattle.std.proofs.lemmas.Result.{IfOk-weaker}
use Rattle.scr_world.specs.declared.instance.Instance.{Instance}
use Rattle.scr_dues.specs.declared.making.Making.{Making}
use Rattle.scr_dues.specs.Makings.{IsKnown, IsThatFar}
use Rattle.scr_dues.proofs.KnownPlaces.{found_number, found_there, known_by_number}
use Rattle.scr_dues.proofs.following.known_now.Goals as goal

pub further_by_name-requires : goal.further_by_name-requires
further_by_name-requires c =
    let w = c.args.world.now in
    let i = c.in-Some.instance.now in
    let found = sym (c.in-Some.ensures ∙ ap (find (λ (j : Instance). j.number == c.args.making.instance)) c.as_slice.ensures) in
    c.requires.far.each i (found_there w c.args.making.instance i found) (found_number w c.args.making.instance i found)

pub returns-in-Some : goal.returns-in-Some
returns-in-Some c =
    let w = c.args.world.now in
    let i = c.in-Some.instance.now in
    let found = sym (c.in-Some.ensures ∙ ap (find (λ (j : Instance). j.number == c.args.making.instance)) c.as_slice.ensures) in
    let there = found_there w c.args.making.instance i found in
    let its = found_number w c.args.making.instance i found in
    IfOk-weaker c.further_by_name.result (λ (m : Making). (m.instance ≡ c.args.making.instance) × IsKnown w i m) (λ m. IsThatFar w m) (λ m known. known_by_number w c.requires.numbered i there m (known.0 ∙ sym its) known.1) c.further_by_name.ensures
