use Rattle.std.proofs.Common.{◌∙◌, ap, sym}
use Rattle.std.specs.Prelude.{◌==◌, find}
use Rattle.scr_laws.proofs.Listed.{found_was}
use Rattle.scr_world.specs.declared.marks.Token.{Token}
use Rattle.scr_turns.proofs.gets.released.Goals as goal

pub without_token-requires : goal.without_token-requires
without_token-requires c =
    let there = λ (t : Token). t.place == c.args.place in
    c.requires.counted c.in-Some.token.now
    (found_was there c.args.world.now.tokens c.in-Some.token.now (ap (find there) (sym c.as_slice.ensures) ∙ sym c.in-Some.ensures)).0
