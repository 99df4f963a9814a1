use Rattle.std.proofs.Common.{◌∙◌, sym}
use Rattle.std.proofs.lemmas.Bool.{eqb-true}
use Rattle.std.specs.Prelude.{◌==◌}
use Rattle.scr_turns.proofs.Places.{kept_placed, removed_placed}
use Rattle.scr_world.specs.declared.marks.Token.{Token}
use Rattle.scr_turns.proofs.gets.without_place.Goals as goal

pub returns-in-None-clause-rows : goal.returns-in-None-clause-rows
returns-in-None-clause-rows c = kept_placed (λ (t : Token). t.place == c.args.place) c.args.tokens.now (sym c.in-None.ensures)

pub returns-in_ok-change-in-Some-clause-rows : goal.returns-in_ok-change-in-Some-clause-rows
returns-in_ok-change-in-Some-clause-rows c =
    c.in_ok-change-in-Some.ensures.rows
    ∙ removed_placed (λ (t : Token). t.place == c.args.place) (λ (t : Token). t.place) c.args.place (λ t same. eqb-true t.place c.args.place same) c.args.tokens.now c.in-Some.row c.requires (sym c.in-Some.ensures)
