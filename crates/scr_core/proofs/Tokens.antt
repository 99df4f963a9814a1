-- A get by token that stands has its entry at its place.
use Rattle.std.proofs.Common.{◌≡◌, ap, List, true}
use Rattle.std.specs.Prelude.{◌==◌, ◌&&◌}
use Rattle.std.specs.List.{list_any}
use Rattle.std.proofs.lemmas.Bool.{and_parts}
use Rattle.component_state.proofs.Among.{any_from, any_witness}
use Rattle.scr_world.specs.Calls.{is_token}
use Rattle.scr_world.specs.declared.marks.Token.{Token}

pub stands_at_its_place : (note : Token) (ts : List Token) → list_any (is_token note) ts ≡ true → list_any (λ (t : Token). t.place == note.place) ts ≡ true
stands_at_its_place note ts stands =
    let one = any_witness (is_token note) ts stands in
    any_from (λ (t : Token). t.place == note.place) ts one.0 one.1
    (and_parts (one.0.place == note.place) ((one.0.bundle == note.bundle) && (one.0.service == note.service)) one.2).0
