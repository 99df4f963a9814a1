-- What the whiteboard's instance holds.
use Rattle.std.proofs.Common.{◌≡◌, ℕ, List, [], ap, Bool, true, Some}
use Rattle.std.specs.Prelude.{find, if◌then◌else◌, ◌==◌}
use Rattle.std.specs.Option.{option_map_or}
use Rattle.std.proofs.lemmas.Bool.{eq-eqb}
use Rattle.scr_laws.proofs.LegalOrder.{legal_ordered}
use Rattle.scr_readers.specs.Reaching.{held_rows, held_services, instance_at}
use Rattle.scr_world.specs.Legal.{IsLegal}
use Rattle.scr_world.specs.Lists.{world_of}
use Rattle.scr_world.specs.Steps.{History}
use Rattle.scr_world.specs.declared.instance.Instance.{Instance}

-- it is that of the number 0
pub board_rows : (limit : ℕ) (past : History) → IsLegal limit past → (reference : List ℕ) → held_services (world_of past) 0 reference ≡ held_rows (world_of past) reference (world_of past).whiteboard
board_rows limit past legal reference =
    let w = world_of past in
    let zero : (w.whiteboard.number == 0) ≡ true = eq-eqb w.whiteboard.number 0 (legal_ordered limit past legal).board.number in
    let found : instance_at w 0 ≡ Some w.whiteboard = ap (λ (b : Bool). if b then Some w.whiteboard else find (λ (x : Instance). x.number == 0) w.instances) zero in
    ap (λ o. option_map_or (held_rows w reference) o []) found
