-- Where a calm settling begins as many turns as the settle bound of its first journal says, nothing is due behind it.
use Rattle.std.proofs.Common.{◌≡◌, ℕ, ◌++◌, refl, arith, true, Option, Some, None}
use Rattle.callback_orders.specs.declared.due.DueRef.{DueRef}
use Rattle.scr_promises.specs.Bounds.{turns_begun_in}
use Rattle.scr_promises.specs.Names.{HaveOwnNames}
use Rattle.scr_promises.specs.Settlings.{OnlySettles}
use Rattle.scr_promises.proofs.DueLeft.{due_left}
use Rattle.scr_promises.proofs.StartCounts.{start_at_most}
use Rattle.scr_promises.proofs.WithinBound.{legal_before, names_then, settled, turns_spent}
use Rattle.scr_world.specs.Bounds.{is_calm, settle_bound}
use Rattle.scr_world.specs.Dues.{due_in}
use Rattle.scr_world.specs.Legal.{IsLegal}
use Rattle.scr_world.specs.Lists.{world_of}
use Rattle.scr_world.specs.Steps.{History}

pub none_due_at_bound : (limit : ℕ) (past entries : History) → IsLegal limit (entries ++ past) → is_calm (world_of past) ≡ true → HaveOwnNames (world_of past) → OnlySettles past entries → turns_begun_in entries ≡ settle_bound (world_of past)
    → due_in (world_of (entries ++ past)) ≡ None
none_due_at_bound limit past entries legal calm names settles all = go (due_in (world_of (entries ++ past))) refl
  where
    go : (o : Option DueRef) → due_in (world_of (entries ++ past)) ≡ o → o ≡ None
    go None is = refl
    go (Some d) is =
        let legal_past = legal_before limit past entries legal in
        let spent = turns_spent limit past legal_past calm names entries legal settles in
        let most = start_at_most limit past legal_past in
        let at = settled limit past legal_past calm names entries legal settles in
        let left = due_left (world_of past) limit (entries ++ past) legal (names_then limit past legal_past calm names (world_of (entries ++ past)) at) at d is in
        absurd (omega (arith, spent, most, left, all))
