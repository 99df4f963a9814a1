-- A calm settling begins at most as many turns as the settle bound of its first journal says.
use Rattle.std.proofs.Common.{◌≡◌, ◌≤◌, ℕ, ◌+◌, List, [], ◌∷◌, ◌++◌, subst, arith, true}
use Rattle.std.specs.List.{Contains}
use Rattle.journal_core.specs.declared.entry.Entry.{Entry}
use Rattle.scr_promises.specs.Bounds.{IsWithinBound, turns_begun_in}
use Rattle.scr_promises.specs.Names.{HaveOwnNames}
use Rattle.scr_promises.specs.Settlings.{OnlySettles}
use Rattle.scr_promises.proofs.NothingCloses.{entry_closes_nothing, stays_calm}
use Rattle.scr_promises.proofs.Potentials.{turns_left}
use Rattle.scr_promises.proofs.SettlingWorlds.{IsSettled, settled_then}
use Rattle.scr_promises.proofs.StartCounts.{settled_at, start_at_most, unheld}
use Rattle.scr_promises.proofs.Sums.{total_cons}
use Rattle.scr_promises.proofs.TurnsFall.{turns_fall}
use Rattle.scr_world.specs.Bounds.{is_calm}
use Rattle.scr_world.specs.Legal.{IsLegal}
use Rattle.scr_world.specs.Lists.{world_of}
use Rattle.scr_world.specs.Steps.{History}
use Rattle.scr_world.specs.Stepping.{begins_by}
use Rattle.scr_world.specs.Tables.{descriptions_of}
use Rattle.scr_world.specs.declared.contents.Contents.{Contents}
use Rattle.scr_world.specs.declared.step.Step.{Step}
use Rattle.scr_world.specs.declared.world.World.{World}

pub legal_before : (limit : ℕ) (past entries : History) → IsLegal limit (entries ++ past) → IsLegal limit past
legal_before limit past [] legal = legal
legal_before limit past (entry ∷ entries) legal = legal_before limit past entries legal.1

module _ (limit : ℕ) (past : History) (legal_past : IsLegal limit past) (calm : is_calm (world_of past) ≡ true) (names : HaveOwnNames (world_of past)) where
  abbrev start : World
  start = world_of past

  pub names_then : (w : World) → IsSettled start w → HaveOwnNames w
  names_then w is d h = names d (subst (λ (cs : List Contents). Contains (descriptions_of cs) d) is.documents h)

  -- all along it
  pub settled : (entries : History) → IsLegal limit (entries ++ past) → OnlySettles past entries → IsSettled start (world_of (entries ++ past))
  settled [] legal settles = settled_at limit past legal_past
  settled (entry ∷ entries) legal settles =
      let before = settled entries legal.1 settles.1 in
      settled_then start limit entry (entries ++ past) legal settles.0 (entry_closes_nothing limit entry (entries ++ past) legal settles.0 (stays_calm past entries settles.1 calm))
      (names_then (world_of (entries ++ past)) before) before

  pub turns_spent : (entries : History) → IsLegal limit (entries ++ past) → OnlySettles past entries → turns_begun_in entries + turns_left start (world_of (entries ++ past)) ≤ turns_left start start
  turns_spent [] legal settles = omega arith
  turns_spent (entry ∷ entries) legal settles =
      let before = settled entries legal.1 settles.1 in
      let rest = turns_spent entries legal.1 settles.1 in
      let fall = turns_fall start (unheld limit past legal_past) limit entry (entries ++ past) legal settles.0 (entry_closes_nothing limit entry (entries ++ past) legal settles.0 (stays_calm past entries settles.1 calm))
      (names_then (world_of (entries ++ past)) before) before in
      let count = total_cons (λ (e : Entry Step). begins_by e.step) entry entries in
      omega (arith, rest, fall, count)

pub settles_within_bound : (limit : ℕ) (past entries : History) → IsLegal limit (entries ++ past) → is_calm (world_of past) ≡ true → HaveOwnNames (world_of past) → OnlySettles past entries → IsWithinBound past entries
settles_within_bound limit past entries legal calm names settles =
    let legal_past = legal_before limit past entries legal in
    let spent = turns_spent limit past legal_past calm names entries legal settles in
    let most = start_at_most limit past legal_past in
    omega (arith, spent, most)
