-- What commands and drains leave.
use Rattle.std.proofs.Common.{◌≡◌, ℕ, List, sym, subst, Bool, true, false, Ok}
use Rattle.journal_core.specs.declared.entry.Entry.{Entry}
use Rattle.journal_core.specs.declared.entry.GateKey.{GateKey}
use Rattle.hall_locked.proofs.Appends.{GrowsByOne, grown_by_one, grown_if_by_one}
use Rattle.hall_locked.proofs.Sites.{SitesStay, commanded_sites, drained_sites, sites_stay_itself}
use Rattle.platform_hall.proofs.Steps.{grown_after}
use Rattle.platform_hall.proofs.Stops.{IsAlike, drained_alike}
use Rattle.scr_world.specs.Calls.{Commands, Drains, GrownIf, world_at}
use Rattle.scr_world.specs.Legal.{IsLegal}
use Rattle.scr_world.specs.Replies.{changes}
use Rattle.scr_world.specs.Steps.{history_of}
use Rattle.scr_world.specs.declared.command.Command.{Command}
use Rattle.scr_world.specs.declared.reply.Accepted.{Accepted}
use Rattle.scr_world.specs.declared.step.Step.{Step}
use Rattle.scr_world.specs.declared.step.Step.TheVariants.{Command as Commanded, Drained}

module _ (limit : ℕ) (old new : List (Entry Step)) where
  pub same_sites : new ≡ old → SitesStay (world_at old) (world_at new)
  same_sites same = subst (λ (j : List (Entry Step)). SitesStay (world_at old) (world_at j)) (sym same) (sites_stay_itself (world_at old))

  -- ---- a command that is taken

  grown_if_sites : (command : Command) (changed : Bool) → IsLegal limit (history_of old) → GrownIf changed limit old (Commanded command) new → SitesStay (world_at old) (world_at new)
  grown_if_sites command true legal grown = commanded_sites limit old new command legal grown
  grown_if_sites command false legal same = same_sites same

  pub taken_grows : (command : Command) (accepted : Accepted) → Commands limit old command (Ok accepted) new → GrowsByOne old new
  taken_grows command accepted takes = grown_if_by_one (changes limit (world_at old) command) limit old new (Commanded command) takes.2

  pub taken_sites : (command : Command) (accepted : Accepted) → IsLegal limit (history_of old) → Commands limit old command (Ok accepted) new → SitesStay (world_at old) (world_at new)
  taken_sites command accepted legal takes = grown_if_sites command (changes limit (world_at old) command) legal takes.2

  -- ---- a drain that is posted

  pub drain_grows : (key : GateKey) → Drains limit old key new → GrowsByOne old new
  drain_grows key (i, found, grown) = grown_by_one limit old new (Drained i.number) grown

  pub drain_alike : (key : GateKey) → Drains limit old key new → IsAlike (world_at old) (world_at new)
  drain_alike key (i, found, grown) = drained_alike (world_at old) (world_at new) i.number (grown_after limit old new (Drained i.number) grown)

  pub drain_sites : (key : GateKey) → IsLegal limit (history_of old) → Drains limit old key new → SitesStay (world_at old) (world_at new)
  drain_sites key legal (i, found, grown) = drained_sites limit old new i.number legal grown
