-- A command leaves turns and objects alone, taken or refused, and the journal grows at its end.
use Rattle.std.proofs.Common.{◌≡◌, ◌⊎◌, ℕ, List, sym, subst, Bool, true, false, inl, inr, Ok, Err}
use Rattle.std.specs.Prelude.{Result}
use Rattle.journal_core.specs.declared.entry.Entry.{Entry}
use Rattle.scr_world.specs.declared.reply.Accepted.{Accepted}
use Rattle.scr_world.specs.declared.command.Command.{Command}
use Rattle.scr_world.specs.declared.reply.CoreFault.{CoreFault}
use Rattle.scr_world.specs.declared.reply.CoreFault.TheVariants.{NoBundle, NoComponent, WrongState, Stopping, SameName, Cycle, BundlesFull, ComponentsFull, ServicesFull, ConfigurationsFull, ListenersFull, NoService, NotOwner, NotUsing, NoListener, NoConfiguration, BadPid, FactoryClash, ActivationFailed, ActivationNoMemory, JournalFull, OutOfMemory}
use Rattle.scr_world.specs.declared.step.Step.{Step}
use Rattle.scr_world.specs.declared.step.Step.TheVariants.{Command as Commanded}
use Rattle.scr_world.specs.Calls.{Commands, Grown, GrownIf, world_at}
use Rattle.scr_world.specs.Replies.{changes}
use Rattle.scr_requests.specs.Cores.{CoreView}
use Rattle.platform_hall.specs.Platforms.{CoreTakes, TakesCommand}
use Rattle.platform_hall.proofs.Growing.{Grows, grown_grows, grows_none}
use Rattle.platform_hall.proofs.Steps.{grown_after}
use Rattle.platform_hall.proofs.Stops.{IsAlike, alike_itself, commanded_alike}

module _ (limit : ℕ) (old new : List (Entry Step)) (command : Command) where
  grown_or_same : (changed : Bool) → GrownIf changed limit old (Commanded command) new → (new ≡ old) ⊎ Grown limit old (Commanded command) new
  grown_or_same true grown = inr grown
  grown_or_same false same = inl same

  -- the journal is as it was, or has grown by the command
  commands_step : (answer : Result Accepted CoreFault) → Commands limit old command answer new → (new ≡ old) ⊎ Grown limit old (Commanded command) new
  commands_step (Ok accepted) takes = grown_or_same (changes limit (world_at old) command) takes.2
  commands_step (Err (NoBundle b)) takes = inl takes.1
  commands_step (Err (NoComponent n)) takes = inl takes.1
  commands_step (Err (WrongState s)) takes = inl takes.1
  commands_step (Err (Stopping i)) takes = inl takes.1
  commands_step (Err (SameName b)) takes = inl takes.1
  commands_step (Err (Cycle path)) takes = inl takes.1
  commands_step (Err BundlesFull) takes = inl takes.1
  commands_step (Err ComponentsFull) takes = inl takes.1
  commands_step (Err ServicesFull) takes = inl takes.1
  commands_step (Err ConfigurationsFull) takes = inl takes.1
  commands_step (Err ListenersFull) takes = inl takes.1
  commands_step (Err (NoService s)) takes = inl takes.1
  commands_step (Err (NotOwner b)) takes = inl takes.1
  commands_step (Err NotUsing) takes = inl takes.1
  commands_step (Err (NoListener l)) takes = inl takes.1
  commands_step (Err NoConfiguration) takes = inl takes.1
  commands_step (Err BadPid) takes = inl takes.1
  commands_step (Err FactoryClash) takes = inl takes.1
  commands_step (Err (ActivationFailed i)) takes = inl takes.1
  commands_step (Err (ActivationNoMemory i)) takes = inl takes.1
  commands_step (Err JournalFull) takes = inl takes.1
  commands_step (Err OutOfMemory) takes = inl takes.1

  step_alike : (new ≡ old) ⊎ Grown limit old (Commanded command) new → IsAlike (world_at old) (world_at new)
  step_alike (inl same) = subst (λ (j : List (Entry Step)). IsAlike (world_at old) (world_at j)) (sym same) (alike_itself (world_at old))
  step_alike (inr grown) = commanded_alike (world_at old) (world_at new) command (grown_after limit old new (Commanded command) grown)

  step_grows : (new ≡ old) ⊎ Grown limit old (Commanded command) new → Grows old new
  step_grows (inl same) = grows_none old new same
  step_grows (inr grown) = grown_grows limit old (Commanded command) new grown

  pub commands_alike : (answer : Result Accepted CoreFault) → Commands limit old command answer new → IsAlike (world_at old) (world_at new)
  commands_alike answer takes = step_alike (commands_step answer takes)

  pub commands_grow : (answer : Result Accepted CoreFault) → Commands limit old command answer new → Grows old new
  commands_grow answer takes = step_grows (commands_step answer takes)

-- what the core refuses the platform refuses
pub takes_refused : (before after : CoreView) (command : Command) (fault : CoreFault) → CoreTakes before command (Err fault) after → TakesCommand before command (Err fault) after
takes_refused before after command (NoBundle b) takes = takes
takes_refused before after command (NoComponent n) takes = takes
takes_refused before after command (WrongState s) takes = takes
takes_refused before after command (Stopping i) takes = takes
takes_refused before after command (SameName b) takes = takes
takes_refused before after command (Cycle path) takes = takes
takes_refused before after command BundlesFull takes = takes
takes_refused before after command ComponentsFull takes = takes
takes_refused before after command ServicesFull takes = takes
takes_refused before after command ConfigurationsFull takes = takes
takes_refused before after command ListenersFull takes = takes
takes_refused before after command (NoService s) takes = takes
takes_refused before after command (NotOwner b) takes = takes
takes_refused before after command NotUsing takes = takes
takes_refused before after command (NoListener l) takes = takes
takes_refused before after command NoConfiguration takes = takes
takes_refused before after command BadPid takes = takes
takes_refused before after command FactoryClash takes = takes
takes_refused before after command (ActivationFailed i) takes = takes
takes_refused before after command (ActivationNoMemory i) takes = takes
takes_refused before after command JournalFull takes = takes
takes_refused before after command OutOfMemory takes = inl takes
