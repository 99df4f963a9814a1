-- Refusals of commands.
use Rattle.std.proofs.Common.{◌≡◌, ◌∙◌, List, [], ap, refl, subst, Ok, Err, inl, inr}
use Rattle.std.specs.Prelude.{Result}
use Rattle.journal_core.specs.declared.entry.Entry.{Entry}
use Rattle.scr_world.specs.declared.command.Command.{Command}
use Rattle.scr_world.specs.declared.command.Limits.{Limits}
use Rattle.scr_world.specs.declared.reply.CoreFault.{CoreFault}
use Rattle.scr_world.specs.declared.reply.CoreFault.TheVariants.{NoBundle, NoComponent, WrongState, Stopping, SameName, Cycle, BundlesFull, ComponentsFull, ServicesFull, ConfigurationsFull, ListenersFull, NoService, NotOwner, NotUsing, NoListener, NoConfiguration, BadPid, FactoryClash, ActivationFailed, ActivationNoMemory, JournalFull as InCore, OutOfMemory as NoMemory}
use Rattle.scr_world.specs.declared.step.Step.{Step}
use Rattle.platform_hall.specs.Cores.{CoreView}
use Rattle.scr_world.specs.Replies.{reply}
use Rattle.turn_runner.specs.declared.settle_fault.SettleFault.{SettleFault}
use Rattle.turn_runner.specs.declared.settle_fault.SettleFault.TheVariants.{Unsettled, JournalFull, OutOfMemory}
use Rattle.platform_hall.specs.Platforms.{TakesCommand, world}
use Rattle.shell_lang.specs.declared.shell_reply.ShellReply.{ShellReply}
use Rattle.script_shell.specs.Asks.{changed}
use Rattle.script_shell.specs.Carries.{CarriesCommand, TellsRefusal}
use Rattle.script_shell.specs.Cuts.{CutsCommand}

carries_short : (command : Command) (before after : CoreView) → TakesCommand before command (Err NoMemory) after → (commands : List Command) × CutsCommand command OutOfMemory before after commands
carries_short command before after (inl (same, (lacks, still))) =
    ([], inl (lacks, (ap (λ (l : Limits). record { limits = l; journal = after.journal }) same ∙ ap (λ (j : List (Entry Step)). record { limits = before.limits; journal = j }) still, refl)))
carries_short command before after (inr (said, accepts)) = (changed before command, inr (said, accepts, refl))

-- what a refused command comes to
pub carries_refused : (command : Command) (before after : CoreView) (fault : CoreFault) (said : Result ShellReply SettleFault) → TakesCommand before command (Err fault) after → TellsRefusal fault said → CarriesCommand command before said after
carries_refused command before after fault (Ok reply) takes (told, is) = (Err fault, takes, told, is)
carries_refused command before after fault (Err JournalFull) takes is =
    let P : CoreFault → Type 0 = λ f. TakesCommand before command (Err f) after in ([], (subst P is takes, refl))
carries_refused command before after fault (Err OutOfMemory) takes is =
    let P : CoreFault → Type 0 = λ f. TakesCommand before command (Err f) after in carries_short command before after (subst P is takes)
carries_refused command before after fault (Err Unsettled) takes is = absurd is

-- a command is refused by its definition, and all stays as it was
abbrev pub IsRefused : CoreView → Command → CoreView → Type 0
IsRefused before command after = (fault : CoreFault) × (after.limits ≡ before.limits) × (reply before.limits.journal (world before) command ≡ Err fault) × (after.journal ≡ before.journal)

-- any refusal but for want of memory
pub refused_keeps : (before after : CoreView) (command : Command) (fault : CoreFault) → (fault ≡ NoMemory → ⊥) → TakesCommand before command (Err fault) after → IsRefused before command after
refused_keeps before after command (NoBundle bundle) other (same, (is, still)) = (NoBundle bundle, same, is, still)
refused_keeps before after command (NoComponent name) other (same, (is, still)) = (NoComponent name, same, is, still)
refused_keeps before after command (WrongState state) other (same, (is, still)) = (WrongState state, same, is, still)
refused_keeps before after command (Stopping instance) other (same, (is, still)) = (Stopping instance, same, is, still)
refused_keeps before after command (SameName bundle) other (same, (is, still)) = (SameName bundle, same, is, still)
refused_keeps before after command (Cycle path) other (same, ((is, tells), still)) = (Cycle [], same, is, still)
refused_keeps before after command BundlesFull other (same, (is, still)) = (BundlesFull, same, is, still)
refused_keeps before after command ComponentsFull other (same, (is, still)) = (ComponentsFull, same, is, still)
refused_keeps before after command ServicesFull other (same, (is, still)) = (ServicesFull, same, is, still)
refused_keeps before after command ConfigurationsFull other (same, (is, still)) = (ConfigurationsFull, same, is, still)
refused_keeps before after command ListenersFull other (same, (is, still)) = (ListenersFull, same, is, still)
refused_keeps before after command (NoService service) other (same, (is, still)) = (NoService service, same, is, still)
refused_keeps before after command (NotOwner owner) other (same, (is, still)) = (NotOwner owner, same, is, still)
refused_keeps before after command NotUsing other (same, (is, still)) = (NotUsing, same, is, still)
refused_keeps before after command (NoListener listener) other (same, (is, still)) = (NoListener listener, same, is, still)
refused_keeps before after command NoConfiguration other (same, (is, still)) = (NoConfiguration, same, is, still)
refused_keeps before after command BadPid other (same, (is, still)) = (BadPid, same, is, still)
refused_keeps before after command FactoryClash other (same, (is, still)) = (FactoryClash, same, is, still)
refused_keeps before after command (ActivationFailed instance) other (same, (is, still)) = (ActivationFailed instance, same, is, still)
refused_keeps before after command (ActivationNoMemory instance) other (same, (is, still)) = (ActivationNoMemory instance, same, is, still)
refused_keeps before after command InCore other (same, (is, still)) = (InCore, same, is, still)
refused_keeps before after command NoMemory other takes = absurd (other refl)
