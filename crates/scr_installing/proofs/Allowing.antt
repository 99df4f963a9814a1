-- What is said of a command by why it is refused.
use Rattle.std.proofs.Common.{◌≡◌, ℕ, refl, subst, sym, true, None, Ok, Err}
use Rattle.std.specs.Prelude.{IfSome}
use Rattle.scr_installing.specs.Allowed.{IsAllowed, descriptions_after}
use Rattle.scr_installing.specs.Described.{AreDescribed}
use Rattle.scr_installing.specs.declared.described.Described.{Described}
use Rattle.scr_judgements.proofs.Judged.{cyclic as judged_cyclic, no_memory_judged, refused as judged_refused}
use Rattle.scr_judgements.specs.Judgements.{Judges}
use Rattle.scr_state.specs.declared.state.State.{State}
use Rattle.scr_world.specs.Refusals.{refusal}
use Rattle.scr_world.specs.Replies.{takes_memory_to_judge, takes_memory_to_refuse}
use Rattle.scr_world.specs.declared.command.Command.{Command}
use Rattle.scr_world.specs.declared.reply.CoreFault.{CoreFault}
use Rattle.scr_world.specs.declared.reply.CoreFault.TheVariants.{NoBundle, NoComponent, WrongState, Stopping, SameName, Cycle, BundlesFull, ComponentsFull, ServicesFull, ConfigurationsFull, ListenersFull, NoService, NotOwner, NotUsing, NoListener, NoConfiguration, BadPid, FactoryClash, ActivationFailed, ActivationNoMemory, JournalFull, OutOfMemory}
use Rattle.scr_world.specs.declared.world.World.{World}

pub allowed_no_memory : (w : World) (command : Command) → IfSome (refusal w command) (λ fault. takes_memory_to_refuse command fault ≡ true) → (fault : CoreFault) → fault ≡ OutOfMemory → IsAllowed w command (Err fault)
unfolding IsAllowed
allowed_no_memory w command takes fault is = subst (λ (f : CoreFault). IsAllowed w command (Err f)) (sym is) takes

-- what refuses it is said of it
pub not_allowed : (limit : ℕ) (s : State) (command : Command) → takes_memory_to_judge command ≡ true → (fault : CoreFault) → IsAllowed s.world command (Err fault) → Judges limit s command (Err fault)
unfolding IsAllowed
not_allowed limit s command judges (Cycle path) is = judged_cyclic limit s command path is.0 is.1
not_allowed limit s command judges OutOfMemory is = no_memory_judged limit s command judges is OutOfMemory refl
not_allowed limit s command judges (NoBundle bundle) is = judged_refused limit s command (NoBundle bundle) refl is
not_allowed limit s command judges (NoComponent name) is = judged_refused limit s command (NoComponent name) refl is
not_allowed limit s command judges (WrongState state) is = judged_refused limit s command (WrongState state) refl is
not_allowed limit s command judges (Stopping instance) is = judged_refused limit s command (Stopping instance) refl is
not_allowed limit s command judges (SameName bundle) is = judged_refused limit s command (SameName bundle) refl is
not_allowed limit s command judges BundlesFull is = judged_refused limit s command BundlesFull refl is
not_allowed limit s command judges ComponentsFull is = judged_refused limit s command ComponentsFull refl is
not_allowed limit s command judges ServicesFull is = judged_refused limit s command ServicesFull refl is
not_allowed limit s command judges ConfigurationsFull is = judged_refused limit s command ConfigurationsFull refl is
not_allowed limit s command judges ListenersFull is = judged_refused limit s command ListenersFull refl is
not_allowed limit s command judges (NoService service) is = judged_refused limit s command (NoService service) refl is
not_allowed limit s command judges (NotOwner owner) is = judged_refused limit s command (NotOwner owner) refl is
not_allowed limit s command judges NotUsing is = judged_refused limit s command NotUsing refl is
not_allowed limit s command judges (NoListener listener) is = judged_refused limit s command (NoListener listener) refl is
not_allowed limit s command judges NoConfiguration is = judged_refused limit s command NoConfiguration refl is
not_allowed limit s command judges BadPid is = judged_refused limit s command BadPid refl is
not_allowed limit s command judges FactoryClash is = judged_refused limit s command FactoryClash refl is
not_allowed limit s command judges (ActivationFailed instance) is = judged_refused limit s command (ActivationFailed instance) refl is
not_allowed limit s command judges (ActivationNoMemory instance) is = judged_refused limit s command (ActivationNoMemory instance) refl is
not_allowed limit s command judges JournalFull is = judged_refused limit s command JournalFull refl is

-- ---- what isn't refused

pub allowed_free : (w : World) (command : Command) (described : Described) → IsAllowed w command (Ok described) → refusal w command ≡ None
unfolding IsAllowed
allowed_free w command described is = is.0

pub allowed_described : (w : World) (command : Command) (described : Described) → IsAllowed w command (Ok described) → AreDescribed (descriptions_after w command) described
unfolding IsAllowed
allowed_described w command described is = is.1
