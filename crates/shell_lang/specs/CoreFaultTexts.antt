-- The text of a refusal of the core. Our own form.
use Rattle.std.specs.Prelude.{ℕ, List, [], ◌++◌, codes}
use Rattle.std.specs.Fmt.{decimal}
use Rattle.scr_world.specs.declared.reply.CoreFault.{CoreFault}
use Rattle.scr_world.specs.declared.reply.CoreFault.TheVariants.{NoBundle, NoComponent, WrongState, Stopping, SameName, Cycle, BundlesFull, ComponentsFull, ServicesFull, ConfigurationsFull, ListenersFull, NoService, NotOwner, NotUsing, NoListener, NoConfiguration, BadPid, FactoryClash, ActivationFailed, ActivationNoMemory, JournalFull, OutOfMemory}
use Rattle.shell_lang.specs.FaultTexts.{spaced}
use Rattle.shell_lang.specs.JoinedTexts.{joined}

abbrev pub core_fault_name : CoreFault → List ℕ
core_fault_name (NoBundle bundle) = codes "NoBundle"
core_fault_name (NoComponent name) = codes "NoComponent"
core_fault_name (WrongState state) = codes "WrongState"
core_fault_name (Stopping instance) = codes "Stopping"
core_fault_name (SameName bundle) = codes "SameName"
core_fault_name (Cycle path) = codes "Cycle"
core_fault_name BundlesFull = codes "BundlesFull"
core_fault_name ComponentsFull = codes "ComponentsFull"
core_fault_name ServicesFull = codes "ServicesFull"
core_fault_name ConfigurationsFull = codes "ConfigurationsFull"
core_fault_name ListenersFull = codes "ListenersFull"
core_fault_name (NoService service) = codes "NoService"
core_fault_name (NotOwner owner) = codes "NotOwner"
core_fault_name NotUsing = codes "NotUsing"
core_fault_name (NoListener listener) = codes "NoListener"
core_fault_name NoConfiguration = codes "NoConfiguration"
core_fault_name BadPid = codes "BadPid"
core_fault_name FactoryClash = codes "FactoryClash"
core_fault_name (ActivationFailed instance) = codes "ActivationFailed"
core_fault_name (ActivationNoMemory instance) = codes "ActivationNoMemory"
core_fault_name JournalFull = codes "JournalFull"
core_fault_name OutOfMemory = codes "OutOfMemory"

abbrev pub core_fault_fields : CoreFault → List ℕ
core_fault_fields (NoBundle bundle) = spaced (decimal bundle)
core_fault_fields (NoComponent name) = spaced name
core_fault_fields (WrongState state) = spaced (decimal state)
core_fault_fields (Stopping instance) = spaced (decimal instance)
core_fault_fields (SameName bundle) = spaced (decimal bundle)
core_fault_fields (Cycle path) = spaced (joined (codes " > ") path)
core_fault_fields (NoService service) = spaced (decimal service)
core_fault_fields (NotOwner owner) = spaced (decimal owner)
core_fault_fields (NoListener listener) = spaced (decimal listener)
core_fault_fields (ActivationFailed instance) = spaced (decimal instance)
core_fault_fields (ActivationNoMemory instance) = spaced (decimal instance)
core_fault_fields _ = []

-- a refusal's name and its fields
abbrev pub core_fault_text : CoreFault → List ℕ
core_fault_text fault = core_fault_name fault ++ core_fault_fields fault
