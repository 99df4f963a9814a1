-- What refuses a change of the configurations, as the refusal of a command. Our own.
use Rattle.config_admin.specs.declared.config_fault.ConfigFault.{ConfigFault}
use Rattle.config_admin.specs.declared.config_fault.ConfigFault.TheVariants.{BadPid, FactoryClash, NoConfiguration, ConfigurationsFull, OutOfMemory}
use Rattle.scr_world.specs.declared.reply.CoreFault.{CoreFault}
use Rattle.scr_world.specs.declared.reply.CoreFault.TheVariants as core

abbrev pub core_fault : ConfigFault → CoreFault
core_fault BadPid = core.BadPid
core_fault FactoryClash = core.FactoryClash
core_fault NoConfiguration = core.NoConfiguration
core_fault ConfigurationsFull = core.ConfigurationsFull
core_fault OutOfMemory = core.OutOfMemory
