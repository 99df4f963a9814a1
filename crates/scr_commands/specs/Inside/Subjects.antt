-- What a command is about: bundles, services or configurations. For code and proofs; our own.
use Rattle.scr_world.specs.declared.command.Command.{Command}
use Rattle.scr_world.specs.declared.command.Command.TheVariants.{Install, Update, Start, Stop, Uninstall, Enable, Disable, Register, Unregister, SetProperties, Get, Unget, Listen, Unlisten, Configure, ConfigureFactory, Unconfigure}

pub data Subject : Type 0 where
  Bundles : Subject
  Services : Subject
  Configurations : Subject

abbrev pub subject : Command → Subject
subject (Install doc) = Bundles
subject (Update bundle doc) = Bundles
subject (Start bundle) = Bundles
subject (Stop bundle) = Bundles
subject (Uninstall bundle) = Bundles
subject (Enable bundle name) = Bundles
subject (Disable bundle name) = Bundles
subject (Register bundle interfaces properties) = Services
subject (Unregister bundle service) = Services
subject (SetProperties bundle service properties) = Services
subject (Get bundle service) = Services
subject (Unget bundle service) = Services
subject (Listen bundle filter) = Services
subject (Unlisten listener) = Services
subject (Configure pid properties) = Configurations
subject (ConfigureFactory factory name properties) = Configurations
subject (Unconfigure pid) = Configurations
