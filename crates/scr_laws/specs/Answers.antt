-- Answers are true afterwards. OSGi Core 8, chapter 4, "Installing Bundles", and chapter 5, "Registering Services",
-- "Getting Services", "Releasing Services" and "Service Listeners".
use Rattle.std.specs.Prelude.{◌≡◌, [], Some, true}
use Rattle.bundle_life.specs.Lives.{bundle_of, new_row as new_bundle}
use Rattle.scr_world.specs.Tables.{direct_scope}
use Rattle.scr_world.specs.declared.command.Command.{Command}
use Rattle.scr_world.specs.declared.command.Command.TheVariants.{Install, Register, Get, Unget, Listen}
use Rattle.scr_world.specs.declared.reply.Reply.{Reply}
use Rattle.scr_world.specs.declared.reply.Reply.TheVariants.{Bundle as InBundle, Listener as AsListener, Service as AsService, Uses as WithUses}
use Rattle.scr_world.specs.declared.world.World.{World}
use Rattle.service_listeners.specs.Listening.{listener_of}
use Rattle.service_registry.specs.Registries.{new_row, row_of}
use Rattle.use_counts.specs.Uses.{use_count}

-- what an answer says of the world behind its command: the bundle is installed as its document says, the service is
-- registered as it was asked for, the listener is there and was told of nothing yet, and the bundle uses the service
-- so often
abbrev pub IsTrueOf : Command → Reply → World → Type 0
IsTrueOf (Install doc) (InBundle number) w = bundle_of w.bundles.rows number ≡ Some (new_bundle number doc.location doc.name doc.version)
IsTrueOf (Install doc) reply w = ⊥
IsTrueOf (Register bundle interfaces properties) (AsService number) w = row_of w.registry.rows number ≡ Some (new_row number bundle interfaces direct_scope properties true)
IsTrueOf (Register bundle interfaces properties) reply w = ⊥
IsTrueOf (Listen bundle filter) (AsListener number) w = listener_of w.listeners.rows number ≡ Some (record { number = number; bundle = bundle; filter = filter; events = [] })
IsTrueOf (Listen bundle filter) reply w = ⊥
IsTrueOf (Get bundle service) (WithUses count) w = use_count bundle service w.uses ≡ count
IsTrueOf (Get bundle service) reply w = ⊥
IsTrueOf (Unget bundle service) (WithUses count) w = use_count bundle service w.uses ≡ count
IsTrueOf (Unget bundle service) reply w = ⊥
IsTrueOf command reply w = Unit {0}
