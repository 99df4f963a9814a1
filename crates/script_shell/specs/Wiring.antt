-- What the lines `wiring` ask: the wiring of the bundles by their documents. Our own form.
use Rattle.std.specs.Prelude.{◌≡◌, ℕ, List, Option, Some, None, Result, Ok, Err}
use Rattle.platform_hall.specs.Cores.{CoreView}
use Rattle.platform_hall.specs.Platforms.{world}
use Rattle.scr_world.specs.declared.reply.CoreFault.TheVariants.{NoBundle}
use Rattle.shell_lang.specs.declared.shell_reply.Refusal.TheVariants.{Core as OfCore}
use Rattle.shell_lang.specs.declared.shell_reply.ShellReply.{ShellReply}
use Rattle.shell_lang.specs.declared.shell_reply.ShellReply.TheVariants.{Refused, Wiring, BundleWiring}
use Rattle.turn_runner.specs.declared.settle_fault.SettleFault.{SettleFault}
use Rattle.turn_runner.specs.declared.settle_fault.SettleFault.TheVariants.{OutOfMemory}
use Rattle.wiring_reader.specs.Telling.{TellsBundle, TellsWiring}
use Rattle.wiring_reader.specs.declared.wiring_line.NeedLine.{NeedLine}
use Rattle.wiring_reader.specs.declared.wiring_line.WiringLine.{WiringLine}

-- the wiring of all bundles is told
abbrev pub AsksWiring : CoreView → ShellReply → CoreView → Type 0
AsksWiring before reply after = (lines : List WiringLine) × TellsWiring (world before).documents lines × (reply ≡ Wiring lines) × (after ≡ before)

-- where there is the bundle
abbrev pub bundle_reply : ℕ → Option (List NeedLine) → ShellReply
bundle_reply bundle None = Refused (OfCore (NoBundle bundle))
bundle_reply bundle (Some lines) = BundleWiring lines

-- the wiring of a bundle is told
abbrev pub AsksBundleWiring : ℕ → CoreView → ShellReply → CoreView → Type 0
AsksBundleWiring bundle before reply after =
    (told : Option (List NeedLine)) × TellsBundle (world before).documents bundle told × (reply ≡ bundle_reply bundle told) × (after ≡ before)

-- what such a line asks, or want of memory
abbrev pub CarriesWiring : (CoreView → ShellReply → CoreView → Type 0) → CoreView → Result ShellReply SettleFault → Type 0
CarriesWiring asks before (Ok reply) = asks before reply before
CarriesWiring asks before (Err fault) = fault ≡ OutOfMemory
