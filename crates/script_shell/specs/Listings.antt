-- What the lines `configs`, `configuration`, `listeners` and `journal` ask: what is there. Our own; configurations are
-- OSGi Compendium 8, chapter 104, listeners OSGi Core 8, chapter 5.
use Rattle.std.specs.Prelude.{ℕ, List, length, map}
use Rattle.std.specs.Option.{option_map_or}
use Rattle.config_admin.specs.declared.configuration.Configuration.{Configuration as Row}
use Rattle.config_admin.specs.Configurations.{of_pid}
use Rattle.platform_hall.specs.Cores.{CoreView}
use Rattle.platform_hall.specs.Platforms.{world}
use Rattle.scr_readers.specs.Counting.{counting_numbers}
use Rattle.scr_report.specs.ReportData.{property_members}
use Rattle.scr_world.specs.Room.{reserved}
use Rattle.scr_world.specs.declared.reply.CoreFault.TheVariants.{NoConfiguration}
use Rattle.scr_world.specs.declared.world.World.{World}
use Rattle.serde_json.specs.Data.{object}
use Rattle.serde_json.specs.Written.{compact_text}
use Rattle.service_listeners.specs.declared.listener.Listener.{Listener as ListenerRow}
use Rattle.shell_lang.specs.declared.configuration_line.ConfigurationLine.{ConfigurationLine}
use Rattle.shell_lang.specs.declared.listener_line.ListenerLine.{ListenerLine}
use Rattle.shell_lang.specs.declared.shell_reply.Refusal.TheVariants.{Core as OfCore}
use Rattle.shell_lang.specs.declared.shell_reply.ShellReply.{ShellReply}
use Rattle.shell_lang.specs.declared.shell_reply.ShellReply.TheVariants.{Configuration, Journal, Refused}

-- a configuration, and the component configurations for which it counts
abbrev pub configuration_line : World → Row → ConfigurationLine
configuration_line w k = record { pid = k.pid; factory = k.factory; numbers = counting_numbers w k }

-- the configurations, by PID
abbrev pub configuration_lines : World → List ConfigurationLine
configuration_lines w = map (configuration_line w) w.configurations

-- the properties of a configuration, as a report has them
abbrev pub configuration_told : Row → ShellReply
configuration_told k = Configuration (compact_text (object (property_members k.properties)))

-- those of the configuration of a PID, where it has one
abbrev pub configuration_reply : World → List ℕ → ShellReply
configuration_reply w pid = option_map_or configuration_told (of_pid pid w.configurations) (Refused (OfCore NoConfiguration))

-- a listener, and how many events it was told
abbrev pub listener_line : ListenerRow → ListenerLine
listener_line l = record { listener = l.number; bundle = l.bundle; told = length l.events }

-- the listeners, by number
abbrev pub listener_lines : World → List ListenerLine
listener_lines w = map listener_line w.listeners.rows

-- how many entries the journal has, how many more are reserved, and how many it may have
abbrev pub journal_reply : CoreView → ShellReply
journal_reply p = Journal (length p.journal) (reserved (world p)) p.limits.journal
