-- What the line `service` asks: what is told of a service. Our own; services are OSGi Core 8, chapter 5.
use Rattle.std.specs.Prelude.{ℕ, List, [], ◌∷◌, ◌++◌, Option, Some, None, map}
use Rattle.std.specs.Option.{option_map_or}
use Rattle.scr_readers.specs.ServiceViews.{service_view}
use Rattle.scr_readers.specs.declared.service_view.ServiceHolder.{ServiceHolder}
use Rattle.scr_readers.specs.declared.service_view.ServiceUse.{ServiceUse}
use Rattle.scr_readers.specs.declared.service_view.ServiceView.{ServiceView}
use Rattle.scr_report.specs.ReportData.{property_members}
use Rattle.scr_world.specs.declared.reply.CoreFault.TheVariants.{NoService}
use Rattle.scr_world.specs.declared.world.World.{World}
use Rattle.serde_json.specs.Data.{object}
use Rattle.serde_json.specs.Written.{compact_text}
use Rattle.service_registry.specs.declared.row.ServiceRow.{ServiceRow}
use Rattle.shell_lang.specs.declared.service_fact.ServiceFact.{ServiceFact}
use Rattle.shell_lang.specs.declared.service_fact.ServiceFact.TheVariants.{Row, Component, Direct, Properties, Uses, Held}
use Rattle.shell_lang.specs.declared.shell_reply.Refusal.TheVariants.{Core as OfCore}
use Rattle.shell_lang.specs.declared.shell_reply.ShellReply.{ShellReply}
use Rattle.shell_lang.specs.declared.shell_reply.ShellReply.TheVariants.{ServiceFacts, Refused}

-- the component configuration behind a service
abbrev pub provider_fact : Option ℕ → ServiceFact
provider_fact None = Direct
provider_fact (Some number) = Component number

-- the properties of a service, as a report has them
abbrev pub properties_fact : ServiceRow → ServiceFact
properties_fact r = Properties (compact_text (object (property_members r.properties)))

abbrev pub use_fact : ServiceUse → ServiceFact
use_fact u = Uses u.bundle u.count

abbrev pub holder_fact : ServiceHolder → ServiceFact
holder_fact h = Held h.configuration h.instance h.reference

-- the service itself, its component configuration and its properties
abbrev pub own_facts : ServiceView → List ServiceFact
own_facts v = Row v.row ∷ provider_fact v.provider ∷ properties_fact v.row ∷ []

-- then the bundles that use it, and the instances that hold it
abbrev pub service_facts : ServiceView → List ServiceFact
service_facts v = own_facts v ++ (map use_fact v.uses ++ map holder_fact v.holders)

abbrev pub facts_reply : ServiceView → ShellReply
facts_reply v = ServiceFacts (service_facts v)

-- those of the service of a number, where one is registered and isn't that of the platform
abbrev pub service_reply : World → ℕ → ShellReply
service_reply w service = option_map_or facts_reply (service_view w service) (Refused (OfCore (NoService service)))
