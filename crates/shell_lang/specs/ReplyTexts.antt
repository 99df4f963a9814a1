-- The text of a reply. Our own form.
use Rattle.std.specs.Prelude.{ℕ, List, ◌++◌, codes}
use Rattle.std.specs.Fmt.{decimal}
use Rattle.std.specs.Str.Lossy.{utf8_lossy}
use Rattle.shell_lang.specs.Help.{help_text}
use Rattle.shell_lang.specs.ConfigurationTexts.{configuration_text}
use Rattle.shell_lang.specs.DescriptionTexts.{description_text}
use Rattle.shell_lang.specs.GraphTexts.{graph_text}
use Rattle.shell_lang.specs.ListedTexts.{listed_text}
use Rattle.shell_lang.specs.QuotedTexts.{quoted_text}
use Rattle.shell_lang.specs.RefusalTexts.{refusal_text}
use Rattle.shell_lang.specs.RouteTexts.{route_text}
use Rattle.shell_lang.specs.RowTexts.{bundle_event_text, bundle_text, component_text, held_text, listener_text, number_text, placed_rows_text, registered_text, rows_text, service_event_text}
use Rattle.shell_lang.specs.ServiceTexts.{service_fact_text}
use Rattle.shell_lang.specs.TurnTexts.{finished_text, trace_text, turn_text}
use Rattle.shell_lang.specs.WiringTexts.{need_text, wiring_text}
use Rattle.shell_lang.specs.declared.shell_reply.ShellReply.{ShellReply}
use Rattle.shell_lang.specs.declared.shell_reply.ShellReply.TheVariants.{Done, Help, Bundle, Service, Uses, Listener, Bundles, Services, Components, Report, Held, Listed, Details, ServiceFacts, Descriptions, Graph, Found, Events, BundleEvents, Trace, Wiring, BundleWiring, Routes, Configurations, Configuration, Listeners, Journal, Turns, Begun, Idle, Finished, Text, Http, Refused}

-- a status, a service and a text as it is shown
abbrev pub status_text : ℕ → ℕ → List ℕ → List ℕ
status_text status service shown = codes "ok " ++ decimal status ++ codes " " ++ decimal service ++ codes " " ++ shown ++ codes "\n"

-- how many entries the journal has, how many more are reserved, and how many it may have
abbrev pub journal_text : ℕ → ℕ → ℕ → List ℕ
journal_text used reserved limit = codes "ok " ++ decimal used ++ codes " " ++ decimal reserved ++ codes " " ++ decimal limit ++ codes "\n"

-- the text of a reply; in what a request is answered U+FFFD stands for what is no UTF-8
abbrev pub reply_text : ShellReply → List ℕ
reply_text Done = codes "ok\n"
reply_text (Help rows) = rows_text help_text rows
reply_text (Bundle bundle) = codes "ok bundle " ++ decimal bundle ++ codes "\n"
reply_text (Service service) = codes "ok service " ++ decimal service ++ codes "\n"
reply_text (Uses uses) = codes "ok uses " ++ decimal uses ++ codes "\n"
reply_text (Listener listener) = codes "ok listener " ++ decimal listener ++ codes "\n"
reply_text (Bundles rows) = rows_text bundle_text rows
reply_text (Services rows) = rows_text registered_text rows
reply_text (Components rows) = rows_text component_text rows
reply_text (Report text) = codes "ok " ++ text ++ codes "\n"
reply_text (Held rows) = rows_text held_text rows
reply_text (Listed rows) = rows_text listed_text rows
reply_text (Details text) = codes "ok " ++ text ++ codes "\n"
reply_text (ServiceFacts rows) = rows_text service_fact_text rows
reply_text (Descriptions rows) = rows_text description_text rows
reply_text (Graph rows) = rows_text graph_text rows
reply_text (Found numbers) = rows_text number_text numbers
reply_text (Events before events) = placed_rows_text service_event_text before events
reply_text (BundleEvents before events) = placed_rows_text bundle_event_text before events
reply_text (Trace rows) = rows_text trace_text rows
reply_text (Wiring rows) = rows_text wiring_text rows
reply_text (BundleWiring rows) = rows_text need_text rows
reply_text (Routes rows) = rows_text route_text rows
reply_text (Configurations rows) = rows_text configuration_text rows
reply_text (Configuration text) = codes "ok " ++ text ++ codes "\n"
reply_text (Listeners rows) = rows_text listener_text rows
reply_text (Journal used reserved limit) = journal_text used reserved limit
reply_text (Turns count) = codes "ok turns " ++ decimal count ++ codes "\n"
reply_text (Begun line) = codes "ok turn " ++ turn_text line ++ codes "\n"
reply_text Idle = codes "ok idle\n"
reply_text (Finished outcome) = finished_text outcome
reply_text (Text text) = codes "ok " ++ quoted_text text ++ codes "\n"
reply_text (Http status service body) = status_text status service (quoted_text (utf8_lossy body))
reply_text (Refused refusal) = codes "refused " ++ refusal_text refusal ++ codes "\n"
