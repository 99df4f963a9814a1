-- The lines of what is told of a service. Our own form.
use Rattle.std.specs.Prelude.{ℕ, List, ◌++◌, codes}
use Rattle.std.specs.Fmt.{decimal}
use Rattle.shell_lang.specs.RowTexts.{registered_text}
use Rattle.shell_lang.specs.declared.service_fact.ServiceFact.{ServiceFact}
use Rattle.shell_lang.specs.declared.service_fact.ServiceFact.TheVariants.{Row, Component, Direct, Properties, Uses, Held}

abbrev pub uses_text : ℕ → ℕ → List ℕ
uses_text bundle count = codes "uses " ++ decimal bundle ++ codes " " ++ decimal count ++ codes "\n"

abbrev pub holder_text : ℕ → ℕ → List ℕ → List ℕ
holder_text configuration instance reference = codes "held " ++ decimal configuration ++ codes " " ++ decimal instance ++ codes " " ++ reference ++ codes "\n"

-- the service as in a listing, the component configuration behind it, its properties, a bundle that uses it with how often,
-- or a component configuration, an instance and a reference that hold it
abbrev pub service_fact_text : ServiceFact → List ℕ
service_fact_text (Row row) = registered_text row
service_fact_text (Component number) = codes "component " ++ decimal number ++ codes "\n"
service_fact_text Direct = codes "direct\n"
service_fact_text (Properties text) = codes "properties " ++ text ++ codes "\n"
service_fact_text (Uses bundle count) = uses_text bundle count
service_fact_text (Held configuration instance reference) = holder_text configuration instance reference
