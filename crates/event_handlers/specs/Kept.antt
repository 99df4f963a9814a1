-- What is kept of the handlers among services, and how it answers. Our own.
use Rattle.std.specs.Prelude.{◌≡◌, ℕ, ◌&&◌, List, [], ◌∷◌, Bool, true, false, filter, flat_map, map, Option, Some, None}
use Rattle.std.specs.List.{list_any}
use Rattle.std.specs.Option.{option_map_or}
use Rattle.event_admin.specs.Patterns.{Form, AllTopics, OneTopic, AllUnder, covers, pattern_of}
use Rattle.ldap_filter.specs.Matching.{matches}
use Rattle.ldap_filter.specs.Texts.{filter_of}
use Rattle.prop_map.specs.declared.properties.Property.{Property}
use Rattle.prop_map.specs.declared.value.Value.{Value}
use Rattle.prop_map.specs.declared.value.Value.TheVariants.{Text, Texts}
use Rattle.prop_map.specs.Maps.{get}
use Rattle.service_registry.specs.declared.best_first.Ranked.{Ranked}
use Rattle.service_registry.specs.declared.row.ServiceRow.{ServiceRow}
use Rattle.service_registry.specs.Services.{ranked}
use Rattle.event_handlers.specs.declared.admission.Admission.{Admission}
use Rattle.event_handlers.specs.declared.admission.Admission.TheVariants.{Everything, Matching, Nothing}
use Rattle.event_handlers.specs.declared.handler.Handler.{Handler}
use Rattle.event_handlers.specs.declared.kept_pattern.KeptPattern.{KeptPattern}
use Rattle.event_handlers.specs.declared.kept_pattern.KeptPattern.TheVariants.{Every, One, Under}
use Rattle.event_handlers.specs.Handling.{filter_key, topics_key}

-- the form that a kept pattern has, and the pattern that is kept of a form
abbrev pub form_kept : KeptPattern → Form
form_kept Every = AllTopics
form_kept (One topic) = OneTopic topic
form_kept (Under front) = AllUnder front

abbrev pub kept_of : Form → KeptPattern
kept_of AllTopics = Every
kept_of (OneTopic topic) = One topic
kept_of (AllUnder front) = Under front

abbrev pub one_kept : Option Form → List KeptPattern
one_kept None = []
one_kept (Some form) = kept_of form ∷ []

-- the pattern that a text spells, if it spells one
abbrev pub pattern_if : List ℕ → List KeptPattern
pattern_if text = one_kept (pattern_of text)

abbrev pub patterns_of : List (List ℕ) → List KeptPattern
patterns_of texts = flat_map pattern_if texts

abbrev pub patterns_in : Option Value → List KeptPattern
patterns_in (Some (Text text)) = pattern_if text
patterns_in (Some (Texts texts)) = patterns_of texts
patterns_in _ = []

abbrev pub kept_covers : List ℕ → List KeptPattern → Bool
kept_covers topic patterns = list_any (λ pattern. covers (form_kept pattern) topic) patterns

-- which events a text lets in, and a property
abbrev pub admission_of : List ℕ → Admission
admission_of text = option_map_or Matching (filter_of text) Nothing

abbrev pub admission_by : Option Value → Admission
admission_by None = Everything
admission_by (Some (Text text)) = admission_of text
admission_by (Some _) = Nothing

abbrev pub admits : List Property → Admission → Bool
admits told Everything = true
admits told (Matching tree) = matches tree told
admits told Nothing = false

abbrev pub handler_with : ServiceRow → List KeptPattern → Admission → Handler
handler_with r patterns admission = record { rank = ranked r; patterns = patterns; admission = admission }

-- what is kept of the handler that a service is
abbrev pub handler_of : ServiceRow → Handler
handler_of r = handler_with r (patterns_in (get r.properties topics_key)) (admission_by (get r.properties filter_key))

-- a kept handler takes an event of a topic that is told so
abbrev pub takes : List ℕ → List Property → Handler → Bool
takes topic told handler = kept_covers topic handler.patterns && admits told handler.admission

abbrev pub ranks_of : List ℕ → List Property → List Handler → List Ranked
ranks_of topic told handlers = map (λ (h : Handler). h.rank) (filter (takes topic told) handlers)

-- the handlers were read from these services
abbrev pub AreOf : List ServiceRow → List Handler → Type 0
AreOf rows handlers = handlers ≡ map handler_of rows
