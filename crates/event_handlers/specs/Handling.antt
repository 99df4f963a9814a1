-- Which services handle an event (OSGi Compendium 8, chapter 113, event handlers: `event.topics` and `event.filter`),
-- in the order of services (Core 8, section 5.2.5). That what is no pattern covers nothing, and what is no filter lets
-- nothing in, is our own.
use Rattle.std.specs.Prelude.{ℕ, ◌&&◌, List, Bool, true, false, codes, filter, Option, Some, None}
use Rattle.std.specs.List.{list_any}
use Rattle.std.specs.Option.{option_map_or}
use Rattle.event_admin.specs.Events.{EventView}
use Rattle.event_admin.specs.Patterns.{covers, pattern_of}
use Rattle.ldap_filter.specs.Matching.{matches}
use Rattle.ldap_filter.specs.Texts.{filter_of}
use Rattle.prop_map.specs.declared.properties.Property.{Property}
use Rattle.prop_map.specs.declared.value.Value.{Value}
use Rattle.prop_map.specs.declared.value.Value.TheVariants.{Text, Texts}
use Rattle.prop_map.specs.Maps.{get, put}
use Rattle.service_registry.specs.declared.row.ServiceRow.{ServiceRow}
use Rattle.service_registry.specs.Services.{best_first, ids}

abbrev pub topics_key : List ℕ
topics_key = codes "event.topics"

abbrev pub filter_key : List ℕ
filter_key = codes "event.filter"

-- a text spells a pattern that covers a topic
abbrev pub text_covers : List ℕ → List ℕ → Bool
text_covers topic text = option_map_or (λ form. covers form topic) (pattern_of text) false

-- a text or one of texts does
abbrev pub value_covers : List ℕ → Option Value → Bool
value_covers topic (Some (Text text)) = text_covers topic text
value_covers topic (Some (Texts texts)) = list_any (text_covers topic) texts
value_covers topic _ = false

-- a text spells a filter that matches properties
abbrev pub text_matches : List Property → List ℕ → Bool
text_matches told text = option_map_or (λ tree. matches tree told) (filter_of text) false

-- there is no filter, or a text does
abbrev pub value_lets_in : List Property → Option Value → Bool
value_lets_in told None = true
value_lets_in told (Some (Text text)) = text_matches told text
value_lets_in told (Some _) = false

-- what filters are matched with: the event's properties, and its topic
abbrev pub told_of : EventView → List Property
told_of event = put event.properties topics_key (Text event.topic)

-- a service handles an event
abbrev pub handles : EventView → ServiceRow → Bool
handles event r =
    value_covers event.topic (get r.properties topics_key)
    && value_lets_in (told_of event) (get r.properties filter_key)

-- the numbers of the services that handle an event, the best first
abbrev pub handlers_of : List ServiceRow → EventView → List ℕ
handlers_of rows event = ids (best_first (filter (handles event) rows))
