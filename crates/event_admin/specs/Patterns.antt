-- Patterns of topics, and which topics a pattern covers (OSGi Compendium 8, section 113.4.2, `event.topics`: a topic,
-- or one with `/*` at its end, or `*` for all).
use Rattle.std.specs.Prelude.{ℕ, ◌-◌, ◌==◌, ◌&&◌, List, [], ◌∷◌, Bool, true, false, codes, drop, length, take, Option}
use Rattle.std.specs.Prelude.{Some, None, is_some, if◌then◌else◌}
use Rattle.std.specs.Str.{bytes_eq}
use Rattle.event_admin.specs.declared.pattern.TopicPattern.{TopicPattern}
use Rattle.event_admin.specs.declared.pattern.TopicPattern.TheVariants.{Every, One, Under}
use Rattle.event_admin.specs.Topics.{is_topic}

-- all topics, one topic, or those that begin with a topic and a slash
pub data Form : Type 0 where
  AllTopics : Form
  OneTopic : List ℕ → Form
  AllUnder : List ℕ → Form

-- the form that a pattern of the program has
abbrev pub form_of : TopicPattern → Form
form_of Every = AllTopics
form_of (One topic) = OneTopic topic.now
form_of (Under front) = AllUnder front.now

-- the text ends with `/*`
abbrev pub ends_below : List ℕ → Bool
ends_below text = bytes_eq (drop (length text - 2) text) (codes "/*")

-- the text without its last two bytes
abbrev pub front_of : List ℕ → List ℕ
front_of text = take (length text - 2) text

abbrev pub if_topic : List ℕ → Form → Option Form
if_topic text form = if is_topic text then Some form else None

-- the pattern that a text spells, if it spells one: `*`, a topic with `/*` at its end, or a topic
abbrev pub pattern_of : List ℕ → Option Form
pattern_of text =
    if bytes_eq text (codes "*") then Some AllTopics
    else (if ends_below text then if_topic (front_of text) (AllUnder (front_of text))
    else if_topic text (OneTopic text))

abbrev pub is_pattern : List ℕ → Bool
is_pattern text = is_some (pattern_of text)

abbrev pub begins_with_slash : List ℕ → Bool
begins_with_slash [] = false
begins_with_slash (b ∷ bs) = b == 47

-- a pattern covers a topic
abbrev pub covers : Form → List ℕ → Bool
covers AllTopics topic = true
covers (OneTopic text) topic = bytes_eq text topic
covers (AllUnder front) topic =
    bytes_eq (take (length front) topic) front && begins_with_slash (drop (length front) topic)
