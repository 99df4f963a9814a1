-- What the component code of the demonstration means. Our own.
use Rattle.std.specs.Prelude.{ℕ, List, [], ◌∷◌, ◌++◌, Bool, false, Option, Some, codes, if◌then◌else◌}
use Rattle.std.specs.Str.{bytes_eq}
use Rattle.prop_map.specs.declared.properties.Property.{Property}
use Rattle.prop_map.specs.declared.value.Value.{Value}
use Rattle.prop_map.specs.declared.value.Value.TheVariants.{Text}
use Rattle.prop_map.specs.Maps.{get}
use Rattle.kind_trait.specs.Meanings.{Told, Create, Bind, Updated, Unbind, Activate, Modified, Deactivate, Destroy, Move, Refuses, Answers, Calls, Asking}
use Rattle.kind_trait.specs.declared.nested_reply.NestedReply.{NestedReply}
use Rattle.kind_trait.specs.declared.nested_reply.NestedReply.TheVariants.{Text as Said, NoService, NoObject, Gone, Refused}
use Rattle.turn_work.specs.declared.site.Site.{Site}

-- a property's text, empty where it has none
abbrev pub text_in : Option Value → List ℕ
text_in (Some (Text text)) = text
text_in _ = []

-- the text of a property, empty where it has none
abbrev pub text_at : List Property → List ℕ → List ℕ
text_at properties key = text_in (get properties key)

-- the text property `refuse` is this word
abbrev pub refuses_word : List Property → List ℕ → Bool
refuses_word properties word = bytes_eq (text_at properties (codes "refuse")) word

-- a callback is refused where the property is its word, and a Destroy never
abbrev pub refuses_told : List Property → Told → Bool
refuses_told properties Create = refuses_word properties (codes "create")
refuses_told properties (Bind reference service) = refuses_word properties (codes "bind")
refuses_told properties (Updated reference service) = refuses_word properties (codes "updated")
refuses_told properties (Unbind reference service) = refuses_word properties (codes "unbind")
refuses_told properties Activate = refuses_word properties (codes "activate")
refuses_told properties Modified = refuses_word properties (codes "modified")
refuses_told properties Deactivate = refuses_word properties (codes "deactivate")
refuses_told properties Destroy = false

-- what a request comes to by its class: an echo, a relay to the reference `next`, or the text property `text`
abbrev pub first_move : List ℕ → List Property → List ℕ → Move
first_move class properties request =
    if bytes_eq class (codes "demo.Echo") then Answers request
    else (if bytes_eq class (codes "demo.Relay") then Calls (codes "next") request
    else Answers (text_at properties (codes "text")))

-- what a relay answers by the reply that it got
abbrev pub relayed : NestedReply → List ℕ
relayed (Said text) = codes "<" ++ text ++ codes ">"
relayed NoService = codes "no-service"
relayed NoObject = codes "no-object"
relayed Gone = codes "gone"
relayed Refused = codes "refused"

-- a call is refused where the property is `call`
abbrev pub next : List ℕ → List Property → List ℕ → List NestedReply → Move
next class properties request [] = if refuses_word properties (codes "call") then Refuses else first_move class properties request
next class properties request (reply ∷ replies) = Answers (relayed reply)

-- the request of a relay, which has no reply yet
abbrev pub unanswered : Site → List ℕ → Asking
unanswered site request = record { class = site.class; properties = site.properties; request = request; replies = [] }
