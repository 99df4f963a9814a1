-- What the gateway's components answer. Our own.
use Rattle.std.specs.Prelude.{◌≡◌, ℕ, List, [], ◌∷◌, ◌++◌, codes, Option, Some, None, Result, Ok, Err, if◌then◌else◌}
use Rattle.std.specs.Option.{option_map_or}
use Rattle.std.specs.Str.{bytes_eq}
use Rattle.prop_map.specs.declared.properties.Property.{Property}
use Rattle.kind_trait.specs.Meanings.{Asking, Move, Refuses, Answers, Calls}
use Rattle.kind_trait.specs.declared.kind_fault.KindFault.{KindFault}
use Rattle.kind_trait.specs.declared.kind_fault.KindFault.TheVariants.{Refused, OutOfMemory}
use Rattle.kind_trait.specs.declared.nested_reply.NestedReply.{NestedReply}
use Rattle.kind_trait.specs.declared.nested_reply.NestedReply.TheVariants.{Text as Said}
use Rattle.turn_work.specs.declared.site.Site.{Site}
use Rattle.gateway.specs.declared.classes.Class.{Class}
use Rattle.gateway.specs.declared.classes.Class.TheVariants.{Thermometer, Hygrometer, Aggregator, Store, Page}
use Rattle.gateway.specs.Classes.{class_of}
use Rattle.gateway.specs.Refusals.{text_at}

-- What is asked first: a sensor answers its reading with its unit, the store what it keeps. The aggregator asks the best
-- of its sensors, and the page, at its path `/`, the aggregator.
abbrev pub first_move : Class → List Property → List ℕ → Move
first_move Thermometer properties request = Answers (text_at properties (codes "reading") ++ codes " C")
first_move Hygrometer properties request = Answers (text_at properties (codes "reading") ++ codes " %")
first_move Aggregator properties request = Calls (codes "sensors") (codes "read")
first_move Store properties request = Answers (codes "kept " ++ request)
first_move Page properties request = if bytes_eq request (codes "/") then Calls (codes "aggregator") (codes "read") else Refuses

-- behind the first reply: the aggregator hands a reading to the store, and the page shows what it was told
abbrev pub second_move : Class → NestedReply → Move
second_move Aggregator (Said reading) = Calls (codes "store") reading
second_move Aggregator _ = Answers (codes "no reading")
second_move Page (Said text) = Answers (codes "<p>" ++ text ++ codes "</p>")
second_move Page _ = Answers (codes "<p>no reading</p>")
second_move _ reply = Refuses

-- behind the store's reply to a reading: the aggregator answers what the store says, or the reading where it says nothing
abbrev pub third_move : Class → List ℕ → NestedReply → Move
third_move Aggregator reading (Said kept) = Answers kept
third_move Aggregator reading _ = Answers reading
third_move _ reading reply = Refuses

-- what a request to a class comes to, after these replies
abbrev pub move_of : Class → List Property → List ℕ → List NestedReply → Move
move_of class properties request [] = first_move class properties request
move_of class properties request (reply ∷ []) = second_move class reply
move_of class properties request (Said reading ∷ reply ∷ replies) = third_move class reading reply
move_of class properties request (other ∷ reply ∷ replies) = Refuses

-- what a request comes to: one to a class that isn't the gateway's is refused
abbrev pub next : List ℕ → List Property → List ℕ → List NestedReply → Move
next name properties request replies = option_map_or (λ class. move_of class properties request replies) (class_of name) Refuses

-- a request to an instance, behind the reading that it got, if it got one
abbrev pub asked : Site → List ℕ → Option (List ℕ) → Asking
asked site request reading =
    record { class = site.class; properties = site.properties; request = request; replies = option_map_or (λ text. Said text ∷ []) reading [] }

-- an answer is the text of this move, and a refusal where it is one; want of memory is free
abbrev pub IsText : Move → Result (List ℕ) KindFault → Type 0
IsText move (Ok text) = move ≡ Answers text
IsText move (Err Refused) = move ≡ Refuses
IsText move (Err OutOfMemory) = Unit {0}
