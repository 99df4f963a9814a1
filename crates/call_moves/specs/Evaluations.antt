-- What a request to an instance comes to, with its nested calls, each decided at a front of its own: a length of the journal. Our own.
use Rattle.std.specs.Prelude.{◌≡◌, ℕ, zero, suc, ◌==◌, ◌||◌, List, [], ◌∷◌, ◌++◌, length, Bool, Option, Some, None, if◌then◌else◌}
use Rattle.prop_map.specs.declared.properties.Property.{Property}
use Rattle.turn_work.specs.declared.site.Site.{Site}
use Rattle.kind_trait.specs.Meanings.{Asking, Move, Refuses, Answers, Calls}
use Rattle.kind_trait.specs.declared.nested_reply.NestedReply.{NestedReply}
use Rattle.kind_trait.specs.declared.nested_reply.NestedReply.TheVariants.{Text, Refused}
use Rattle.call_moves.specs.declared.nested_call.NestedCall.{NestedCall}

-- the meaning of component code: what a request to an instance of a class with these properties comes to, after these replies
abbrev pub Meaning : Type 0
Meaning = List ℕ → List Property → List ℕ → List NestedReply → Move

-- Whom a nested call reaches: nobody, and it has this reply at once; or an instance, by its number and what its component code is told. Before it stands
-- the number of the service, 0 where there is none.
pub data Whom : Type 0 where
  Nobody : ℕ → NestedReply → Whom
  Instance : ℕ → ℕ → Site → Whom

-- whom a nested call reaches, by its front, the number of the instance that calls, and the name of the reference
abbrev pub Reaching : Type 0
Reaching = ℕ → ℕ → List ℕ → Whom

-- how a call ends: with a text, refused by component code, or too long
pub data Ended : Type 0 where
  Said : List ℕ → Ended
  Declined : Ended
  TooLong : Ended

-- a call that an instance has taken up: what it was asked, with the replies so far, and the place of the call among the nested ones
pub record Frame : Type 0 where
  pub instance : ℕ
  pub asking : Asking
  pub place : ℕ

-- A call under way: those that wait for a nested one, the last first; the one that runs; the nested calls so far, in the order in which they began; the
-- fronts to come. Or it is over. Or it wants a further front.
pub data Calling : Type 0 where
  Runs : List Frame → Frame → List NestedCall → List ℕ → Calling
  Over : List NestedCall → Ended → List ℕ → Calling
  Starved : Calling

-- what an instance is asked, before any nested call
abbrev pub asked_of : Site → List ℕ → Asking
asked_of site request = record { class = site.class; properties = site.properties; request = request; replies = [] }

abbrev pub with_reply : Asking → NestedReply → Asking
with_reply asking reply = record asking { replies = asking.replies ++ reply ∷ [] }

abbrev pub taken_up : ℕ → Site → List ℕ → ℕ → Frame
taken_up instance site request place = record { instance = instance; asking = asked_of site request; place = place }

-- the instance goes on with a reply
abbrev pub going_on : Frame → NestedReply → Frame
going_on f reply = record f { asking = with_reply f.asking reply }

abbrev pub nested_call : ℕ → ℕ → List ℕ → Option NestedReply → NestedCall
nested_call front service request reply = record { front = front; service = service; request = request; reply = reply }

-- the nested call at a place has its reply
abbrev pub with_reply_at : ℕ → NestedReply → List NestedCall → List NestedCall
with_reply_at zero reply [] = []
with_reply_at zero reply (n ∷ ns) = record n { reply = Some reply } ∷ ns
with_reply_at (suc k) reply [] = []
with_reply_at (suc k) reply (n ∷ ns) = n ∷ with_reply_at k reply ns

-- a further nested call would be one too many: 16 calls wait, or 64 nested ones were made
abbrev pub is_too_long : ℕ → List NestedCall → Bool
is_too_long waiting nested = (waiting == 16) || (length nested == 64)

-- the reply that the end of a nested call gives
abbrev pub reply_by : Ended → NestedReply
reply_by (Said text) = Text text
reply_by Declined = Refused
reply_by TooLong = Refused

-- the call that runs has ended: the one that waits for it goes on with the reply, or the whole is over
abbrev pub ended_by : Ended → List Frame → Frame → List NestedCall → List ℕ → Calling
ended_by end [] f nested fronts = Over nested end fronts
ended_by end (before ∷ waiting) f nested fronts = Runs waiting (going_on before (reply_by end)) (with_reply_at f.place (reply_by end) nested) fronts

-- a nested call has its reply at once, or the instance that it reaches takes it up
abbrev pub nested_by : Whom → ℕ → List ℕ → List Frame → Frame → List NestedCall → List ℕ → Calling
nested_by (Nobody service reply) front request waiting f nested fronts = Runs waiting (going_on f reply) (nested ++ nested_call front service request (Some reply) ∷ []) fronts
nested_by (Instance service number site) front request waiting f nested fronts =
    Runs (f ∷ waiting) (taken_up number site request (length nested)) (nested ++ nested_call front service request None ∷ []) fronts

-- more moves than any call makes: each nested call is one, and each call that was taken up ends by one
abbrev pub all_moves : ℕ
all_moves = 130

module _ (reaches : Reaching) (next : Meaning) where
  -- a nested call is decided at the next front
  abbrev pub begun_at : List ℕ → List ℕ → List ℕ → List Frame → Frame → List NestedCall → Calling
  begun_at [] reference request waiting f nested = Starved
  begun_at (front ∷ fronts) reference request waiting f nested = nested_by (reaches front f.instance reference) front request waiting f nested fronts

  abbrev pub moved_by : Move → List Frame → Frame → List NestedCall → List ℕ → Calling
  moved_by (Answers text) waiting f nested fronts = ended_by (Said text) waiting f nested fronts
  moved_by Refuses waiting f nested fronts = ended_by Declined waiting f nested fronts
  moved_by (Calls reference request) waiting f nested fronts =
      if is_too_long (length waiting) nested then Over nested TooLong fronts else begun_at fronts reference request waiting f nested

  -- the call that runs makes its next move
  abbrev pub moved : Calling → Calling
  moved (Runs waiting f nested fronts) = moved_by (next f.asking.class f.asking.properties f.asking.request f.asking.replies) waiting f nested fronts
  moved (Over nested end fronts) = Over nested end fronts
  moved Starved = Starved

  unfoldable pub after_moves : ℕ → Calling → Calling
  after_moves zero c = c
  after_moves (suc k) c = after_moves k (moved c)

-- a request to an instance begins, with the fronts to come
abbrev pub begun : ℕ → Site → List ℕ → List ℕ → Calling
begun instance site request fronts = Runs [] (taken_up instance site request 0) [] fronts

abbrev pub fronts_of : List NestedCall → List ℕ
fronts_of [] = []
fronts_of (n ∷ ns) = n.front ∷ fronts_of ns

-- a request to an instance comes to this end with these nested calls, each decided at its front
abbrev pub ComesTo : Reaching → Meaning → ℕ → Site → List ℕ → List NestedCall → Ended → Type 0
ComesTo reaches next instance site request nested end = after_moves reaches next all_moves (begun instance site request (fronts_of nested)) ≡ Over nested end []
