-- What a desk over the core is, what it keeps beside the core, and who hears of a turn. Our own; callbacks are OSGi Compendium 8, chapter 112,
-- component life cycle.
use Rattle.std.specs.Arc.{arc_value}
use Rattle.std.specs.Prelude.{◌≡◌, ◌≤◌, ℕ, ◌==◌, ◌&&◌, ◌++◌, List, [], ◌∷◌, Bool, not, Option, Some, None, Result, count_by, filter, is_some, option_map, if◌then◌else◌}
use Rattle.std.specs.List.{Contains, find, list_any}
use Rattle.callback_orders.specs.declared.callback.Outcome.{Outcome}
use Rattle.callback_orders.specs.Grammar.{is_destroy}
use Rattle.kind_trait.specs.Meanings.{Told}
use Rattle.kind_trait.specs.declared.kind_fault.KindFault.{KindFault}
use Rattle.prop_map.specs.declared.properties.Property.{Property}
use Rattle.turn_work.specs.declared.site.Site.{Site}
use Rattle.turn_work.specs.declared.work.TurnWork.{TurnWork}
use Rattle.turn_runner.specs.declared.settle_fault.SettleFault.{SettleFault}
use Rattle.turn_runner.specs.declared.came.Came.{Came}
use Rattle.turn_runner.specs.declared.turn.Ran.{Ran}
use Rattle.turn_runner.specs.Outcomes.{makes_object, needs_object}
use Rattle.turn_runner.specs.Turns.{EndsOnce, HeardEnds, IsAnswered, IsSettled, Starts, Stays}
use Rattle.platform_hall.specs.declared.held.Held.{Held}
use Rattle.scr_requests.specs.Cores.{CoreView}
use Rattle.scr_world.specs.Legal.{is_under_way}
use Rattle.platform_hall.specs.Platforms.{Begins, Ends, Posts, has_drain, has_due, has_object, has_room, running, world}
use Rattle.prop_map.specs.Words.{one_if}

-- how many tokens are of this turn
abbrev pub tokens_of : List ℕ → ℕ → ℕ
tokens_of turns turn = count_by (λ t. t == turn) turns

-- an object is kept for the instance
abbrev pub is_holder : {O : Type 0} → List (Held O) → ℕ → Bool
is_holder held instance = list_any (λ one. one.instance == instance) held

-- how many objects are kept for the instance
abbrev pub holders_of : {O : Type 0} → List (Held O) → ℕ → ℕ
holders_of held instance = count_by (λ one. one.instance == instance) held

-- the object that is kept for an instance, the first one of them
abbrev pub object_of : {O : Type 0} → List (Held O) → ℕ → Option O
object_of held instance = option_map (λ one. arc_value one.object) (find (λ one. one.instance == instance) held)

-- a desk as contracts see it: what they see of its core, the objects that it keeps, and the turns of which these heard, in order; what turns came to
-- that couldn't be put back, and whether there is room for one more
pub record DeskView (O : Type 0) : Type 0 where
  pub core : CoreView
  pub held : List (Held O)
  pub told : List ℕ
  pub kept : List (Came O)
  pub ready : Bool

-- the object is the one that the desk keeps for the instance
abbrev pub Owns : {O : Type 0} → DeskView O → ℕ → O → Type 0
Owns desk instance object = object_of desk.held instance ≡ Some object

-- one token is there for each turn that is under way and none for any other, and one object for each instance that has one and none for any other
pub record IsDesk {O : Type 0} (p : CoreView) (turns : List ℕ) (held : List (Held O)) : Type 0 where
  pub tokens : (turn : ℕ) → tokens_of turns turn ≡ one_if (is_under_way (world p) turn)
  pub objects : (instance : ℕ) → is_holder held instance ≡ has_object p instance
  pub alone : (instance : ℕ) → holders_of held instance ≤ 1

-- what is kept of the turn of a number, and what is kept of all others
abbrev pub kept_of : {O : Type 0} → List (Came O) → ℕ → Option (Came O)
kept_of kept turn = find (λ came. came.work.number == turn) kept

abbrev pub kept_but : {O : Type 0} → ℕ → List (Came O) → List (Came O)
kept_but turn kept = filter (λ came. not (came.work.number == turn)) kept

-- the same outcome, and the same object
abbrev pub IsLike : {O : Type 0} → Ran O → Ran O → Type 0
IsLike one other = (one.outcome ≡ other.outcome) × (option_map arc_value one.made ≡ option_map arc_value other.made)

-- what is kept fits its turn: that is under way with this work, and an object is there exactly where it made one
abbrev pub AreFit : {O : Type 0} → CoreView → List (Came O) → Type 0
AreFit {O} p kept =
    (came : Came O) → Contains kept came → (running p came.work.number ≡ Some came.work) × (is_some came.ran.made ≡ makes_object came.work came.ran.outcome)

-- ---- what its calls do

-- an object hears of the turn: it is neither of instance 0 nor a Create nor a Destroy
abbrev pub is_heard : TurnWork → Bool
is_heard work = needs_object work && not (is_destroy work.callback)

-- the turn, where an object hears of it
abbrev pub heard_of : Option TurnWork → List ℕ
heard_of None = []
heard_of (Some work) = if is_heard work then work.number ∷ [] else []

-- the object of a turn's instance is handed out, to hear of the turn
abbrev pub HandsOut : {O : Type 0} → DeskView O → ℕ → DeskView O → Type 0
HandsOut before turn after =
    (after.core ≡ before.core) × (after.held ≡ before.held) × (after.told ≡ before.told ++ heard_of (running before.core turn)) × (after.kept ≡ before.kept)

-- a turn begins or ends, or drains are posted, and nobody hears of anything
abbrev pub DeskBegins : {O : Type 0} → DeskView O → TurnWork → DeskView O → Type 0
DeskBegins before work after = Begins before.core work after.core × (after.told ≡ before.told) × (after.kept ≡ before.kept)

-- of a turn that has ended nothing is kept any more
abbrev pub DeskEnds : {O : Type 0} → DeskView O → ℕ → Outcome → DeskView O → Type 0
DeskEnds before turn outcome after = Ends before.core turn outcome after.core × (after.told ≡ before.told) × (after.kept ≡ kept_but turn before.kept)

abbrev pub DeskPosts : {O : Type 0} → DeskView O → DeskView O → Type 0
DeskPosts before after = Posts before.core after.core × (after.told ≡ before.told) × (after.kept ≡ before.kept)

-- what a turn came to is kept
abbrev pub DeskKeeps : {O : Type 0} → DeskView O → Came O → DeskView O → Type 0
DeskKeeps before came after = (after.core ≡ before.core) × (after.held ≡ before.held) × (after.told ≡ before.told) × (after.kept ≡ before.kept ++ came ∷ [])

-- a turn is heard of once, by the object that the desk keeps for its instance, and ends with what that answered; what a Create made is for its turn
abbrev pub DeskHears : {O : Type 0} → (O → Site → Type 0) → (O → Site → Told → Result (Unit {0}) KindFault → Type 0) → DeskView O → ℕ → Outcome → DeskView O → Type 0
DeskHears {O} made hears before turn outcome after = HeardEnds (λ (d : DeskView O). running d.core) Owns made hears HandsOut DeskEnds before turn outcome after

module _ {O : Type 0} (made : O → Site → Type 0) (hears : O → Site → Told → Result (Unit {0}) KindFault → Type 0) (refuses : List ℕ → List Property → Told → Bool) where
  -- what is kept of turns is what they came to when they were told, each on a desk of its time
  abbrev pub AreAnswered : List (Came O) → Type 0
  AreAnswered kept = (came : Came O) → Contains kept came → (desk : DeskView O) × IsAnswered Owns made hears refuses desk came

  -- a turn that has begun goes on, told or not
  abbrev pub DeskStays : DeskView O → TurnWork → DeskView O → Type 0
  DeskStays before work after = Stays Owns made hears refuses HandsOut DeskKeeps before work after

  -- a turn of which nothing is kept is heard of and ends, and one that was told ends with what is kept of it
  abbrev pub DeskFinishes : DeskView O → TurnWork → Outcome → DeskView O → Type 0
  DeskFinishes before work outcome after = EndsOnce (λ (d : DeskView O). kept_of d.kept) Owns (DeskHears made hears) DeskEnds refuses before work outcome after

  -- a settling of a desk
  abbrev pub DeskSettles : ℕ → DeskView O → Result ℕ SettleFault → DeskView O → Type 0
  DeskSettles turns before answer after =
      IsSettled (λ (d : DeskView O). has_due d.core) (λ (d : DeskView O). has_room d.core) (λ (d : DeskView O). has_drain d.core) DeskBegins (Starts DeskBegins DeskStays) (DeskHears made hears) DeskPosts refuses turns before answer after

  -- ---- what a platform's calls do, by desks of its core

  -- it settles as a desk of its core does
  abbrev pub SettlesHeard : ℕ → CoreView → Result ℕ SettleFault → CoreView → Type 0
  SettlesHeard turns before answer after =
      (desk : DeskView O) × (left : DeskView O) × (desk.core ≡ before) × (left.core ≡ after) × DeskSettles turns desk answer left

  -- a turn that is finished is heard of as on a desk of its core, or was when it was told, and drains are posted
  abbrev pub FinishesHeard : CoreView → ℕ → Outcome → CoreView → Type 0
  FinishesHeard before turn outcome after =
      (desk : DeskView O) × (ended : DeskView O) × (left : DeskView O) × (work : TurnWork) × (desk.core ≡ before) × (left.core ≡ after) × (running before turn ≡ Some work)
      × AreAnswered desk.kept × DeskFinishes desk work outcome ended × DeskPosts ended left
