-- Gets by token in a hall, for a pass, and their release. Our own; gets are OSGi Core 8, chapter 5, "Getting Services".
use Rattle.std.specs.Prelude.{◌≡◌, ℕ, ◌+◌, ◌≤◌, List, [], ◌∷◌, ◌++◌, length, Bool, true, false, None, Result, Ok, Err}
use Rattle.std.specs.List.{Contains}
use Rattle.hall_goings.specs.Went.{Went}
use Rattle.hall_locked.specs.Owned.{use_thing}
use Rattle.hall_locked.specs.Platforms.{world}
use Rattle.hall_locked.specs.Uses.{GetsUse, IsKeptGet}
use Rattle.journal_core.specs.declared.entry.Entry.{Entry}
use Rattle.platform_sessions.specs.Halls.{View, core_seen, core_up_to}
use Rattle.platform_sessions.specs.Works.{things_but}
use Rattle.scr_world.specs.Calls.{has_token}
use Rattle.scr_world.specs.Refusals.{refusal}
use Rattle.scr_world.specs.Room.{has_room}
use Rattle.scr_world.specs.declared.command.Command.TheVariants.{Get}
use Rattle.scr_world.specs.declared.command.Limits.{Limits}
use Rattle.scr_world.specs.declared.marks.Token.{Token}
use Rattle.scr_world.specs.declared.reply.CoreFault.{CoreFault}
use Rattle.scr_world.specs.declared.step.Step.{Step}
use Rattle.scr_world.specs.declared.step.Step.TheVariants.{Got, Released}

-- ---- a get that a pass has

-- the get of this note stands in a list of entries under this owner
pub record IsGotIn (log : List (ℕ × Entry Step)) (owner : ℕ) (note : Token) : Type 0 where
  pub before : List (ℕ × Entry Step)
  pub entry : Entry Step
  pub behind : List (ℕ × Entry Step)
  pub log_is : log ≡ before ++ (owner, entry) ∷ behind
  pub place_is : note.place ≡ length before
  pub step : entry.step ≡ Got note.bundle note.service

-- the get of this note is in what the pass has seen, and is kept for it: it got the service, or one that was joined into it, and nobody gave the get back
pub record HasUse (note : Token) (pass : View) : Type 0 where
  pub owner : ℕ
  pub kept : Contains pass.kept (owner, use_thing note.place)
  pub got : IsGotIn pass.seen owner note

-- ---- a get

-- the service was got in one turn at the lock: by one entry of the pass, which its note names, behind all that the pass had seen, and the last that it
-- has seen now. In what stands before it no refusal is due, and the journal has room for it and its release. The get is kept for the pass beside what was
pub record HasGot (limits : Limits) (before after : View) (bundle service : ℕ) (note : Token) : Type 0 where
  pub entry : Entry Step
  pub step : entry.step ≡ Got bundle service
  pub went : Went before after ((note.place, entry) ∷ [])
  pub behind : length before.seen ≤ note.place
  pub last : length after.seen ≡ note.place + 1
  pub bundle_is : note.bundle ≡ bundle
  pub service_is : note.service ≡ service
  pub unrefused : refusal (world (core_up_to limits after note.place)) (Get bundle service) ≡ None
  pub room : has_room limits.journal (world (core_up_to limits after note.place)) 2 ≡ true
  pub has : HasUse note after
  pub others : things_but (use_thing note.place) after.kept ≡ before.kept

-- what a get answers and does. A refusal is by all that the pass has seen then, and want of memory hides none; the pass has looked at most
abbrev pub Gets : Limits → View → View → ℕ → ℕ → Result Token CoreFault → Type 0
Gets limits before after bundle service (Ok note) = HasGot limits before after bundle service note
Gets limits before after bundle service (Err fault) = Went before after [] × GetsUse (core_seen limits after) bundle service (Err fault) (core_seen limits after)

-- ---- a release

-- the get stood, and was released in one turn at the lock by one entry of the pass, the last that it has seen
pub record HasReleased (limits : Limits) (before after : View) (note : Token) : Type 0 where
  pub place : ℕ
  pub entry : Entry Step
  pub step : entry.step ≡ Released note.place
  pub went : Went before after ((place, entry) ∷ [])
  pub last : length after.seen ≡ place + 1
  pub stood : has_token (world (core_up_to limits after place)) note ≡ true

-- the get stands no more in all that the pass has seen, where nothing has released it: so its service was unregistered since, or its bundle stopped
pub record HasLeft (limits : Limits) (before after : View) (note : Token) : Type 0 where
  pub went : Went before after []
  pub gone : has_token (world (core_seen limits after)) note ≡ false
  pub owner : ℕ
  pub unreleased : IsKeptGet after.seen (owner, note.place)

-- what a release answers and does
abbrev pub Releases : {E : Type 0} → Limits → View → View → Token → Result Bool E → Type 0
Releases limits before after note (Ok true) = HasReleased limits before after note
Releases limits before after note (Ok false) = HasLeft limits before after note
Releases limits before after note (Err error) = Went before after [] × HasUse note after
