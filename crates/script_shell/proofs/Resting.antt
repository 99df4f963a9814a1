-- How a platform comes to rest behind a line.
use Rattle.std.proofs.Common.{◌≡◌, ℕ, zero, suc, List, [], ◌∷◌, Bool, true, false, cond, not, ◌||◌, refl, ap, sym, ◌∙◌, Ok, Err}
use Rattle.std.specs.Prelude.{Result, map, ◌==◌}
use Rattle.std.specs.List.{list_any}
use Rattle.std.specs.declared.option.Option.{Option}
use Rattle.callback_orders.specs.Sequences.{is_outstanding}
use Rattle.journal_core.specs.declared.entry.Entry.{Entry}
use Rattle.call_moves.specs.Evaluations.{Meaning}
use Rattle.kind_trait.specs.Meanings.{Told}
use Rattle.prop_map.specs.declared.properties.Property.{Property}
use Rattle.scr_calls.specs.declared.call.Called.{Called}
use Rattle.scr_calls.specs.declared.call_fault.CallFault.{CallFault}
use Rattle.scr_calls.specs.declared.call_fault.CallFault.TheVariants.{Gone, NoObject, Pending, Refused, CallTooLong, Core, Settle as InSettling, OutOfMemory as CallNoMemory}
use Rattle.scr_world.specs.declared.command.Command.{Command}
use Rattle.scr_world.specs.declared.reply.CoreFault.{CoreFault}
use Rattle.scr_world.specs.declared.reply.CoreFault.TheVariants.{OutOfMemory as NoMemory}
use Rattle.scr_world.specs.declared.reply.Reply.{Reply}
use Rattle.scr_world.specs.declared.step.Step.{Step}
use Rattle.scr_world.specs.declared.step.Step.TheVariants.{Command as Stepped, Drained as DrainStep, Got, Released}
use Rattle.scr_world.specs.declared.instance.Instance.{Instance}
use Rattle.scr_world.specs.declared.marks.Token.{Token}
use Rattle.scr_world.specs.Calls.{EndsUse, Grown, GrownIf, world_at}
use Rattle.platform_hall.specs.Cores.{CoreView}
use Rattle.scr_world.specs.Instances.{drained_in}
use Rattle.scr_world.specs.Legal.{IsLegal}
use Rattle.scr_world.specs.Quiet.{IsQuiet}
use Rattle.scr_world.specs.Replies.{changes}
use Rattle.scr_world.specs.Stepping.{instances_by, whiteboard_by}
use Rattle.scr_world.specs.Steps.{history_of}
use Rattle.scr_world.specs.Worlds.{all_instances}
use Rattle.platform_hall.specs.Calls.{CallsByGet, CallsOnOne, GetsUse, Releases}
use Rattle.platform_hall.specs.Platforms.{Accepts, Drained, SettlesAs, TakesCommand, none_under_way, world}
use Rattle.platform_hall.proofs.Steps.{grown_after}
use Rattle.shell_lang.specs.declared.shell_line.ShellLine.TheVariants.{Silent, Quit, Help, Command as Commanded, Bundles, Services, Components, Report, Held, ListComponents, Graph, Details, AboutService, Descriptions, Find, Events, BundleEvents, Trace, Wiring, BundleWiring, Routes, Configurations, Configuration, Listeners, Journal, Settle, Begin, Finish, Call, Http}
use Rattle.shell_lang.specs.declared.shell_reply.ShellReply.{ShellReply}
use Rattle.shell_lang.specs.ShellLines.{Asked}
use Rattle.script_shell.specs.Asks.{Asks, AsksBegin, AsksFinish, Manually, Setting}
use Rattle.script_shell.specs.Calling.{TellsCall}
use Rattle.script_shell.specs.Refusals.{IsAnswer, is_told}
use Rattle.script_shell.proofs.CallGrowth.{grew_got, ungot_whole}
use Rattle.script_shell.proofs.Refusals.{refused_keeps}

-- a callback of these instances is outstanding
abbrev outstanding_in : List Instance → Bool
outstanding_in is = list_any (λ (i : Instance). is_outstanding i.callbacks) is

abbrev outstanding_at : List (Entry Step) → Bool
outstanding_at journal = outstanding_in (all_instances (world_at journal))

drained_one : (instance : ℕ) (i : Instance) → is_outstanding (drained_in instance i).callbacks ≡ is_outstanding i.callbacks
drained_one instance i = go (i.number == instance)
  where
    go : (b : Bool) → is_outstanding (cond b (record i { drained = true }) i).callbacks ≡ is_outstanding i.callbacks
    go true = refl
    go false = refl

drained_ones : (instance : ℕ) (is : List Instance) → outstanding_in (map (drained_in instance) is) ≡ outstanding_in is
drained_ones instance [] = refl
drained_ones instance (i ∷ is) =
    ap (λ b. b || outstanding_in (map (drained_in instance) is)) (drained_one instance i) ∙ ap (λ b. is_outstanding i.callbacks || b) (drained_ones instance is)

-- the instances behind one entry, that of the whiteboard too
outstanding_grown : (limit : ℕ) (old new : List (Entry Step)) (step : Step) → Grown limit old step new → outstanding_at new ≡ outstanding_in (whiteboard_by step (world_at old) ∷ instances_by step (world_at old))
outstanding_grown limit old new step grown =
    let then = grown_after limit old new step grown in
    ap (λ (i : Instance). outstanding_in (i ∷ (world_at new).instances)) then.whiteboard ∙ ap (λ (is : List Instance). outstanding_in (whiteboard_by step (world_at old) ∷ is)) then.instances

drained_still : (limit count : ℕ) (old new : List (Entry Step)) → Drained limit count old new → outstanding_at new ≡ outstanding_at old
drained_still limit zero old new same = ap outstanding_at same
drained_still limit (suc count) old new (between, key, next, drained, (i, found, grown)) =
    outstanding_grown limit between new (DrainStep i.number) grown
    ∙ ap (λ b. is_outstanding (world_at between).whiteboard.callbacks || b) (drained_ones i.number (world_at between).instances)
    ∙ drained_still limit count old between drained

if_still : (change : Bool) (limit : ℕ) (old new : List (Entry Step)) (command : Command) → GrownIf change limit old (Stepped command) new → outstanding_at new ≡ outstanding_at old
if_still true limit old new command grown = outstanding_grown limit old new (Stepped command) grown
if_still false limit old new command same = ap outstanding_at same

accepts_still : (before after : CoreView) (command : Command) (said : Reply) → Accepts before command said after → none_under_way after ≡ none_under_way before
accepts_still before after command said (accepted, between, is, (same, (replies, shut, grown)), (limits, count, drained)) =
    ap not (drained_still between.limits.journal count between.journal after.journal drained ∙ if_still (changes before.limits.journal (world before) command) before.limits.journal before.journal between.journal command grown)

told_memory : (fault : CoreFault) → is_told fault ≡ true → fault ≡ NoMemory → ⊥
told_memory fault told is = let no : is_told NoMemory ≡ true = ap is_told (sym is) ∙ told in cc

-- no command begins a turn or ends one
takes_still : (before after : CoreView) (command : Command) (said : Result Reply CoreFault) → TakesCommand before command said after → IsAnswer said → none_under_way after ≡ none_under_way before
takes_still before after command (Ok said) (accepts, none) told = accepts_still before after command said accepts
takes_still before after command (Err fault) takes told = ap (λ j. not (outstanding_at j)) (refused_keeps before after command fault (told_memory fault told) takes).3

same_still : (before after : CoreView) → after ≡ before → none_under_way before ≡ true → none_under_way after ≡ true
same_still before after same none = ap none_under_way same ∙ none

manually_still : (manual : Bool) (asks : CoreView → ShellReply → CoreView → Type 0) (before after : CoreView) (said : ShellReply) → manual ≡ false → Manually manual asks before said after
    → none_under_way before ≡ true → none_under_way after ≡ true
manually_still true asks before after said auto asked none = absurd cc
manually_still false asks before after said auto (is, same) none = same_still before after same none

-- a settling leaves no turn under way where none was
abbrev pub TurnsEnd : Type 0
TurnsEnd = (refuses : List ℕ → List Property → Told → Bool) → (turns count : ℕ) → (before after : CoreView) → IsLegal before.limits.journal (history_of before.journal) → none_under_way before ≡ true
    → SettlesAs refuses turns before (Ok count) after → none_under_way after ≡ true

-- neither does a call: a get and its release begin no turn and end none
got_still : (before after : CoreView) (bundle service : ℕ) (note : Token) → GetsUse before bundle service (Ok note) after → none_under_way after ≡ none_under_way before
got_still before after bundle service note (same, (is, grown)) = ap not (outstanding_grown before.limits.journal before.journal after.journal (Got bundle service) grown)

ended_still : (limit : ℕ) (old new : List (Entry Step)) (note : Token) (stood : Bool) → EndsUse limit old note stood new → outstanding_at new ≡ outstanding_at old
ended_still limit old new note true (stands, grown) = outstanding_grown limit old new (Released note.place) grown
ended_still limit old new note false (stands, same) = ap outstanding_at same

releases_still : (before after : CoreView) (note : Token) → Releases before note after → none_under_way after ≡ none_under_way before
releases_still before after note (ended, (stood, same, ends), (limits, count, drained)) =
    ap not (drained_still ended.limits.journal count ended.journal after.journal drained ∙ ended_still before.limits.journal before.journal ended.journal note stood ends)

module _ (turns_end : TurnsEnd) (refuses : List ℕ → List Property → Told → Bool) (next : Meaning) (before after : CoreView) (bundle service : ℕ) (request : List ℕ) (legal : IsLegal before.limits.journal (history_of before.journal)) (none : none_under_way before ≡ true) where
  by_get_still : (said : Result Called CallFault) → CallsByGet refuses next before bundle service request said after → none_under_way after ≡ true
  by_get_still said calls =
      let got = calls.ready.got in
      let legal_then = (grew_got before got bundle service calls.note calls.ready.gets).legal legal in
      let none_then = got_still before got bundle service calls.note calls.ready.gets ∙ none in
      releases_still calls.settled after calls.note calls.releases ∙ turns_end refuses got.limits.turns calls.turns got calls.settled legal_then none_then calls.ready.settles.0

  calls_still : (said : Result (List ℕ) CallFault) (reply : ShellReply) → CallsOnOne refuses next before bundle service request said after → TellsCall said reply → none_under_way after ≡ true
  calls_still (Ok text) reply (called, is, calls) tells = by_get_still (Ok called) calls
  calls_still (Err (Gone front)) reply calls tells = by_get_still (Err (Gone front)) calls
  calls_still (Err (NoObject front)) reply calls tells = by_get_still (Err (NoObject front)) calls
  calls_still (Err (Pending front)) reply calls tells = by_get_still (Err (Pending front)) calls
  calls_still (Err (Refused front nested)) reply calls tells = by_get_still (Err (Refused front nested)) calls
  calls_still (Err (CallTooLong front nested)) reply calls tells = by_get_still (Err (CallTooLong front nested)) calls
  calls_still (Err (Core fault)) reply (gets, other) tells = same_still before after (ungot_whole before after bundle service fault gets) none
  calls_still (Err (InSettling fault)) reply calls tells = absurd tells
  calls_still (Err CallNoMemory) reply calls tells = absurd tells

-- where turns run behind each line, no line leaves a turn under way
pub asks_still : TurnsEnd → (s : Setting) (asked : Asked) (before after : CoreView) (told : Option ShellReply) → s.is_manual ≡ false → IsLegal before.limits.journal (history_of before.journal)
    → Asks s asked before told after → none_under_way before ≡ true → none_under_way after ≡ true
asks_still turns_end s (Ok Silent) before after told auto legal (is, same) none = same_still before after same none
asks_still turns_end s (Ok Quit) before after told auto legal (is, same) none = same_still before after same none
asks_still turns_end s (Ok (Help rows)) before after told auto legal (is, same) none = same_still before after same none
asks_still turns_end s (Ok (Commanded command)) before after told auto legal (said, is, (answer, takes, tells, replied)) none = takes_still before after command answer takes tells ∙ none
asks_still turns_end s (Ok Bundles) before after told auto legal (is, same) none = same_still before after same none
asks_still turns_end s (Ok Services) before after told auto legal (is, same) none = same_still before after same none
asks_still turns_end s (Ok Components) before after told auto legal (is, same) none = same_still before after same none
asks_still turns_end s (Ok (Report configuration)) before after told auto legal (is, same) none = same_still before after same none
asks_still turns_end s (Ok (Held configuration)) before after told auto legal (said, is, (answer, held, tells, replied, same)) none = same_still before after same none
asks_still turns_end s (Ok (Find tree)) before after told auto legal (is, same) none = same_still before after same none
asks_still turns_end s (Ok (Events listener number)) before after told auto legal (is, same) none = same_still before after same none
asks_still turns_end s (Ok (BundleEvents number)) before after told auto legal (is, same) none = same_still before after same none
asks_still turns_end s (Ok (Trace number)) before after told auto legal (is, same) none = same_still before after same none
asks_still turns_end s (Ok Wiring) before after told auto legal (said, is, (lines, tells, replied, same)) none = same_still before after same none
asks_still turns_end s (Ok (BundleWiring bundle)) before after told auto legal (said, is, (lines, tells, replied, same)) none = same_still before after same none
asks_still turns_end s (Ok Routes) before after told auto legal (is, same) none = same_still before after same none
asks_still turns_end s (Ok ListComponents) before after told auto legal (is, same) none = same_still before after same none
asks_still turns_end s (Ok Graph) before after told auto legal (is, same) none = same_still before after same none
asks_still turns_end s (Ok (Details configuration)) before after told auto legal (is, same) none = same_still before after same none
asks_still turns_end s (Ok (AboutService service)) before after told auto legal (is, same) none = same_still before after same none
asks_still turns_end s (Ok (Descriptions bundle)) before after told auto legal (is, same) none = same_still before after same none
asks_still turns_end s (Ok Configurations) before after told auto legal (is, same) none = same_still before after same none
asks_still turns_end s (Ok (Configuration pid)) before after told auto legal (is, same) none = same_still before after same none
asks_still turns_end s (Ok Listeners) before after told auto legal (is, same) none = same_still before after same none
asks_still turns_end s (Ok Journal) before after told auto legal (is, same) none = same_still before after same none
asks_still turns_end s (Ok Settle) before after told auto legal (said, is, (count, settles, replied)) none = turns_end s.refuses before.limits.turns count before after legal none settles.0
asks_still turns_end s (Ok Begin) before after told auto legal (said, is, asked) none = manually_still s.is_manual AsksBegin before after said auto asked none
asks_still turns_end s (Ok (Finish turn)) before after told auto legal (said, is, asked) none = manually_still s.is_manual (AsksFinish s.refuses turn) before after said auto asked none
asks_still turns_end s (Ok (Call bundle service request)) before after told auto legal (said, is, (answer, calls, tells)) none = calls_still turns_end s.refuses s.next before after bundle service request legal none answer said calls tells
asks_still turns_end s (Ok (Http method target body)) before after told auto legal (said, is, asked) none = same_still before after asked.0 none
asks_still turns_end s (Err fault) before after told auto legal (is, same) none = same_still before after same none

-- no turn is under way in a quiet platform
pub quiet_still : (after : CoreView) → IsQuiet (world after) → none_under_way after ≡ true
quiet_still after quiet = ap not quiet.ended
