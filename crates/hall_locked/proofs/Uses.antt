-- What is kept of gets stays as the log says, at each entry.
use Rattle.std.proofs.Common.{◌≡◌, ◌⊎◌, ◌<◌, ℕ, ◌+◌, List, [], ◌∷◌, ◌++◌, length, arith, ap, sym, ◌∙◌, refl, subst, Bool, true, false, ◌||◌, inl, inr, Option, Some, None, Result, Ok, Err}
use Rattle.std.specs.Prelude.{◌==◌, OnErr, not}
use Rattle.std.specs.List.{Contains, list_any}
use Rattle.std.proofs.lemmas.Bool.{both_ways, eq-eqb, ne_eqb, or_parts}
use Rattle.std.proofs.lemmas.List.{append-nil, append_assoc, append_cancel_left, length-append}
use Rattle.callback_orders.specs.declared.callback.Outcome.{Outcome}
use Rattle.component_state.proofs.Apart.{in_cases, in_either, in_none, kept_was, not_true}
use Rattle.hall_goings.specs.Went.{owned_by}
use Rattle.journal_core.specs.declared.entry.Entry.{Entry}
use Rattle.journal_core.specs.declared.entry.GateKey.{GateKey}
use Rattle.hall_locked.specs.Owned.{without_use}
use Rattle.hall_locked.specs.OwnedCores.{AppendsOwned, OwnedView, PostsKey, log_owned}
use Rattle.hall_locked.specs.Uses.{AreKeptGets, GivesBack, IsGot, IsKeptGet, NoneReleases, is_release}
use Rattle.hall_locked.proofs.Logs.{owned_length}
use Rattle.platform_hall.specs.Calls.{GetsUse}
use Rattle.platform_hall.specs.Platforms.{BeginsTurn, CoreTakes, Ends}
use Rattle.platform_hall.proofs.Turns.{begins_next, is_begin}
use Rattle.scr_core.specs.Cores.{CoreView}
use Rattle.scr_world.specs.Calls.{Grown, GrownIf, world_at}
use Rattle.scr_world.specs.Dues.{next_begin}
use Rattle.scr_world.specs.Replies.{changes}
use Rattle.scr_world.specs.declared.command.Command.{Command}
use Rattle.scr_world.specs.declared.marks.Token.{Token}
use Rattle.scr_world.specs.declared.reply.Accepted.{Accepted}
use Rattle.scr_world.specs.declared.reply.CoreFault.{CoreFault}
use Rattle.scr_world.specs.declared.step.Step.{Step}
use Rattle.scr_world.specs.declared.step.Step.TheVariants.{Command as Commanded, Begin, End, Drained, Got, Released}
use Rattle.scr_world.specs.declared.world.World.{World}

abbrev pub Log : Type 0
Log = List (ℕ × Entry Step)

-- ---- more entries

none_over : (place : ℕ) (xs ys : Log) → NoneReleases place xs → NoneReleases place ys → NoneReleases place (xs ++ ys)
none_over place [] ys first second = second
none_over place (x ∷ xs) ys first second =
    let parts = or_parts (is_release place x.1.step) (list_any (λ (y : ℕ × Entry Step). is_release place y.1.step) xs) first in
    ap (λ b. b || list_any (λ (y : ℕ × Entry Step). is_release place y.1.step) (xs ++ ys)) parts.0 ∙ none_over place xs ys parts.1 second

pub kept_over_more : (log more : Log) (got : ℕ × ℕ) → NoneReleases got.1 more → IsKeptGet log got → IsKeptGet (log ++ more) got
kept_over_more log more got none kept = record {
  before = kept.before;
  entry = kept.entry;
  behind = kept.behind ++ more;
  log_is = ap (λ (l : Log). l ++ more) kept.log_is ∙ append_assoc kept.before ((got.0, kept.entry) ∷ kept.behind) more;
  place_is = kept.place_is;
  step = kept.step;
  unreleased = none_over got.1 kept.behind more kept.unreleased none;
}

-- nothing is kept of gets where none were got
pub none_kept : (log : Log) (uses : List (ℕ × ℕ)) → uses ≡ [] → AreKeptGets log uses
none_kept log uses none got h = absurd (in_none got (subst (λ (us : List (ℕ × ℕ)). Contains us got) none h))

-- ---- a journal that releases no get

-- it is as it was, or has grown by one entry that releases none
abbrev pub ReleasesNone : List (Entry Step) → List (Entry Step) → Type 0
ReleasesNone old new = (new ≡ old) ⊎ ((entry : Entry Step) × (new ≡ old ++ entry ∷ []) × ((place : ℕ) → is_release place entry.step ≡ false))

grown_none : (limit : ℕ) (old new : List (Entry Step)) (step : Step) → ((place : ℕ) → is_release place step ≡ false) → Grown limit old step new → ReleasesNone old new
grown_none limit old new step none (entry, is, may, grew) = inr (entry, grew, λ place. ap (is_release place) is ∙ none place)

command_none : (limit : ℕ) (old new : List (Entry Step)) (command : Command) (changed : Bool) → GrownIf changed limit old (Commanded command) new → ReleasesNone old new
command_none limit old new command true grown = grown_none limit old new (Commanded command) (λ place. refl) grown
command_none limit old new command false same = inl same

begin_none : (w : World) (step : Step) → next_begin w ≡ Some step → (place : ℕ) → is_release place step ≡ false
begin_none w (Begin turn instance configuration consumer callback chosen) is place = refl
begin_none w (Commanded command) is place = refl
begin_none w (End turn outcome) is place = refl
begin_none w (Drained instance) is place = refl
begin_none w (Got bundle service) is place = refl
begin_none w (Released released) is place = absurd (both_ways (is_begin (Released released)) refl (begins_next w (Released released) is))

-- ---- what is kept, as the journal grows for an owner

module _ {O : Type 0} (owner : ℕ) (before after : OwnedView O) (a : AppendsOwned owner before after) (uses : List (ℕ × ℕ)) (are : AreKeptGets (log_owned before) uses) where
  one_entry : (entry : Entry Step) → after.core.journal ≡ before.core.journal ++ entry ∷ [] → log_owned after ≡ log_owned before ++ (owner, entry) ∷ []
  one_entry entry grew =
      a.log ∙ ap (λ (es : List (Entry Step)). log_owned before ++ owned_by owner es) (append_cancel_left before.core.journal a.entries (entry ∷ []) (sym a.journal ∙ grew))

  no_entry : after.core.journal ≡ before.core.journal → log_owned after ≡ log_owned before
  no_entry stays =
      a.log
      ∙ ap (λ (es : List (Entry Step)). log_owned before ++ owned_by owner es) (append_cancel_left before.core.journal a.entries [] (sym a.journal ∙ stays ∙ sym (append-nil before.core.journal)))
      ∙ append-nil (log_owned before)

  uses_stay : ReleasesNone before.core.journal after.core.journal → AreKeptGets (log_owned after) uses
  uses_stay (inl stays) got h = subst (λ (l : Log). IsKeptGet l got) (sym (no_entry stays)) (are got h)
  uses_stay (inr (entry, grew, none)) got h =
      subst (λ (l : Log). IsKeptGet l got) (sym (one_entry entry grew)) (kept_over_more (log_owned before) ((owner, entry) ∷ []) got (ap (λ b. b || false) (none got.1)) (are got h))

  -- a command, a drain, the end of a turn
  pub command_uses : (command : Command) (accepted : Accepted) → CoreTakes before.core command (Ok accepted) after.core → AreKeptGets (log_owned after) uses
  command_uses command accepted takes =
      uses_stay (command_none before.core.limits.journal before.core.journal after.core.journal command (changes before.core.limits.journal (world_at before.core.journal) command) takes.1.2)

  pub drain_uses : (key : GateKey) → PostsKey before.core key after.core → AreKeptGets (log_owned after) uses
  drain_uses key (limits, (i, found, grown)) = uses_stay (grown_none before.core.limits.journal before.core.journal after.core.journal (Drained i.number) (λ place. refl) grown)

  pub end_uses : (turn : ℕ) (outcome : Outcome) → Ends before.core turn outcome after.core → AreKeptGets (log_owned after) uses
  end_uses turn outcome ends = uses_stay (grown_none before.core.limits.journal before.core.journal after.core.journal (End turn outcome) (λ place. refl) ends.1)

  -- a turn that begins
  pub begun_uses : (answer : Result (Option ℕ) CoreFault) → BeginsTurn before.core answer after.core → OnErr answer (after ≡ before) → AreKeptGets (log_owned after) uses
  begun_uses (Ok (Some turn)) (work, number, (limits, next, (step, is, named, grown)), runs) same =
      uses_stay (grown_none before.core.limits.journal before.core.journal after.core.journal step (begin_none (world_at before.core.journal) step is) grown)
  begun_uses (Ok None) begins same = uses_stay (inl (ap (λ (c : CoreView). c.journal) begins.1))
  begun_uses (Err fault) begins same = uses_stay (inl (ap (λ (l : OwnedView O). l.core.journal) same))

  -- ---- a get, and its release

  module _ (bundle service : ℕ) (note : Token) (many : length before.owners ≡ length before.core.journal) (gets : GetsUse before.core bundle service (Ok note) after.core) where
    -- the place of the get is behind the log
    pub got_place : note.place ≡ length (log_owned before)
    got_place = ap (λ (t : Token). t.place) gets.1.0 ∙ sym many ∙ sym (owned_length before.owners before.core.journal many)

    got_new : IsKeptGet (log_owned after) (owner, note.place)
    got_new = record {
      before = log_owned before;
      entry = gets.1.1.0;
      behind = [];
      log_is = one_entry gets.1.1.0 gets.1.1.3;
      place_is = got_place;
      step = subst (λ (s : Step). IsGot s) (sym gets.1.1.1) tt;
      unreleased = refl;
    }

    pub got_uses : AreKeptGets (log_owned after) (uses ++ (owner, note.place) ∷ [])
    got_uses got h = elim (in_either uses ((owner, note.place) ∷ []) got h) [
      | inl earlier ↦ uses_stay (grown_none before.core.limits.journal before.core.journal after.core.journal (Got bundle service) (λ place. refl) gets.1.1) got earlier
      | inr added ↦ elim (in_cases (owner, note.place) [] got added) [
        | inl same ↦ subst (λ (x : ℕ × ℕ). IsKeptGet (log_owned after) x) same got_new
        | inr none ↦ absurd (in_none got none)
      ]
    ]

  other_place : (place : ℕ) (got : ℕ × ℕ) → not (got.1 == place) ≡ true → is_release got.1 (Released place) ≡ false
  other_place place got other = ne_eqb place got.1 (λ e. both_ways (got.1 == place) (not_true (got.1 == place) other) (eq-eqb got.1 place (sym e)))

  pub released_uses : (note : Token) (stood : Bool) → GivesBack before.core note stood after.core → AreKeptGets (log_owned after) (without_use note.place uses)
  released_uses note true (limits, (stands, (entry, is, may, grew))) got h =
      let was = kept_was (λ (u : ℕ × ℕ). not (u.1 == note.place)) uses got h in
      subst (λ (l : Log). IsKeptGet l got) (sym (one_entry entry grew))
      (kept_over_more (log_owned before) ((owner, entry) ∷ []) got (ap (λ b. b || false) (ap (is_release got.1) is ∙ other_place note.place got was.1)) (are got was.0))
  released_uses note false (limits, (gone, stays)) got h =
      let was = kept_was (λ (u : ℕ × ℕ). not (u.1 == note.place)) uses got h in
      subst (λ (l : Log). IsKeptGet l got) (sym (no_entry stays)) (are got was.0)

-- ---- the get at a place

abbrev first_owner : Log → ℕ
first_owner [] = 0
first_owner (x ∷ xs) = x.0

abbrev later : Log → Log
later [] = []
later (x ∷ xs) = xs

same_at : (xs ys more rest : Log) (n m : ℕ) (e f : Entry Step) → length xs ≡ length ys → xs ++ (n, e) ∷ more ≡ ys ++ (m, f) ∷ rest → n ≡ m
same_at [] [] more rest n m e f long same = ap first_owner same
same_at [] (y ∷ ys) more rest n m e f long same = cc
same_at (x ∷ xs) [] more rest n m e f long same = cc
same_at (x ∷ xs) (y ∷ ys) more rest n m e f long same =
    let less : length xs ≡ length ys = omega (arith, long) in
    same_at xs ys more rest n m e f less (ap later same)

-- it is one owner's
pub one_getter : (log : Log) (n m place : ℕ) → IsKeptGet log (n, place) → IsKeptGet log (m, place) → n ≡ m
one_getter log n m place one other =
    same_at one.before other.before one.behind other.behind n m one.entry other.entry (sym one.place_is ∙ other.place_is) (sym one.log_is ∙ other.log_is)

-- and its place is in the log
pub kept_within : (log : Log) (got : ℕ × ℕ) → IsKeptGet log got → got.1 < length log
kept_within log got kept =
    let long : length log ≡ length kept.before + length ((got.0, kept.entry) ∷ kept.behind) = ap length kept.log_is ∙ length-append kept.before ((got.0, kept.entry) ∷ kept.behind) in
    let at = kept.place_is in omega (arith, long, at)
