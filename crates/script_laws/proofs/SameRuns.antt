-- Two runs of one script, or of one load, leave the same.
use Rattle.std.proofs.Common.{◌≡◌, ℕ, List, [], ◌++◌, Bool, true, false, append-nil, ap, sym, ◌∙◌, refl, subst, Option, Some, None, Ok, Err}
use Rattle.std.specs.Prelude.{Result}
use Rattle.std.specs.Io.KnownBytes.{Appends, Keeps}
use Rattle.std.proofs.lemmas.Bool.{false≢true}
use Rattle.call_moves.specs.Evaluations.{Meaning}
use Rattle.kind_trait.specs.Meanings.{Told}
use Rattle.platform_hall.proofs.Settlings.{HasLegal}
use Rattle.platform_hall.specs.Cores.{CoreView}
use Rattle.prop_map.specs.declared.properties.Property.{Property}
use Rattle.scr_world.specs.declared.command.Command.{Command}
use Rattle.script_shell.specs.Asks.{Setting}
use Rattle.script_shell.specs.FormRuns.{RunsForm, script_setting}
use Rattle.script_shell.specs.Forms.{form_of}
use Rattle.script_shell.specs.LineTexts.{Answer, IsRefusedLast, texts}
use Rattle.script_shell.specs.Lines.{lines_of}
use Rattle.script_shell.specs.Loads.{RunsLoad, StopsLoad, answered_by, load_setting, text_of_counts}
use Rattle.script_shell.specs.Runs.{EndsRefused, HasRun, HasRunOver, Stops, ending}
use Rattle.script_shell.specs.Statuses.{IsEnding, status_of}
use Rattle.script_shell.specs.declared.form.Form.{Form}
use Rattle.script_shell.specs.declared.form.Form.TheVariants.{Load, Script}
use Rattle.script_shell.specs.declared.form.LoadNumbers.{LoadNumbers}
use Rattle.script_shell.specs.declared.form.ScriptOptions.{ScriptOptions}
use Rattle.script_shell.specs.declared.status.Status.{Status}
use Rattle.script_shell.specs.declared.status.Status.TheVariants.{Done, JournalFull, LineTooLong, NoMemory, ReadFault, Refused, Unsettled, Usage, WriteFault}
use Rattle.turn_runner.specs.declared.settle_fault.SettleFault.TheVariants.{JournalFull as NoRoom, OutOfMemory, Unsettled as StillDue}
use Rattle.script_laws.proofs.Runs.{AtCut, AtEnd, AtRefusal, Stopped, Way, all_once, refused_once}
use Rattle.script_laws.specs.SameRuns.{Leaves, Left, LeftTheSame, is_undisturbed}

-- the parts of what two runs leave
abbrev Same : CoreView → CoreView → Status → Status → Option (List ℕ) → Option (List ℕ) → Option (List ℕ) → Option (List ℕ) → Type 0
Same after after' status status' written written' told told' = (after ≡ after') × (status ≡ status') × ((text : List ℕ) × Appends written written' text × Appends told told' text)

same_text : (written written' told told' : Option (List ℕ)) (text other : List ℕ) → text ≡ other → Appends written written' text → Appends told told' other → (shared : List ℕ) × Appends written written' shared × Appends told told' shared
same_text written written' told told' text other same wrote wrote' = (other, subst (λ (t : List ℕ). Appends written written' t) same wrote, wrote')

-- what cuts a run off is no want of memory
room_or_memory : NoRoom ≡ OutOfMemory → ⊥
room_or_memory same = cc

due_or_memory : StillDue ≡ OutOfMemory → ⊥
due_or_memory same = cc

-- ---- scripts

module _ (s : Setting) (o : ScriptOptions) (bytes : List ℕ) where
  -- how the status of a script tells the way in which it ended
  abbrev TellsWay : Way → List Answer → Status → Type 0
  TellsWay AtEnd answers status = status ≡ ending 1 (lines_of bytes)
  TellsWay (AtCut fault) answers status = status ≡ status_of fault
  TellsWay AtRefusal answers status = (number : ℕ) × IsRefusedLast number answers × (status ≡ Refused number)

  way_once : (way : Way) (answers : List Answer) (status status' : Status) → TellsWay way answers status → TellsWay way answers status' → status ≡ status'
  way_once AtEnd answers status status' is is' = is ∙ sym is'
  way_once (AtCut fault) answers status status' is is' = is ∙ sym is'
  way_once AtRefusal answers status status' (number, last, is) (other, last', is') = is ∙ ap (λ n. Refused n) (refused_once number other answers last last') ∙ sym is'

  abbrev HasWay : List (List ℕ) → CoreView → CoreView → List Answer → Status → List ℕ → Type 0
  HasWay others between after answers status front = (way : Way) × Stopped s o.strict way others between after answers × TellsWay way answers status × (front ≡ [])

  has_way : (first : CoreView) (status : Status) (between after : CoreView) (others : List (List ℕ)) (commands : List Command) (answers : List Answer) (front : List ℕ) → is_undisturbed status ≡ true
      → Stops s o first status between after others commands front → EndsRefused o.strict answers status → (IsEnding status → (status ≡ ending 1 (lines_of bytes)) × (others ≡ [])) → HasWay others between after answers status front
  has_way first Done between after others commands answers front own (stays, none) unrefused ended = (AtEnd, ((ended tt).1, stays.0, unrefused), (ended tt).0, none)
  has_way first (LineTooLong line) between after others commands answers front own (stays, none) unrefused ended = (AtEnd, ((ended tt).1, stays.0, unrefused), (ended tt).0, none)
  has_way first JournalFull between after others commands answers front own (cut, none) unrefused ended = (AtCut NoRoom, (commands, cut, room_or_memory, unrefused), refl, none)
  has_way first Unsettled between after others commands answers front own (cut, none) unrefused ended = (AtCut StillDue, (commands, cut, due_or_memory, unrefused), refl, none)
  has_way first (Refused number) between after others commands answers front own (stays, none) (strictly, last) ended = (AtRefusal, (strictly, stays.0, (number, last)), (number, last, refl), none)
  has_way first (Usage at) between after others commands answers front own stops refused ended = absurd stops
  has_way first ReadFault between after others commands answers front own stops refused ended = absurd (false≢true own)
  has_way first WriteFault between after others commands answers front own stops refused ended = absurd (false≢true own)
  has_way first NoMemory between after others commands answers front own stops refused ended = absurd (false≢true own)

  script_once : (before after after' : CoreView) (written written' told told' : Option (List ℕ)) (status status' : Status) → HasLegal before → is_undisturbed status ≡ true → is_undisturbed status' ≡ true
      → HasRun s o bytes before after written written' status → HasRun s o bytes before after' told told' status' → Same after after' status status' written written' told told'
  script_once before after after' written written' told told' status status' legal own own' run run' =
      let way = has_way before status run.between after run.others run.later run.answers run.front own run.stops run.refused run.ended in
      let way' = has_way before status' run'.between after' run'.others run'.later run'.answers run'.front own' run'.stops run'.refused run'.ended in
      let all = all_once s o.strict way.0 way'.0 run.lines run'.lines run.others run'.others before run.between run'.between after after' run.commands run'.commands run.answers run'.answers legal
      (sym run.first ∙ run'.first) run.ran run'.ran way.1 way'.1 in
      let there = subst (λ (w : Way). TellsWay w run'.answers status) all.ways (subst (λ (a : List Answer). TellsWay way.0 a status) all.answered way.2) in
      let text : texts o.echo run.answers ++ run.front ≡ texts o.echo run'.answers ++ run'.front =
      ap (λ (a : List Answer). texts o.echo a ++ run.front) all.answered ∙ ap (λ (f : List ℕ). texts o.echo run'.answers ++ f) (way.3 ∙ sym way'.3) in (
        all.platforms,
        way_once way'.0 run'.answers status status' there way'.2,
        same_text written written' told told' (texts o.echo run.answers ++ run.front) (texts o.echo run'.answers ++ run'.front) text run.wrote run'.wrote,
      )

-- over known bytes
over_once : (s : Setting) (o : ScriptOptions) (bytes : List ℕ) (before after after' : CoreView) (written written' told told' : Option (List ℕ)) (status status' : Status)
    → HasLegal before → is_undisturbed status ≡ true → is_undisturbed status' ≡ true → HasRunOver s o (Some bytes) before after written written' status → HasRunOver s o (Some bytes) before after' told told' status'
    → Same after after' status status' written written' told told'
over_once s o bytes before after after' written written' told told' status status' legal own own' (given, tells, run) (given', tells', run') =
    let moved = subst (λ (b : List ℕ). HasRun s o b before after written written' status) (sym tells) run in
    let moved' = subst (λ (b : List ℕ). HasRun s o b before after' told told' status') (sym tells') run' in
    script_once s o bytes before after after' written written' told told' status status' legal own own' moved moved'

-- ---- loads

module _ (s : Setting) where
  -- how the status of a load tells its way, and what is written then
  abbrev TellsLoad : Way → List ℕ → Status → List ℕ → Type 0
  TellsLoad AtEnd counts status front = (status ≡ Done) × (front ≡ counts)
  TellsLoad (AtCut fault) counts status front = (status ≡ status_of fault) × (front ≡ [])
  TellsLoad AtRefusal counts status front = ⊥

  load_way : (way : Way) (counts : List ℕ) (status status' : Status) (front front' : List ℕ) → TellsLoad way counts status front → TellsLoad way counts status' front' → (status ≡ status') × (front ≡ front')
  load_way AtEnd counts status status' front front' (is, all) (is', all') = (is ∙ sym is', all ∙ sym all')
  load_way (AtCut fault) counts status status' front front' (is, none) (is', none') = (is ∙ sym is', none ∙ sym none')
  load_way AtRefusal counts status status' front front' is is' = absurd is

  ends_load : (status : Status) (between after : CoreView) (others : List (List ℕ)) (commands : List Command) (answers : List Answer) (counts front : List ℕ) → is_undisturbed status ≡ true
      → StopsLoad s status between after others commands counts front → (way : Way) × Stopped s false way others between after answers × TellsLoad way counts status front
  ends_load Done between after others commands answers counts front own (stays, none, all) = (AtEnd, (none, stays.0, (λ is. absurd (false≢true is))), (refl, all))
  ends_load JournalFull between after others commands answers counts front own (cut, none) = (AtCut NoRoom, (commands, cut, room_or_memory, (λ is. absurd (false≢true is))), (refl, none))
  ends_load Unsettled between after others commands answers counts front own (cut, none) = (AtCut StillDue, (commands, cut, due_or_memory, (λ is. absurd (false≢true is))), (refl, none))
  ends_load (Usage at) between after others commands answers counts front own (cut, none) = absurd cut
  ends_load ReadFault between after others commands answers counts front own stops = absurd (false≢true own)
  ends_load WriteFault between after others commands answers counts front own stops = absurd (false≢true own)
  ends_load NoMemory between after others commands answers counts front own stops = absurd (false≢true own)
  ends_load (LineTooLong line) between after others commands answers counts front own (cut, none) = absurd cut
  ends_load (Refused line) between after others commands answers counts front own (cut, none) = absurd cut

load_once : (refuses : List ℕ → List Property → Told → Bool) (next : Meaning) (load : LoadNumbers) (before after after' : CoreView) (written written' told told' : Option (List ℕ)) (status status' : Status)
    → HasLegal before → is_undisturbed status ≡ true → is_undisturbed status' ≡ true → RunsLoad refuses next load before after written written' status → RunsLoad refuses next load before after' told told' status'
    → Same after after' status status' written written' told told'
load_once refuses next load before after after' written written' told told' status status' legal own own' run run' =
    let s = load_setting refuses next in
    let counts = text_of_counts (answered_by run.answers) after in
    let counts' = text_of_counts (answered_by run'.answers) after' in
    let way = ends_load s status run.between after run.others run.later run.answers counts run.front own run.stops in
    let way' = ends_load s status' run'.between after' run'.others run'.later run'.answers counts' run'.front own' run'.stops in
    let all = all_once s false way.0 way'.0 run.lines run'.lines run.others run'.others before run.between run'.between after after' run.commands run'.commands run.answers run'.answers legal
    (sym run.first ∙ run'.first) run.ran run'.ran way.1 way'.1 in
    let same : counts ≡ counts' = ap (λ (a : List Answer). text_of_counts (answered_by a) after) all.answered ∙ ap (λ (p : CoreView). text_of_counts (answered_by run'.answers) p) all.platforms in
    let there = subst (λ (w : Way). TellsLoad s w counts' status run.front) all.ways (subst (λ (c : List ℕ). TellsLoad s way.0 c status run.front) same way.2) in
    let ends = load_way s way'.0 counts' status status' run.front run'.front there way'.2 in
    (all.platforms, ends.0, same_text written written' told told' run.front run'.front ends.1 run.wrote run'.wrote)

-- ---- any words

-- what stays as it was has nothing behind it
keeps_none : (written written' : Option (List ℕ)) → Keeps written written' → Appends written written' []
keeps_none None written' keeps = tt
keeps_none (Some bytes) None keeps = absurd keeps
keeps_none (Some bytes) (Some more) keeps = keeps ∙ sym (append-nil bytes)

form_once : (refuses : List ℕ → List Property → Told → Bool) (next : Meaning) (form : Result Form ℕ) (bytes : List ℕ) (unread unread' : Option (List ℕ)) (before after after' : CoreView) (written written' told told' : Option (List ℕ)) (status status' : Status)
    → HasLegal before → is_undisturbed status ≡ true → is_undisturbed status' ≡ true → RunsForm refuses next form (Some bytes) unread before after written written' status
    → RunsForm refuses next form (Some bytes) unread' before after' told told' status' → Same after after' status status' written written' told told'
form_once refuses next (Ok (Script o)) bytes unread unread' before after after' written written' told told' status status' legal own own' run run' =
    over_once (script_setting refuses next o) o bytes before after after' written written' told told' status status' legal own own' run run'
form_once refuses next (Ok (Load load)) bytes unread unread' before after after' written written' told told' status status' legal own own' (run, left) (run', left') =
    load_once refuses next load before after after' written written' told told' status status' legal own own' run run'
form_once refuses next (Err at) bytes unread unread' before after after' written written' told told' status status' legal own own' (is, same, left, kept) (is', same', left', kept') =
    (same ∙ sym same', is ∙ sym is', ([], keeps_none written written' kept, keeps_none told told' kept'))

-- two runs of the same words over the same bytes, on a platform that was so
pub same_runs : (refuses : List ℕ → List Property → Told → Bool) (next : Meaning) (words : List (List ℕ)) (bytes : List ℕ) (before : CoreView) (one other : Left) → HasLegal before
    → Leaves refuses next words bytes before one → Leaves refuses next words bytes before other → is_undisturbed one.status ≡ true → is_undisturbed other.status ≡ true → LeftTheSame one other
same_runs refuses next words bytes before one other legal (unread, run) (unread', run') own own' =
    let all = form_once refuses next (form_of words) bytes unread unread' before one.platform other.platform one.written one.written' other.written other.written' one.status other.status legal own own' run run' in
    record {
      journal = ap (λ (p : CoreView). p.journal) all.0;
      limits = ap (λ (p : CoreView). p.limits) all.0;
      output = all.2;
      status = all.1;
    }
