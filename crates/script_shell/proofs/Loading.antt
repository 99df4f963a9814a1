-- How far a load has come, and how it ends.
use Rattle.std.proofs.Common.{◌≡◌, ◌≤◌, ℕ, ◌+◌, List, [], ◌∷◌, ◌++◌, length, Bool, true, false, cond, not, refl, ap, sym, ◌∙◌, subst, arith, take, append_assoc, append-nil, length-append, None, Some, Ok, Err, inl, inr}
use Rattle.std.specs.Prelude.{count_by, option_map}
use Rattle.std.specs.declared.option.Option.{Option}
use Rattle.std.specs.Io.KnownBytes.{Appends}
use Rattle.std.proofs.KnownBytes.{Appends-nil}
use Rattle.std.proofs.lemmas.List.Sums.{sum_by-append, sum_by-cons}
use Rattle.fault_count.specs.Steps.{Rose}
use Rattle.call_moves.specs.Evaluations.{Meaning}
use Rattle.kind_trait.specs.Meanings.{Told}
use Rattle.platform_hall.specs.Cores.{CoreView}
use Rattle.platform_hall.specs.Platforms.{none_under_way}
use Rattle.prop_map.specs.declared.properties.Property.{Property}
use Rattle.scr_world.specs.declared.command.Command.{Command}
use Rattle.shell_lang.specs.declared.shell_reply.ShellReply.{ShellReply}
use Rattle.shell_lang.specs.ShellLines.{shell_line}
use Rattle.turn_runner.specs.declared.settle_fault.SettleFault.{SettleFault}
use Rattle.turn_runner.specs.declared.settle_fault.SettleFault.TheVariants.{Unsettled as StillDue, JournalFull as NoRoom, OutOfMemory}
use Rattle.script_shell.specs.declared.form.Form.{Form}
use Rattle.script_shell.specs.declared.form.LoadNumbers.{LoadNumbers}
use Rattle.script_shell.specs.declared.load_answers.Answered.{Answered}
use Rattle.script_shell.specs.declared.status.Status.{Status}
use Rattle.script_shell.specs.declared.status.Status.TheVariants.{Done, Usage, ReadFault, WriteFault, NoMemory, JournalFull, LineTooLong, Unsettled, Refused}
use Rattle.script_shell.specs.Asks.{Setting, commands_of}
use Rattle.script_shell.specs.Carries.{RunsAsked}
use Rattle.script_shell.specs.LineTexts.{Answer, is_refusal, is_refused}
use Rattle.script_shell.specs.Loads.{CutsLoad, EndsLoad, RunsLoad, answered_by, is_accepted, lines_of_load, load_setting, text_of_counts}
use Rattle.script_shell.specs.LoadLines.{RunsLines, RunsLoadLine, TellsCounts, with_answer}
use Rattle.script_shell.specs.Runs.{Grew, Ran, RunsLine}
use Rattle.script_shell.specs.Statuses.{HasCause, read_faults_after, status_of, write_faults_after}
use Rattle.script_shell.proofs.EndingLemmas.{rose_next}
use Rattle.script_shell.proofs.Growth.{grew_same, grew_trans}
use Rattle.script_shell.proofs.LineGrowth.{grew_cuts_first, grew_ran, grew_stays}
use Rattle.script_shell.proofs.Progress.{Ran_snoc, answer_of}
use Rattle.script_shell.proofs.Resting.{quiet_still}

-- ---- the counts

abbrev counts_at : ℕ → ℕ → ℕ → Answered
counts_at lines accepted refused = record { lines = lines; accepted = accepted; refused = refused }

same_counts : (lines lines' accepted accepted' refused refused' : ℕ) → lines ≡ lines' → accepted ≡ accepted' → refused ≡ refused' → counts_at lines accepted refused ≡ counts_at lines' accepted' refused'
same_counts lines lines' accepted accepted' refused refused' l a r =
    ap (λ x. counts_at x accepted refused) l ∙ ap (λ y. counts_at lines' y refused) a ∙ ap (λ z. counts_at lines' accepted' z) r

count_more : {X : Type 0} (p : X → Bool) (xs : List X) (x : X) → count_by p (xs ++ x ∷ []) ≡ count_by p xs + cond (p x) 1 0
count_more p xs x = sum_by-append (λ y. cond (p y) 1 0) xs (x ∷ []) ∙ ap (λ n. count_by p xs + n) (sum_by-cons (λ y. cond (p y) 1 0) x [] ∙ omega arith)

answered_more : (answers : List Answer) (line : List ℕ) (told : Option ShellReply)
    → with_answer (answered_by answers) (option_map is_refusal told) ≡ answered_by (answers ++ answer_of line told ∷ [])
answered_more answers line None =
    let one : Answer = answer_of line None in
    let accepts : count_by is_accepted (answers ++ one ∷ []) ≡ count_by is_accepted answers + 0 = count_more is_accepted answers one in
    let refuses : count_by is_refused (answers ++ one ∷ []) ≡ count_by is_refused answers + 0 = count_more is_refused answers one in
    same_counts (length answers + 1) (length (answers ++ one ∷ [])) (count_by is_accepted answers) (count_by is_accepted (answers ++ one ∷ []))
    (count_by is_refused answers) (count_by is_refused (answers ++ one ∷ [])) (sym (length-append answers (one ∷ []))) (omega (arith, accepts)) (omega (arith, refuses))
answered_more answers line (Some reply) = go (is_refusal reply) refl
  where
    go : (b : Bool) → is_refusal reply ≡ b → with_answer (answered_by answers) (Some b) ≡ answered_by (answers ++ answer_of line (Some reply) ∷ [])
    go true is =
        let one : Answer = answer_of line (Some reply) in
        let accepts : count_by is_accepted (answers ++ one ∷ []) ≡ count_by is_accepted answers + cond (not (is_refusal reply)) 1 0 = count_more is_accepted answers one in
        let refuses : count_by is_refused (answers ++ one ∷ []) ≡ count_by is_refused answers + cond (is_refusal reply) 1 0 = count_more is_refused answers one in
        same_counts (length answers + 1) (length (answers ++ one ∷ [])) (count_by is_accepted answers) (count_by is_accepted (answers ++ one ∷ []))
        (count_by is_refused answers + 1) (count_by is_refused (answers ++ one ∷ [])) (sym (length-append answers (one ∷ [])))
        (omega (arith, accepts, ap {B = ℕ} (λ (b : Bool). cond (not b) 1 0) is)) (omega (arith, refuses, ap {B = ℕ} (λ (b : Bool). cond b 1 0) is))
    go false is =
        let one : Answer = answer_of line (Some reply) in
        let accepts : count_by is_accepted (answers ++ one ∷ []) ≡ count_by is_accepted answers + cond (not (is_refusal reply)) 1 0 = count_more is_accepted answers one in
        let refuses : count_by is_refused (answers ++ one ∷ []) ≡ count_by is_refused answers + cond (is_refusal reply) 1 0 = count_more is_refused answers one in
        same_counts (length answers + 1) (length (answers ++ one ∷ [])) (count_by is_accepted answers + 1) (count_by is_accepted (answers ++ one ∷ []))
        (count_by is_refused answers) (count_by is_refused (answers ++ one ∷ [])) (sym (length-append answers (one ∷ [])))
        (omega (arith, accepts, ap {B = ℕ} (λ (b : Bool). cond (not b) 1 0) is)) (omega (arith, refuses, ap {B = ℕ} (λ (b : Bool). cond b 1 0) is))

-- one line more, and no more replies than lines
pub answer_within : (answered : Answered) (refused : Option Bool) (answered' : Answered) → answered' ≡ with_answer answered refused → answered.accepted ≤ answered.lines → answered.refused ≤ answered.lines
    → (answered'.lines ≡ answered.lines + 1) × (answered'.accepted ≤ answered'.lines) × (answered'.refused ≤ answered'.lines)
answer_within answered None answered' is a r =
    let lines : answered'.lines ≡ answered.lines + 1 = ap (λ (x : Answered). x.lines) is in let some = ap (λ (x : Answered). x.accepted) is in let others = ap (λ (x : Answered). x.refused) is in
    (lines, omega (arith, lines, some, a), omega (arith, lines, others, r))
answer_within answered (Some true) answered' is a r =
    let lines : answered'.lines ≡ answered.lines + 1 = ap (λ (x : Answered). x.lines) is in let some = ap (λ (x : Answered). x.accepted) is in let others = ap (λ (x : Answered). x.refused) is in
    (lines, omega (arith, lines, some, a), omega (arith, lines, others, r))
answer_within answered (Some false) answered' is a r =
    let lines : answered'.lines ≡ answered.lines + 1 = ap (λ (x : Answered). x.lines) is in let some = ap (λ (x : Answered). x.accepted) is in let others = ap (λ (x : Answered). x.refused) is in
    (lines, omega (arith, lines, some, a), omega (arith, lines, others, r))

-- ---- the lines

-- so far: these lines ran, the others are left, and the replies are counted; no turn is under way, where that was so
pub record LoadedSoFar (s : Setting) (all left : List (List ℕ)) (before now : CoreView) (answered : Answered) : Type 0 where
  pub lines : List (List ℕ)
  pub commands : List Command
  pub answers : List Answer
  pub split : all ≡ lines ++ left
  pub ran : Ran s before lines before now commands answers
  pub counted : answered ≡ answered_by answers
  pub still : s.is_manual ≡ false → none_under_way before ≡ true → none_under_way now ≡ true

-- a line that is cut off ends the load
pub cut_load_line : (s : Setting) (line : List ℕ) (fault : SettleFault) (before after : CoreView) → RunsAsked s (shell_line line) before (Err fault) after → RunsLoadLine s line before (Err (status_of fault)) after
cut_load_line s line StillDue before after runs = runs
cut_load_line s line NoRoom before after runs = runs
cut_load_line s line OutOfMemory before after runs = inr runs

-- nothing ran yet
pub loaded_start : (s : Setting) (all : List (List ℕ)) (before : CoreView) → LoadedSoFar s all all before before (record { lines = 0; accepted = 0; refused = 0 })
loaded_start s all before = record { lines = []; commands = []; answers = []; split = refl; ran = (refl, refl, refl); counted = refl; still = λ auto none. none }

-- one line more ran
pub loaded_line : {s : Setting} {all left : List (List ℕ)} {before now : CoreView} {answered : Answered} → LoadedSoFar s all left before now answered
    → (line : List ℕ) (left' : List (List ℕ)) (after : CoreView) (refused : Option Bool) (answered' : Answered) → left ≡ line ∷ left' → RunsLoadLine s line now (Ok refused) after
    → answered' ≡ with_answer answered refused → LoadedSoFar s all left' before after answered'
loaded_line {s} {all} {left} {before} {now} {answered} so_far line left' after refused answered' next (told, (between, asks, rests, comes), is) counts =
    let run : RunsLine s before (shell_line line) now told after = (between, asks, rests, λ auto none. comes auto (so_far.still auto none)) in
    record {
      lines = so_far.lines ++ line ∷ [];
      commands = so_far.commands ++ commands_of now (shell_line line);
      answers = so_far.answers ++ answer_of line told ∷ [];
      split = so_far.split ∙ ap (λ w. so_far.lines ++ w) next ∙ sym (append_assoc so_far.lines (line ∷ []) left');
      ran = Ran_snoc s before so_far.lines line before now after so_far.commands so_far.answers told so_far.ran run;
      counted = counts ∙ ap (λ a. with_answer a refused) so_far.counted ∙ ap (with_answer (answered_by so_far.answers)) is ∙ answered_more so_far.answers line told;
      still = λ auto none. quiet_still after (comes auto (so_far.still auto none)).0;
    }

-- all lines ran
pub loaded_all : {s : Setting} {all left : List (List ℕ)} {before now : CoreView} {answered : Answered} → LoadedSoFar s all left before now answered → left ≡ [] → RunsLines s all before (Ok answered) now
loaded_all {s} {all} {left} {before} {now} {answered} so_far none =
    let same : so_far.lines ≡ all = sym (so_far.split ∙ ap (λ w. so_far.lines ++ w) none ∙ append-nil so_far.lines) in
    let P : List (List ℕ) → Type 0 = λ lines. Ran s before lines before now so_far.commands so_far.answers in
    (so_far.commands, so_far.answers, subst P same so_far.ran, so_far.counted)

-- memory is wanting for the next line
pub loaded_short : {s : Setting} {all left : List (List ℕ)} {before now : CoreView} {answered : Answered} → LoadedSoFar s all left before now answered → RunsLines s all before (Err NoMemory) now
loaded_short {s} {all} {left} {before} {now} {answered} so_far = (so_far.lines, left, now, so_far.commands, [], so_far.answers, so_far.split, so_far.ran, inl (refl, refl))

-- the next line is cut off
pub loaded_cut : {s : Setting} {all left : List (List ℕ)} {before now : CoreView} {answered : Answered} → LoadedSoFar s all left before now answered
    → (line : List ℕ) (left' : List (List ℕ)) (after : CoreView) (status : Status) → left ≡ line ∷ left' → RunsLoadLine s line now (Err status) after → RunsLines s all before (Err status) after
loaded_cut {s} {all} {left} {before} {now} {answered} so_far line left' after Done next cut = absurd cut
loaded_cut {s} {all} {left} {before} {now} {answered} so_far line left' after (Usage at) next cut = absurd cut
loaded_cut {s} {all} {left} {before} {now} {answered} so_far line left' after ReadFault next cut = absurd cut
loaded_cut {s} {all} {left} {before} {now} {answered} so_far line left' after WriteFault next cut = absurd cut
loaded_cut {s} {all} {left} {before} {now} {answered} so_far line left' after NoMemory next (inl same) = (so_far.lines, left, now, so_far.commands, [], so_far.answers, so_far.split, so_far.ran, inl (same, refl))
loaded_cut {s} {all} {left} {before} {now} {answered} so_far line left' after NoMemory next (inr (later, cuts)) =
    (so_far.lines, line ∷ left', now, so_far.commands, later, so_far.answers, so_far.split ∙ ap (λ w. so_far.lines ++ w) next, so_far.ran, inr cuts)
loaded_cut {s} {all} {left} {before} {now} {answered} so_far line left' after JournalFull next (later, cuts) =
    (so_far.lines, line ∷ left', now, so_far.commands, later, so_far.answers, so_far.split ∙ ap (λ w. so_far.lines ++ w) next, so_far.ran, cuts)
loaded_cut {s} {all} {left} {before} {now} {answered} so_far line left' after (LineTooLong at) next cut = absurd cut
loaded_cut {s} {all} {left} {before} {now} {answered} so_far line left' after Unsettled next (later, cuts) =
    (so_far.lines, line ∷ left', now, so_far.commands, later, so_far.answers, so_far.split ∙ ap (λ w. so_far.lines ++ w) next, so_far.ran, cuts)
loaded_cut {s} {all} {left} {before} {now} {answered} so_far line left' after (Refused at) next cut = absurd cut

-- ---- the whole

grew_cut : (s : Setting) (status : Status) (before after : CoreView) (others : List (List ℕ)) (commands : List Command) → CutsLoad s status before after others commands → Grew before after commands
grew_cut s Done before after others commands cut = absurd cut
grew_cut s (Usage at) before after others commands cut = absurd cut
grew_cut s ReadFault before after others commands cut = absurd cut
grew_cut s WriteFault before after others commands cut = absurd cut
grew_cut s NoMemory before after others commands (inl stays) = grew_stays before after commands stays
grew_cut s NoMemory before after others commands (inr cuts) = grew_cuts_first s others OutOfMemory before after commands cuts
grew_cut s JournalFull before after others commands cuts = grew_cuts_first s others NoRoom before after commands cuts
grew_cut s (LineTooLong at) before after others commands cut = absurd cut
grew_cut s Unsettled before after others commands cuts = grew_cuts_first s others StillDue before after commands cuts
grew_cut s (Refused at) before after others commands cut = absurd cut

module _ (refuses : List ℕ → List Property → Told → Bool) (next : Meaning) (load : LoadNumbers) (before after : CoreView) (written written' : Option (List ℕ)) where
  -- a load that is cut off
  pub load_cut : (status : Status) → RunsLines (load_setting refuses next) (lines_of_load load) before (Err status) after → RunsLoad refuses next load before after written written status
  load_cut Done (lines, others, between, commands, later, answers, first, ran, cut) = absurd cut
  load_cut (Usage at) (lines, others, between, commands, later, answers, first, ran, cut) = absurd cut
  load_cut ReadFault (lines, others, between, commands, later, answers, first, ran, cut) = absurd cut
  load_cut WriteFault (lines, others, between, commands, later, answers, first, ran, cut) = absurd cut
  load_cut NoMemory (lines, others, between, commands, later, answers, first, ran, cut) = record {
    lines = lines;
    others = others;
    between = between;
    commands = commands;
    later = later;
    answers = answers;
    front = [];
    first = first;
    ran = ran;
    stops = (cut, refl);
    grew = grew_trans before between after commands later (grew_ran (load_setting refuses next) before lines before between commands answers ran) (grew_cut (load_setting refuses next) NoMemory between after others later cut);
    wrote = Appends-nil written;
  }
  load_cut JournalFull (lines, others, between, commands, later, answers, first, ran, cut) = record {
    lines = lines;
    others = others;
    between = between;
    commands = commands;
    later = later;
    answers = answers;
    front = [];
    first = first;
    ran = ran;
    stops = (cut, refl);
    grew = grew_trans before between after commands later (grew_ran (load_setting refuses next) before lines before between commands answers ran) (grew_cut (load_setting refuses next) JournalFull between after others later cut);
    wrote = Appends-nil written;
  }
  load_cut (LineTooLong at) (lines, others, between, commands, later, answers, first, ran, cut) = absurd cut
  load_cut Unsettled (lines, others, between, commands, later, answers, first, ran, cut) = record {
    lines = lines;
    others = others;
    between = between;
    commands = commands;
    later = later;
    answers = answers;
    front = [];
    first = first;
    ran = ran;
    stops = (cut, refl);
    grew = grew_trans before between after commands later (grew_ran (load_setting refuses next) before lines before between commands answers ran) (grew_cut (load_setting refuses next) Unsettled between after others later cut);
    wrote = Appends-nil written;
  }
  load_cut (Refused at) (lines, others, between, commands, later, answers, first, ran, cut) = absurd cut

  -- a load whose lines all ran
  pub load_told : (status : Status) (answered : Answered) → RunsLines (load_setting refuses next) (lines_of_load load) before (Ok answered) after → TellsCounts answered after written written' status
      → RunsLoad refuses next load before after written written' status
  load_told Done answered (commands, answers, ran, counted) told = record {
    lines = lines_of_load load;
    others = [];
    between = after;
    commands = commands;
    later = [];
    answers = answers;
    front = text_of_counts answered after;
    first = sym (append-nil (lines_of_load load));
    ran = ran;
    stops = ((refl, refl), refl, ap (λ a. text_of_counts a after) counted);
    grew = grew_same before after commands (commands ++ []) (sym (append-nil commands)) (grew_ran (load_setting refuses next) before (lines_of_load load) before after commands answers ran);
    wrote = told;
  }
  load_told (Usage at) answered ran told = absurd told
  load_told ReadFault answered ran told = absurd told
  load_told WriteFault answered (commands, answers, ran, counted) (count, below, wrote) = record {
    lines = lines_of_load load;
    others = [];
    between = after;
    commands = commands;
    later = [];
    answers = answers;
    front = take count (text_of_counts answered after);
    first = sym (append-nil (lines_of_load load));
    ran = ran;
    stops = ((refl, refl), refl, (count, omega (arith, below, ap (λ a. length (text_of_counts a after)) counted), ap (λ a. take count (text_of_counts a after)) counted));
    grew = grew_same before after commands (commands ++ []) (sym (append-nil commands)) (grew_ran (load_setting refuses next) before (lines_of_load load) before after commands answers ran);
    wrote = wrote;
  }
  load_told NoMemory answered (commands, answers, ran, counted) same = record {
    lines = lines_of_load load;
    others = [];
    between = after;
    commands = commands;
    later = [];
    answers = answers;
    front = [];
    first = sym (append-nil (lines_of_load load));
    ran = ran;
    stops = (inl (refl, refl), refl);
    grew = grew_same before after commands (commands ++ []) (sym (append-nil commands)) (grew_ran (load_setting refuses next) before (lines_of_load load) before after commands answers ran);
    wrote = subst (λ w. Appends written w []) (sym same) (Appends-nil written);
  }
  load_told JournalFull answered ran told = absurd told
  load_told (LineTooLong at) answered ran told = absurd told
  load_told Unsettled answered ran told = absurd told
  load_told (Refused at) answered ran told = absurd told

  -- where the sink didn't fail
  pub load_ends : (status : Status) (form : Form) (R W : Type 0) → RunsLoad refuses next load before after written written' status → HasCause status (Ok form) R W → (W → ⊥) → EndsLoad refuses next load before status
  load_ends Done form R W ran cause writes = λ room turns. inr refl
  load_ends (Usage at) form R W ran cause writes = absurd ran.stops.0
  load_ends ReadFault form R W ran cause writes = absurd ran.stops.0
  load_ends WriteFault form R W ran cause writes = absurd (writes cause)
  load_ends NoMemory form R W ran cause writes = λ room turns. inl refl
  load_ends JournalFull form R W ran cause writes = λ room turns. absurd (room (ran.lines, ran.others, ran.between, after, ran.commands, ran.later, ran.answers, ran.first, ran.ran, ran.stops.0))
  load_ends (LineTooLong at) form R W ran cause writes = absurd ran.stops.0
  load_ends Unsettled form R W ran cause writes = λ room turns. absurd (turns (ran.lines, ran.others, ran.between, after, ran.commands, ran.later, ran.answers, ran.first, ran.ran, ran.stops.0))
  load_ends (Refused at) form R W ran cause writes = absurd ran.stops.0

-- ---- causes and counts of faults

pub cause_told : (status : Status) (answered : Answered) (p : CoreView) (written written' : Option (List ℕ)) (form : Form) (R : Type 0) (count count' : ℕ) → TellsCounts answered p written written' status
    → count' ≡ write_faults_after count status → HasCause status (Ok form) R (Rose count count')
cause_told Done answered p written written' form R count count' told is = tt
cause_told (Usage at) answered p written written' form R count count' told is = absurd told
cause_told ReadFault answered p written written' form R count count' told is = absurd told
cause_told WriteFault answered p written written' form R count count' told is = rose_next count count' is
cause_told NoMemory answered p written written' form R count count' told is = tt
cause_told JournalFull answered p written written' form R count count' told is = absurd told
cause_told (LineTooLong at) answered p written written' form R count count' told is = absurd told
cause_told Unsettled answered p written written' form R count count' told is = absurd told
cause_told (Refused at) answered p written written' form R count count' told is = absurd told

-- a load that is cut off is no failure of an end
pub cause_cut : (status : Status) (s : Setting) (all : List (List ℕ)) (before after : CoreView) (form : Form) (R W : Type 0) → RunsLines s all before (Err status) after → HasCause status (Ok form) R W
cause_cut Done s all before after form R W (lines, others, between, commands, later, answers, first, ran, cut) = absurd cut
cause_cut (Usage at) s all before after form R W (lines, others, between, commands, later, answers, first, ran, cut) = absurd cut
cause_cut ReadFault s all before after form R W (lines, others, between, commands, later, answers, first, ran, cut) = absurd cut
cause_cut WriteFault s all before after form R W (lines, others, between, commands, later, answers, first, ran, cut) = absurd cut
cause_cut NoMemory s all before after form R W ran = tt
cause_cut JournalFull s all before after form R W ran = tt
cause_cut (LineTooLong at) s all before after form R W (lines, others, between, commands, later, answers, first, ran, cut) = absurd cut
cause_cut Unsettled s all before after form R W ran = tt
cause_cut (Refused at) s all before after form R W ran = tt

pub faults_cut : (status : Status) (s : Setting) (all : List (List ℕ)) (before after : CoreView) (count : ℕ) → RunsLines s all before (Err status) after → write_faults_after count status ≡ count
faults_cut Done s all before after count ran = refl
faults_cut (Usage at) s all before after count ran = refl
faults_cut ReadFault s all before after count ran = refl
faults_cut WriteFault s all before after count (lines, others, between, commands, later, answers, first, ran, cut) = absurd cut
faults_cut NoMemory s all before after count ran = refl
faults_cut JournalFull s all before after count ran = refl
faults_cut (LineTooLong at) s all before after count ran = refl
faults_cut Unsettled s all before after count ran = refl
faults_cut (Refused at) s all before after count ran = refl

-- a run that reads nothing isn't ended by its source
pub cause_unread : (status : Status) (form : Form) (R W : Type 0) → HasCause status (Ok form) ⊥ W → HasCause status (Ok form) R W
cause_unread Done form R W cause = tt
cause_unread (Usage at) form R W cause = cause
cause_unread ReadFault form R W cause = absurd cause
cause_unread WriteFault form R W cause = cause
cause_unread NoMemory form R W cause = tt
cause_unread JournalFull form R W cause = tt
cause_unread (LineTooLong at) form R W cause = tt
cause_unread Unsettled form R W cause = tt
cause_unread (Refused at) form R W cause = tt

pub reads_unread : (status : Status) (form : Form) (W : Type 0) (count : ℕ) → HasCause status (Ok form) ⊥ W → read_faults_after count status ≡ count
reads_unread Done form W count cause = refl
reads_unread (Usage at) form W count cause = refl
reads_unread ReadFault form W count cause = absurd cause
reads_unread WriteFault form W count cause = refl
reads_unread NoMemory form W count cause = refl
reads_unread JournalFull form W count cause = refl
reads_unread (LineTooLong at) form W count cause = refl
reads_unread Unsettled form W count cause = refl
reads_unread (Refused at) form W count cause = refl
