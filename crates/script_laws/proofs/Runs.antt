-- Lines that two runs begin with are run alike, and both runs end there alike, but for want of memory.
use Rattle.std.proofs.Common.{◌≡◌, ◌⊎◌, ℕ, List, [], ◌∷◌, ◌++◌, Bool, true, false, ap, sym, ◌∙◌, refl, subst, Option, inl, inr}
use Rattle.std.specs.Prelude.{◌||◌}
use Rattle.std.proofs.lemmas.Bool.{both_ways}
use Rattle.std.proofs.lemmas.List.Folds.{list_any-append}
use Rattle.platform_hall.proofs.Settlings.{HasLegal}
use Rattle.platform_hall.specs.Cores.{CoreView}
use Rattle.scr_world.specs.declared.command.Command.{Command}
use Rattle.script_shell.proofs.LineGrowth.{grew_carried, grew_ran}
use Rattle.script_shell.specs.Asks.{Setting}
use Rattle.script_shell.specs.Cuts.{CutsFirst}
use Rattle.script_shell.specs.LineTexts.{Answer, IsRefusedLast, has_refusal, is_refused, number_behind}
use Rattle.script_shell.specs.Runs.{Ran, RunsLine}
use Rattle.shell_lang.specs.ShellLines.{shell_line}
use Rattle.shell_lang.specs.declared.shell_reply.ShellReply.{ShellReply}
use Rattle.turn_runner.specs.declared.settle_fault.SettleFault.{SettleFault}
use Rattle.turn_runner.specs.declared.settle_fault.SettleFault.TheVariants.{OutOfMemory}
use Rattle.script_laws.proofs.Lines.{cuts_once, runs_once, runs_or_cut}
use Rattle.script_laws.proofs.Parts.{first_same, never_empty, rest_same}

abbrev answer_to : List ℕ → Option ShellReply → Answer
answer_to line told = record { line = line; told = told }

module _ (s : Setting) where
  line_legal : (first : CoreView) (line : List ℕ) (before after : CoreView) (told : Option ShellReply) → HasLegal before → RunsLine s first (shell_line line) before told after → HasLegal after
  line_legal first line before after told legal (between, asks, rests, good) = (grew_carried s (shell_line line) before between after told asks rests).legal legal

  -- ---- the lines that ran

  -- the first of these lines, behind which one run goes no further, is run in the other one, from the same platform
  abbrev GoesOn : List (List ℕ) → CoreView → List Answer → List Answer → Type 0
  GoesOn others between answers more_answers =
      (line : List ℕ) × (rest : List (List ℕ)) × (first : CoreView) × (told : Option ShellReply) × (after : CoreView) × (more : List Answer)
      × (others ≡ line ∷ rest) × RunsLine s first (shell_line line) between told after × (more_answers ≡ answers ++ answer_to line told ∷ more)

  -- two runs of the same lines ran the same ones, or one of them goes on
  abbrev Compared : List (List ℕ) → CoreView → List Answer → List (List ℕ) → CoreView → List Answer → Type 0
  Compared others between answers others' between' answers' =
      ((others ≡ others') × (between ≡ between') × (answers ≡ answers')) ⊎ (GoesOn others between answers answers' ⊎ GoesOn others' between' answers' answers)

  goes_behind : (others : List (List ℕ)) (between : CoreView) (a b : Answer) (rest later answers more_answers : List Answer) → a ≡ b → answers ≡ a ∷ rest → more_answers ≡ b ∷ later
      → GoesOn others between rest later → GoesOn others between answers more_answers
  goes_behind others between a b rest later answers more_answers same is is' (line, lines, first, told, after, more, are, runs, whole) = (
    line,
    lines,
    first,
    told,
    after,
    more,
    are,
    runs,
    is' ∙ ap (λ (l : List Answer). b ∷ l) whole ∙ ap (λ (x : Answer). x ∷ rest ++ answer_to line told ∷ more) (sym same) ∙ ap (λ (l : List Answer). l ++ answer_to line told ∷ more) (sym is),
  )

  behind : (others others' : List (List ℕ)) (between between' : CoreView) (a b : Answer) (rest later answers answers' : List Answer) → a ≡ b → answers ≡ a ∷ rest → answers' ≡ b ∷ later
      → Compared others between rest others' between' later → Compared others between answers others' between' answers'
  behind others others' between between' a b rest later answers answers' same is is' (inl (lines, platforms, all)) =
      inl (lines, platforms, is ∙ ap (λ (x : Answer). x ∷ rest) same ∙ ap (λ (l : List Answer). b ∷ l) all ∙ sym is')
  behind others others' between between' a b rest later answers answers' same is is' (inr (inl goes)) = inr (inl (goes_behind others between a b rest later answers answers' same is is' goes))
  behind others others' between between' a b rest later answers answers' same is is' (inr (inr goes)) = inr (inr (goes_behind others' between' b a later rest answers' answers (sym same) is' is goes))

  goes_first : (first : CoreView) (line : List ℕ) (lines others others' : List (List ℕ)) (before between after : CoreView) (commands : List Command) (answers more_answers : List Answer)
      → others' ≡ line ∷ (lines ++ others) → between ≡ before → answers ≡ [] → Ran s first (line ∷ lines) before after commands more_answers → GoesOn others' between answers more_answers
  goes_first first line lines others others' before between after commands answers more_answers are same none (middle, told, later, rest, runs, ran, all, whole) = (
    line,
    lines ++ others,
    first,
    told,
    middle,
    rest,
    are,
    subst (λ (p : CoreView). RunsLine s first (shell_line line) p told middle) (sym same) runs,
    whole ∙ ap (λ (l : List Answer). l ++ answer_to line told ∷ rest) (sym none),
  )

  pub ran_once : (first start : CoreView) (lines lines' others others' : List (List ℕ)) (before between between' : CoreView) (commands commands' : List Command) (answers answers' : List Answer)
      → HasLegal before → lines ++ others ≡ lines' ++ others' → Ran s first lines before between commands answers → Ran s start lines' before between' commands' answers'
      → Compared others between answers others' between' answers'
  ran_once first start [] [] others others' before between between' commands commands' answers answers' legal are (same, none, nothing) (same', none', nothing') =
      inl (are, same ∙ sym same', nothing ∙ sym nothing')
  ran_once first start [] (line ∷ lines') others others' before between between' commands commands' answers answers' legal are (same, none, nothing) ran =
      inr (inl (goes_first start line lines' others' others before between between' commands' answers answers' are same nothing ran))
  ran_once first start (line ∷ lines) [] others others' before between between' commands commands' answers answers' legal are ran (same, none, nothing) =
      inr (inr (goes_first first line lines others others' before between' between commands answers' answers (sym are) same nothing ran))
  ran_once first start (line ∷ lines) (line' ∷ lines') others others' before between between' commands commands' answers answers' legal are
      (middle, told, later, rest, runs, ran, all, whole) (middle', told', later', rest', runs', ran', all', whole') =
      let here = first_same line line' (lines ++ others) (lines' ++ others') are in
      let there = rest_same line line' (lines ++ others) (lines' ++ others') are in
      let moved = subst (λ (l : List ℕ). RunsLine s first (shell_line l) before told middle) here runs in
      let both = runs_once s first start (shell_line line') before middle middle' told told' legal moved runs' in
      let again = subst (λ (p : CoreView). Ran s first lines p between later rest) both.1 ran in
      let answer : answer_to line told ≡ answer_to line' told' = ap (λ (l : List ℕ). answer_to l told) here ∙ ap (answer_to line') both.0 in
      behind others others' between between' (answer_to line told) (answer_to line' told') rest rest' answers answers' answer whole whole'
      (ran_once first start lines lines' others others' middle' between between' later later' rest rest' (line_legal start line' before middle' told' legal runs') there again ran')

-- ---- refusals

no_list : (ys more : List Answer) (y : Answer) → ys ++ y ∷ more ≡ [] → ⊥
no_list [] more y is = never_empty y more is
no_list (b ∷ bs) more y is = never_empty b (bs ++ y ∷ more) is

-- what stands before the last of a list
front_once : (xs ys : List Answer) (x y : Answer) → xs ++ x ∷ [] ≡ ys ++ y ∷ [] → xs ≡ ys
front_once [] [] x y is = refl
front_once [] (b ∷ bs) x y is = absurd (no_list bs [] y (sym (rest_same x b [] (bs ++ y ∷ []) is)))
front_once (a ∷ tail) [] x y is = absurd (no_list tail [] x (rest_same a y (tail ++ x ∷ []) [] is))
front_once (a ∷ tail) (b ∷ bs) x y is =
    let here = first_same a b (tail ++ x ∷ []) (bs ++ y ∷ []) is in
    let rest = rest_same a b (tail ++ x ∷ []) (bs ++ y ∷ []) is in
    ap (λ (l : List Answer). a ∷ l) (front_once tail bs x y rest) ∙ ap (λ (n : Answer). n ∷ bs) here

-- a shorter beginning of a list stands before its last
before_last : (xs ys more : List Answer) (x y : Answer) → xs ++ x ∷ more ≡ ys ++ y ∷ [] → (rest : List Answer) × (ys ≡ xs ++ rest)
before_last [] ys more x y is = (ys, refl)
before_last (a ∷ tail) [] more x y is = absurd (no_list tail more x (rest_same a y (tail ++ x ∷ more) [] is))
before_last (a ∷ tail) (b ∷ bs) more x y is =
    let here = sym (first_same a b (tail ++ x ∷ more) (bs ++ y ∷ []) is) in
    let rest = rest_same a b (tail ++ x ∷ more) (bs ++ y ∷ []) is in
    let later = before_last tail bs more x y rest in
    (later.0, ap (λ (l : List Answer). b ∷ l) later.1 ∙ ap (λ (n : Answer). n ∷ tail ++ later.0) here)

last_refused : (number : ℕ) (answers : List Answer) → IsRefusedLast number answers → has_refusal answers ≡ true
last_refused number answers (earlier, last, is, none, refused, counted) =
    ap has_refusal is ∙ list_any-append is_refused earlier (last ∷ []) ∙ ap (λ b. b || has_refusal (last ∷ [])) none ∙ ap (λ b. b || false) refused

-- answers of which one is refused, and more behind them
more_refused : (answers more : List Answer) → has_refusal answers ≡ true → has_refusal (answers ++ more) ≡ true
more_refused answers more refused = list_any-append is_refused answers more ∙ ap (λ b. b || has_refusal more) refused

-- the number of the last one, which alone is refused
pub refused_once : (number other : ℕ) (answers : List Answer) → IsRefusedLast number answers → IsRefusedLast other answers → number ≡ other
refused_once number other answers (earlier, last, is, none, refused, counted) (earlier', last', is', none', refused', counted') =
    counted ∙ ap (number_behind 1) (front_once earlier earlier' last last' (sym is ∙ is')) ∙ sym counted'

-- a refused line is the last one that ran
not_behind_refused : (number other : ℕ) (answers all more : List Answer) (x : Answer) → all ≡ answers ++ x ∷ more → IsRefusedLast number answers → IsRefusedLast other all → ⊥
not_behind_refused number other answers all more x whole last (earlier, end, is, none, refused, counted) =
    let before = before_last answers earlier more x end (sym whole ∙ is) in
    both_ways (has_refusal earlier) none (ap has_refusal before.1 ∙ more_refused answers before.0 (last_refused number answers last))

-- ---- the ends

-- how a run ends: behind its last line, at a line that is cut off, or behind one that is refused
pub data Way : Type 0 where
  AtEnd : Way
  AtCut : SettleFault → Way
  AtRefusal : Way

-- what two runs of the same lines come to
pub record AreAlike (way other : Way) (one two : CoreView) (answers answers' : List Answer) : Type 0 where
  pub ways : way ≡ other
  pub platforms : one ≡ two
  pub answered : answers ≡ answers'

module _ (s : Setting) (strict : Bool) where
  abbrev Unrefused : List Answer → Type 0
  Unrefused answers = strict ≡ true → has_refusal answers ≡ false

  -- so it ended behind the lines that ran, with these lines left
  abbrev pub Stopped : Way → List (List ℕ) → CoreView → CoreView → List Answer → Type 0
  Stopped AtEnd others between after answers = (others ≡ []) × (after ≡ between) × Unrefused answers
  Stopped (AtCut fault) others between after answers = (commands : List Command) × CutsFirst s others fault between after commands × (fault ≡ OutOfMemory → ⊥) × Unrefused answers
  Stopped AtRefusal others between after answers = (strict ≡ true) × (after ≡ between) × ((number : ℕ) × IsRefusedLast number answers)

  unrefused_whole : (answers all more : List Answer) (x : Answer) (number : ℕ) → strict ≡ true → all ≡ answers ++ x ∷ more → IsRefusedLast number answers → Unrefused all → ⊥
  unrefused_whole answers all more x number is whole last unrefused =
      both_ways (has_refusal all) (unrefused is) (ap has_refusal whole ∙ more_refused answers (x ∷ more) (last_refused number answers last))

  -- no run ends behind a refused line where another goes on
  not_refused : (way : Way) (others : List (List ℕ)) (between after : CoreView) (answers all more : List Answer) (x : Answer) (number : ℕ) → strict ≡ true → all ≡ answers ++ x ∷ more → IsRefusedLast number answers
      → Stopped way others between after all → ⊥
  not_refused AtEnd others between after answers all more x number is whole last (none, same, unrefused) = unrefused_whole answers all more x number is whole last unrefused
  not_refused (AtCut fault) others between after answers all more x number is whole last (commands, cut, fits, unrefused) = unrefused_whole answers all more x number is whole last unrefused
  not_refused AtRefusal others between after answers all more x number is whole last (strictly, same, (other, end)) = not_behind_refused number other answers all more x whole last end

  not_cut : (first : CoreView) (line : List ℕ) (rest others : List (List ℕ)) (fault : SettleFault) (between after other : CoreView) (told : Option ShellReply) (commands : List Command) → HasLegal between → (fault ≡ OutOfMemory → ⊥)
      → others ≡ line ∷ rest → RunsLine s first (shell_line line) between told after → CutsFirst s others fault between other commands → ⊥
  not_cut first line rest others fault between after other told commands legal fits are runs cut =
      runs_or_cut s first (shell_line line) between after other told fault commands legal fits runs (subst (λ (l : List (List ℕ)). CutsFirst s l fault between other commands) are cut)

  -- no run ends where another goes on
  not_ended : (way other : Way) (others others' : List (List ℕ)) (between between' after after' : CoreView) (answers answers' : List Answer) → HasLegal between → GoesOn s others between answers answers'
      → Stopped way others between after answers → Stopped other others' between' after' answers' → ⊥
  not_ended AtEnd other others others' between between' after after' answers answers' legal (line, rest, first, told, next, more, are, runs, whole) (none, same, unrefused) stopped = never_empty line rest (sym are ∙ none)
  not_ended (AtCut fault) other others others' between between' after after' answers answers' legal (line, rest, first, told, next, more, are, runs, whole) (commands, cut, fits, unrefused) stopped =
      not_cut first line rest others fault between next after told commands legal fits are runs cut
  not_ended AtRefusal other others others' between between' after after' answers answers' legal (line, rest, first, told, next, more, are, runs, whole) (strictly, same, (number, last)) stopped =
      not_refused other others' between' after' answers answers' more (answer_to line told) number strictly whole last stopped

  cut_first_once : (others : List (List ℕ)) (fault fault' : SettleFault) (between one other : CoreView) (commands commands' : List Command) → HasLegal between → (fault ≡ OutOfMemory → ⊥) → (fault' ≡ OutOfMemory → ⊥)
      → CutsFirst s others fault between one commands → CutsFirst s others fault' between other commands' → (fault ≡ fault') × (one ≡ other)
  cut_first_once [] fault fault' between one other commands commands' legal fits fits' cut cut' = absurd cut
  cut_first_once (line ∷ lines) fault fault' between one other commands commands' legal fits fits' cut cut' = cuts_once s (shell_line line) between one other fault fault' commands commands' legal fits fits' cut cut'

  nothing_cut : (others : List (List ℕ)) (fault : SettleFault) (between after : CoreView) (commands : List Command) → others ≡ [] → CutsFirst s others fault between after commands → ⊥
  nothing_cut others fault between after commands none cut = subst (λ (l : List (List ℕ)). CutsFirst s l fault between after commands) none cut

  refused_or_not : (answers : List Answer) (number : ℕ) → strict ≡ true → IsRefusedLast number answers → Unrefused answers → ⊥
  refused_or_not answers number is last unrefused = both_ways (has_refusal answers) (unrefused is) (last_refused number answers last)

  -- behind the same lines both end alike
  ended_once : (way other : Way) (others : List (List ℕ)) (between after after' : CoreView) (answers : List Answer) → HasLegal between
      → Stopped way others between after answers → Stopped other others between after' answers → (way ≡ other) × (after ≡ after')
  ended_once AtEnd AtEnd others between after after' answers legal (none, same, unrefused) (none', same', unrefused') = (refl, same ∙ sym same')
  ended_once AtEnd (AtCut fault) others between after after' answers legal (none, same, unrefused) (commands, cut, fits, unrefused') = absurd (nothing_cut others fault between after' commands none cut)
  ended_once AtEnd AtRefusal others between after after' answers legal (none, same, unrefused) (strictly, same', (number, last)) = absurd (refused_or_not answers number strictly last unrefused)
  ended_once (AtCut fault) AtEnd others between after after' answers legal (commands, cut, fits, unrefused) (none, same, unrefused') = absurd (nothing_cut others fault between after commands none cut)
  ended_once (AtCut fault) (AtCut fault') others between after after' answers legal (commands, cut, fits, unrefused) (commands', cut', fits', unrefused') =
      let all = cut_first_once others fault fault' between after after' commands commands' legal fits fits' cut cut' in (ap AtCut all.0, all.1)
  ended_once (AtCut fault) AtRefusal others between after after' answers legal (commands, cut, fits, unrefused) (strictly, same, (number, last)) = absurd (refused_or_not answers number strictly last unrefused)
  ended_once AtRefusal AtEnd others between after after' answers legal (strictly, same, (number, last)) (none, same', unrefused) = absurd (refused_or_not answers number strictly last unrefused)
  ended_once AtRefusal (AtCut fault) others between after after' answers legal (strictly, same, (number, last)) (commands, cut, fits, unrefused) = absurd (refused_or_not answers number strictly last unrefused)
  ended_once AtRefusal AtRefusal others between after after' answers legal (strictly, same, (number, last)) (strictly', same', (number', last')) = (refl, same ∙ sym same')

  alike : (way other : Way) (others others' : List (List ℕ)) (between between' after after' : CoreView) (answers answers' : List Answer) → HasLegal between → HasLegal between'
      → Compared s others between answers others' between' answers' → Stopped way others between after answers → Stopped other others' between' after' answers' → AreAlike way other after after' answers answers'
  alike way other others others' between between' after after' answers answers' legal legal' (inl (lines, platforms, all)) stopped stopped' =
      let moved = subst (λ (l : List (List ℕ)). Stopped way l between after answers) lines stopped in
      let there = subst (λ (p : CoreView). Stopped way others' p after answers) platforms moved in
      let both = ended_once way other others' between' after after' answers' legal' (subst (λ (a : List Answer). Stopped way others' between' after a) all there) stopped' in
      record { ways = both.0; platforms = both.1; answered = all }
  alike way other others others' between between' after after' answers answers' legal legal' (inr (inl goes)) stopped stopped' =
      absurd (not_ended way other others others' between between' after after' answers answers' legal goes stopped stopped')
  alike way other others others' between between' after after' answers answers' legal legal' (inr (inr goes)) stopped stopped' =
      absurd (not_ended other way others' others between' between after' after answers' answers legal' goes stopped' stopped)

  pub all_once : (way other : Way) (lines lines' others others' : List (List ℕ)) (before between between' after after' : CoreView) (commands commands' : List Command) (answers answers' : List Answer) → HasLegal before
      → lines ++ others ≡ lines' ++ others' → Ran s before lines before between commands answers → Ran s before lines' before between' commands' answers'
      → Stopped way others between after answers → Stopped other others' between' after' answers' → AreAlike way other after after' answers answers'
  all_once way other lines lines' others others' before between between' after after' commands commands' answers answers' legal are ran ran' stopped stopped' =
      alike way other others others' between between' after after' answers answers'
      ((grew_ran s before lines before between commands answers ran).legal legal) ((grew_ran s before lines' before between' commands' answers' ran').legal legal)
      (ran_once s before before lines lines' others others' before between between' commands commands' answers answers' legal are ran ran') stopped stopped'
