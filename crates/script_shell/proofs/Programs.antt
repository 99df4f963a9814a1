-- How a run of given words is one on a new platform, and what words that ask for a text come to.
use Rattle.std.proofs.Common.{◌≡◌, ℕ, List, [], Bool, None, Some, Ok, inl, inr, refl, subst, sym}
use Rattle.std.specs.declared.option.Option.{Option}
use Rattle.call_moves.specs.Evaluations.{Meaning}
use Rattle.kind_trait.specs.Meanings.{Told}
use Rattle.platform_hall.specs.Cores.{CoreView}
use Rattle.prop_map.specs.declared.properties.Property.{Property}
use Rattle.script_shell.specs.declared.form.AskedText.{AskedText}
use Rattle.script_shell.specs.declared.status.Status.{Status}
use Rattle.script_shell.specs.declared.status.Status.TheVariants.{NoMemory}
use Rattle.script_shell.specs.Forms.{text_asked}
use Rattle.script_shell.specs.Programs.{AnswersWords, EndView, GivesOrRuns, RunsNew, RunsProgram, RunsWords, WritesText, new_platform}
use Rattle.script_shell.specs.Statuses.{code_of, write_faults_after}

pub run_new : (refuses : List ℕ → List Property → Told → Bool) (next : Meaning) (words words' : List (List ℕ)) (before after : CoreView) (input input' output output' : EndView) (status : Status)
    → words' ≡ words → before ≡ new_platform → RunsWords refuses next words' before after input input' output output' status → RunsNew refuses next words input input' output output' status
run_new refuses next words words' before after input input' output output' status same new ran =
    let P : List (List ℕ) → Type 0 = λ w. RunsWords refuses next w before after input input' output output' status in
    let Q : CoreView → Type 0 = λ p. RunsWords refuses next words p after input input' output output' status in
    inl (after, subst Q new (subst P same ran))

pub words_same : (refuses : List ℕ → List Property → Told → Bool) (next : Meaning) (words words' : List (List ℕ)) (input input' output output' : EndView) (status : Status)
    → words' ≡ words → AnswersWords refuses next words' input input' output output' status → AnswersWords refuses next words input input' output output' status
words_same refuses next words words' input input' output output' status same answers =
    let P : List (List ℕ) → Type 0 = λ w. AnswersWords refuses next w input input' output output' status in
    subst P same answers

pub program_ran : (refuses : List ℕ → List Property → Told → Bool) (next : Meaning) (words words' : List (List ℕ)) (input input' output output' : EndView) (status : Status) (code : ℕ)
    → words' ≡ words → code ≡ code_of status → AnswersWords refuses next words' input input' output output' status → RunsProgram refuses next (Ok words) input input' output output' code
program_ran refuses next words words' input input' output output' status code same is answers = (status, is, words_same refuses next words words' input input' output output' status same answers)

-- the words ask for a text
pub gave_text : (refuses : List ℕ → List Property → Told → Bool) (next : Meaning) (words : List (List ℕ)) (asked : AskedText) (input output output' : EndView) (status : Status)
    → Some asked ≡ text_asked words → (text : List ℕ) × WritesText text output.bytes output'.bytes status → output'.faults ≡ write_faults_after output.faults status
    → AnswersWords refuses next words input input output output' status
gave_text refuses next words asked input output output' status asks (text, wrote) faults =
    let P : Option AskedText → Type 0 = λ x. GivesOrRuns x refuses next words input input output output' status in
    subst P asks (record { text = text; wrote = wrote; unread = refl; write_faults = faults })

-- they ask for none
pub ran_words : (refuses : List ℕ → List Property → Told → Bool) (next : Meaning) (words : List (List ℕ)) (input input' output output' : EndView) (status : Status)
    → None ≡ text_asked words → RunsNew refuses next words input input' output output' status → AnswersWords refuses next words input input' output output' status
ran_words refuses next words input input' output output' status asks ran =
    let P : Option AskedText → Type 0 = λ x. GivesOrRuns x refuses next words input input' output output' status in
    subst P asks ran

-- memory was wanting before anything was read or written
pub no_answer : (x : Option AskedText) (refuses : List ℕ → List Property → Told → Bool) (next : Meaning) (words : List (List ℕ)) (input output : EndView) → GivesOrRuns x refuses next words input input output output NoMemory
no_answer None refuses next words input output = inr (refl, (refl, refl))
no_answer (Some asked) refuses next words input output = record { text = []; wrote = refl; unread = refl; write_faults = refl }
