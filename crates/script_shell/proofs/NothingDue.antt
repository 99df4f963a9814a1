-- A platform at which nothing is due: a settling of it has no turns, a line that appends nothing leaves it so, and each settling does.
use Rattle.std.proofs.Common.{◌≡◌, ℕ, List, [], ◌∷◌, ◌++◌, length, length-append, append-nil, Bool, true, false, not, ◌&&◌, ap, sym, ◌∙◌, refl, subst, arith, Ok}
use Rattle.std.specs.Prelude.{◌==◌}
use Rattle.std.specs.declared.option.Option.{Option}
use Rattle.std.proofs.lemmas.Bool.{and_parts, eqb-true}
use Rattle.journal_core.specs.declared.entry.Entry.{Entry}
use Rattle.kind_trait.specs.Meanings.{Told}
use Rattle.prop_map.specs.declared.properties.Property.{Property}
use Rattle.scr_world.specs.declared.command.Command.{Command}
use Rattle.scr_world.specs.declared.step.Step.{Step}
use Rattle.platform_hall.specs.Cores.{CoreView}
use Rattle.platform_hall.specs.Platforms.{SettlesAs}
use Rattle.shell_lang.specs.declared.shell_reply.ShellReply.{ShellReply}
use Rattle.shell_lang.specs.ShellLines.{Asked}
use Rattle.script_shell.specs.Asks.{Asks, Setting, commands_of}
use Rattle.script_shell.specs.Rests.{HasNothingDue, Rests, RestsBy}
use Rattle.script_shell.specs.Runs.{Grew}
use Rattle.script_shell.proofs.LineGrowth.{grew_asks}

none_more : (entries : List (Entry Step)) → length entries ≡ 0 → entries ≡ []
none_more [] none = refl
none_more (entry ∷ entries) none = absurd (omega (arith, none))

-- a platform that grew, and has as many entries as before, is as it was
same_length : (before after : CoreView) (commands : List Command) → Grew before after commands → length after.journal ≡ length before.journal → after ≡ before
same_length before after commands grew same =
    let none : grew.entries ≡ [] = none_more grew.entries (omega (arith, length-append before.journal grew.entries, ap length grew.grown, same)) in
    let journal : after.journal ≡ before.journal = grew.grown ∙ ap (λ (es : List (Entry Step)). before.journal ++ es) none ∙ append-nil before.journal in
    ap (λ (l : _). record { limits = l; journal = after.journal }) grew.limits ∙ ap (λ (j : _). record { limits = before.limits; journal = j }) journal

-- nothing is due behind a line that appended nothing, where nothing was before it
pub still_nothing_due : (s : Setting) (asked : Asked) (before after : CoreView) (told : Option ShellReply) (rested : Bool) → Asks s asked before told after
    → (rested ≡ true → HasNothingDue before) → (rested && (length after.journal == length before.journal)) ≡ true → HasNothingDue after
still_nothing_due s asked before after told rested asks known still =
    let both = and_parts rested (length after.journal == length before.journal) still in
    let same = same_length before after (commands_of before asked) (grew_asks s asked before after told asks) (eqb-true (length after.journal) (length before.journal) both.1) in
    subst HasNothingDue (sym same) (known both.0)

-- a settling has no turns there
pub settles_none : (refuses : List ℕ → List Property → Told → Bool) (turns : ℕ) (p : CoreView) → HasNothingDue p → SettlesAs refuses turns p (Ok 0) p
settles_none refuses turns p (due, drain) = (omega arith, (p, (refl, 0, refl), drain, refl), due, drain)

rested_by : (manual : Bool) (s : Setting) (between after : CoreView) → RestsBy manual s between after → not manual ≡ true → HasNothingDue after
rested_by true s between after rests auto = absurd cc
rested_by false s between after (count, settles) auto = (settles.0.2, settles.0.3)

-- nothing is due behind a settling
pub nothing_due_behind : (s : Setting) (between after : CoreView) → Rests s between after → not s.is_manual ≡ true → HasNothingDue after
nothing_due_behind s between after rests auto = rested_by s.is_manual s between after rests auto
