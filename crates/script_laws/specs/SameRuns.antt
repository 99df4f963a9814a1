-- Two runs of one script, or of one load, that leave the same. Our own form.
use Rattle.std.specs.Prelude.{◌≡◌, ℕ, List, Bool, true, false, Option, Some}
use Rattle.std.specs.Io.KnownBytes.{Appends}
use Rattle.call_moves.specs.Evaluations.{Meaning}
use Rattle.kind_trait.specs.Meanings.{Told}
use Rattle.platform_hall.specs.Cores.{CoreView}
use Rattle.prop_map.specs.declared.properties.Property.{Property}
use Rattle.script_shell.specs.FormRuns.{RunsForm}
use Rattle.script_shell.specs.Forms.{form_of}
use Rattle.script_shell.specs.declared.status.Status.{Status}
use Rattle.script_shell.specs.declared.status.Status.TheVariants.{NoMemory, ReadFault, WriteFault}

-- neither a failed end nor want of memory ended a run: its status has none of the numbers 2, 3 and 4
abbrev pub is_undisturbed : Status → Bool
is_undisturbed ReadFault = false
is_undisturbed WriteFault = false
is_undisturbed NoMemory = false
is_undisturbed _ = true

-- what a run left: how it ended, its platform, and what was written before it and behind it, where the sink tells that
pub record Left : Type 0 where
  pub status : Status
  pub platform : CoreView
  pub written : Option (List ℕ)
  pub written' : Option (List ℕ)

-- a run of these words over these bytes, on a platform that was so, left this
abbrev pub Leaves : (List ℕ → List Property → Told → Bool) → Meaning → List (List ℕ) → List ℕ → CoreView → Left → Type 0
Leaves refuses next words bytes before left =
    (unread : Option (List ℕ)) × RunsForm refuses next (form_of words) (Some bytes) unread before left.platform left.written left.written' left.status

-- both runs left the same journal, under the same limits, wrote the same text, and ended alike
pub record LeftTheSame (one other : Left) : Type 0 where
  pub journal : one.platform.journal ≡ other.platform.journal
  pub limits : one.platform.limits ≡ other.platform.limits
  pub output : (text : List ℕ) × Appends one.written one.written' text × Appends other.written other.written' text
  pub status : one.status ≡ other.status
