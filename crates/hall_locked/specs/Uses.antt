-- Gets by token under the lock of a hall: what the log says of those that are kept for passes, and how one is got and given
-- back; what a get answers is passed on. Our own; gets are OSGi Core 8, chapter 5, "Getting Services".
use Rattle.std.specs.Prelude.{◌≡◌, ℕ, ◌==◌, List, ◌∷◌, ◌++◌, Bool, false, length}
use Rattle.std.specs.List.{Contains, list_any}
use Rattle.journal_core.specs.declared.entry.Entry.{Entry}
pub use Rattle.platform_hall.specs.Calls.{GetsUse}
use Rattle.scr_core.specs.Cores.{CoreView}
use Rattle.scr_world.specs.Calls.{EndsUse}
use Rattle.scr_world.specs.declared.marks.Token.{Token}
use Rattle.scr_world.specs.declared.step.Step.{Step}
use Rattle.scr_world.specs.declared.step.Step.TheVariants.{Got, Released}

-- ---- entries of gets

-- a service is got by a token
abbrev pub IsGot : Step → Type 0
IsGot (Got bundle service) = Unit {0}
IsGot _ = ⊥

-- the get at this place is released
abbrev pub is_release : ℕ → Step → Bool
is_release place (Released released) = released == place
is_release place _ = false

-- none of these entries releases it
abbrev pub NoneReleases : ℕ → List (ℕ × Entry Step) → Type 0
NoneReleases place log = list_any (λ (x : ℕ × Entry Step). is_release place x.1.step) log ≡ false

-- ---- what is kept of gets

-- a get by token stands in a log at its place, under its owner, and nothing behind it has released it
pub record IsKeptGet (log : List (ℕ × Entry Step)) (got : ℕ × ℕ) : Type 0 where
  pub before : List (ℕ × Entry Step)
  pub entry : Entry Step
  pub behind : List (ℕ × Entry Step)
  pub log_is : log ≡ before ++ (got.0, entry) ∷ behind
  pub place_is : got.1 ≡ length before
  pub step : IsGot entry.step
  pub unreleased : NoneReleases got.1 behind

-- what is kept of gets is what its owner got, and nobody has released
abbrev pub AreKeptGets : List (ℕ × Entry Step) → List (ℕ × ℕ) → Type 0
AreKeptGets log uses = (got : ℕ × ℕ) → Contains uses got → IsKeptGet log got

-- ---- what calls do with gets

-- a get is given back, and stood still or not: it is released where it stood
abbrev pub GivesBack : CoreView → Token → Bool → CoreView → Type 0
GivesBack before note stood after = (after.limits ≡ before.limits) × EndsUse before.limits.journal before.journal note stood after.journal
