-- The gets that stand, and those that an entry leaves. OSGi Core 8, chapter 5, "Unregistering Services"; chapter 4, "Stopping Bundles".
use Rattle.std.specs.Prelude.{◌≡◌, ℕ, ◌&&◌, List, Bool, true, false, Option}
use Rattle.std.specs.List.{Contains}
use Rattle.std.specs.Option.{option_map_or}
use Rattle.use_counts.specs.declared.uses.UseRow.{UseRow}
use Rattle.scr_consequences.specs.declared.gets.StandingGets.{StandingGets}
use Rattle.scr_world.specs.declared.command.Command.TheVariants.{Stop}
use Rattle.scr_world.specs.declared.marks.Token.{Token}
use Rattle.scr_world.specs.declared.step.Step.{Step}
use Rattle.scr_world.specs.declared.step.Step.TheVariants.{Command as Commanded}
use Rattle.scr_world.specs.declared.world.World.{World}
use Rattle.scr_world.specs.Lists.{is_active_bundle, tokens_in, uses_in}
use Rattle.scr_world.specs.Worlds.{is_registered}

-- a get of a service for a bundle stands: the service is registered, and the bundle is ACTIVE
unfoldable pub stands : World → ℕ → ℕ → Bool
stands w service bundle = is_registered w service && is_active_bundle w bundle

abbrev pub use_stands : World → UseRow → Bool
use_stands w u = stands w u.service u.bundle

abbrev pub token_stands : World → Token → Bool
token_stands w t = stands w t.service t.bundle

-- a step stops a bundle
abbrev pub is_stop : Step → Bool
is_stop (Commanded (Stop bundle)) = true
is_stop _ = false

-- each get of a world stood before the step that led to it, and a bundle that was ACTIVE is, but for one that is stopped
pub record HaveStood (step : Step) (was now : World) : Type 0 where
  pub uses : (u : UseRow) → Contains now.uses u → use_stands was u ≡ true
  pub tokens : (t : Token) → Contains now.tokens t → token_stands was t ≡ true
  pub bundles : is_stop step ≡ false → (bundle : ℕ) → is_active_bundle was bundle ≡ true → is_active_bundle now bundle ≡ true

-- these gets, or where none are given those of a world
abbrev pub uses_left : Option StandingGets → World → List UseRow
uses_left gets w = option_map_or (λ (g : StandingGets). g.uses) gets w.uses

abbrev pub tokens_left : Option StandingGets → World → List Token
tokens_left gets w = option_map_or (λ (g : StandingGets). g.tokens) gets w.tokens

-- they are those that stand
pub record AreStanding (w : World) (gets : Option StandingGets) : Type 0 where
  pub uses : uses_left gets w ≡ uses_in w
  pub tokens : tokens_left gets w ≡ tokens_in w
