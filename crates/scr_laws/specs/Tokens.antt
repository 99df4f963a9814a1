-- Gets by token, and what is counted of them. OSGi Core 8, chapter 5, "Getting Services", "Releasing Services"; tokens are our own.
use Rattle.std.specs.Prelude.{◌≡◌, ℕ, ◌==◌, ◌&&◌, Bool, filter, length}
use Rattle.scr_world.specs.declared.marks.Token.{Token}
use Rattle.scr_world.specs.declared.world.World.{World}
use Rattle.use_counts.specs.declared.uses.Holder.TheVariants.{Token as ByToken}
use Rattle.use_counts.specs.Uses.{holder_count}

-- a get by token is one of a bundle and a service
abbrev pub is_get_of : ℕ → ℕ → Token → Bool
is_get_of bundle service t = (t.service == service) && (t.bundle == bundle)

-- as many gets of a bundle and a service are counted as held by tokens as there are tokens of them
abbrev pub AreCounted : World → Type 0
AreCounted w = (bundle service : ℕ) → holder_count ByToken bundle service w.uses ≡ length (filter (is_get_of bundle service) w.tokens)
