-- What is always true of what is kept: a location is there once, and the configurations stand by PID in byte order,
-- each PID once. Our own.
use Rattle.std.specs.Prelude.{◌≡◌, ℕ, List, [], ◌∷◌, Bool}
use Rattle.std.specs.Cmp.Lexicographic.{slice_cmp}
use Rattle.std.specs.List.{AllPairs}
use Rattle.std.specs.Ordering.{nat_cmp}
use Rattle.std.specs.Str.{bytes_eq}
use Rattle.std.specs.declared.cmp.Ordering.{Ordering}
use Rattle.std.specs.declared.cmp.Ordering.TheVariants.{Less}
use Rattle.row_places.specs.RowPlaces.{NoneOf}
use Rattle.world_keeper.specs.declared.kept.Kept.{Kept}
use Rattle.world_keeper.specs.declared.kept.KeptBundle.{KeptBundle}
use Rattle.world_keeper.specs.declared.kept.KeptConfiguration.{KeptConfiguration}

abbrev pub is_at : List ℕ → KeptBundle → Bool
is_at location b = bytes_eq b.location location

-- no two bundles have one location
abbrev pub AreApart : List KeptBundle → Type 0
AreApart [] = Unit {0}
AreApart (b ∷ bs) = NoneOf (is_at b.location) bs × AreApart bs

abbrev pub pid_cmp : KeptConfiguration → KeptConfiguration → Ordering
pid_cmp c d = slice_cmp nat_cmp c.pid d.pid

abbrev pub AreByPid : List KeptConfiguration → Type 0
AreByPid cs = AllPairs (λ (c d : KeptConfiguration). pid_cmp c d ≡ Less) cs

pub record IsOrdered (kept : Kept) : Type 0 where
  pub bundles : AreApart kept.bundles
  pub configurations : AreByPid kept.configurations
