-- When an unget is refused, and what is always true of the rows. That a get is held by the shell or by a token is our own.
use Rattle.std.specs.Prelude.{◌≡◌, ℕ, ◌<◌, ◌^◌, List, Result, Ok, Err}
use Rattle.std.specs.List.{All, AllPairs}
use Rattle.std.specs.declared.cmp.Ordering.TheVariants.{Less}
use Rattle.use_counts.specs.declared.uses.Holder.{Holder}
use Rattle.use_counts.specs.declared.uses.NotUsing.{NotUsing}
use Rattle.use_counts.specs.declared.uses.UseRow.{UseRow}
use Rattle.use_counts.specs.Uses.{holder_count, total, use_cmp}

-- by service, then by bundle, and one row for both
abbrev pub AreOrdered : List UseRow → Type 0
AreOrdered us = AllPairs (λ (u v : UseRow). use_cmp u v ≡ Less) us

-- each counts one get at least, and the count is a number of 32 bits
abbrev pub IsCounted : UseRow → Type 0
IsCounted u = (0 < total u) × (total u < 2 ^ 32)

abbrev pub AreUses : List UseRow → Type 0
AreUses us = AreOrdered us × All IsCounted us

-- refused exactly where the holder holds no get of the service for the bundle
abbrev pub IsUngetRefused : ℕ → ℕ → Holder → List UseRow → Result ℕ NotUsing → Type 0
IsUngetRefused bundle service holder us (Ok count) = 0 < holder_count holder bundle service us
IsUngetRefused bundle service holder us (Err fault) = holder_count holder bundle service us ≡ 0
