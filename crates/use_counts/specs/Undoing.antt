-- What undoes a change of the gets. Our own.
use Rattle.std.specs.Prelude.{ℕ, List, [], ◌∷◌}
use Rattle.prop_map.specs.Words.{insert_by}
use Rattle.use_counts.specs.declared.uses.UseRow.{UseRow}
use Rattle.use_counts.specs.Uses.{use_before, without_use}

-- rows that were kept, and how many rows there is room for beside the table
pub record Kept : Type 0 where
  pub uses : List UseRow
  pub room : ℕ

-- with a row in place of the one of its bundle and service
abbrev pub with_row : UseRow → List UseRow → List UseRow
with_row u us = insert_by use_before u (without_use u.bundle u.service us)

-- with each of some rows, the first one first
abbrev pub with_rows : List UseRow → List UseRow → List UseRow
with_rows [] us = us
with_rows (u ∷ more) us = with_rows more (with_row u us)
