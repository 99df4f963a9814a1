-- What undoes a change of the table of services. Our own.
use Rattle.std.specs.Prelude.{◌≤◌, ◌-◌, ℕ, ◌&&◌, map, Bool, is_none, nat_le, if◌then◌else◌}
use Rattle.std.specs.Ordering.{is_lt, nat_cmp}
use Rattle.std.specs.List.{All}
use Rattle.prop_map.specs.Words.{insert_by}
use Rattle.service_registry.specs.declared.row.ServiceRow.{ServiceRow}
use Rattle.service_registry.specs.Registries.{Registered, has_number, row_of}

-- a service in the place of the one of its number
abbrev pub with_row : ServiceRow → Registered → Registered
with_row row t = record t { rows = map (λ (r : ServiceRow). if has_number row.id r then row else r) t.rows }

abbrev pub has_lower_number : ServiceRow → ServiceRow → Bool
has_lower_number a b = is_lt (nat_cmp a.id b.id)

-- the number of a service was given, and no service has it now
abbrev pub is_missing : ServiceRow → Registered → Bool
is_missing row t = nat_le row.id t.numbered && is_none (row_of t.rows row.id)

-- a service that was taken out, at the place of its number again
abbrev pub with_row_back : ServiceRow → Registered → Registered
with_row_back row t = if is_missing row t then record t { rows = insert_by has_lower_number row t.rows } else t

-- so many numbers given cover those of the rows, and all but the last ones, so many
abbrev pub CoversNumbers : ℕ → Registered → ℕ → Type 0
CoversNumbers count t given = (t.numbered - count ≤ given) × All (λ (r : ServiceRow). r.id ≤ given) t.rows

-- so many numbers stay given where the last ones, so many, are taken back: no more than have to
abbrev pub IsLeft : ℕ → Registered → ℕ → Type 0
IsLeft count t left = CoversNumbers count t left × ((given : ℕ) → CoversNumbers count t given → left ≤ given)
