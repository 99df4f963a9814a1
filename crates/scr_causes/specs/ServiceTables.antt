-- Services under their interfaces, in byte order. What only code and proofs need. Our own.
use Rattle.std.specs.Prelude.{◌≡◌, ℕ, ◌&&◌, List, Bool, filter, length}
use Rattle.std.specs.Cmp.Lexicographic.{slice_cmp}
use Rattle.std.specs.List.Sorted.{IsSorted}
use Rattle.std.specs.Ordering.{is_lt, nat_cmp}
use Rattle.std.specs.Str.{bytes_eq}
use Rattle.std.specs.declared.cmp.Ordering.{Ordering}
use Rattle.service_registry.specs.declared.row.ServiceRow.{ServiceRow}
use Rattle.service_registry.specs.Services.{has_interface}
use Rattle.scr_causes.specs.declared.service_table.Entry.{Entry}

abbrev pub entry_cmp : Entry → Entry → Ordering
entry_cmp a b = slice_cmp nat_cmp a.interface.now b.interface.now

-- it stands under one before an interface
abbrev pub is_before : List ℕ → Entry → Bool
is_before interface e = is_lt (slice_cmp nat_cmp e.interface.now interface)

-- it stands under an interface
abbrev pub is_under : List ℕ → Entry → Bool
is_under interface e = bytes_eq e.interface.now interface

-- how many of these stand under an interface and pass a test
abbrev pub count_under : List ℕ → (ServiceRow → Bool) → List Entry → ℕ
count_under interface test entries = length (filter (λ (e : Entry). is_under interface e && test e.row.now) entries)

-- as many as there are services that have the interface and pass the test
abbrev pub AreOf : List ServiceRow → List Entry → Type 0
AreOf rows entries = (interface : List ℕ) (test : ServiceRow → Bool) → count_under interface test entries ≡ length (filter (λ (r : ServiceRow). has_interface interface r && test r) rows)

abbrev pub AreInOrder : List Entry → Type 0
AreInOrder entries = IsSorted entry_cmp entries
