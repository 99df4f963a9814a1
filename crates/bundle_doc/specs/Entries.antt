-- Which entries of a document are its descriptions. Our own form.
use Rattle.std.specs.Prelude.{ℕ, List, [], ◌∷◌, ◌++◌, filter, Result, Ok, Err, if◌then◌else◌}
use Rattle.prop_map.specs.Words.{after}
use Rattle.component_dto.specs.TextLists.{has_text}
use Rattle.bundle_doc.specs.declared.fault.DocFault.{DocFault}
use Rattle.bundle_doc.specs.declared.fault.DocFault.TheVariants.{MissingEntry}
use Rattle.bundle_doc.specs.declared.headers.Listed.{Listed}
use Rattle.bundle_doc.specs.declared.headers.Listed.TheVariants.{Every, Named}
use Rattle.bundle_doc.specs.Names.{is_pattern, matches}

-- the entries that a name takes: those that match a name with a star, perhaps none, or the one of that name
abbrev pub taken : List (List ℕ) → List ℕ → Result (List (List ℕ)) DocFault
taken entries name = if is_pattern name then Ok (filter (matches name) entries) else (if has_text entries name then Ok (name ∷ []) else Err (MissingEntry name))

abbrev pub with_one : List (List ℕ) → List ℕ → List (List ℕ)
with_one found entry = if has_text found entry then found else found ++ entry ∷ []

-- the entries with others behind them, each once, at its first place
abbrev pub with_new : List (List ℕ) → List (List ℕ) → List (List ℕ)
with_new found [] = found
with_new found (entry ∷ entries) = with_new (with_one found entry) entries

-- the entries that names take, behind others
abbrev pub taken_behind : List (List ℕ) → List (List ℕ) → List (List ℕ) → Result (List (List ℕ)) DocFault
taken_behind entries found [] = Ok found
taken_behind entries found (name ∷ names) = after (taken entries name) (λ new. taken_behind entries (with_new found new) names)

-- the entries that are descriptions, in their order
abbrev pub described_entries : List (List ℕ) → Listed → Result (List (List ℕ)) DocFault
described_entries entries Every = Ok entries
described_entries entries (Named names) = taken_behind entries [] names
