-- A word of interfaces with commas between them. Our own form.
use Rattle.std.specs.Prelude.{ℕ, ◌==◌, ◌&&◌, List, length, Bool, not, Result, Ok, if◌then◌else◌}
use Rattle.std.specs.List.{list_all}
use Rattle.std.specs.Option.{is_none}
use Rattle.bundle_doc.specs.Names.{parted}
use Rattle.component_dto.specs.TextLists.{first_repeated}
use Rattle.shell_lang.specs.declared.words.Misfit.{Misfit}
use Rattle.shell_lang.specs.Words.{misfit}

abbrev pub is_filled : List ℕ → Bool
is_filled name = not (length name == 0)

-- none is empty, and none is there twice
abbrev pub are_interfaces : List (List ℕ) → Bool
are_interfaces names = list_all is_filled names && is_none (first_repeated names)

-- the interfaces that the word at this place names
abbrev pub interfaces_at : ℕ → List ℕ → Result (List (List ℕ)) Misfit
interfaces_at at word = if are_interfaces (parted 44 word) then Ok (parted 44 word) else misfit at
