-- What is left to hand on, when the next bytes are made ready and given.
use Rattle.std.proofs.Common.{◌≡◌, ◌<◌, ◌+◌, ℕ, List, [], ◌∷◌, ◌++◌, length, ap, sym, ◌∙◌, refl, Bool, true, false, take, drop, append_assoc, append-nil, None, Some, IfSome, subst}
use Rattle.std.specs.declared.option.Option.{Option}
use Rattle.std.specs.List.{slice_split}
use Rattle.std.specs.Io.KnownBytes.{Consumes, IsAtEnd, Keeps, prepend_known}
use Rattle.std.proofs.lemmas.Bool.{false≢true}
use Rattle.std.proofs.lemmas.List.Splits.{slice_split_at, slice_split_none}
use Rattle.fault_count.specs.Steps.{GivesBytes}
use Rattle.fault_count.specs.declared.source.ReadStep.{ReadStep}
use Rattle.fault_count.specs.declared.source.ReadStep.TheVariants.{Got, End, Failed}
use Rattle.file_lines.specs.Ahead.{FirstLineFeed, NoLineFeed, most_held, not_yet_read, to_come}
use Rattle.file_lines.specs.Files.{Shelf}
use Rattle.file_lines.specs.HandedLines.{handed_behind, is_line_feed, longest_line, next_handed, path_in}
use Rattle.file_lines.specs.Sources.{FirstNamesNone, NeedsNoFile, left_to_hand}
use Rattle.file_lines.proofs.HandingLemmas.{handed_front, handed_last, handed_line_feed}

-- a whole line was made ready
pub ready_line : (told : Option Shelf) (is_within : Bool) (coming left : Option (List ℕ)) (bytes part rest text : List ℕ) → Keeps coming (prepend_known bytes left) → NoLineFeed part → bytes ≡ part ++ 10 ∷ rest
    → IfSome told (λ shelf. text ≡ next_handed shelf is_within part ++ 10 ∷ [])
    → Keeps (left_to_hand told [] is_within coming) (left_to_hand told text false (prepend_known rest left))
ready_line None is_within coming left bytes part rest text kept none is handed = tt
ready_line (Some shelf) is_within None left bytes part rest text kept none is handed = tt
ready_line (Some shelf) is_within (Some xs) None bytes part rest text kept none is handed = absurd kept
ready_line (Some shelf) is_within (Some xs) (Some more) bytes part rest text kept none is handed =
    ap (λ l. l ++ handed_behind shelf false (rest ++ more)) handed ∙ append_assoc (next_handed shelf is_within part) (10 ∷ []) (handed_behind shelf false (rest ++ more))
    ∙ sym (ap (handed_behind shelf is_within) (sym kept ∙ ap (λ l. l ++ more) is ∙ append_assoc part (10 ∷ rest) more) ∙ handed_line_feed shelf is_within part (rest ++ more) none)

-- a front of a line was made ready
pub ready_front : (told : Option Shelf) (is_within : Bool) (coming left : Option (List ℕ)) (bytes text : List ℕ) → Keeps coming (prepend_known bytes left) → NoLineFeed bytes → (is_within ≡ false → longest_line < length bytes)
    → text ≡ bytes → Keeps (left_to_hand told [] is_within coming) (left_to_hand told text true (prepend_known [] left))
ready_front None is_within coming left bytes text kept none long is = tt
ready_front (Some shelf) is_within None left bytes text kept none long is = tt
ready_front (Some shelf) is_within (Some xs) None bytes text kept none long is = absurd kept
ready_front (Some shelf) is_within (Some xs) (Some more) bytes text kept none long is =
    ap (λ l. l ++ handed_behind shelf true more) is ∙ sym (ap (handed_behind shelf is_within) (sym kept) ∙ handed_front shelf is_within bytes more none long)

-- the last line was made ready
pub ready_last : (told : Option Shelf) (is_within : Bool) (coming : Option (List ℕ)) (bytes text : List ℕ) → Keeps coming (prepend_known bytes (Some [])) → NoLineFeed bytes
    → IfSome told (λ shelf. text ≡ next_handed shelf is_within bytes) → Keeps (left_to_hand told [] is_within coming) (left_to_hand told text true (Some []))
ready_last None is_within coming bytes text kept none handed = tt
ready_last (Some shelf) is_within None bytes text kept none handed = tt
ready_last (Some shelf) is_within (Some xs) bytes text kept none handed =
    append-nil text ∙ handed ∙ sym (ap (handed_behind shelf is_within) (sym kept ∙ append-nil bytes) ∙ handed_last shelf is_within bytes none)

-- nothing was made ready
pub ready_none : (told : Option Shelf) (is_within : Bool) (coming coming' : Option (List ℕ)) → Keeps coming coming' → Keeps (left_to_hand told [] is_within coming) (left_to_hand told [] is_within coming')
ready_none None is_within coming coming' kept = tt
ready_none (Some shelf) is_within None coming' kept = tt
ready_none (Some shelf) is_within (Some xs) None kept = absurd kept
ready_none (Some shelf) is_within (Some xs) (Some ys) kept = ap (handed_behind shelf is_within) kept

-- once the last line was handed on, nothing is left
pub at_end : (told : Option Shelf) → IsAtEnd (left_to_hand told [] true (Some []))
at_end None = tt
at_end (Some shelf) = refl

-- where no file is to be read, the line that ends at the line feed names none
pub line_needs_none : (is_within : Bool) (coming left : Option (List ℕ)) (bytes part rest : List ℕ) → Keeps coming (prepend_known bytes left) → NoLineFeed part → bytes ≡ part ++ 10 ∷ rest
    → NeedsNoFile [] is_within coming → is_within ≡ false → path_in part ≡ None
line_needs_none true coming left bytes part rest kept none is needs out = absurd (false≢true (sym out))
line_needs_none false None left bytes part rest kept none is needs out = absurd needs
line_needs_none false (Some xs) None bytes part rest kept none is needs out = absurd kept
line_needs_none false (Some xs) (Some more) bytes part rest kept none is needs out =
    subst FirstNamesNone (ap (slice_split is_line_feed) (sym kept ∙ ap (λ l. l ++ more) is ∙ append_assoc part (10 ∷ rest) more) ∙ slice_split_at is_line_feed part 10 (rest ++ more) none refl) needs

pub last_needs_none : (is_within : Bool) (coming : Option (List ℕ)) (bytes : List ℕ) → Keeps coming (prepend_known bytes (Some [])) → NoLineFeed bytes
    → NeedsNoFile [] is_within coming → is_within ≡ false → path_in bytes ≡ None
last_needs_none true coming bytes kept none needs out = absurd (false≢true (sym out))
last_needs_none false None bytes kept none needs out = absurd needs
last_needs_none false (Some xs) bytes kept none needs out =
    subst FirstNamesNone (ap (slice_split is_line_feed) (sym kept ∙ append-nil bytes) ∙ slice_split_none is_line_feed bytes none) needs

ends_kept : (a b : Option (List ℕ)) → Keeps a b → IsAtEnd b → IsAtEnd a
ends_kept None b kept ends = tt
ends_kept (Some xs) None kept ends = absurd kept
ends_kept (Some xs) (Some ys) kept ends = sym kept ∙ ends

consumes_ready : (told : Option Shelf) (is_within : Bool) (left coming : Option (List ℕ)) (ready ready' piece : List ℕ) → Keeps left (left_to_hand told ready is_within coming)
    → ready ≡ piece ++ ready' → Consumes left (left_to_hand told ready' is_within coming) piece
consumes_ready told is_within None coming ready ready' piece kept got = tt
consumes_ready None is_within (Some xs) coming ready ready' piece kept got = absurd kept
consumes_ready (Some shelf) is_within (Some xs) None ready ready' piece kept got = absurd kept
consumes_ready (Some shelf) is_within (Some xs) (Some bytes) ready ready' piece kept got =
    sym kept ∙ ap (λ l. l ++ handed_behind shelf is_within bytes) got ∙ append_assoc piece ready' (handed_behind shelf is_within bytes)

-- bytes that are ready are given
pub gives_ready : (told : Option Shelf) (is_within : Bool) (left coming : Option (List ℕ)) (ready ready' : List ℕ) (step : ReadStep) (room : List ℕ) → Keeps left (left_to_hand told ready is_within coming)
    → (ready ≡ [] → IsAtEnd (left_to_hand told [] is_within coming)) → GivesBytes (Some ready) (Some ready') step room → GivesBytes left (left_to_hand told ready' is_within coming) step room
gives_ready told is_within left coming ready ready' (Got count) room kept ends (some, within, got) = (some, within, consumes_ready told is_within left coming ready ready' (take count room) kept got)
gives_ready told is_within left coming ready ready' End room kept ends (empty, same) =
    let none : Keeps left (left_to_hand told [] is_within coming) = rw empty at kept in
    (ends_kept left (left_to_hand told [] is_within coming) none (ends empty), rw same kept)
gives_ready told is_within left coming ready ready' Failed room kept ends same = rw same kept

-- the same where a source has those bytes to come: up to a line feed
pub line_is_ready : (told : Option Shelf) (is_within : Bool) (coming : Option (List ℕ)) (is_ended : Bool) (bytes : List ℕ) (left : Option (List ℕ)) (at : ℕ) (part text : List ℕ)
    → Keeps coming (to_come is_ended bytes left) → FirstLineFeed bytes (Some at) → part ≡ take at bytes → IfSome told (λ shelf. text ≡ next_handed shelf is_within part ++ 10 ∷ [])
    → Keeps (left_to_hand told [] is_within coming) (left_to_hand told text false (to_come is_ended (drop (at + 1) bytes) left))
line_is_ready told is_within coming is_ended bytes left at part text kept found is handed =
    ready_line told is_within coming (not_yet_read is_ended left) bytes part (drop (at + 1) bytes) text kept (subst NoLineFeed (sym is) found.1) (found.2 ∙ ap (λ l. l ++ 10 ∷ drop (at + 1) bytes) (sym is)) handed

pub line_names_none : (is_within : Bool) (coming : Option (List ℕ)) (is_ended : Bool) (bytes : List ℕ) (left : Option (List ℕ)) (at : ℕ) (part : List ℕ) → Keeps coming (to_come is_ended bytes left)
    → FirstLineFeed bytes (Some at) → part ≡ take at bytes → NeedsNoFile [] is_within coming → is_within ≡ false → path_in part ≡ None
line_names_none is_within coming is_ended bytes left at part kept found is =
    line_needs_none is_within coming (not_yet_read is_ended left) bytes part (drop (at + 1) bytes) kept (subst NoLineFeed (sym is) found.1) (found.2 ∙ ap (λ l. l ++ 10 ∷ drop (at + 1) bytes) (sym is))

held_long : (is_within : Bool) (most : ℕ) (bytes : List ℕ) → most ≡ most_held is_within → most < length bytes → is_within ≡ false → longest_line < length bytes
held_long true most bytes is more out = absurd (false≢true (sym out))
held_long false most bytes is more out = subst (λ n. n < length bytes) is more

-- a front of a line
pub front_is_ready : (told : Option Shelf) (is_within : Bool) (coming : Option (List ℕ)) (is_ended : Bool) (bytes : List ℕ) (left : Option (List ℕ)) (most : ℕ) (text : List ℕ)
    → Keeps coming (to_come is_ended bytes left) → NoLineFeed bytes × (most < length bytes) → most ≡ most_held is_within → text ≡ bytes
    → Keeps (left_to_hand told [] is_within coming) (left_to_hand told text true (to_come is_ended [] left))
front_is_ready told is_within coming is_ended bytes left most text kept (none, more) is same =
    ready_front told is_within coming (not_yet_read is_ended left) bytes text kept none (held_long is_within most bytes is more) same

-- the last line
pub last_is_ready : (told : Option Shelf) (is_within : Bool) (coming : Option (List ℕ)) (is_ended : Bool) (bytes : List ℕ) (left : Option (List ℕ)) (part text : List ℕ)
    → Keeps coming (to_come is_ended bytes left) → NoLineFeed bytes × (is_ended ≡ true) → part ≡ bytes → IfSome told (λ shelf. text ≡ next_handed shelf is_within part)
    → Keeps (left_to_hand told [] is_within coming) (left_to_hand told text true (to_come is_ended [] left))
last_is_ready told is_within coming true bytes left part text kept (none, ended) is handed =
    ready_last told is_within coming part text (subst (λ l. Keeps coming (prepend_known l (Some []))) (sym is) kept) (subst NoLineFeed (sym is) none) handed
last_is_ready told is_within coming false bytes left part text kept (none, ended) is handed = absurd (false≢true ended)

pub last_names_none : (is_within : Bool) (coming : Option (List ℕ)) (is_ended : Bool) (bytes : List ℕ) (left : Option (List ℕ)) (part : List ℕ) → Keeps coming (to_come is_ended bytes left)
    → NoLineFeed bytes × (is_ended ≡ true) → part ≡ bytes → NeedsNoFile [] is_within coming → is_within ≡ false → path_in part ≡ None
last_names_none is_within coming true bytes left part kept (none, ended) is =
    last_needs_none is_within coming part (subst (λ l. Keeps coming (prepend_known l (Some []))) (sym is) kept) (subst NoLineFeed (sym is) none)
last_names_none is_within coming false bytes left part kept (none, ended) is = absurd (false≢true ended)

pub kept_refl : (a : Option (List ℕ)) → Keeps a a
kept_refl None = tt
kept_refl (Some xs) = refl
