-- The first line feed, as the search of bytes finds it.
use Rattle.std.proofs.Common.{◌≡◌, ◌<◌, ◌≤◌, ℕ, suc, List, ◌∷◌, ◌++◌, length, ap, sym, ◌∙◌, subst, arith, true, false, take, drop, None, Some, get_or, take-append-drop, add-one, drop-cons, length-take, take_all}
use Rattle.std.specs.declared.option.Option.{Option}
use Rattle.std.proofs.lemmas.Bool.{eqb-true, false_from_ne_true}
use Rattle.std.proofs.lemmas.List.{get_or-take, get_or_default}
use Rattle.memchr.specs.Find.{IsFirstByte, is_byte}
use Rattle.script_shell.specs.Lines.{is_line_feed}
use Rattle.script_shell.specs.Reading.{FirstLineFeed, NoLineFeed}

-- no line feed stands below this place
none_below : (bytes : List ℕ) (most : ℕ) → most ≤ length bytes → ((k : ℕ) → 0 ≤ k → k < most → ¬ (is_byte 10 (get_or bytes k 0) ≡ true)) → NoLineFeed (take most bytes)
none_below bytes most within nowhere = λ k d inside.
    let below : k < most = omega (arith, length-take most bytes) in
    let here : is_line_feed (get_or bytes k 0) ≡ false = false_from_ne_true (is_line_feed (get_or bytes k 0)) (nowhere k (omega arith) below) in
    subst (λ b. is_line_feed b ≡ false) (sym (get_or-take most bytes k d below ∙ get_or_default bytes k d 0 (omega arith))) here

take_whole : (bytes : List ℕ) → take (length bytes) bytes ≡ bytes
take_whole bytes = take_all (length bytes) bytes (omega arith)

pub found_line_feed : (bytes : List ℕ) (found : Option ℕ) → IsFirstByte (is_byte 10) bytes found → FirstLineFeed bytes found
found_line_feed bytes None nowhere = subst NoLineFeed (take_whole bytes) (none_below bytes (length bytes) (omega arith) nowhere)
found_line_feed bytes (Some at) (first, passes) = (
  first.high,
  none_below bytes at (omega (arith, first.high)) first.before,
  sym (take-append-drop at bytes) ∙ ap (λ l. take at bytes ++ l) (drop-cons bytes at 0 first.high ∙ ap (λ b. b ∷ drop (suc at) bytes) (eqb-true (get_or bytes at 0) 10 passes) ∙ ap (λ n. 10 ∷ drop n bytes) (sym (add-one at))),
)
