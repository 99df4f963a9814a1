-- Lines that are served one after the other, and their texts.
use Rattle.std.proofs.Common.{◌≡◌, ℕ, List, [], ◌∷◌, ◌++◌, ap, sym, ◌∙◌, refl, subst, append_assoc, append-nil, Some}
use Rattle.std.proofs.lemmas.Grind.{flat_map-append}
use Rattle.std.specs.declared.option.Option.{Option}
use Rattle.platform_sessions.specs.Halls.{View}
use Rattle.shell_lang.specs.ShellLines.{shell_line}
use Rattle.session_shell.specs.Items.{ServesLine, Setting, noted}
use Rattle.session_shell.specs.Sessions.{ServedLines, item_text, texts}
use Rattle.session_shell.specs.declared.item.SessionItem.{SessionItem}

-- one line more
pub served_more : (s : Setting) (lines : List (List ℕ)) (line : List ℕ) (before between after : View) (items : List SessionItem) (told : Option SessionItem)
    → ServedLines s lines before between items → ServesLine s (shell_line line) between after told → ServedLines s (lines ++ line ∷ []) before after (items ++ noted told)
served_more s [] line before between after items told (same, none) serves =
    let P : View → Type 0 = λ v. ServesLine s (shell_line line) v after told in
    (after, told, [], subst P same serves, (refl, refl), ap (λ w. w ++ noted told) none ∙ sym (append-nil (noted told)))
served_more s (head ∷ lines) line before between after items told (middle, said, rest, answer, served, whole) serves = (
  middle,
  said,
  rest ++ noted told,
  answer,
  served_more s lines line middle between after rest told served serves,
  ap (λ w. w ++ noted told) whole ∙ append_assoc (noted said) rest (noted told),
)

pub texts_more : (items more : List SessionItem) → texts (items ++ more) ≡ texts items ++ texts more
texts_more items more = flat_map-append item_text items more

-- the text of one item
pub text_of_one : (item : SessionItem) → texts (noted (Some item)) ≡ item_text item
text_of_one item = append-nil (item_text item)
