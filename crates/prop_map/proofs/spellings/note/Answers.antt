use Rattle.std.proofs.Common.{◌≡◌, ap, ◌∙◌, rules, Some, string_bytes, ◌||◌}
use Rattle.std.specs.Prelude.{not}
use Rattle.std.specs.BTreeMap.{get_by_text}
use Rattle.std.specs.Map.{update}
use Rattle.std.specs.Option.{option_copied}
use Rattle.std.specs.Str.{bytes_eq}
use Rattle.std.proofs.lemmas.Map.Text.{btree_map_updates_text}
use Rattle.prop_map.specs.Keys.{folded}
use Rattle.prop_map.specs.Spellings.{differs_from}
use Rattle.prop_map.proofs.SpellingLemmas.{after_note}
use Rattle.prop_map.proofs.spellings.note.Goals as goal

pub returns : goal.returns
returns c = λ other.
    let found : option_copied c.get.result ≡ get_by_text c.args.spellings.now (folded c.args.key.now) = search rules in
    let changed : get_by_text c.insert.new.self (folded other) ≡ update bytes_eq (get_by_text c.args.spellings.now) (string_bytes c.in_ok-fold.fold) (Some c.with_spelling-spelling.result) (folded other) =
    btree_map_updates_text (string_bytes c.in_ok-fold.fold) c.args.spellings.now c.insert.new.self (Some c.with_spelling-spelling.result) c.in_ok-insert.ensures.updates (folded other) in
    ap (differs_from other) (changed ∙ ap (λ f. update bytes_eq (get_by_text c.args.spellings.now) f (Some c.with_spelling-spelling.result) (folded other)) c.in_ok-fold.ensures)
    ∙ after_note (get_by_text c.args.spellings.now) c.args.key.now other c.with_spelling-spelling.result
    (c.with_spelling-spelling.ensures other ∙ ap (λ o. differs_from other o || not (bytes_eq c.args.key.now other)) found)
