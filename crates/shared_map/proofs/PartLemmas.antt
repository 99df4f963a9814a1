-- The rows of parts, when one part is taken from them or comes in the place of several.
use Rattle.std.proofs.Common.{Bor, ◌≡◌, ◌≤◌, ◌-◌, ℕ, suc, List, [], ◌∷◌, ◌++◌, length, take, drop, get_or, append_assoc, arith, Bool, true, false, cond, Option, Some, None, refl, sym, ap, ◌∙◌, subst}
use Rattle.std.proofs.Math.Seq.{take-length, take-suc}
use Rattle.std.specs.Prelude.{find}
use Rattle.std.specs.List.{AllByRecursion}
use Rattle.std.specs.Option.{is_some, option_copied, option_map, option_or}
use Rattle.std.specs.Str.{bytes_eq}
use Rattle.std.proofs.lemmas.Bool.{false≢true}
use Rattle.std.proofs.lemmas.List.{append-nil, take-append-drop}
use Rattle.std.proofs.lemmas.List.Folds.{find-append}
use Rattle.shared_map.specs.declared.rows.Row.{Row}
use Rattle.shared_map.specs.Rows.{AreByKey, HaveSameRows, is_of, value_of}
use Rattle.shared_map.specs.Parts.{AreParts, rows_of}

-- a list without its last item, and that item
pub last_apart : {X : Type 0} (xs : List X) (d : X) → 1 ≤ length xs → d ≡ get_or xs (length xs - 1) d → xs ≡ take (length xs - 1) xs ++ d ∷ []
last_apart xs d some is =
    let last : length xs ≡ suc (length xs - 1) = omega arith in
    sym (take-length xs) ∙ ap (λ n. take n xs) last ∙ take-suc xs (length xs - 1) d (omega arith) ∙ ap (λ x. take (length xs - 1) xs ++ x ∷ []) (sym is)

-- what a part has of a key is its value, and where it has none the older parts' value is
found_first : {X : Type 0} (r : Option (Bor X)) (here older : Option X) → is_some r ≡ true → option_copied r ≡ here → option_copied r ≡ option_or here older
found_first None here older some is = absurd (false≢true some)
found_first (Some x) here older some is = ap (λ o. option_or o older) is

found_later : {X : Type 0} (r : Option (Bor X)) (here older : Option X) → is_some r ≡ false → option_copied r ≡ here → older ≡ option_or here older
found_later None here older none is = ap (λ o. option_or o older) is
found_later (Some x) here older none is = absurd (false≢true (sym none))

module _ {V : Type 0} where
  all_parts : (P : List (Row V) → Type 0) (parts : List (List (Row V))) (part : List (Row V)) → AllByRecursion P (parts ++ part ∷ []) → AllByRecursion P parts × P part
  all_parts P [] part all = (tt, all.0)
  all_parts P (first ∷ parts) part all = let more = all_parts P parts part all.1 in ((all.0, more.0), more.1)

  rows_onto : (parts : List (List (Row V))) (part : List (Row V)) → rows_of (parts ++ part ∷ []) ≡ part ++ rows_of parts
  rows_onto [] part = sym (append-nil part)
  rows_onto (first ∷ parts) part = ap (λ rows. rows ++ first) (rows_onto parts part) ∙ append_assoc part (rows_of parts) first

  rows_apart : (parts others : List (List (Row V))) → rows_of (parts ++ others) ≡ rows_of others ++ rows_of parts
  rows_apart [] others = sym (append-nil (rows_of others))
  rows_apart (first ∷ parts) others = ap (λ rows. rows ++ first) (rows_apart parts others) ∙ append_assoc (rows_of others) (rows_of parts) first

  -- the value of a key's first row, where it stands among the first rows, or else among the others
  value_append : (key : List ℕ) (rows others : List (Row V)) → value_of key (rows ++ others) ≡ option_or (value_of key rows) (value_of key others)
  value_append key rows others = ap (option_map (λ (r : Row V). r.value)) (find-append (is_of key) rows others) ∙ either (find (is_of key) rows) where
    either : (o : Option (Row V)) → option_map (λ (r : Row V). r.value) (option_or o (find (is_of key) others)) ≡ option_or (option_map (λ (r : Row V). r.value) o) (value_of key others)
    either None = refl
    either (Some r) = refl

  module _ (parts : List (List (Row V))) (part : List (Row V)) (some : 1 ≤ length parts) (is : part ≡ get_or parts (length parts - 1) part) where
    abbrev older : List (List (Row V))
    older = take (length parts - 1) parts

    apart : parts ≡ older ++ part ∷ []
    apart = last_apart parts part some is

    -- the newest part, and those before it
    pub parts_apart : AreParts parts → AreParts older × AreByKey part
    parts_apart all = all_parts AreByKey older part (subst AreParts apart all)

    newest_first : rows_of parts ≡ part ++ rows_of older
    newest_first = ap rows_of apart ∙ rows_onto older part

    value_apart : (key : List ℕ) → value_of key (rows_of parts) ≡ option_or (value_of key part) (value_of key (rows_of older))
    value_apart key = ap (value_of key) newest_first ∙ value_append key part (rows_of older)

    -- the newest part is made one with newer rows
    pub merged_apart : (rows before whole : List (Row V)) → HaveSameRows rows (before ++ part) → HaveSameRows (before ++ rows_of parts) whole → HaveSameRows (rows ++ rows_of older) whole
    merged_apart rows before whole same goal key =
        find-append (is_of key) rows (rows_of older) ∙ ap (λ o. option_or o (find (is_of key) (rows_of older))) (same key)
        ∙ sym (find-append (is_of key) (before ++ part) (rows_of older))
        ∙ ap (find (is_of key)) (append_assoc before part (rows_of older) ∙ ap (λ l. before ++ l) (sym newest_first)) ∙ goal key

    -- a key's value stands in the newest part, or else in the others
    pub found_apart : (key : List ℕ) (r : Option (Bor V)) → is_some r ≡ true → option_copied r ≡ value_of key part → option_copied r ≡ value_of key (rows_of parts)
    found_apart key r some is = found_first r (value_of key part) (value_of key (rows_of older)) some is ∙ sym (value_apart key)

    pub left_apart : (key : List ℕ) (r : Option (Bor V)) → is_some r ≡ false → option_copied r ≡ value_of key part → value_of key (rows_of older) ≡ value_of key (rows_of parts)
    left_apart key r none is = found_later r (value_of key part) (value_of key (rows_of older)) none is ∙ sym (value_apart key)

  first_value : (key : List ℕ) (row : Row V) (rows : List (Row V)) → value_of key (row ∷ rows) ≡ cond (is_of key row) (Some row.value) (value_of key rows)
  first_value key row rows = by_test (is_of key row) where
    by_test : (b : Bool) → option_map (λ (r : Row V). r.value) (cond b (Some row) (find (is_of key) rows)) ≡ cond b (Some row.value) (value_of key rows)
    by_test true = refl
    by_test false = refl

  module _ (parts : List (List (Row V))) (kept : ℕ) (part : List (Row V)) where
    -- a part in the place of the newest ones
    abbrev replaced : List (List (Row V))
    replaced = take kept parts ++ part ∷ []

    -- that has a newer row and those of the parts that it replaces sets the value under the row's key
    pub value_set : (row : Row V) → HaveSameRows part (row ∷ rows_of (drop kept parts)) → (key : List ℕ)
        → value_of key (rows_of replaced) ≡ cond (bytes_eq row.key key) (Some row.value) (value_of key (rows_of parts))
    value_set row same key =
        ap (option_map (λ (r : Row V). r.value))
        (ap (find (is_of key)) (rows_onto (take kept parts) part)
        ∙ find-append (is_of key) part (rows_of (take kept parts)) ∙ ap (λ o. option_or o (find (is_of key) (rows_of (take kept parts)))) (same key)
        ∙ sym (find-append (is_of key) (row ∷ rows_of (drop kept parts)) (rows_of (take kept parts)))
        ∙ ap (λ rows. find (is_of key) (row ∷ rows)) (sym (rows_apart (take kept parts) (drop kept parts)) ∙ ap rows_of (take-append-drop kept parts)))
        ∙ first_value key row (rows_of parts)
