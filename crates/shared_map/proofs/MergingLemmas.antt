-- Rows of two lists by key, one after the other.
use Rattle.std.proofs.Common.{◌≡◌, ◌<◌, ◌+◌, ℕ, List, [], ◌∷◌, ◌++◌, length, append_assoc, arith, Bool, true, false, cond, Option, Some, None, refl, sym, ap, ◌∙◌, subst}
use Rattle.std.specs.Prelude.{find}
use Rattle.std.specs.List.{AllByRecursion}
use Rattle.std.specs.Option.{option_or}
use Rattle.std.specs.Ordering.{is_eq, match_ordering, ordering_reverse}
use Rattle.std.specs.Str.{bytes_eq}
use Rattle.std.specs.declared.cmp.Ordering.{Ordering}
use Rattle.std.specs.declared.cmp.Ordering.TheVariants.{Less, Equal, Greater}
use Rattle.std.proofs.lemmas.Cmp.{nat_list_cmp_total}
use Rattle.std.proofs.lemmas.List.Folds.{find-append}
use Rattle.std.proofs.lemmas.Map.Lookups.{exact_bytes}
use Rattle.std.proofs.lemmas.Map.Text.{is_eq-slice_cmp}
use Rattle.std.proofs.lemmas.Slice.Eq.{bytes_eq-Decides}
use Rattle.shared_map.specs.declared.rows.Row.{Row}
use Rattle.shared_map.specs.Rows.{AreByKey, HaveSameRows, is_of, key_cmp}
use Rattle.shared_map.specs.Merging.{AreMerging, next_row}

module _ {V : Type 0} where
  abbrev AllBehind : Row V → List (Row V) → Type 0
  AllBehind r rows = AllByRecursion (λ s. key_cmp r s ≡ Less) rows

  turned : (r s : Row V) (o : Ordering) → key_cmp r s ≡ o → key_cmp s r ≡ ordering_reverse o
  turned r s o e = nat_list_cmp_total.antisymm s.key r.key ∙ ap ordering_reverse e

  -- what stands before a row stands before all rows behind that
  further_behind : (r s : Row V) (rows : List (Row V)) → key_cmp r s ≡ Less → AllBehind s rows → AllBehind r rows
  further_behind r s [] less all = tt
  further_behind r s (x ∷ rows) less all = (nat_list_cmp_total.trans r.key s.key x.key less all.0, further_behind r s rows less all.1)

  -- what has the key of a row stands before all rows behind that
  alike_behind : (r s : Row V) (rows : List (Row V)) → key_cmp r s ≡ Equal → AllBehind r rows → AllBehind s rows
  alike_behind r s [] tie all = tt
  alike_behind r s (x ∷ rows) tie all = (sym (nat_list_cmp_total.congr r.key s.key x.key tie) ∙ all.0, alike_behind r s rows tie all.1)

  rest_by_key : (rows more : List (Row V)) → AreByKey (rows ++ more) → AreByKey more
  rest_by_key [] more order = order
  rest_by_key (r ∷ rows) more order = rest_by_key rows more order.1

  all_between : (P : Row V → Type 0) (rows others more : List (Row V)) (x : Row V) → AllByRecursion P (rows ++ x ∷ more) → AllByRecursion P (rows ++ others)
      → AllByRecursion P ((rows ++ x ∷ []) ++ others)
  all_between P [] others more x a b = (a.0, b)
  all_between P (r ∷ rows) others more x a b = (a.0, all_between P rows others more x a.1 b.1)

  order_between : (rows others more : List (Row V)) (x : Row V) → AreByKey (rows ++ x ∷ more) → AreByKey (rows ++ others) → AllBehind x others → AreByKey ((rows ++ x ∷ []) ++ others)
  order_between [] others more x a b behind = (behind, b)
  order_between (r ∷ rows) others more x a b behind = (all_between (λ s. key_cmp r s ≡ Less) rows others more x a.0 b.0, order_between rows others more x a.1 b.1 behind)

  order_taken : (rows more : List (Row V)) (x : Row V) → AreByKey (rows ++ x ∷ more) → AreByKey ((rows ++ x ∷ []) ++ more)
  order_taken rows more x order = subst AreByKey (sym (append_assoc rows (x ∷ []) more)) order

  -- a row in front leaves what stands behind it alone
  pub same_behind : (rows some others : List (Row V)) → HaveSameRows some others → HaveSameRows (rows ++ some) (rows ++ others)
  same_behind rows some others same key =
      find-append (is_of key) rows some ∙ ap (option_or (find (is_of key) rows)) (same key) ∙ sym (find-append (is_of key) rows others)

  not_both : (r s : Row V) (key : List ℕ) → key_cmp r s ≡ Less → is_of key r ≡ true → is_of key s ≡ true → ⊥
  not_both r s key less a b = distinct (sym (is_eq-slice_cmp r.key s.key) ∙ ap is_eq less) (ap (bytes_eq r.key) ((bytes_eq-Decides s.key key).0 b) ∙ a) where
    distinct : bytes_eq r.key s.key ≡ false → bytes_eq r.key s.key ≡ true → ⊥
    distinct f t = cc

  either_first : (a b : Bool) (x y : Row V) (rest : Option (Row V)) → (a ≡ true → b ≡ true → ⊥) → cond a (Some x) (cond b (Some y) rest) ≡ cond b (Some y) (cond a (Some x) rest)
  either_first true true x y rest apart = absurd (apart refl refl)
  either_first true false x y rest apart = refl
  either_first false true x y rest apart = refl
  either_first false false x y rest apart = refl

  -- a row before all others may as well stand in front
  moved_front : (new old : List (Row V)) (y : Row V) → AllBehind y new → HaveSameRows (new ++ y ∷ old) (y ∷ new ++ old)
  moved_front [] old y behind key = refl
  moved_front (z ∷ new) old y behind key =
      ap (λ o. cond (is_of key z) (Some z) o) (moved_front new old y behind.1 key)
      ∙ either_first (is_of key z) (is_of key y) z y (find (is_of key) (new ++ old)) (λ a b. not_both y z key behind.0 b a)

  -- of two rows of one key the first counts
  covered : (key : List ℕ) (x y : Row V) (new old : List (Row V)) → is_of key x ≡ is_of key y → find (is_of key) (x ∷ new ++ y ∷ old) ≡ find (is_of key) (x ∷ new ++ old)
  covered key x y new old same =
      ap (λ o. cond (is_of key x) (Some x) o) (find-append (is_of key) new (y ∷ old))
      ∙ ap (λ b. cond (is_of key x) (Some x) (option_or (find (is_of key) new) (cond b (Some y) (find (is_of key) old)))) (sym same)
      ∙ hidden (is_of key x) (find (is_of key) new) (find (is_of key) old)
      ∙ ap (λ o. cond (is_of key x) (Some x) o) (sym (find-append (is_of key) new old)) where
        hidden : (b : Bool) (found rest : Option (Row V)) → cond b (Some x) (option_or found (cond b (Some y) rest)) ≡ cond b (Some x) (option_or found rest)
        hidden true found rest = refl
        hidden false found rest = refl

  same_key : (r s : Row V) (key : List ℕ) → key_cmp r s ≡ Equal → is_of key s ≡ is_of key r
  same_key r s key tie = ap (λ k. bytes_eq k key) (sym (exact_bytes r.key s.key tie))

  module _ (rows whole : List (Row V)) where
    -- behind the rows so far
    behind_all : (some others : List (Row V)) → HaveSameRows (rows ++ some) whole → HaveSameRows some others → HaveSameRows (rows ++ others) whole
    behind_all some others whole_same same key = sym (same_behind rows some others same key) ∙ whole_same key

    one_more : (x : Row V) (some : List (Row V)) → HaveSameRows (rows ++ x ∷ some) whole → HaveSameRows ((rows ++ x ∷ []) ++ some) whole
    one_more x some same = subst (λ l. HaveSameRows l whole) (sym (append_assoc rows (x ∷ []) some)) same

    take_older : (o : Row V) (old new : List (Row V)) → AllBehind o new → AreMerging rows (o ∷ old) new whole → AreMerging (rows ++ o ∷ []) old new whole
    take_older o old new behind m = record {
      older_order = order_taken rows old o m.older_order;
      newer_order = order_between rows new old o m.older_order m.newer_order behind;
      same = one_more o (new ++ old) (behind_all (new ++ o ∷ old) (o ∷ new ++ old) m.same (moved_front new old o behind));
    }

    take_newer : (n : Row V) (old new : List (Row V)) → AllBehind n old → AreMerging rows old (n ∷ new) whole → AreMerging (rows ++ n ∷ []) old new whole
    take_newer n old new behind m = record {
      older_order = order_between rows old new n m.newer_order m.older_order behind;
      newer_order = order_taken rows new n m.newer_order;
      same = one_more n (new ++ old) m.same;
    }

    leave_older : (o n : Row V) (old new : List (Row V)) → key_cmp o n ≡ Equal → AreMerging rows (o ∷ old) (n ∷ new) whole → AreMerging (rows ++ n ∷ []) old new whole
    leave_older o n old new tie m = let rest : AreByKey (o ∷ old) = rest_by_key rows (o ∷ old) m.older_order in record {
      older_order = order_between rows old new n m.newer_order (without rows m.older_order) (alike_behind o n old tie rest.0);
      newer_order = order_taken rows new n m.newer_order;
      same = one_more n (new ++ old) (behind_all (n ∷ new ++ o ∷ old) (n ∷ new ++ old) m.same (λ key. covered key n o new old (same_key o n key tie)));
    } where
      all_without : (P : Row V → Type 0) (some : List (Row V)) → AllByRecursion P (some ++ o ∷ old) → AllByRecursion P (some ++ old)
      all_without P [] all = all.1
      all_without P (r ∷ some) all = (all.0, all_without P some all.1)

      without : (some : List (Row V)) → AreByKey (some ++ o ∷ old) → AreByKey (some ++ old)
      without [] order = order.1
      without (r ∷ some) order = (all_without (λ s. key_cmp r s ≡ Less) some order.0, without some order.1)

    -- a row that was taken, and what is left then
    abbrev Left : Type 0
    Left = Row V × List (Row V) × List (Row V)

    abbrev AreTaken : Option Left → Type 0
    AreTaken None = Unit {0}
    AreTaken (Some left) = AreMerging (rows ++ left.0 ∷ []) left.1 left.2 whole

    by_order : (o n : Row V) (old new : List (Row V)) → AreMerging rows (o ∷ old) (n ∷ new) whole → (way : Ordering) → key_cmp o n ≡ way
        → AreTaken (match_ordering way (Some (o, old, n ∷ new)) (Some (n, old, new)) (Some (n, o ∷ old, new)))
    by_order o n old new m Less e =
        let rest : AreByKey (n ∷ new) = rest_by_key rows (n ∷ new) m.newer_order in
        take_older o old (n ∷ new) (e, further_behind o n new e rest.0) m
    by_order o n old new m Equal e = leave_older o n old new e m
    by_order o n old new m Greater e =
        let rest : AreByKey (o ∷ old) = rest_by_key rows (o ∷ old) m.older_order in
        let first : key_cmp n o ≡ Less = turned o n Greater e in
        take_newer n (o ∷ old) new (first, further_behind n o old first rest.0) m

    each_taken : (old new : List (Row V)) → AreMerging rows old new whole → AreTaken (next_row old new)
    each_taken [] [] m = tt
    each_taken [] (n ∷ new) m = take_newer n [] new tt m
    each_taken (o ∷ old) [] m = take_older o old [] tt m
    each_taken (o ∷ old) (n ∷ new) m = by_order o n old new m (key_cmp o n) refl

    -- the next row is one more
    pub next_taken : (x : Row V) (old new old_left new_left : List (Row V)) → Some (x, old_left, new_left) ≡ next_row old new → AreMerging rows old new whole
        → AreMerging (rows ++ x ∷ []) old_left new_left whole
    next_taken x old new old_left new_left e m = subst AreTaken (sym e) (each_taken old new m)

  abbrev AreFewer : ℕ → Option (Row V × List (Row V) × List (Row V)) → Type 0
  AreFewer count None = Unit {0}
  AreFewer count (Some left) = length left.1 + length left.2 < count

  each_fewer : (old new : List (Row V)) → AreFewer (length old + length new) (next_row old new)
  each_fewer [] [] = tt
  each_fewer [] (n ∷ new) = omega arith
  each_fewer (o ∷ old) [] = omega arith
  each_fewer (o ∷ old) (n ∷ new) = by_order (key_cmp o n) where
    by_order : (way : Ordering) → AreFewer (length (o ∷ old) + length (n ∷ new)) (match_ordering way (Some (o, old, n ∷ new)) (Some (n, old, new)) (Some (n, o ∷ old, new)))
    by_order Less = omega arith
    by_order Equal = omega arith
    by_order Greater = omega arith

  -- and fewer rows are left
  pub next_fewer : (x : Row V) (old new old_left new_left : List (Row V)) → Some (x, old_left, new_left) ≡ next_row old new → length old_left + length new_left < length old + length new
  next_fewer x old new old_left new_left e = subst (AreFewer (length old + length new)) (sym e) (each_fewer old new)
