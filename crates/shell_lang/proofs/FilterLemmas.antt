-- What the text of a filter says is what the reading of filters tells.
use Rattle.std.proofs.Common.{◌≡◌, refl, sym, ap, ◌∙◌, subst, ℕ, zero, suc, ◌+◌, ◌<◌, List, [], ◌∷◌, ◌++◌, Bool, true, false, cond, Option, Some, None, length, arith, inl, inr, ◌&&◌}
use Rattle.std.specs.Prelude.{◌==◌, is_some, nat_le, option_map, slice_get, encode_utf8, Result, Ok, Err}
use Rattle.std.specs.Bool.{OnTrue}
use Rattle.std.proofs.lemmas.Bool.{lt-ltb, leb-true, leb-false}
use Rattle.std.proofs.lemmas.Str.{encode_ascii}
use Rattle.ldap_filter.specs.declared.filter_fault.FilterFault.{FilterFault}
use Rattle.ldap_filter.specs.declared.filter_fault.FilterFault.TheVariants.{BadFilter, TooDeep, OutOfMemory}
use Rattle.ldap_filter.specs.Trees.{Tree}
use Rattle.ldap_filter.specs.Places.{IsBadAt, IsTooDeepAt}
use Rattle.ldap_filter.specs.Parsing.{IsTreeOf, Parses}
use Rattle.ldap_filter.specs.Machine.{Frame, Mode, State, Wanted, accepted, step}
use Rattle.ldap_filter.specs.Reading.{opens, read_char, wide}
use Rattle.ldap_filter.proofs.SoFar.{SoFar, bad_byte, bad_end, opens_bracket, so_far_byte, so_far_start, too_deep, tree_read}
use Rattle.ldap_filter.proofs.Texts.{one_reading}
use Rattle.prop_map.specs.Words.{after}
use Rattle.component_dto.specs.Fields.{or_fault}
use Rattle.shell_lang.specs.FilterTexts.{filter_from, filter_read, goes_on}
use Rattle.shell_lang.specs.Arguments.{filter_argument, filter_fault, in_line}
use Rattle.shell_lang.specs.LineFaults.{Reads}

-- a text is read so, and memory isn't wanting
abbrev Says : List ℕ → Result Tree FilterFault → Type 0
Says text (Ok tree) = IsTreeOf text tree
Says text (Err (BadFilter at ended)) = IsBadAt text at ended
Says text (Err (TooDeep at)) = IsTooDeepAt text at
Says text (Err OutOfMemory) = ⊥

found : (text rest : List ℕ) (at : ℕ) (frames : List Frame) (mode : Mode) → SoFar text rest at frames mode → Says text (filter_from at (frames, mode) rest)
found text [] at frames mode h = at_end (accepted frames mode) refl where
  at_end : (o : Option Tree) → accepted frames mode ≡ o → Says text (or_fault (BadFilter at true) o)
  at_end None e = bad_end text at frames mode h e
  at_end (Some tree) e = tree_read text [] at frames mode tree h refl e
found text (b ∷ rest) at frames mode h = by_bracket (opens mode b) refl (nat_le 64 (length frames)) refl (step frames mode b) refl (λ s. found text rest (at + 1) s.0 s.1) where
  by_bracket : (o : Bool) → opens mode b ≡ o → (d : Bool) → nat_le 64 (length frames) ≡ d → (n : Option State) → step frames mode b ≡ n → ((s : State) → SoFar text rest (at + 1) s.0 s.1 → Says text (filter_from (at + 1) s rest)) → Says text (after (goes_on at (o && d) n) (λ t. filter_from (at + 1) t rest))
  by_bracket true e true f None g on = bad_byte text b rest at frames mode h g
  by_bracket true e true f (Some s) g on =
      let bracket : b ≡ 40 = opens_bracket mode b e in
      let one : b ∷ rest ≡ encode_utf8 b ++ rest = ap (λ xs. xs ++ rest) (sym (encode_ascii b (omega arith))) in
      let goes : is_some (read_char frames mode b) ≡ true = ap (λ v. is_some (cond v (step frames mode b) (option_map (λ (m : Mode). (frames, m)) (wide mode (encode_utf8 b))))) (lt-ltb b 128 (omega arith)) ∙ ap is_some g in
      too_deep text (b ∷ rest) rest at b frames mode h one e (leb-true 64 (length frames) f) goes
  by_bracket true e false f None g on = bad_byte text b rest at frames mode h g
  by_bracket true e false f (Some s) g on = on s (so_far_byte text b rest at frames mode s h g (subst (λ v. OnTrue v (length frames < 64)) (sym e) (leb-false 64 (length frames) f)))
  by_bracket false e true f None g on = bad_byte text b rest at frames mode h g
  by_bracket false e false f None g on = bad_byte text b rest at frames mode h g
  by_bracket false e true f (Some s) g on = on s (so_far_byte text b rest at frames mode s h g (subst (λ v. OnTrue v (length frames < 64)) (sym e) tt))
  by_bracket false e false f (Some s) g on = on s (so_far_byte text b rest at frames mode s h g (subst (λ v. OnTrue v (length frames < 64)) (sym e) tt))

says_read : (text : List ℕ) → Says text (filter_read text)
says_read text = found text text 0 [] Wanted (so_far_start text)

inside : (text : List ℕ) (at : ℕ) → slice_get text at ≡ Some 40 → at < length text
inside [] at is = cc
inside (b ∷ bs) zero is = omega arith
inside (b ∷ bs) (suc at) is = let h = inside bs at is in omega arith

abbrev no_tree : ℕ → Result Tree ℕ
no_tree at = Err at

same_place : (a b : ℕ) → no_tree a ≡ no_tree b → a ≡ b
same_place a b is = cc

bad_bad : (text : List ℕ) (a b : ℕ) (e f : Bool) → IsBadAt text a e → IsBadAt text b f → BadFilter a e ≡ BadFilter b f
bad_bad text a b e f p q =
    let at : a ≡ b = same_place a b (one_reading text (Err a) (Err b) (inl (e, p)) (inl (f, q))) in
    let ended : e ≡ f = p.whole ∙ ap (λ n. n == length text) at ∙ sym q.whole in
    cc

-- a text that is too deep at a place goes on there
bad_deep : (text : List ℕ) (a b : ℕ) (e : Bool) → IsBadAt text a e → IsTooDeepAt text b → ⊥
bad_deep text a b e p q =
    let at : a ≡ b = same_place a b (one_reading text (Err a) (Err b) (inl (e, p)) (inr q)) in
    let within : b < length text = inside text b q.bracket in
    p.longest (b + 1) (omega arith) (omega arith) q.front

-- a text is read in one way
one_answer : (text : List ℕ) (a b : Result Tree FilterFault) → Says text a → Says text b → a ≡ b
one_answer text (Ok tree) (Ok other) p q = ap Ok (q.only tree p.spells)
one_answer text (Ok tree) (Err (BadFilter at ended)) p q = let no = one_reading text (Ok tree) (Err at) p (inl (ended, q)) in absurd cc
one_answer text (Ok tree) (Err (TooDeep at)) p q = let no = one_reading text (Ok tree) (Err at) p (inr q) in absurd cc
one_answer text (Err (BadFilter at ended)) (Ok tree) p q = let no = one_reading text (Err at) (Ok tree) (inl (ended, p)) q in absurd cc
one_answer text (Err (BadFilter at ended)) (Err (BadFilter other end)) p q = ap Err (bad_bad text at other ended end p q)
one_answer text (Err (BadFilter at ended)) (Err (TooDeep other)) p q = absurd (bad_deep text at other ended p q)
one_answer text (Err (TooDeep at)) (Ok tree) p q = let no = one_reading text (Err at) (Ok tree) (inr p) q in absurd cc
one_answer text (Err (TooDeep at)) (Err (BadFilter other end)) p q = absurd (bad_deep text other at end q p)
one_answer text (Err (TooDeep at)) (Err (TooDeep other)) p q = ap (λ n. Err (TooDeep n)) (same_place at other (one_reading text (Err at) (Err other) (inr p) (inr q)))
one_answer text (Err OutOfMemory) b p q = absurd p
one_answer text (Ok tree) (Err OutOfMemory) p q = absurd q
one_answer text (Err (BadFilter at ended)) (Err OutOfMemory) p q = absurd q
one_answer text (Err (TooDeep at)) (Err OutOfMemory) p q = absurd q

pub filter_told : (text : List ℕ) (tree : Tree) → Parses text (Ok tree) → filter_argument text ≡ Ok tree
filter_told text tree h = ap in_line (one_answer text (filter_read text) (Ok tree) (says_read text) h)

pub fault_told : (text : List ℕ) (fault : FilterFault) → Parses text (Err fault) → Reads (filter_argument text) (Err (filter_fault fault))
fault_told text (BadFilter at ended) h some = ap in_line (one_answer text (filter_read text) (Err (BadFilter at ended)) (says_read text) h)
fault_told text (TooDeep at) h some = ap in_line (one_answer text (filter_read text) (Err (TooDeep at)) (says_read text) h)
fault_told text OutOfMemory h some = absurd (some refl)
