-- What a text is read as: its tree, or where it ceases to be a filter. There is one such answer, and the machine finds it.
use Rattle.std.proofs.Common.{◌≡◌, refl, sym, ap, ◌∙◌, subst, ℕ, zero, suc, ◌+◌, ◌<◌, ◌≤◌, List, [], ◌∷◌, ◌++◌, Bool, true, false, cond, Option, Some, None, length, take, arith, inl, inr, ◌&&◌}
use Rattle.std.specs.Prelude.{is_some, nat_le, option_map, slice_get, encode_utf8, Result, Ok, Err}
use Rattle.std.specs.Bool.{OnTrue}
use Rattle.std.proofs.lemmas.Bool.{cases_lt, lt-ltb, leb-true, leb-false}
use Rattle.std.proofs.lemmas.List.{take-take}
use Rattle.std.proofs.lemmas.Str.{encode_ascii}
use Rattle.ldap_filter.specs.declared.filter_fault.FilterFault.{FilterFault}
use Rattle.ldap_filter.specs.declared.filter_fault.FilterFault.TheVariants.{BadFilter, TooDeep, OutOfMemory}
use Rattle.ldap_filter.specs.Trees.{Tree}
use Rattle.ldap_filter.specs.Places.{IsBadAt, IsTooDeepAt, IsWithin, standing}
use Rattle.ldap_filter.specs.Parsing.{IsTreeOf, Parses}
use Rattle.ldap_filter.specs.Machine.{Frame, Mode, State, Wanted, accepted, step}
use Rattle.ldap_filter.specs.Reading.{opens, read_char, wide}
use Rattle.ldap_filter.specs.Texts.{IsNoFilterAt, IsReadingOf, Tells, go_on, read_from, reading, tree_or_place}
use Rattle.ldap_filter.proofs.SoFar.{SoFar, bad_byte, bad_end, opens_bracket, so_far_byte, so_far_start, too_deep, tree_read}

inside : (text : List ℕ) (at : ℕ) → slice_get text at ≡ Some 40 → at < length text
inside [] at is = cc
inside (b ∷ bs) zero is = omega arith
inside (b ∷ bs) (suc at) is = let h = inside bs at is in omega arith

-- a front of a front of 64 levels has no more
not_above : (text : List ℕ) (low high : ℕ) → low < high → IsWithin 64 (take high text) → standing (take (low + 1) text) ≡ 65 → ⊥
not_above text low high below within above =
    let few : standing (take (low + 1) (take high text)) ≤ 64 = within (low + 1) in
    let same : take (low + 1) (take high text) ≡ take (low + 1) text = take-take (low + 1) high text (omega arith) in
    let l : standing (take (low + 1) text) ≤ 64 = subst (λ xs. standing xs ≤ 64) same few in
    omega arith

bad_bad : (text : List ℕ) (a b : ℕ) (e f : Bool) → IsBadAt text a e → IsBadAt text b f → a ≡ b
bad_bad text a b e f p q = elim (cases_lt a b) [
  | inl less ↦ absurd (p.longest b less q.inside q.front)
  | inr more ↦ elim (cases_lt b a) [ inl less ↦ absurd (q.longest a less p.inside p.front) | inr other ↦ omega arith ]
]

deep_deep : (text : List ℕ) (a b : ℕ) → IsTooDeepAt text a → IsTooDeepAt text b → a ≡ b
deep_deep text a b p q = elim (cases_lt a b) [
  | inl less ↦ absurd (not_above text a b less q.within p.above)
  | inr more ↦ elim (cases_lt b a) [ inl less ↦ absurd (not_above text b a less p.within q.above) | inr other ↦ omega arith ]
]

-- a text that is too deep goes on to a place behind
bad_deep : (text : List ℕ) (a b : ℕ) (e : Bool) → IsBadAt text a e → IsTooDeepAt text b → ⊥
bad_deep text a b e p q =
    let within : b < length text = inside text b q.bracket in
    elim (cases_lt b a) [
      | inl less ↦ not_above text b a less p.within q.above
      | inr more ↦ p.longest (b + 1) (omega arith) (omega arith) q.front
    ]

tree_place : (text : List ℕ) (tree : Tree) (at : ℕ) → IsTreeOf text tree → IsNoFilterAt text at → ⊥
tree_place text tree at p (inl (ended, q)) = q.none tree p.spells
tree_place text tree at p (inr q) =
    let l : standing (take (at + 1) text) ≤ 64 = p.within (at + 1) in
    let above : standing (take (at + 1) text) ≡ 65 = q.above in
    absurd (omega arith)

one_place : (text : List ℕ) (a b : ℕ) → IsNoFilterAt text a → IsNoFilterAt text b → a ≡ b
one_place text a b (inl (e, p)) (inl (f, q)) = bad_bad text a b e f p q
one_place text a b (inl (e, p)) (inr q) = absurd (bad_deep text a b e p q)
one_place text a b (inr p) (inl (f, q)) = absurd (bad_deep text b a f q p)
one_place text a b (inr p) (inr q) = deep_deep text a b p q

-- a text is read in one way
pub one_reading : (text : List ℕ) (a b : Result Tree ℕ) → IsReadingOf text a → IsReadingOf text b → a ≡ b
one_reading text (Ok tree) (Ok other) p q = ap Ok (q.only tree p.spells)
one_reading text (Ok tree) (Err at) p q = absurd (tree_place text tree at p q)
one_reading text (Err at) (Ok tree) p q = absurd (tree_place text tree at q p)
one_reading text (Err a) (Err b) p q = ap Err (one_place text a b p q)

-- what the machine says from a place on, to which the text was read
found : (text rest : List ℕ) (at : ℕ) (frames : List Frame) (mode : Mode) → SoFar text rest at frames mode → IsReadingOf text (read_from at (frames, mode) rest)
found text [] at frames mode h = at_end (accepted frames mode) refl where
  at_end : (o : Option Tree) → accepted frames mode ≡ o → IsReadingOf text (tree_or_place at o)
  at_end None e = inl (true, bad_end text at frames mode h e)
  at_end (Some tree) e = tree_read text [] at frames mode tree h refl e
found text (b ∷ rest) at frames mode h = by_bracket (opens mode b) refl (nat_le 64 (length frames)) refl (step frames mode b) refl (λ s. found text rest (at + 1) s.0 s.1) where
  by_bracket : (o : Bool) → opens mode b ≡ o → (d : Bool) → nat_le 64 (length frames) ≡ d → (n : Option State) → step frames mode b ≡ n → ((s : State) → SoFar text rest (at + 1) s.0 s.1 → IsReadingOf text (read_from (at + 1) s rest)) → IsReadingOf text (go_on at (λ t. read_from (at + 1) t rest) (cond (o && d) None n))
  by_bracket true e true f None g on = inl (false, bad_byte text b rest at frames mode h g)
  by_bracket true e true f (Some s) g on =
      let bracket : b ≡ 40 = opens_bracket mode b e in
      let one : b ∷ rest ≡ encode_utf8 b ++ rest = ap (λ xs. xs ++ rest) (sym (encode_ascii b (omega arith))) in
      let goes : is_some (read_char frames mode b) ≡ true = ap (λ v. is_some (cond v (step frames mode b) (option_map (λ (m : Mode). (frames, m)) (wide mode (encode_utf8 b))))) (lt-ltb b 128 (omega arith)) ∙ ap is_some g in
      inr (too_deep text (b ∷ rest) rest at b frames mode h one e (leb-true 64 (length frames) f) goes)
  by_bracket true e false f None g on = inl (false, bad_byte text b rest at frames mode h g)
  by_bracket true e false f (Some s) g on = on s (so_far_byte text b rest at frames mode s h g (subst (λ v. OnTrue v (length frames < 64)) (sym e) (leb-false 64 (length frames) f)))
  by_bracket false e true f None g on = inl (false, bad_byte text b rest at frames mode h g)
  by_bracket false e false f None g on = inl (false, bad_byte text b rest at frames mode h g)
  by_bracket false e true f (Some s) g on = on s (so_far_byte text b rest at frames mode s h g (subst (λ v. OnTrue v (length frames < 64)) (sym e) tt))
  by_bracket false e false f (Some s) g on = on s (so_far_byte text b rest at frames mode s h g (subst (λ v. OnTrue v (length frames < 64)) (sym e) tt))

-- what the machine reads is what is to be read
pub reading_is : (text : List ℕ) → IsReadingOf text (reading text)
reading_is text = found text text 0 [] Wanted (so_far_start text)

pub reading_only : (text : List ℕ) (other : Result Tree ℕ) → IsReadingOf text other → other ≡ reading text
reading_only text other h = one_reading text other (reading text) h (reading_is text)

pub told : (text : List ℕ) (answer : Result Tree FilterFault) → Parses text answer → Tells answer (reading text)
told text (Ok tree) h = sym (reading_only text (Ok tree) h)
told text (Err (BadFilter at ended)) h = sym (reading_only text (Err at) (inl (ended, h)))
told text (Err (TooDeep at)) h = sym (reading_only text (Err at) (inr h))
told text (Err OutOfMemory) h = tt
