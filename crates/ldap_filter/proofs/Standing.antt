-- How many brackets stand open is what the machine's state says.
use Rattle.std.proofs.Common.{◌≡◌, refl, sym, ap, ◌∙◌, subst, ℕ, suc, ◌-◌, ◌<◌, ◌≤◌, eqb, ◌&&◌, ◌||◌, not, List, [], ◌∷◌, ◌++◌, Bool, true, false, cond, Some, None, length, arith}
use Rattle.std.specs.Bool.{OnTrue}
use Rattle.std.proofs.lemmas.Bool.{eqb-true, false≢true}
use Rattle.ldap_filter.specs.Trees.{Tree}
use Rattle.ldap_filter.specs.Spelling.{has_stars, is_attribute}
use Rattle.ldap_filter.specs.Places.{standing_after, standing}
use Rattle.ldap_filter.specs.Machine.{Frame, In_every, In_any, In_not, Mode, Wanted, Opened, Attribute, Operator, Valued, Escaped, After, State, closed, continued, step}
use Rattle.ldap_filter.specs.Reading.{opens}
use Rattle.ldap_filter.proofs.StepsBack.{on_test, on_byte}

-- whether a backslash was the last byte, and how many brackets stand open
abbrev pub Scan : Type 0
Scan = Bool × ℕ

abbrev pub after_byte : Bool → ℕ → ℕ → Scan
after_byte true n b = (false, n)
after_byte false n b = cond (eqb b 40) (false, suc n) (cond (eqb b 41) (false, n - 1) (eqb b 92, n))

abbrev pub after_bytes : Bool → ℕ → List ℕ → Scan
after_bytes e n [] = (e, n)
after_bytes e n (b ∷ bs) = after_bytes (after_byte e n b).0 (after_byte e n b).1 bs

standing_is_after : (bs : List ℕ) (e : Bool) (n : ℕ) → standing_after e n bs ≡ (after_bytes e n bs).1
standing_is_after [] e n = refl
standing_is_after (b ∷ bs) true n = standing_is_after bs false n
standing_is_after (b ∷ bs) false n = by_tests (eqb b 40) (eqb b 41) (eqb b 92) (standing_is_after bs) where
  by_tests : (x y z : Bool) → ((e : Bool) (n : ℕ) → standing_after e n bs ≡ (after_bytes e n bs).1)
      → cond x (standing_after false (suc n) bs) (cond y (standing_after false (n - 1) bs) (standing_after z n bs)) ≡ (let s : Scan = cond {A = Scan} x (false, suc n) (cond {A = Scan} y (false, n - 1) (z, n)) in after_bytes s.0 s.1 bs).1
  by_tests true y z rest = rest false (suc n)
  by_tests false true z rest = rest false (n - 1)
  by_tests false false z rest = rest z n

pub standing_is : (bs : List ℕ) → standing bs ≡ (after_bytes false 0 bs).1
standing_is bs = standing_is_after bs false 0

pub after_snoc : (xs : List ℕ) (e : Bool) (n b : ℕ) → after_bytes e n (xs ++ b ∷ []) ≡ after_byte (after_bytes e n xs).0 (after_bytes e n xs).1 b
after_snoc [] e n b = refl
after_snoc (x ∷ xs) e n b = after_snoc xs (after_byte e n x).0 (after_byte e n x).1 b

-- what is counted is what the state has
abbrev pub Agrees : List Frame → Mode → Bool → ℕ → Type 0
Agrees frames Wanted e n = (e ≡ false) × (n ≡ length frames)
Agrees frames Opened e n = (e ≡ false) × (n ≡ suc (length frames))
Agrees frames (Attribute name blanks) e n = n ≡ suc (length frames)
Agrees frames (Operator c name) e n = (e ≡ false) × (n ≡ suc (length frames))
Agrees frames (Valued c name parts part) e n = (e ≡ false) × (n ≡ suc (length frames))
Agrees frames (Escaped c name parts part) e n = (e ≡ true) × (n ≡ suc (length frames))
Agrees frames (After tree) e n = (e ≡ false) × (n ≡ length frames)

abbrev pub AgreesWith : State → Scan → Type 0
AgreesWith s scan = Agrees s.0 s.1 scan.0 scan.1

some_agrees : (v u : State) (scan : Scan) → AgreesWith v scan → Some v ≡ Some u → AgreesWith u scan
some_agrees v u scan a e = subst (λ w. AgreesWith w scan) (let k : v ≡ u = cc in k) a

no_agrees : (u : State) (scan : Scan) → None ≡ Some u → AgreesWith u scan
no_agrees u scan e = absurd (let k : ⊥ = cc in k)

at : (u : State) (n b k : ℕ) → b ≡ k → AgreesWith u (after_byte false n k) → AgreesWith u (after_byte false n b)
at u n b k e = subst (λ c. AgreesWith u (after_byte false n c)) (sym e)

plain_byte : (n b : ℕ) → eqb b 40 ≡ false → eqb b 41 ≡ false → after_byte false n b ≡ (eqb b 92, n)
plain_byte n b x y = ap (λ v. cond v (false, suc n) (cond (eqb b 41) (false, n - 1) (eqb b 92, n))) x ∙ ap (λ v. cond v (false, n - 1) (eqb b 92, n)) y

brackets_off : (b : ℕ) → is_attribute b ≡ true → (eqb b 40 ≡ false) × (eqb b 41 ≡ false)
brackets_off b h = by_tests (((eqb b 61 || eqb b 62) || eqb b 60) || eqb b 126) (eqb b 40) (eqb b 41) h where
  by_tests : (x y z : Bool) → not ((x || y) || z) ≡ true → (y ≡ false) × (z ≡ false)
  by_tests true y z e = absurd (false≢true e)
  by_tests false true z e = absurd (false≢true e)
  by_tests false false true e = absurd (false≢true e)
  by_tests false false false e = (refl, refl)

attribute_agrees : (frames : List Frame) (name blanks : List ℕ) (n b : ℕ) → is_attribute b ≡ true → n ≡ suc (length frames) → AgreesWith (frames, Attribute name blanks) (after_byte false n b)
attribute_agrees frames name blanks n b is a = let off = brackets_off b is in ap (λ (s : Scan). s.1) (plain_byte n b off.0 off.1) ∙ a

closed_agrees : (frames : List Frame) (tree : Tree) (u : State) (n : ℕ) → n ≡ length frames → closed frames tree ≡ Some u → AgreesWith u (false, n - 1)
closed_agrees [] tree u n a e = no_agrees u (false, n - 1) e
closed_agrees (In_every done ∷ frames) tree u n a e = some_agrees _ u (false, n - 1) (refl, omega arith) e
closed_agrees (In_any done ∷ frames) tree u n a e = some_agrees _ u (false, n - 1) (refl, omega arith) e
closed_agrees (In_not ∷ frames) tree u n a e = some_agrees _ u (false, n - 1) (refl, omega arith) e

continued_agrees : (frames : List Frame) (tree : Tree) (u : State) (n : ℕ) → n ≡ length frames → continued frames tree ≡ Some u → AgreesWith u (false, suc n)
continued_agrees [] tree u n a e = no_agrees u (false, suc n) e
continued_agrees (In_every done ∷ frames) tree u n a e = some_agrees _ u (false, suc n) (refl, ap suc a) e
continued_agrees (In_any done ∷ frames) tree u n a e = some_agrees _ u (false, suc n) (refl, ap suc a) e
continued_agrees (In_not ∷ frames) tree u n a e = no_agrees u (false, suc n) e

-- a step that begins where no backslash was last
plain_agrees : (frames : List Frame) (mode : Mode) (n b : ℕ) (u : State) → Agrees frames mode false n → step frames mode b ≡ Some u → AgreesWith u (after_byte false n b)
plain_agrees frames Wanted n b u a e =
    on_byte b 32 _ _ _ e (λ k f. at u n b 32 k (some_agrees _ u (false, n) a f)) (λ _ e2. on_byte b 40 _ _ _ e2 (λ k f. at u n b 40 k (some_agrees _ u (false, suc n) (refl, ap suc a.1) f)) (λ _ f. no_agrees u (after_byte false n b) f))
plain_agrees frames Opened n b u a e =
    on_byte b 32 _ _ _ e (λ k f. at u n b 32 k (some_agrees _ u (false, n) a f)) (λ _ e2. on_byte b 38 _ _ _ e2 (λ k f. at u n b 38 k (some_agrees _ u (false, n) (refl, a.1) f))
    (λ _ e3. on_byte b 124 _ _ _ e3 (λ k f. at u n b 124 k (some_agrees _ u (false, n) (refl, a.1) f)) (λ _ e4. on_byte b 33 _ _ _ e4 (λ k f. at u n b 33 k (some_agrees _ u (false, n) (refl, a.1) f))
    (λ _ e5. on_test (is_attribute b) _ _ _ e5 (λ is f. some_agrees _ u (after_byte false n b) (attribute_agrees frames (b ∷ []) [] n b is a.1) f) (λ _ f. no_agrees u (after_byte false n b) f)))))
plain_agrees frames (Attribute name blanks) n b u a e =
    on_byte b 32 _ _ _ e (λ k f. at u n b 32 k (some_agrees _ u (false, n) a f)) (λ _ e2. on_byte b 61 _ _ _ e2 (λ k f. at u n b 61 k (some_agrees _ u (false, n) (refl, a) f))
    (λ _ e3. on_byte b 126 _ _ _ e3 (λ k f. at u n b 126 k (some_agrees _ u (false, n) (refl, a) f)) (λ _ e4. on_byte b 62 _ _ _ e4 (λ k f. at u n b 62 k (some_agrees _ u (false, n) (refl, a) f))
    (λ _ e5. on_byte b 60 _ _ _ e5 (λ k f. at u n b 60 k (some_agrees _ u (false, n) (refl, a) f))
    (λ _ e6. on_test (is_attribute b) _ _ _ e6 (λ is f. some_agrees _ u (after_byte false n b) (attribute_agrees frames (name ++ (blanks ++ b ∷ [])) [] n b is a) f) (λ _ f. no_agrees u (after_byte false n b) f))))))
plain_agrees frames (Operator c name) n b u a e = on_byte b 61 _ _ _ e (λ k f. at u n b 61 k (some_agrees _ u (false, n) a f)) (λ _ f. no_agrees u (after_byte false n b) f)
plain_agrees frames (Valued c name parts part) n b u a e =
    on_byte b 41 _ _ _ e (λ k f. at u n b 41 k (some_agrees _ u (false, n - 1) (refl, omega (arith, a.1)) f)) (λ n1 e2. on_byte b 92 _ _ _ e2 (λ k f. at u n b 92 k (some_agrees _ u (true, n) (refl, a.1) f))
    (λ n2 e3. on_test (eqb b 42 && has_stars c) _ _ _ e3 (λ v f. starred n1 n2 f (both_true (eqb b 42) (has_stars c) v)) (λ _ e4. on_byte b 40 _ _ _ e4 (λ _ f. no_agrees u (after_byte false n b) f)
    (λ n4 f. some_agrees _ u (after_byte false n b) (subst (λ s. AgreesWith (frames, Valued c name parts (part ++ b ∷ [])) s) (sym (plain_byte n b n4 n1 ∙ ap (λ v. (v, n)) n2)) (refl, a.1)) f)))) where
      both_true : (x y : Bool) → (x && y) ≡ true → x ≡ true
      both_true true y e = refl
      both_true false y e = absurd (false≢true e)

      starred : eqb b 41 ≡ false → eqb b 92 ≡ false → Some (frames, Valued c name (parts ++ part ∷ []) []) ≡ Some u → eqb b 42 ≡ true → AgreesWith u (after_byte false n b)
      starred n1 n2 f h = at u n b 42 (eqb-true b 42 h) (some_agrees _ u (false, n) (refl, a.1) f)
plain_agrees frames (Escaped c name parts part) n b u a e = absurd (false≢true a.0)
plain_agrees frames (After tree) n b u a e =
    on_byte b 32 _ _ _ e (λ k f. at u n b 32 k (some_agrees _ u (false, n) a f)) (λ _ e2. on_byte b 41 _ _ _ e2 (λ k f. at u n b 41 k (closed_agrees frames tree u n a.1 f))
    (λ _ e3. on_byte b 40 _ _ _ e3 (λ k f. at u n b 40 k (continued_agrees frames tree u n a.1 f)) (λ _ f. no_agrees u (after_byte false n b) f)))

-- a step that begins behind a backslash
escaped_agrees : (frames : List Frame) (mode : Mode) (n b : ℕ) (u : State) → Agrees frames mode true n → step frames mode b ≡ Some u → AgreesWith u (false, n)
escaped_agrees frames Wanted n b u a e = absurd (false≢true (sym a.0))
escaped_agrees frames Opened n b u a e = absurd (false≢true (sym a.0))
escaped_agrees frames (Attribute name blanks) n b u a e =
    on_byte b 32 _ _ _ e (λ k f. some_agrees _ u (false, n) a f) (λ _ e2. on_byte b 61 _ _ _ e2 (λ k f. some_agrees _ u (false, n) (refl, a) f)
    (λ _ e3. on_byte b 126 _ _ _ e3 (λ k f. some_agrees _ u (false, n) (refl, a) f) (λ _ e4. on_byte b 62 _ _ _ e4 (λ k f. some_agrees _ u (false, n) (refl, a) f)
    (λ _ e5. on_byte b 60 _ _ _ e5 (λ k f. some_agrees _ u (false, n) (refl, a) f)
    (λ _ e6. on_test (is_attribute b) _ _ _ e6 (λ is f. some_agrees _ u (false, n) a f) (λ _ f. no_agrees u (false, n) f))))))
escaped_agrees frames (Operator c name) n b u a e = absurd (false≢true (sym a.0))
escaped_agrees frames (Valued c name parts part) n b u a e = absurd (false≢true (sym a.0))
escaped_agrees frames (Escaped c name parts part) n b u a e = some_agrees _ u (false, n) (refl, a.1) e
escaped_agrees frames (After tree) n b u a e = absurd (false≢true (sym a.0))

pub step_agrees : (frames : List Frame) (mode : Mode) (e : Bool) (n b : ℕ) (u : State) → Agrees frames mode e n → step frames mode b ≡ Some u → AgreesWith u (after_byte e n b)
step_agrees frames mode true n b u a h = escaped_agrees frames mode n b u a h
step_agrees frames mode false n b u a h = plain_agrees frames mode n b u a h

-- no bracket opens a filter where 64 stand open
no_more_than : (n b : ℕ) → n ≤ 64 → (eqb b 40 ≡ true → n < 64) → (after_byte false n b).1 ≤ 64
no_more_than n b h k = by_tests (eqb b 40) (eqb b 41) (eqb b 92) k where
  by_tests : (x y z : Bool) → (x ≡ true → n < 64) → (cond {A = Scan} x (false, suc n) (cond {A = Scan} y (false, n - 1) (z, n))).1 ≤ 64
  by_tests true y z k = let l : n < 64 = k refl in omega arith
  by_tests false true z k = omega arith
  by_tests false false z k = h

on_true : (b : Bool) (P : Type 0) → OnTrue b P → b ≡ true → P
on_true true P h e = h
on_true false P h e = absurd (false≢true e)

never : (frames : List Frame) (mode : Mode) (b k : ℕ) (u : State) → step frames mode k ≡ None → b ≡ k → step frames mode b ≡ Some u → ⊥
never frames mode b k u none is e = let f : step frames mode k ≡ Some u = subst (λ c. step frames mode c ≡ Some u) is e in let g : None ≡ Some u = sym none ∙ f in let h : ⊥ = cc in h

pub step_within : (frames : List Frame) (mode : Mode) (e : Bool) (n b : ℕ) (u : State) → Agrees frames mode e n → n ≤ 64 → step frames mode b ≡ Some u → OnTrue (opens mode b) (length frames < 64) → (after_byte e n b).1 ≤ 64
step_within frames mode true n b u a h s o = h
step_within frames Wanted false n b u a h s o = no_more_than n b h (λ k. let l : length frames < 64 = on_true (eqb b 40) (length frames < 64) o k in omega (arith, a.1))
step_within frames Opened false n b u a h s o = no_more_than n b h (λ k. absurd (never frames Opened b 40 u refl (eqb-true b 40 k) s))
step_within frames (Attribute name blanks) false n b u a h s o = no_more_than n b h (λ k. absurd (never frames (Attribute name blanks) b 40 u refl (eqb-true b 40 k) s))
step_within frames (Operator c name) false n b u a h s o = no_more_than n b h (λ k. absurd (never frames (Operator c name) b 40 u refl (eqb-true b 40 k) s))
step_within frames (Valued c name parts part) false n b u a h s o = no_more_than n b h (λ k. absurd (never frames (Valued c name parts part) b 40 u refl (eqb-true b 40 k) s))
step_within frames (Escaped c name parts part) false n b u a h s o = absurd (false≢true a.0)
step_within frames (After tree) false n b u a h s o = no_more_than n b h (λ k. let l : length frames < 64 = on_true (eqb b 40) (length frames < 64) o k in omega (arith, a.1))
