-- What a state goes on with after a byte, the state before goes on with from the byte on.
use Rattle.std.proofs.Common.{◌≡◌, refl, sym, ap, ◌∙◌, subst, ℕ, eqb, ◌&&◌, ◌||◌, not, List, [], ◌∷◌, ◌++◌, Bool, true, false, cond, Some, None, append_assoc, append-nil}
use Rattle.std.proofs.lemmas.Bool.{eqb-true, eq-eqb, false≢true}
use Rattle.ldap_filter.specs.declared.comparison.Comparison.{Comparison}
use Rattle.ldap_filter.specs.declared.comparison.Comparison.TheVariants.{Equal, Like, AtLeast, AtMost}
use Rattle.ldap_filter.specs.Trees.{Tree, Every, Any, Not, No_more, And_then, tree_with}
use Rattle.ldap_filter.specs.Spelling.{AreBlanks, sign, has_stars, is_plain, is_attribute, trim_front, trim_back, before_rest, is_name, nothing, itself, escaped, star, bracketed, every, any, negated, compares, no_more, and_then}
use Rattle.ldap_filter.specs.Machine.{Frame, In_every, In_any, In_not, Mode, Wanted, Opened, Attribute, Operator, Valued, Escaped, After, State, value_tree, on_wanted, on_opened, on_attribute, on_operator, on_valued, closed, continued, on_after, step}
use Rattle.ldap_filter.proofs.Continuations.{Behind, Continues, GoesOn, blanks_behind, joined_snoc, blank_before, blank_inside, blanks_after}

-- by the two ways that a test may go
pub on_test : {G X : Type 0} (v : Bool) (x y z : X) → cond v x y ≡ z → (v ≡ true → x ≡ z → G) → (v ≡ false → y ≡ z → G) → G
on_test true x y z e f g = f refl e
on_test false x y z e f g = g refl e

pub on_byte : {G X : Type 0} (b k : ℕ) (x y z : X) → cond (eqb b k) x y ≡ z → (b ≡ k → x ≡ z → G) → (eqb b k ≡ false → y ≡ z → G) → G
on_byte b k x y z e f g = on_test (eqb b k) x y z e (λ v. f (eqb-true b k v)) g

some_state : (u s : State) (rest : List ℕ) (t : Tree) → Some u ≡ Some s → GoesOn s rest t → GoesOn u rest t
some_state u s rest t e = subst (λ v. GoesOn v rest t) (let h : s ≡ u = cc in h)

no_state : {G : Type 0} (s : State) → None ≡ Some s → G
no_state s e = absurd (let h : ⊥ = cc in h)

at_byte : (frames : List Frame) (mode : Mode) (b k : ℕ) (rest : List ℕ) (t : Tree) → b ≡ k → Continues frames mode (k ∷ rest) t → Continues frames mode (b ∷ rest) t
at_byte frames mode b k rest t e = subst (λ c. Continues frames mode (c ∷ rest) t) (sym e)

back_wanted : (frames : List Frame) (b : ℕ) (s : State) (rest : List ℕ) (t : Tree) → on_wanted frames b ≡ Some s → GoesOn s rest t → Continues frames Wanted (b ∷ rest) t
back_wanted frames b s rest t e h =
    on_byte b 32 _ _ _ e (λ k f. at_byte frames Wanted b 32 rest t k (blank (some_state _ s rest t f h)))
    (λ _ e2. on_byte b 40 _ _ _ e2 (λ k f. at_byte frames Wanted b 40 rest t k (bracket (some_state _ s rest t f h))) (λ _ f. no_state s f)) where
      blank : Continues frames Wanted rest t → Continues frames Wanted (32 ∷ rest) t
      blank g = (32 ∷ g.0, g.1, g.2, ap (λ xs. 32 ∷ xs) g.3, blank_before g.0 g.2 g.4, g.5)

      bracket : Continues frames Opened rest t → Continues frames Wanted (40 ∷ rest) t
      bracket g = (40 ∷ (g.0 ++ 41 ∷ []), g.1, g.2, ap (λ xs. 40 ∷ xs) (g.3 ∙ sym (append_assoc g.0 (41 ∷ []) g.1)), bracketed (40 ∷ (g.0 ++ 41 ∷ [])) [] g.0 [] g.2 tt tt refl g.4, g.5)

-- a first character that isn't blank stays in front of a name
pub name_begins : (b : ℕ) (more : List ℕ) → eqb b 32 ≡ false → trim_back (b ∷ more) ≡ b ∷ trim_back more
name_begins b more other = by_rest (trim_back more) where
  by_rest : (rest : List ℕ) → before_rest b rest ≡ b ∷ rest
  by_rest [] = ap (λ v. cond v [] (b ∷ [])) other
  by_rest (c ∷ cs) = refl

pub front_stays : (b : ℕ) (more : List ℕ) → eqb b 32 ≡ false → trim_front (b ∷ more) ≡ b ∷ more
front_stays b more other = ap (λ v. cond v (trim_front more) (b ∷ more)) other

is_name_of : (b : ℕ) (bs : List ℕ) → eqb b 38 ≡ false → eqb b 124 ≡ false → eqb b 33 ≡ false → is_name (b ∷ bs) ≡ true
is_name_of b bs x y z = ap not (ap (λ v. (v || eqb b 124) || eqb b 33) x ∙ ap (λ v. v || eqb b 33) y ∙ z)

back_opened : (frames : List Frame) (b : ℕ) (s : State) (rest : List ℕ) (t : Tree) → on_opened frames b ≡ Some s → GoesOn s rest t → Continues frames Opened (b ∷ rest) t
back_opened frames b s rest t e h =
    on_byte b 32 _ _ _ e (λ k f. at_byte frames Opened b 32 rest t k (blank (some_state _ s rest t f h)))
    (λ n0 e2. on_byte b 38 _ _ _ e2 (λ k f. at_byte frames Opened b 38 rest t k (ampersand (some_state _ s rest t f h)))
    (λ n1 e3. on_byte b 124 _ _ _ e3 (λ k f. at_byte frames Opened b 124 rest t k (bar (some_state _ s rest t f h)))
    (λ n2 e4. on_byte b 33 _ _ _ e4 (λ k f. at_byte frames Opened b 33 rest t k (exclamation (some_state _ s rest t f h)))
    (λ n3 e5. on_test (is_attribute b) _ _ _ e5 (λ is f. attribute n0 n1 n2 n3 is (some_state _ s rest t f h)) (λ _ f. no_state s f))))) where
      blank : Continues frames Opened rest t → Continues frames Opened (32 ∷ rest) t
      blank g = (32 ∷ g.0, g.1, g.2, ap (λ xs. 32 ∷ xs) g.3, blank_inside g.0 g.2 g.4, g.5)

      -- behind the first of several filters
      ampersand : Continues (In_every [] ∷ frames) Wanted rest t → Continues frames Opened (38 ∷ rest) t
      ampersand g = let k = g.5 in (
        38 ∷ (g.0 ++ (k.0 ++ k.1)),
        k.3,
        Every (And_then g.2 k.2),
        ap (λ xs. 38 ∷ xs) (g.3 ∙ ap (λ xs. g.0 ++ xs) (k.4 ∙ sym (append_assoc k.0 k.1 (41 ∷ k.3))) ∙ sym (append_assoc g.0 (k.0 ++ k.1) (41 ∷ k.3))),
        every (38 ∷ (g.0 ++ (k.0 ++ k.1))) [] (g.0 ++ (k.0 ++ k.1)) g.2 k.2 tt refl (and_then (g.0 ++ (k.0 ++ k.1)) (g.0 ++ k.0) k.1 g.2 k.2 (sym (append_assoc g.0 k.0 k.1)) (blanks_after g.0 k.0 g.2 k.5 g.4) k.6),
        k.7,
      )

      bar : Continues (In_any [] ∷ frames) Wanted rest t → Continues frames Opened (124 ∷ rest) t
      bar g = let k = g.5 in (
        124 ∷ (g.0 ++ (k.0 ++ k.1)),
        k.3,
        Any (And_then g.2 k.2),
        ap (λ xs. 124 ∷ xs) (g.3 ∙ ap (λ xs. g.0 ++ xs) (k.4 ∙ sym (append_assoc k.0 k.1 (41 ∷ k.3))) ∙ sym (append_assoc g.0 (k.0 ++ k.1) (41 ∷ k.3))),
        any (124 ∷ (g.0 ++ (k.0 ++ k.1))) [] (g.0 ++ (k.0 ++ k.1)) g.2 k.2 tt refl (and_then (g.0 ++ (k.0 ++ k.1)) (g.0 ++ k.0) k.1 g.2 k.2 (sym (append_assoc g.0 k.0 k.1)) (blanks_after g.0 k.0 g.2 k.5 g.4) k.6),
        k.7,
      )

      exclamation : Continues (In_not ∷ frames) Wanted rest t → Continues frames Opened (33 ∷ rest) t
      exclamation g = let k = g.5 in (
        33 ∷ (g.0 ++ k.0),
        k.1,
        Not g.2,
        ap (λ xs. 33 ∷ xs) (g.3 ∙ ap (λ xs. g.0 ++ xs) k.2 ∙ sym (append_assoc g.0 k.0 (41 ∷ k.1))),
        negated (33 ∷ (g.0 ++ k.0)) [] (g.0 ++ k.0) g.2 tt refl (blanks_after g.0 k.0 g.2 k.3 g.4),
        k.4,
      )

      attribute : eqb b 32 ≡ false → eqb b 38 ≡ false → eqb b 124 ≡ false → eqb b 33 ≡ false → is_attribute b ≡ true → Continues frames (Attribute (b ∷ []) []) rest t → Continues frames Opened (b ∷ rest) t
      attribute n0 n1 n2 n3 is g =
          let name : trim_back (trim_front (b ∷ g.0)) ≡ b ∷ trim_back g.0 = ap trim_back (front_stays b g.0 n0) ∙ name_begins b g.0 n0 in (
            b ∷ (g.0 ++ (sign g.1 ++ g.2)),
            g.5,
            tree_with g.1 (trim_back (trim_front (b ∷ g.0))) g.3 g.4,
            ap (λ xs. b ∷ xs) (g.6 ∙ ap (λ xs. g.0 ++ xs) (sym (append_assoc (sign g.1) g.2 (41 ∷ g.5))) ∙ sym (append_assoc g.0 (sign g.1 ++ g.2) (41 ∷ g.5))),
            compares (b ∷ (g.0 ++ (sign g.1 ++ g.2))) (b ∷ g.0) g.2 g.3 g.4 g.1 refl (is, g.7) (ap is_name name ∙ is_name_of b (trim_back g.0) n1 n2 n3) g.8,
            subst (λ n. Behind frames (tree_with g.1 n g.3 g.4) g.5 t) (sym name) g.9,
          )

trim_blanks : (blanks : List ℕ) → AreBlanks blanks → trim_back blanks ≡ []
trim_blanks [] are = refl
trim_blanks (b ∷ bs) are = ap (before_rest b) (trim_blanks bs are.1) ∙ ap (λ v. cond v [] (b ∷ [])) (eq-eqb b 32 are.0)

-- nothing is trimmed up to a character that isn't blank
pub trim_stops : (front : List ℕ) (b : ℕ) (more : List ℕ) → eqb b 32 ≡ false → trim_back (front ++ b ∷ more) ≡ (front ++ b ∷ []) ++ trim_back more
trim_stops [] b more other = name_begins b more other
trim_stops (a ∷ []) b more other = ap (before_rest a) (name_begins b more other)
trim_stops (a ∷ c ∷ front) b more other = ap (before_rest a) (trim_stops (c ∷ front) b more other)

-- a name read up to its sign
pub name_ends : (name blanks : List ℕ) → AreBlanks blanks → name ++ trim_back (blanks ++ []) ≡ name
name_ends name blanks are = ap (λ xs. name ++ trim_back xs) (append-nil blanks) ∙ ap (λ xs. name ++ xs) (trim_blanks blanks are) ∙ append-nil name

-- a name read up to a character of it
pub name_grows : (name blanks : List ℕ) (b : ℕ) (more : List ℕ) → eqb b 32 ≡ false → name ++ trim_back (blanks ++ b ∷ more) ≡ (name ++ (blanks ++ b ∷ [])) ++ trim_back more
name_grows name blanks b more other = ap (λ xs. name ++ xs) (trim_stops blanks b more other) ∙ sym (append_assoc name (blanks ++ b ∷ []) (trim_back more))

pub value_tree_first : (c : Comparison) (name part : List ℕ) (parts : List (List ℕ)) → value_tree c name ([] ++ ([] ++ part) ∷ parts) ≡ tree_with c name part parts
value_tree_first c name part parts = refl

back_attribute : (frames : List Frame) (name blanks : List ℕ) (b : ℕ) (s : State) (rest : List ℕ) (t : Tree) → AreBlanks blanks → on_attribute frames name blanks b ≡ Some s → GoesOn s rest t → Continues frames (Attribute name blanks) (b ∷ rest) t
back_attribute frames name blanks b s rest t are e h =
    on_byte b 32 _ _ _ e (λ k f. at_byte frames (Attribute name blanks) b 32 rest t k (blank (some_state _ s rest t f h)))
    (λ n0 e2. on_byte b 61 _ _ _ e2 (λ k f. at_byte frames (Attribute name blanks) b 61 rest t k (equal (some_state _ s rest t f h)))
    (λ _ e3. on_byte b 126 _ _ _ e3 (λ k f. at_byte frames (Attribute name blanks) b 126 rest t k (sign_of Like 126 refl (some_state _ s rest t f h)))
    (λ _ e4. on_byte b 62 _ _ _ e4 (λ k f. at_byte frames (Attribute name blanks) b 62 rest t k (sign_of AtLeast 62 refl (some_state _ s rest t f h)))
    (λ _ e5. on_byte b 60 _ _ _ e5 (λ k f. at_byte frames (Attribute name blanks) b 60 rest t k (sign_of AtMost 60 refl (some_state _ s rest t f h)))
    (λ _ e6. on_test (is_attribute b) _ _ _ e6 (λ is f. character n0 is (some_state _ s rest t f h)) (λ _ f. no_state s f)))))) where
      blank : Continues frames (Attribute name (blanks ++ 32 ∷ [])) rest t → Continues frames (Attribute name blanks) (32 ∷ rest) t
      blank g = (32 ∷ g.0, g.1, g.2, g.3, g.4, g.5, ap (λ xs. 32 ∷ xs) g.6, (refl, g.7), g.8, subst (λ n. Behind frames (tree_with g.1 (name ++ trim_back n) g.3 g.4) g.5 t) (append_assoc blanks (32 ∷ []) g.0) g.9)

      equal : Continues frames (Valued Equal name [] []) rest t → Continues frames (Attribute name blanks) (61 ∷ rest) t
      equal g = ([], Equal, g.0, g.1, g.2, g.3, ap (λ xs. 61 ∷ xs) g.4, tt, g.5, subst (λ n. Behind frames (tree_with Equal n g.1 g.2) g.3 t) (sym (name_ends name blanks are)) g.6)

      sign_of : (c : Comparison) (k : ℕ) → sign c ≡ k ∷ 61 ∷ [] → Continues frames (Operator c name) rest t → Continues frames (Attribute name blanks) (k ∷ rest) t
      sign_of c k is g = let v = g.2 in (
        [],
        c,
        v.0,
        v.1,
        v.2,
        v.3,
        ap (λ xs. k ∷ xs) (g.1 ∙ ap (λ xs. 61 ∷ xs) v.4) ∙ ap (λ xs. xs ++ (v.0 ++ 41 ∷ v.3)) (sym is),
        tt,
        v.5,
        subst (λ n. Behind frames (tree_with c n v.1 v.2) v.3 t) (sym (name_ends name blanks are)) v.6,
      )

      character : eqb b 32 ≡ false → is_attribute b ≡ true → Continues frames (Attribute (name ++ (blanks ++ b ∷ [])) []) rest t → Continues frames (Attribute name blanks) (b ∷ rest) t
      character n0 is g = (b ∷ g.0, g.1, g.2, g.3, g.4, g.5, ap (λ xs. b ∷ xs) g.6, (is, g.7), g.8, subst (λ n. Behind frames (tree_with g.1 n g.3 g.4) g.5 t) (sym (name_grows name blanks b g.0 n0)) g.9)

back_operator : (frames : List Frame) (c : Comparison) (name : List ℕ) (b : ℕ) (s : State) (rest : List ℕ) (t : Tree) → on_operator frames c name b ≡ Some s → GoesOn s rest t → Continues frames (Operator c name) (b ∷ rest) t
back_operator frames c name b s rest t e h =
    on_byte b 61 _ _ _ e (λ k f. at_byte frames (Operator c name) b 61 rest t k (rest, refl, some_state _ s rest t f h)) (λ _ f. no_state s f)

plain_of : (stars : Bool) (b : ℕ) → eqb b 41 ≡ false → eqb b 92 ≡ false → (eqb b 42 && stars) ≡ false → eqb b 40 ≡ false → is_plain stars b ≡ true
plain_of stars b x y z w = ap not (ap (λ v. ((v || eqb b 41) || eqb b 92) || (eqb b 42 && stars)) w ∙ ap (λ v. (v || eqb b 92) || (eqb b 42 && stars)) x ∙ ap (λ v. v || (eqb b 42 && stars)) y ∙ z)

both_true : (x y : Bool) → (x && y) ≡ true → (x ≡ true) × (y ≡ true)
both_true true y e = (refl, e)
both_true false y e = absurd (false≢true e)

snoc_part : (parts : List (List ℕ)) (part q : List ℕ) (qs : List (List ℕ)) → (parts ++ part ∷ []) ++ q ∷ qs ≡ parts ++ part ∷ q ∷ qs
snoc_part parts part q qs = append_assoc parts (part ∷ []) (q ∷ qs)

back_valued : (frames : List Frame) (c : Comparison) (name : List ℕ) (parts : List (List ℕ)) (part : List ℕ) (b : ℕ) (s : State) (rest : List ℕ) (t : Tree) → on_valued frames c name parts part b ≡ Some s → GoesOn s rest t → Continues frames (Valued c name parts part) (b ∷ rest) t
back_valued frames c name parts part b s rest t e h =
    on_byte b 41 _ _ _ e (λ k f. at_byte frames (Valued c name parts part) b 41 rest t k (bracket (some_state _ s rest t f h)))
    (λ n0 e2. on_byte b 92 _ _ _ e2 (λ k f. at_byte frames (Valued c name parts part) b 92 rest t k (backslash (some_state _ s rest t f h)))
    (λ n1 e3. on_test (eqb b 42 && has_stars c) _ _ _ e3 (λ v f. let w = both_true (eqb b 42) (has_stars c) v in at_byte frames (Valued c name parts part) b 42 rest t (eqb-true b 42 w.0) (a_star w.1 (some_state _ s rest t f h)))
    (λ n2 e4. on_byte b 40 _ _ _ e4 (λ _ f. no_state s f) (λ n3 f. character (plain_of (has_stars c) b n0 n1 n2 n3) (some_state _ s rest t f h))))) where
      bracket : Continues frames (After (value_tree c name (parts ++ part ∷ []))) rest t → Continues frames (Valued c name parts part) (41 ∷ rest) t
      bracket g = ([], [], [], rest, refl, nothing, subst (λ p. Behind frames (value_tree c name (parts ++ p ∷ [])) rest t) (sym (append-nil part)) g)

      backslash : Continues frames (Escaped c name parts part) rest t → Continues frames (Valued c name parts part) (92 ∷ rest) t
      backslash g = let v = g.3 in (
        92 ∷ g.0 ∷ v.0,
        g.0 ∷ v.1,
        v.2,
        v.3,
        ap (λ xs. 92 ∷ xs) (g.2 ∙ ap (λ xs. g.0 ∷ xs) v.4),
        escaped g.0 v.0 v.1 v.2 v.5,
        subst (λ p. Behind frames (value_tree c name (parts ++ p ∷ v.2)) v.3 t) (append_assoc part (g.0 ∷ []) v.1) v.6,
      )

      a_star : has_stars c ≡ true → Continues frames (Valued c name (parts ++ part ∷ []) []) rest t → Continues frames (Valued c name parts part) (42 ∷ rest) t
      a_star has g = (
        42 ∷ g.0,
        [],
        g.1 ∷ g.2,
        g.3,
        ap (λ xs. 42 ∷ xs) g.4,
        star g.0 g.1 g.2 has g.5,
        subst (λ ps. Behind frames (value_tree c name ps) g.3 t) (snoc_part parts part g.1 g.2 ∙ ap (λ p. parts ++ p ∷ g.1 ∷ g.2) (sym (append-nil part))) g.6,
      )

      character : is_plain (has_stars c) b ≡ true → Continues frames (Valued c name parts (part ++ b ∷ [])) rest t → Continues frames (Valued c name parts part) (b ∷ rest) t
      character plain g = (
        b ∷ g.0,
        b ∷ g.1,
        g.2,
        g.3,
        ap (λ xs. b ∷ xs) g.4,
        itself b g.0 g.1 g.2 plain g.5,
        subst (λ p. Behind frames (value_tree c name (parts ++ p ∷ g.2)) g.3 t) (append_assoc part (b ∷ []) g.1) g.6,
      )

back_closed : (frames : List Frame) (tree : Tree) (s : State) (rest : List ℕ) (t : Tree) → closed frames tree ≡ Some s → GoesOn s rest t → Behind frames tree (41 ∷ rest) t
back_closed [] tree s rest t e h = no_state s e
back_closed (In_every done ∷ frames) tree s rest t e h = ([], [], No_more, rest, refl, tt, no_more, some_state _ s rest t e h)
back_closed (In_any done ∷ frames) tree s rest t e h = ([], [], No_more, rest, refl, tt, no_more, some_state _ s rest t e h)
back_closed (In_not ∷ frames) tree s rest t e h = ([], rest, refl, tt, some_state _ s rest t e h)

back_continued : (frames : List Frame) (tree : Tree) (s : State) (rest : List ℕ) (t : Tree) → continued frames tree ≡ Some s → GoesOn s rest t → Behind frames tree (40 ∷ rest) t
back_continued [] tree s rest t e h = no_state s e
back_continued (In_every done ∷ frames) tree s rest t e h =
    let g : Continues (In_every (done ++ tree ∷ []) ∷ frames) Opened rest t = some_state _ s rest t e h in let k = g.5 in (
      [],
      40 ∷ (g.0 ++ 41 ∷ (k.0 ++ k.1)),
      And_then g.2 k.2,
      k.3,
      ap (λ xs. 40 ∷ xs) (g.3 ∙ ap (λ xs. g.0 ++ 41 ∷ xs) (k.4 ∙ sym (append_assoc k.0 k.1 (41 ∷ k.3))) ∙ sym (append_assoc g.0 (41 ∷ (k.0 ++ k.1)) (41 ∷ k.3))),
      tt,
      and_then (40 ∷ (g.0 ++ 41 ∷ (k.0 ++ k.1))) (40 ∷ (g.0 ++ 41 ∷ k.0)) k.1 g.2 k.2 (ap (λ xs. 40 ∷ xs) (sym (append_assoc g.0 (41 ∷ k.0) k.1))) (bracketed (40 ∷ (g.0 ++ 41 ∷ k.0)) [] g.0 k.0 g.2 tt k.5 refl g.4) k.6,
      subst (λ ts. Behind frames (Every ts) k.3 t) (joined_snoc (done ++ tree ∷ []) g.2 k.2) k.7,
    )
back_continued (In_any done ∷ frames) tree s rest t e h =
    let g : Continues (In_any (done ++ tree ∷ []) ∷ frames) Opened rest t = some_state _ s rest t e h in let k = g.5 in (
      [],
      40 ∷ (g.0 ++ 41 ∷ (k.0 ++ k.1)),
      And_then g.2 k.2,
      k.3,
      ap (λ xs. 40 ∷ xs) (g.3 ∙ ap (λ xs. g.0 ++ 41 ∷ xs) (k.4 ∙ sym (append_assoc k.0 k.1 (41 ∷ k.3))) ∙ sym (append_assoc g.0 (41 ∷ (k.0 ++ k.1)) (41 ∷ k.3))),
      tt,
      and_then (40 ∷ (g.0 ++ 41 ∷ (k.0 ++ k.1))) (40 ∷ (g.0 ++ 41 ∷ k.0)) k.1 g.2 k.2 (ap (λ xs. 40 ∷ xs) (sym (append_assoc g.0 (41 ∷ k.0) k.1))) (bracketed (40 ∷ (g.0 ++ 41 ∷ k.0)) [] g.0 k.0 g.2 tt k.5 refl g.4) k.6,
      subst (λ ts. Behind frames (Any ts) k.3 t) (joined_snoc (done ++ tree ∷ []) g.2 k.2) k.7,
    )
back_continued (In_not ∷ frames) tree s rest t e h = no_state s e

back_after : (frames : List Frame) (tree : Tree) (b : ℕ) (s : State) (rest : List ℕ) (t : Tree) → on_after frames tree b ≡ Some s → GoesOn s rest t → Continues frames (After tree) (b ∷ rest) t
back_after frames tree b s rest t e h =
    on_byte b 32 _ _ _ e (λ k f. at_byte frames (After tree) b 32 rest t k (blanks_behind (32 ∷ []) frames tree rest t (refl, tt) (some_state _ s rest t f h)))
    (λ _ e2. on_byte b 41 _ _ _ e2 (λ k f. at_byte frames (After tree) b 41 rest t k (back_closed frames tree s rest t f h))
    (λ _ e3. on_byte b 40 _ _ _ e3 (λ k f. at_byte frames (After tree) b 40 rest t k (back_continued frames tree s rest t f h)) (λ _ f. no_state s f)))

-- the blanks behind an attribute are blanks
abbrev pub IsSound : Mode → Type 0
IsSound Wanted = Unit {0}
IsSound Opened = Unit {0}
IsSound (Attribute name blanks) = AreBlanks blanks
IsSound (Operator c name) = Unit {0}
IsSound (Valued c name parts part) = Unit {0}
IsSound (Escaped c name parts part) = Unit {0}
IsSound (After tree) = Unit {0}

pub step_back : (frames : List Frame) (mode : Mode) (b : ℕ) (s : State) (rest : List ℕ) (t : Tree) → IsSound mode → step frames mode b ≡ Some s → GoesOn s rest t → Continues frames mode (b ∷ rest) t
step_back frames Wanted b s rest t sound = back_wanted frames b s rest t
step_back frames Opened b s rest t sound = back_opened frames b s rest t
step_back frames (Attribute name blanks) b s rest t sound = back_attribute frames name blanks b s rest t sound
step_back frames (Operator c name) b s rest t sound = back_operator frames c name b s rest t
step_back frames (Valued c name parts part) b s rest t sound = back_valued frames c name parts part b s rest t
step_back frames (Escaped c name parts part) b s rest t sound = λ e h. (b, rest, refl, some_state _ s rest t e h)
step_back frames (After tree) b s rest t sound = back_after frames tree b s rest t
