-- Where a text can go on from a state with a byte, the machine goes on with it, and the text from there.
use Rattle.std.proofs.Common.{◌≡◌, refl, sym, ap, ◌∙◌, subst, ℕ, eqb, ◌&&◌, ◌||◌, not, List, [], ◌∷◌, ◌++◌, Bool, true, false, cond, Option, Some, None, append_assoc, append-nil}
use Rattle.std.proofs.lemmas.Bool.{eqb-true, eq-eqb, false≢true}
use Rattle.ldap_filter.specs.declared.comparison.Comparison.{Comparison}
use Rattle.ldap_filter.specs.declared.comparison.Comparison.TheVariants.{Equal, Like, AtLeast, AtMost}
use Rattle.ldap_filter.specs.Trees.{Tree, Every, Any, Not, Trees, And_then, joined, trees_of, tree_with}
use Rattle.ldap_filter.specs.Spelling.{AreBlanks, sign, has_stars, is_plain, is_attribute, AreAttribute, trim_front, trim_back, is_name, SpellsValue, nothing, itself, escaped, star, Spells, bracketed, SpellsInside, every, any, negated, compares, SpellsAll, no_more, and_then}
use Rattle.ldap_filter.specs.Machine.{Frame, In_every, In_any, In_not, Mode, Wanted, Opened, Attribute, Operator, Valued, Escaped, After, State, value_tree, on_attribute, on_valued, step}
use Rattle.ldap_filter.proofs.Continuations.{Behind, BehindValue, Continues, GoesOn, blanks_behind, joined_snoc}
use Rattle.ldap_filter.proofs.StepsBack.{name_begins, front_stays, name_ends, name_grows, IsSound}

-- the machine goes on
pub record Goes (next : Option State) (rest : List ℕ) (t : Tree) : Type 0 where
  pub state : State
  pub is : next ≡ Some state
  pub on : GoesOn state rest t

head_is : (a b : ℕ) (xs ys : List ℕ) → a ∷ xs ≡ b ∷ ys → a ≡ b
head_is a b xs ys e = cc

tail_is : (a b : ℕ) (xs ys : List ℕ) → a ∷ xs ≡ b ∷ ys → xs ≡ ys
tail_is a b xs ys e = cc

at_byte : (frames : List Frame) (mode : Mode) (b k : ℕ) (rest : List ℕ) (t : Tree) → b ≡ k → Goes (step frames mode k) rest t → Goes (step frames mode b) rest t
at_byte frames mode b k rest t e = subst (λ c. Goes (step frames mode c) rest t) (sym e)

on_spelled : (frames : List Frame) (b : ℕ) (rest front outer : List ℕ) (tree t : Tree) → b ∷ rest ≡ front ++ outer → Spells front tree → Behind frames tree outer t → Goes (step frames Wanted b) rest t
on_spelled frames b rest _ outer _ t e (bracketed front [] inner behind tree b0 b1 is inside) k =
    let f : b ∷ rest ≡ 40 ∷ (inner ++ 41 ∷ (behind ++ outer)) = e ∙ ap (λ xs. xs ++ outer) is ∙ ap (λ xs. 40 ∷ xs) (append_assoc inner (41 ∷ behind) outer) in
    at_byte frames Wanted b 40 rest t (head_is b 40 rest (inner ++ 41 ∷ (behind ++ outer)) f) (record {
      state = (frames, Opened);
      is = refl;
      on = (inner, behind ++ outer, tree, tail_is b 40 rest (inner ++ 41 ∷ (behind ++ outer)) f, inside, blanks_behind behind frames tree outer t b1 k);
    })
on_spelled frames b rest _ outer _ t e (bracketed front (a ∷ before) inner behind tree b0 b1 is inside) k =
    let f : b ∷ rest ≡ a ∷ ((before ++ 40 ∷ (inner ++ 41 ∷ behind)) ++ outer) = e ∙ ap (λ xs. xs ++ outer) is in
    at_byte frames Wanted b 32 rest t (head_is b a rest ((before ++ 40 ∷ (inner ++ 41 ∷ behind)) ++ outer) f ∙ b0.0) (record {
      state = (frames, Wanted);
      is = refl;
      on = (before ++ 40 ∷ (inner ++ 41 ∷ behind), outer, tree, tail_is b a rest ((before ++ 40 ∷ (inner ++ 41 ∷ behind)) ++ outer) f, bracketed (before ++ 40 ∷ (inner ++ 41 ∷ behind)) before inner behind tree b0.1 b1 refl inside, k);
    })

on_wanted_goes : (frames : List Frame) (b : ℕ) (rest : List ℕ) (t : Tree) → Continues frames Wanted (b ∷ rest) t → Goes (step frames Wanted b) rest t
on_wanted_goes frames b rest t h = on_spelled frames b rest h.0 h.1 h.2 t h.3 h.4 h.5

-- the byte is a blank before a sign, and the rest is inside the bracket as before
opened_blank : (frames : List Frame) (b a : ℕ) (rest inner outer : List ℕ) (tree t : Tree) → a ≡ 32 → b ∷ rest ≡ (a ∷ inner) ++ 41 ∷ outer → SpellsInside inner tree → Behind frames tree outer t → Goes (step frames Opened b) rest t
opened_blank frames b a rest inner outer tree t blank e inside k =
    at_byte frames Opened b 32 rest t (head_is b a rest (inner ++ 41 ∷ outer) e ∙ blank) (record {
      state = (frames, Opened);
      is = refl;
      on = (inner, outer, tree, tail_is b a rest (inner ++ 41 ∷ outer) e, inside, k);
    })

-- the signs `&` and `|`, and the first filter behind
record FirstOf (filters outer : List ℕ) (first : Tree) (others : Trees) : Type 0 where
  front : List ℕ
  mid : List ℕ
  is : filters ++ 41 ∷ outer ≡ front ++ (mid ++ 41 ∷ outer)
  spells : Spells front first
  all : SpellsAll mid others

first_of : (filters outer : List ℕ) (first : Tree) (others : Trees) → SpellsAll filters (And_then first others) → FirstOf filters outer first others
first_of _ outer _ _ (and_then text front rest first others is spells all) = record { front = front; mid = rest; is = ap (λ xs. xs ++ 41 ∷ outer) is ∙ append_assoc front rest (41 ∷ outer); spells = spells; all = all }

-- which tests a name's first character fails
none_of : (x y z : Bool) → not ((x || y) || z) ≡ true → (x ≡ false) × (y ≡ false) × (z ≡ false)
none_of true y z e = absurd (false≢true e)
none_of false true z e = absurd (false≢true e)
none_of false false true e = absurd (false≢true e)
none_of false false false e = (refl, refl, refl)

-- an attribute's first character goes into a name
pub opened_name : (frames : List Frame) (b : ℕ) → eqb b 32 ≡ false → (eqb b 38 ≡ false) × (eqb b 124 ≡ false) × (eqb b 33 ≡ false) → is_attribute b ≡ true → step frames Opened b ≡ Some (frames, Attribute (b ∷ []) [])
opened_name frames b n0 n is =
    ap (λ v. cond v (Some (frames, Opened)) (cond (eqb b 38) (Some (In_every [] ∷ frames, Wanted)) (cond (eqb b 124) (Some (In_any [] ∷ frames, Wanted)) (cond (eqb b 33) (Some (In_not ∷ frames, Wanted)) (cond (is_attribute b) (Some (frames, Attribute (b ∷ []) [])) None))))) n0
    ∙ ap (λ v. cond v (Some (In_every [] ∷ frames, Wanted)) (cond (eqb b 124) (Some (In_any [] ∷ frames, Wanted)) (cond (eqb b 33) (Some (In_not ∷ frames, Wanted)) (cond (is_attribute b) (Some (frames, Attribute (b ∷ []) [])) None)))) n.0
    ∙ ap (λ v. cond v (Some (In_any [] ∷ frames, Wanted)) (cond (eqb b 33) (Some (In_not ∷ frames, Wanted)) (cond (is_attribute b) (Some (frames, Attribute (b ∷ []) [])) None))) n.1
    ∙ ap (λ v. cond v (Some (In_not ∷ frames, Wanted)) (cond (is_attribute b) (Some (frames, Attribute (b ∷ []) [])) None)) n.2
    ∙ ap (λ v. cond v (Some (frames, Attribute (b ∷ []) [])) None) is

by_blank : {G : Type 0} (b : ℕ) → (b ≡ 32 → G) → (eqb b 32 ≡ false → G) → G
by_blank {G} b f g = by_test (eqb b 32) refl where
  by_test : (v : Bool) → eqb b 32 ≡ v → G
  by_test true e = f (eqb-true b 32 e)
  by_test false e = g e

-- an attribute begins with a blank or a name's first character
on_compared : (frames : List Frame) (b : ℕ) (rest attribute value part : List ℕ) (parts : List (List ℕ)) (c : Comparison) (outer : List ℕ) (t : Tree) → b ∷ rest ≡ attribute ++ (sign c ++ (value ++ 41 ∷ outer))
    → AreAttribute attribute → is_name (trim_back (trim_front attribute)) ≡ true → SpellsValue (has_stars c) value part parts → Behind frames (tree_with c (trim_back (trim_front attribute)) part parts) outer t → Goes (step frames Opened b) rest t
on_compared frames b rest [] value part parts c outer t e chars named spells k = absurd (false≢true named)
on_compared frames b rest (a ∷ attribute) value part parts c outer t e chars named spells k =
    by_blank a
    (λ blank. let name : trim_front (a ∷ attribute) ≡ trim_front attribute = ap (λ v. cond v (trim_front attribute) (a ∷ attribute)) (eq-eqb a 32 blank) in
    at_byte frames Opened b 32 rest t (head_is b a rest (attribute ++ (sign c ++ (value ++ 41 ∷ outer))) e ∙ blank) (record {
      state = (frames, Opened);
      is = refl;
      on = (
        attribute ++ (sign c ++ value),
        outer,
        tree_with c (trim_back (trim_front attribute)) part parts,
        tail_is b a rest (attribute ++ (sign c ++ (value ++ 41 ∷ outer))) e ∙ ap (λ xs. attribute ++ xs) (sym (append_assoc (sign c) value (41 ∷ outer))) ∙ sym (append_assoc attribute (sign c ++ value) (41 ∷ outer)),
        compares (attribute ++ (sign c ++ value)) attribute value part parts c refl chars.1 (subst (λ n. is_name (trim_back n) ≡ true) name named) spells,
        subst (λ n. Behind frames (tree_with c (trim_back n) part parts) outer t) name k,
      );
    }))
    (λ n0. let name : trim_back (trim_front (a ∷ attribute)) ≡ a ∷ trim_back attribute = ap trim_back (front_stays a attribute n0) ∙ name_begins a attribute n0 in
    subst (λ d. Goes (step frames Opened d) rest t) (sym (head_is b a rest (attribute ++ (sign c ++ (value ++ 41 ∷ outer))) e)) (record {
      state = (frames, Attribute (a ∷ []) []);
      is = opened_name frames a n0 (none_of (eqb a 38) (eqb a 124) (eqb a 33) (subst (λ n. is_name n ≡ true) name named)) chars.0;
      on = (
        attribute,
        c,
        value,
        part,
        parts,
        outer,
        tail_is b a rest (attribute ++ (sign c ++ (value ++ 41 ∷ outer))) e,
        chars.1,
        spells,
        subst (λ n. Behind frames (tree_with c n part parts) outer t) name k,
      );
    }))

on_inside : (frames : List Frame) (b : ℕ) (rest inner outer : List ℕ) (tree t : Tree) → b ∷ rest ≡ inner ++ 41 ∷ outer → SpellsInside inner tree → Behind frames tree outer t → Goes (step frames Opened b) rest t
on_inside frames b rest _ outer _ t e (every text [] filters first others are is all) k =
    let f : b ∷ rest ≡ 38 ∷ (filters ++ 41 ∷ outer) = e ∙ ap (λ xs. xs ++ 41 ∷ outer) is in
    let o = first_of filters outer first others all in
    at_byte frames Opened b 38 rest t (head_is b 38 rest (filters ++ 41 ∷ outer) f) (record {
      state = (In_every [] ∷ frames, Wanted);
      is = refl;
      on = (o.front, o.mid ++ 41 ∷ outer, first, tail_is b 38 rest (filters ++ 41 ∷ outer) f ∙ o.is, o.spells, ([], o.mid, others, outer, refl, tt, o.all, k));
    })
on_inside frames b rest _ outer _ t e (every text (a ∷ blanks) filters first others are is all) k =
    opened_blank frames b a rest (blanks ++ 38 ∷ filters) outer (Every (And_then first others)) t are.0 (e ∙ ap (λ xs. xs ++ 41 ∷ outer) is) (every (blanks ++ 38 ∷ filters) blanks filters first others are.1 refl all) k
on_inside frames b rest _ outer _ t e (any text [] filters first others are is all) k =
    let f : b ∷ rest ≡ 124 ∷ (filters ++ 41 ∷ outer) = e ∙ ap (λ xs. xs ++ 41 ∷ outer) is in
    let o = first_of filters outer first others all in
    at_byte frames Opened b 124 rest t (head_is b 124 rest (filters ++ 41 ∷ outer) f) (record {
      state = (In_any [] ∷ frames, Wanted);
      is = refl;
      on = (o.front, o.mid ++ 41 ∷ outer, first, tail_is b 124 rest (filters ++ 41 ∷ outer) f ∙ o.is, o.spells, ([], o.mid, others, outer, refl, tt, o.all, k));
    })
on_inside frames b rest _ outer _ t e (any text (a ∷ blanks) filters first others are is all) k =
    opened_blank frames b a rest (blanks ++ 124 ∷ filters) outer (Any (And_then first others)) t are.0 (e ∙ ap (λ xs. xs ++ 41 ∷ outer) is) (any (blanks ++ 124 ∷ filters) blanks filters first others are.1 refl all) k
on_inside frames b rest _ outer _ t e (negated text [] filter tree are is spells) k =
    let f : b ∷ rest ≡ 33 ∷ (filter ++ 41 ∷ outer) = e ∙ ap (λ xs. xs ++ 41 ∷ outer) is in
    at_byte frames Opened b 33 rest t (head_is b 33 rest (filter ++ 41 ∷ outer) f) (record {
      state = (In_not ∷ frames, Wanted);
      is = refl;
      on = (filter, 41 ∷ outer, tree, tail_is b 33 rest (filter ++ 41 ∷ outer) f, spells, ([], outer, refl, tt, k));
    })
on_inside frames b rest _ outer _ t e (negated text (a ∷ blanks) filter tree are is spells) k =
    opened_blank frames b a rest (blanks ++ 33 ∷ filter) outer (Not tree) t are.0 (e ∙ ap (λ xs. xs ++ 41 ∷ outer) is) (negated (blanks ++ 33 ∷ filter) blanks filter tree are.1 refl spells) k
on_inside frames b rest _ outer _ t e (compares text attribute value part parts c is chars named spells) k =
    on_compared frames b rest attribute value part parts c outer t
    (e ∙ ap (λ xs. xs ++ 41 ∷ outer) is ∙ append_assoc attribute (sign c ++ value) (41 ∷ outer) ∙ ap (λ xs. attribute ++ xs) (append_assoc (sign c) value (41 ∷ outer))) chars named spells k

on_opened_goes : (frames : List Frame) (b : ℕ) (rest : List ℕ) (t : Tree) → Continues frames Opened (b ∷ rest) t → Goes (step frames Opened b) rest t
on_opened_goes frames b rest t h = on_inside frames b rest h.0 h.1 h.2 t h.3 h.4 h.5

-- where no test before the last holds
last_way : {X : Type 0} (a b c d e f g : Bool) (u v w x y z n : X) → a ≡ false → not (((((b || c) || d) || e) || f) || g) ≡ true
    → cond a u (cond b v (cond e w (cond c x (cond d y (cond (not (((((b || c) || d) || e) || f) || g)) z n))))) ≡ z
last_way true b c d e f g u v w x y z n h k = absurd (false≢true (sym h))
last_way false true c d e f g u v w x y z n h k = absurd (false≢true k)
last_way false false true d e f g u v w x y z n h k = absurd (false≢true k)
last_way false false false true e f g u v w x y z n h k = absurd (false≢true k)
last_way false false false false true f g u v w x y z n h k = absurd (false≢true k)
last_way false false false false false true g u v w x y z n h k = absurd (false≢true k)
last_way false false false false false false true u v w x y z n h k = absurd (false≢true k)
last_way false false false false false false false u v w x y z n h k = refl

-- the next character of a name
pub grown_name : (frames : List Frame) (name blanks : List ℕ) (b : ℕ) → eqb b 32 ≡ false → is_attribute b ≡ true → on_attribute frames name blanks b ≡ Some (frames, Attribute (name ++ (blanks ++ b ∷ [])) [])
grown_name frames name blanks b n0 is =
    last_way (eqb b 32) (eqb b 61) (eqb b 62) (eqb b 60) (eqb b 126) (eqb b 40) (eqb b 41) _ _ _ _ _ _ _ n0 is

-- behind the sign of a comparison
signed : (frames : List Frame) (name blanks : List ℕ) (b : ℕ) (rest : List ℕ) (c : Comparison) (value part : List ℕ) (parts : List (List ℕ)) (outer : List ℕ) (t : Tree) → b ∷ rest ≡ sign c ++ (value ++ 41 ∷ outer)
    → SpellsValue (has_stars c) value part parts → Behind frames (tree_with c name part parts) outer t → Goes (step frames (Attribute name blanks) b) rest t
signed frames name blanks b rest Equal value part parts outer t e spells k =
    at_byte frames (Attribute name blanks) b 61 rest t (head_is b 61 rest (value ++ 41 ∷ outer) e) (record {
      state = (frames, Valued Equal name [] []);
      is = refl;
      on = (value, part, parts, outer, tail_is b 61 rest (value ++ 41 ∷ outer) e, spells, k);
    })
signed frames name blanks b rest Like value part parts outer t e spells k =
    at_byte frames (Attribute name blanks) b 126 rest t (head_is b 126 rest (61 ∷ (value ++ 41 ∷ outer)) e) (record {
      state = (frames, Operator Like name);
      is = refl;
      on = (value ++ 41 ∷ outer, tail_is b 126 rest (61 ∷ (value ++ 41 ∷ outer)) e, (value, part, parts, outer, refl, spells, k));
    })
signed frames name blanks b rest AtLeast value part parts outer t e spells k =
    at_byte frames (Attribute name blanks) b 62 rest t (head_is b 62 rest (61 ∷ (value ++ 41 ∷ outer)) e) (record {
      state = (frames, Operator AtLeast name);
      is = refl;
      on = (value ++ 41 ∷ outer, tail_is b 62 rest (61 ∷ (value ++ 41 ∷ outer)) e, (value, part, parts, outer, refl, spells, k));
    })
signed frames name blanks b rest AtMost value part parts outer t e spells k =
    at_byte frames (Attribute name blanks) b 60 rest t (head_is b 60 rest (61 ∷ (value ++ 41 ∷ outer)) e) (record {
      state = (frames, Operator AtMost name);
      is = refl;
      on = (value ++ 41 ∷ outer, tail_is b 60 rest (61 ∷ (value ++ 41 ∷ outer)) e, (value, part, parts, outer, refl, spells, k));
    })

on_named : (frames : List Frame) (name blanks : List ℕ) (b : ℕ) (rest more : List ℕ) (c : Comparison) (value part : List ℕ) (parts : List (List ℕ)) (outer : List ℕ) (t : Tree) → AreBlanks blanks → b ∷ rest ≡ more ++ (sign c ++ (value ++ 41 ∷ outer))
    → AreAttribute more → SpellsValue (has_stars c) value part parts → Behind frames (tree_with c (name ++ trim_back (blanks ++ more)) part parts) outer t → Goes (step frames (Attribute name blanks) b) rest t
on_named frames name blanks b rest [] c value part parts outer t are e chars spells k =
    signed frames name blanks b rest c value part parts outer t e spells (subst (λ n. Behind frames (tree_with c n part parts) outer t) (name_ends name blanks are) k)
on_named frames name blanks b rest (a ∷ more) c value part parts outer t are e chars spells k =
    by_blank a
    (λ blank. at_byte frames (Attribute name blanks) b 32 rest t (head_is b a rest (more ++ (sign c ++ (value ++ 41 ∷ outer))) e ∙ blank) (record {
      state = (frames, Attribute name (blanks ++ 32 ∷ []));
      is = refl;
      on = (
        more,
        c,
        value,
        part,
        parts,
        outer,
        tail_is b a rest (more ++ (sign c ++ (value ++ 41 ∷ outer))) e,
        chars.1,
        spells,
        subst (λ n. Behind frames (tree_with c (name ++ trim_back n) part parts) outer t) (ap (λ d. blanks ++ d ∷ more) blank ∙ sym (append_assoc blanks (32 ∷ []) more)) k,
      );
    }))
    (λ n0. subst (λ d. Goes (step frames (Attribute name blanks) d) rest t) (sym (head_is b a rest (more ++ (sign c ++ (value ++ 41 ∷ outer))) e)) (record {
      state = (frames, Attribute (name ++ (blanks ++ a ∷ [])) []);
      is = grown_name frames name blanks a n0 chars.0;
      on = (
        more,
        c,
        value,
        part,
        parts,
        outer,
        tail_is b a rest (more ++ (sign c ++ (value ++ 41 ∷ outer))) e,
        chars.1,
        spells,
        subst (λ n. Behind frames (tree_with c n part parts) outer t) (name_grows name blanks a more n0) k,
      );
    }))

on_attribute_goes : (frames : List Frame) (name blanks : List ℕ) (b : ℕ) (rest : List ℕ) (t : Tree) → AreBlanks blanks → Continues frames (Attribute name blanks) (b ∷ rest) t → Goes (step frames (Attribute name blanks) b) rest t
on_attribute_goes frames name blanks b rest t are h = on_named frames name blanks b rest h.0 h.1 h.2 h.3 h.4 h.5 t are h.6 h.7 h.8 h.9

on_operator_goes : (frames : List Frame) (c : Comparison) (name : List ℕ) (b : ℕ) (rest : List ℕ) (t : Tree) → Continues frames (Operator c name) (b ∷ rest) t → Goes (step frames (Operator c name) b) rest t
on_operator_goes frames c name b rest t h = at_byte frames (Operator c name) b 61 rest t (head_is b 61 rest h.0 h.1) (record {
  state = (frames, Valued c name [] []);
  is = refl;
  on = subst (λ r. BehindValue frames c name [] [] r t) (sym (tail_is b 61 rest h.0 h.1)) h.2;
})

-- a character that stands for itself goes into the part begun
plain_goes : (frames : List Frame) (c : Comparison) (name : List ℕ) (parts : List (List ℕ)) (part : List ℕ) (b : ℕ) → is_plain (has_stars c) b ≡ true → on_valued frames c name parts part b ≡ Some (frames, Valued c name parts (part ++ b ∷ []))
plain_goes frames c name parts part b plain = by_tests (eqb b 40) (eqb b 41) (eqb b 92) (eqb b 42 && has_stars c) _ _ _ _ _ plain where
  by_tests : {X : Type 0} (x y z w : Bool) (p q r s : X) (n : X) → not (((x || y) || z) || w) ≡ true → cond y p (cond z q (cond w r (cond x n s))) ≡ s
  by_tests true y z w p q r s n e = absurd (false≢true e)
  by_tests false true z w p q r s n e = absurd (false≢true e)
  by_tests false false true w p q r s n e = absurd (false≢true e)
  by_tests false false false true p q r s n e = absurd (false≢true e)
  by_tests false false false false p q r s n e = refl

star_goes : (frames : List Frame) (c : Comparison) (name : List ℕ) (parts : List (List ℕ)) (part : List ℕ) → has_stars c ≡ true → on_valued frames c name parts part 42 ≡ Some (frames, Valued c name (parts ++ part ∷ []) [])
star_goes frames c name parts part has = ap (λ v. cond v (Some (frames, Valued c name (parts ++ part ∷ []) [])) (Some (frames, Valued c name parts (part ++ 42 ∷ [])))) has

snoc_part : (parts : List (List ℕ)) (part q : List ℕ) (qs : List (List ℕ)) → (parts ++ part ∷ []) ++ q ∷ qs ≡ parts ++ part ∷ q ∷ qs
snoc_part parts part q qs = append_assoc parts (part ∷ []) (q ∷ qs)

on_value : (frames : List Frame) (c : Comparison) (name : List ℕ) (parts : List (List ℕ)) (part : List ℕ) (b : ℕ) (rest value q : List ℕ) (qs : List (List ℕ)) (outer : List ℕ) (t : Tree) → b ∷ rest ≡ value ++ 41 ∷ outer → SpellsValue (has_stars c) value q qs
    → Behind frames (value_tree c name (parts ++ (part ++ q) ∷ qs)) outer t → Goes (step frames (Valued c name parts part) b) rest t
on_value frames c name parts part b rest _ _ _ outer t e nothing k =
    at_byte frames (Valued c name parts part) b 41 rest t (head_is b 41 rest outer e) (record {
      state = (frames, After (value_tree c name (parts ++ part ∷ [])));
      is = refl;
      on = subst (λ r. Behind frames (value_tree c name (parts ++ part ∷ [])) r t) (sym (tail_is b 41 rest outer e)) (subst (λ p. Behind frames (value_tree c name (parts ++ p ∷ [])) outer t) (append-nil part) k);
    })
on_value frames c name parts part b rest _ _ _ outer t e (itself a text q qs plain spells) k =
    subst (λ d. Goes (step frames (Valued c name parts part) d) rest t) (sym (head_is b a rest (text ++ 41 ∷ outer) e)) (record {
      state = (frames, Valued c name parts (part ++ a ∷ []));
      is = plain_goes frames c name parts part a plain;
      on = (text, q, qs, outer, tail_is b a rest (text ++ 41 ∷ outer) e, spells, subst (λ p. Behind frames (value_tree c name (parts ++ p ∷ qs)) outer t) (sym (append_assoc part (a ∷ []) q)) k);
    })
on_value frames c name parts part b rest _ _ _ outer t e (escaped a text q qs spells) k =
    at_byte frames (Valued c name parts part) b 92 rest t (head_is b 92 rest (a ∷ (text ++ 41 ∷ outer)) e) (record {
      state = (frames, Escaped c name parts part);
      is = refl;
      on = (a, text ++ 41 ∷ outer, tail_is b 92 rest (a ∷ (text ++ 41 ∷ outer)) e, (text, q, qs, outer, refl, spells, subst (λ p. Behind frames (value_tree c name (parts ++ p ∷ qs)) outer t) (sym (append_assoc part (a ∷ []) q)) k));
    })
on_value frames c name parts part b rest _ _ _ outer t e (star text q qs has spells) k =
    at_byte frames (Valued c name parts part) b 42 rest t (head_is b 42 rest (text ++ 41 ∷ outer) e) (record {
      state = (frames, Valued c name (parts ++ part ∷ []) []);
      is = star_goes frames c name parts part has;
      on = (
        text,
        q,
        qs,
        outer,
        tail_is b 42 rest (text ++ 41 ∷ outer) e,
        spells,
        subst (λ ps. Behind frames (value_tree c name ps) outer t) (ap (λ p. parts ++ p ∷ q ∷ qs) (append-nil part) ∙ sym (snoc_part parts part q qs)) k,
      );
    })

on_valued_goes : (frames : List Frame) (c : Comparison) (name : List ℕ) (parts : List (List ℕ)) (part : List ℕ) (b : ℕ) (rest : List ℕ) (t : Tree) → Continues frames (Valued c name parts part) (b ∷ rest) t → Goes (step frames (Valued c name parts part) b) rest t
on_valued_goes frames c name parts part b rest t h = on_value frames c name parts part b rest h.0 h.1 h.2 h.3 t h.4 h.5 h.6

on_escaped_goes : (frames : List Frame) (c : Comparison) (name : List ℕ) (parts : List (List ℕ)) (part : List ℕ) (b : ℕ) (rest : List ℕ) (t : Tree) → Continues frames (Escaped c name parts part) (b ∷ rest) t → Goes (step frames (Escaped c name parts part) b) rest t
on_escaped_goes frames c name parts part b rest t h = record {
  state = (frames, Valued c name parts (part ++ b ∷ []));
  is = refl;
  on = subst (λ d. BehindValue frames c name parts (part ++ d ∷ []) rest t) (sym (head_is b h.0 rest h.1 h.2)) (subst (λ r. BehindValue frames c name parts (part ++ h.0 ∷ []) r t) (sym (tail_is b h.0 rest h.1 h.2)) h.3);
}

-- behind a filter among several ones
blank_after : (frames : List Frame) (tree : Tree) (b : ℕ) (rest : List ℕ) (t : Tree) → b ≡ 32 → Behind frames tree rest t → Goes (step frames (After tree) b) rest t
blank_after frames tree b rest t blank k = at_byte frames (After tree) b 32 rest t blank (record { state = (frames, After tree); is = refl; on = k })

every_goes : (frames : List Frame) (done : List Tree) (tree : Tree) (b : ℕ) (rest mid : List ℕ) (others : Trees) (outer : List ℕ) (t : Tree) → b ∷ rest ≡ mid ++ 41 ∷ outer → SpellsAll mid others
    → Behind frames (Every (joined (done ++ tree ∷ []) others)) outer t → Goes (step (In_every done ∷ frames) (After tree) b) rest t
every_goes frames done tree b rest _ _ outer t e no_more k =
    at_byte (In_every done ∷ frames) (After tree) b 41 rest t (head_is b 41 rest outer e) (record {
      state = (frames, After (Every (trees_of (done ++ tree ∷ []))));
      is = refl;
      on = subst (λ r. Behind frames (Every (trees_of (done ++ tree ∷ []))) r t) (sym (tail_is b 41 rest outer e)) k;
    })
every_goes frames done tree b rest _ _ outer t e (and_then text _ behind first others is (bracketed front [] inner after _ b0 b1 at inside) all) k =
    let f : b ∷ rest ≡ 40 ∷ (inner ++ 41 ∷ (after ++ (behind ++ 41 ∷ outer))) = e ∙ ap (λ xs. xs ++ 41 ∷ outer) (is ∙ ap (λ xs. xs ++ behind) at)
    ∙ ap (λ xs. 40 ∷ xs) (append_assoc (inner ++ 41 ∷ after) behind (41 ∷ outer) ∙ append_assoc inner (41 ∷ after) (behind ++ 41 ∷ outer)) in
    at_byte (In_every done ∷ frames) (After tree) b 40 rest t (head_is b 40 rest (inner ++ 41 ∷ (after ++ (behind ++ 41 ∷ outer))) f) (record {
      state = (In_every (done ++ tree ∷ []) ∷ frames, Opened);
      is = refl;
      on = (
        inner,
        after ++ (behind ++ 41 ∷ outer),
        first,
        tail_is b 40 rest (inner ++ 41 ∷ (after ++ (behind ++ 41 ∷ outer))) f,
        inside,
        (after, behind, others, outer, refl, b1, all, subst (λ ts. Behind frames (Every ts) outer t) (sym (joined_snoc (done ++ tree ∷ []) first others)) k),
      );
    })
every_goes frames done tree b rest _ _ outer t e (and_then text _ behind first others is (bracketed front (a ∷ before) inner after _ b0 b1 at inside) all) k =
    let new : List ℕ = before ++ 40 ∷ (inner ++ 41 ∷ after) in
    let f : b ∷ rest ≡ a ∷ ((new ++ behind) ++ 41 ∷ outer) = e ∙ ap (λ xs. xs ++ 41 ∷ outer) (is ∙ ap (λ xs. xs ++ behind) at) in
    blank_after (In_every done ∷ frames) tree b rest t (head_is b a rest ((new ++ behind) ++ 41 ∷ outer) f ∙ b0.0)
    ([], new ++ behind, And_then first others, outer, tail_is b a rest ((new ++ behind) ++ 41 ∷ outer) f, tt, and_then (new ++ behind) new behind first others refl (bracketed new before inner after first b0.1 b1 refl inside) all, k)

any_goes : (frames : List Frame) (done : List Tree) (tree : Tree) (b : ℕ) (rest mid : List ℕ) (others : Trees) (outer : List ℕ) (t : Tree) → b ∷ rest ≡ mid ++ 41 ∷ outer → SpellsAll mid others
    → Behind frames (Any (joined (done ++ tree ∷ []) others)) outer t → Goes (step (In_any done ∷ frames) (After tree) b) rest t
any_goes frames done tree b rest _ _ outer t e no_more k =
    at_byte (In_any done ∷ frames) (After tree) b 41 rest t (head_is b 41 rest outer e) (record {
      state = (frames, After (Any (trees_of (done ++ tree ∷ []))));
      is = refl;
      on = subst (λ r. Behind frames (Any (trees_of (done ++ tree ∷ []))) r t) (sym (tail_is b 41 rest outer e)) k;
    })
any_goes frames done tree b rest _ _ outer t e (and_then text _ behind first others is (bracketed front [] inner after _ b0 b1 at inside) all) k =
    let f : b ∷ rest ≡ 40 ∷ (inner ++ 41 ∷ (after ++ (behind ++ 41 ∷ outer))) = e ∙ ap (λ xs. xs ++ 41 ∷ outer) (is ∙ ap (λ xs. xs ++ behind) at)
    ∙ ap (λ xs. 40 ∷ xs) (append_assoc (inner ++ 41 ∷ after) behind (41 ∷ outer) ∙ append_assoc inner (41 ∷ after) (behind ++ 41 ∷ outer)) in
    at_byte (In_any done ∷ frames) (After tree) b 40 rest t (head_is b 40 rest (inner ++ 41 ∷ (after ++ (behind ++ 41 ∷ outer))) f) (record {
      state = (In_any (done ++ tree ∷ []) ∷ frames, Opened);
      is = refl;
      on = (
        inner,
        after ++ (behind ++ 41 ∷ outer),
        first,
        tail_is b 40 rest (inner ++ 41 ∷ (after ++ (behind ++ 41 ∷ outer))) f,
        inside,
        (after, behind, others, outer, refl, b1, all, subst (λ ts. Behind frames (Any ts) outer t) (sym (joined_snoc (done ++ tree ∷ []) first others)) k),
      );
    })
any_goes frames done tree b rest _ _ outer t e (and_then text _ behind first others is (bracketed front (a ∷ before) inner after _ b0 b1 at inside) all) k =
    let new : List ℕ = before ++ 40 ∷ (inner ++ 41 ∷ after) in
    let f : b ∷ rest ≡ a ∷ ((new ++ behind) ++ 41 ∷ outer) = e ∙ ap (λ xs. xs ++ 41 ∷ outer) (is ∙ ap (λ xs. xs ++ behind) at) in
    blank_after (In_any done ∷ frames) tree b rest t (head_is b a rest ((new ++ behind) ++ 41 ∷ outer) f ∙ b0.0)
    ([], new ++ behind, And_then first others, outer, tail_is b a rest ((new ++ behind) ++ 41 ∷ outer) f, tt, and_then (new ++ behind) new behind first others refl (bracketed new before inner after first b0.1 b1 refl inside) all, k)

not_goes : (frames : List Frame) (tree : Tree) (b : ℕ) (rest blanks outer : List ℕ) (t : Tree) → b ∷ rest ≡ blanks ++ 41 ∷ outer → AreBlanks blanks → Behind frames (Not tree) outer t → Goes (step (In_not ∷ frames) (After tree) b) rest t
not_goes frames tree b rest [] outer t e are k =
    at_byte (In_not ∷ frames) (After tree) b 41 rest t (head_is b 41 rest outer e) (record {
      state = (frames, After (Not tree));
      is = refl;
      on = subst (λ r. Behind frames (Not tree) r t) (sym (tail_is b 41 rest outer e)) k;
    })
not_goes frames tree b rest (a ∷ blanks) outer t e are k =
    blank_after (In_not ∷ frames) tree b rest t (head_is b a rest (blanks ++ 41 ∷ outer) e ∙ are.0) (blanks, outer, tail_is b a rest (blanks ++ 41 ∷ outer) e, are.1, k)

among_every : (frames : List Frame) (done : List Tree) (tree : Tree) (b : ℕ) (rest blanks mid : List ℕ) (others : Trees) (outer : List ℕ) (t : Tree) → b ∷ rest ≡ blanks ++ (mid ++ 41 ∷ outer) → AreBlanks blanks → SpellsAll mid others
    → Behind frames (Every (joined (done ++ tree ∷ []) others)) outer t → Goes (step (In_every done ∷ frames) (After tree) b) rest t
among_every frames done tree b rest [] mid others outer t e are all k = every_goes frames done tree b rest mid others outer t e all k
among_every frames done tree b rest (a ∷ blanks) mid others outer t e are all k =
    blank_after (In_every done ∷ frames) tree b rest t (head_is b a rest (blanks ++ (mid ++ 41 ∷ outer)) e ∙ are.0) (blanks, mid, others, outer, tail_is b a rest (blanks ++ (mid ++ 41 ∷ outer)) e, are.1, all, k)

among_any : (frames : List Frame) (done : List Tree) (tree : Tree) (b : ℕ) (rest blanks mid : List ℕ) (others : Trees) (outer : List ℕ) (t : Tree) → b ∷ rest ≡ blanks ++ (mid ++ 41 ∷ outer) → AreBlanks blanks → SpellsAll mid others
    → Behind frames (Any (joined (done ++ tree ∷ []) others)) outer t → Goes (step (In_any done ∷ frames) (After tree) b) rest t
among_any frames done tree b rest [] mid others outer t e are all k = any_goes frames done tree b rest mid others outer t e all k
among_any frames done tree b rest (a ∷ blanks) mid others outer t e are all k =
    blank_after (In_any done ∷ frames) tree b rest t (head_is b a rest (blanks ++ (mid ++ 41 ∷ outer)) e ∙ are.0) (blanks, mid, others, outer, tail_is b a rest (blanks ++ (mid ++ 41 ∷ outer)) e, are.1, all, k)

on_after_goes : (frames : List Frame) (tree : Tree) (b : ℕ) (rest : List ℕ) (t : Tree) → Behind frames tree (b ∷ rest) t → Goes (step frames (After tree) b) rest t
on_after_goes [] tree b rest t h = blank_after [] tree b rest t h.0.0 (h.0.1, h.1)
on_after_goes (In_every done ∷ frames) tree b rest t h = among_every frames done tree b rest h.0 h.1 h.2 h.3 t h.4 h.5 h.6 h.7
on_after_goes (In_any done ∷ frames) tree b rest t h = among_any frames done tree b rest h.0 h.1 h.2 h.3 t h.4 h.5 h.6 h.7
on_after_goes (In_not ∷ frames) tree b rest t h = not_goes frames tree b rest h.0 h.1 t h.2 h.3 h.4

pub step_on : (frames : List Frame) (mode : Mode) (b : ℕ) (rest : List ℕ) (t : Tree) → IsSound mode → Continues frames mode (b ∷ rest) t → Goes (step frames mode b) rest t
step_on frames Wanted b rest t sound = on_wanted_goes frames b rest t
step_on frames Opened b rest t sound = on_opened_goes frames b rest t
step_on frames (Attribute name blanks) b rest t sound = on_attribute_goes frames name blanks b rest t sound
step_on frames (Operator c name) b rest t sound = on_operator_goes frames c name b rest t
step_on frames (Valued c name parts part) b rest t sound = on_valued_goes frames c name parts part b rest t
step_on frames (Escaped c name parts part) b rest t sound = on_escaped_goes frames c name parts part b rest t
step_on frames (After tree) b rest t sound = on_after_goes frames tree b rest t
