-- With what a text can go on from a state of the machine, and which tree it then spells.
use Rattle.std.proofs.Common.{◌≡◌, refl, ap, ◌∙◌, ℕ, List, [], ◌∷◌, ◌++◌, append_assoc}
use Rattle.ldap_filter.specs.declared.comparison.Comparison.{Comparison}
use Rattle.ldap_filter.specs.Trees.{Tree, Every, Any, Not, Trees, And_then, joined, tree_with}
use Rattle.ldap_filter.specs.Spelling.{AreBlanks, sign, has_stars, AreAttribute, trim_front, trim_back, SpellsValue, Spells, bracketed, SpellsInside, every, any, negated, compares, SpellsAll}
use Rattle.ldap_filter.specs.Machine.{Frame, In_every, In_any, In_not, Mode, Wanted, Opened, Attribute, Operator, Valued, Escaped, After, State, value_tree}

-- behind a filter in these open ones
abbrev pub Behind : List Frame → Tree → List ℕ → Tree → Type 0
Behind [] tree rest t = AreBlanks rest × (t ≡ tree)
Behind (In_every done ∷ frames) tree rest t = (blanks : List ℕ) × (mid : List ℕ) × (others : Trees) × (outer : List ℕ) × (rest ≡ blanks ++ (mid ++ 41 ∷ outer)) × AreBlanks blanks × SpellsAll mid others
    × Behind frames (Every (joined (done ++ tree ∷ []) others)) outer t
Behind (In_any done ∷ frames) tree rest t = (blanks : List ℕ) × (mid : List ℕ) × (others : Trees) × (outer : List ℕ) × (rest ≡ blanks ++ (mid ++ 41 ∷ outer)) × AreBlanks blanks × SpellsAll mid others
    × Behind frames (Any (joined (done ++ tree ∷ []) others)) outer t
Behind (In_not ∷ frames) tree rest t = (blanks : List ℕ) × (outer : List ℕ) × (rest ≡ blanks ++ 41 ∷ outer) × AreBlanks blanks × Behind frames (Not tree) outer t

abbrev pub BehindValue : List Frame → Comparison → List ℕ → List (List ℕ) → List ℕ → List ℕ → Tree → Type 0
BehindValue frames c name parts part rest t = (value : List ℕ) × (q : List ℕ) × (qs : List (List ℕ)) × (outer : List ℕ) × (rest ≡ value ++ 41 ∷ outer) × SpellsValue (has_stars c) value q qs
    × Behind frames (value_tree c name (parts ++ (part ++ q) ∷ qs)) outer t

-- the rest goes on from the state, and the whole text then spells the tree
abbrev pub Continues : List Frame → Mode → List ℕ → Tree → Type 0
Continues frames Wanted rest t = (front : List ℕ) × (outer : List ℕ) × (tree : Tree) × (rest ≡ front ++ outer) × Spells front tree × Behind frames tree outer t
Continues frames Opened rest t = (inner : List ℕ) × (outer : List ℕ) × (tree : Tree) × (rest ≡ inner ++ 41 ∷ outer) × SpellsInside inner tree × Behind frames tree outer t
Continues frames (Attribute name blanks) rest t = (more : List ℕ) × (c : Comparison) × (value : List ℕ) × (part : List ℕ) × (parts : List (List ℕ)) × (outer : List ℕ)
    × (rest ≡ more ++ (sign c ++ (value ++ 41 ∷ outer))) × AreAttribute more × SpellsValue (has_stars c) value part parts × Behind frames (tree_with c (name ++ trim_back (blanks ++ more)) part parts) outer t
Continues frames (Operator c name) rest t = (behind : List ℕ) × (rest ≡ 61 ∷ behind) × BehindValue frames c name [] [] behind t
Continues frames (Valued c name parts part) rest t = BehindValue frames c name parts part rest t
Continues frames (Escaped c name parts part) rest t = (b : ℕ) × (behind : List ℕ) × (rest ≡ b ∷ behind) × BehindValue frames c name parts (part ++ b ∷ []) behind t
Continues frames (After tree) rest t = Behind frames tree rest t

abbrev pub GoesOn : State → List ℕ → Tree → Type 0
GoesOn s rest t = Continues s.0 s.1 rest t

-- blanks may stand behind a filter
pub blanks_behind : (bs : List ℕ) (frames : List Frame) (tree : Tree) (rest : List ℕ) (t : Tree) → AreBlanks bs → Behind frames tree rest t → Behind frames tree (bs ++ rest) t
blanks_behind [] frames tree rest t are h = h
blanks_behind (b ∷ bs) [] tree rest t are h = ((are.0, (blanks_behind bs [] tree rest t are.1 h).0), h.1)
blanks_behind (b ∷ bs) (In_every done ∷ frames) tree rest t are h =
    let g = blanks_behind bs (In_every done ∷ frames) tree rest t are.1 h in (b ∷ g.0, g.1, g.2, g.3, ap (λ xs. b ∷ xs) g.4, (are.0, g.5), g.6, g.7)
blanks_behind (b ∷ bs) (In_any done ∷ frames) tree rest t are h =
    let g = blanks_behind bs (In_any done ∷ frames) tree rest t are.1 h in (b ∷ g.0, g.1, g.2, g.3, ap (λ xs. b ∷ xs) g.4, (are.0, g.5), g.6, g.7)
blanks_behind (b ∷ bs) (In_not ∷ frames) tree rest t are h =
    let g = blanks_behind bs (In_not ∷ frames) tree rest t are.1 h in (b ∷ g.0, g.1, ap (λ xs. b ∷ xs) g.2, (are.0, g.3), g.4)

pub joined_snoc : (ts : List Tree) (t : Tree) (others : Trees) → joined (ts ++ t ∷ []) others ≡ joined ts (And_then t others)
joined_snoc [] t others = refl
joined_snoc (u ∷ ts) t others = ap (And_then u) (joined_snoc ts t others)

-- a blank may stand before a filter
pub blank_before : (text : List ℕ) (tree : Tree) → Spells text tree → Spells (32 ∷ text) tree
blank_before _ _ (bracketed text before inner behind tree b0 b1 is inside) = bracketed (32 ∷ text) (32 ∷ before) inner behind tree (refl, b0) b1 (ap (λ xs. 32 ∷ xs) is) inside

trim_blank_front : (attribute : List ℕ) → trim_front (32 ∷ attribute) ≡ trim_front attribute
trim_blank_front attribute = refl

-- a blank may stand first in the brackets
pub blank_inside : (text : List ℕ) (tree : Tree) → SpellsInside text tree → SpellsInside (32 ∷ text) tree
blank_inside _ _ (every text blanks filters first others are is all) = every (32 ∷ text) (32 ∷ blanks) filters first others (refl, are) (ap (λ xs. 32 ∷ xs) is) all
blank_inside _ _ (any text blanks filters first others are is all) = any (32 ∷ text) (32 ∷ blanks) filters first others (refl, are) (ap (λ xs. 32 ∷ xs) is) all
blank_inside _ _ (negated text blanks filter tree are is spells) = negated (32 ∷ text) (32 ∷ blanks) filter tree (refl, are) (ap (λ xs. 32 ∷ xs) is) spells
blank_inside _ _ (compares text attribute value part parts c is chars named spells) = compares (32 ∷ text) (32 ∷ attribute) value part parts c (ap (λ xs. 32 ∷ xs) is) (refl, chars) named spells

are_joined : (a b : List ℕ) → AreBlanks a → AreBlanks b → AreBlanks (a ++ b)
are_joined [] b x y = y
are_joined (c ∷ a) b x y = (x.0, are_joined a b x.1 y)

-- blanks may stand behind a filter, as part of it
pub blanks_after : (text bs : List ℕ) (tree : Tree) → AreBlanks bs → Spells text tree → Spells (text ++ bs) tree
blanks_after _ bs _ are (bracketed text before inner behind tree b0 b1 is inside) =
    bracketed (text ++ bs) before inner (behind ++ bs) tree b0 (are_joined behind bs b1 are)
    (ap (λ xs. xs ++ bs) is ∙ append_assoc before (40 ∷ (inner ++ 41 ∷ behind)) bs ∙ ap (λ xs. before ++ 40 ∷ xs) (append_assoc inner (41 ∷ behind) bs)) inside
