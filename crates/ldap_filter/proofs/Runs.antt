-- What the machine reads is what the grammar spells, and it goes on just where some filter does.
use Rattle.std.proofs.Common.{◌≡◌, refl, sym, ap, ◌∙◌, subst, ℕ, eqb, ◌&&◌, List, [], ◌∷◌, ◌++◌, Option, Some, None, append_assoc, append-nil}
use Rattle.std.specs.Prelude.{option_and_then}
use Rattle.ldap_filter.specs.declared.comparison.Comparison.TheVariants.{Equal}
use Rattle.ldap_filter.specs.Trees.{Tree, Every, Any, Not, Compare, No_more, joined, tree_with}
use Rattle.ldap_filter.specs.Spelling.{AreBlanks, sign, has_stars, is_attribute, trim_back, nothing, Spells, bracketed, SpellsInside, compares, no_more}
use Rattle.ldap_filter.specs.Places.{IsOpen}
use Rattle.ldap_filter.specs.Machine.{Frame, In_every, In_any, In_not, Mode, Wanted, Opened, Attribute, Operator, Valued, Escaped, After, State, value_tree, closed, continued, step, run, start, accepted}
use Rattle.ldap_filter.proofs.Continuations.{Behind, Continues, GoesOn, blanks_after}
use Rattle.ldap_filter.proofs.StepsBack.{on_test, on_byte, IsSound, step_back}
use Rattle.ldap_filter.proofs.StepsOn.{step_on}

are_snoc : (blanks : List ℕ) → AreBlanks blanks → AreBlanks (blanks ++ 32 ∷ [])
are_snoc [] are = (refl, tt)
are_snoc (b ∷ bs) are = (are.0, are_snoc bs are.1)

sound_state : (u s : State) → IsSound u.1 → Some u ≡ Some s → IsSound s.1
sound_state u s sound e = subst (λ v. IsSound v.1) (let h : u ≡ s = cc in h) sound

no_sound : (s : State) → None ≡ Some s → IsSound s.1
no_sound s e = absurd (let h : ⊥ = cc in h)

closed_sound : (frames : List Frame) (tree : Tree) (s : State) → closed frames tree ≡ Some s → IsSound s.1
closed_sound [] tree s e = no_sound s e
closed_sound (In_every done ∷ frames) tree s e = sound_state _ s tt e
closed_sound (In_any done ∷ frames) tree s e = sound_state _ s tt e
closed_sound (In_not ∷ frames) tree s e = sound_state _ s tt e

continued_sound : (frames : List Frame) (tree : Tree) (s : State) → continued frames tree ≡ Some s → IsSound s.1
continued_sound [] tree s e = no_sound s e
continued_sound (In_every done ∷ frames) tree s e = sound_state _ s tt e
continued_sound (In_any done ∷ frames) tree s e = sound_state _ s tt e
continued_sound (In_not ∷ frames) tree s e = no_sound s e

pub step_sound : (frames : List Frame) (mode : Mode) (b : ℕ) (s : State) → IsSound mode → step frames mode b ≡ Some s → IsSound s.1
step_sound frames Wanted b s sound e = on_byte b 32 _ _ _ e (λ _. sound_state _ s tt) (λ _ e2. on_byte b 40 _ _ _ e2 (λ _. sound_state _ s tt) (λ _. no_sound s))
step_sound frames Opened b s sound e =
    on_byte b 32 _ _ _ e (λ _. sound_state _ s tt) (λ _ e2. on_byte b 38 _ _ _ e2 (λ _. sound_state _ s tt) (λ _ e3. on_byte b 124 _ _ _ e3 (λ _. sound_state _ s tt)
    (λ _ e4. on_byte b 33 _ _ _ e4 (λ _. sound_state _ s tt) (λ _ e5. on_test (is_attribute b) _ _ _ e5 (λ _. sound_state _ s tt) (λ _. no_sound s)))))
step_sound frames (Attribute name blanks) b s sound e =
    on_byte b 32 _ _ _ e (λ _. sound_state _ s (are_snoc blanks sound)) (λ _ e2. on_byte b 61 _ _ _ e2 (λ _. sound_state _ s tt) (λ _ e3. on_byte b 126 _ _ _ e3 (λ _. sound_state _ s tt)
    (λ _ e4. on_byte b 62 _ _ _ e4 (λ _. sound_state _ s tt) (λ _ e5. on_byte b 60 _ _ _ e5 (λ _. sound_state _ s tt) (λ _ e6. on_test (is_attribute b) _ _ _ e6 (λ _. sound_state _ s tt) (λ _. no_sound s))))))
step_sound frames (Operator c name) b s sound e = on_byte b 61 _ _ _ e (λ _. sound_state _ s tt) (λ _. no_sound s)
step_sound frames (Valued c name parts part) b s sound e =
    on_byte b 41 _ _ _ e (λ _. sound_state _ s tt) (λ _ e2. on_byte b 92 _ _ _ e2 (λ _. sound_state _ s tt) (λ _ e3. on_test (eqb b 42 && has_stars c) _ _ _ e3 (λ _. sound_state _ s tt)
    (λ _ e4. on_byte b 40 _ _ _ e4 (λ _. no_sound s) (λ _. sound_state _ s tt))))
step_sound frames (Escaped c name parts part) b s sound e = sound_state _ s tt e
step_sound frames (After tree) b s sound e =
    on_byte b 32 _ _ _ e (λ _. sound_state _ s tt) (λ _ e2. on_byte b 41 _ _ _ e2 (λ _. closed_sound frames tree s) (λ _ e3. on_byte b 40 _ _ _ e3 (λ _. continued_sound frames tree s) (λ _. no_sound s)))

-- the first byte and the others
pub record Split (o : Option State) (bs : List ℕ) (u : State) : Type 0 where
  pub mid : State
  pub first : o ≡ Some mid
  pub others : run bs mid ≡ Some u

pub split : (o : Option State) (bs : List ℕ) (u : State) → option_and_then (run bs) o ≡ Some u → Split o bs u
split None bs u e = absurd (let h : ⊥ = cc in h)
split (Some v) bs u e = record { mid = v; first = refl; others = e }

pub run_sound : (bs : List ℕ) (s u : State) → IsSound s.1 → run bs s ≡ Some u → IsSound u.1
run_sound [] s u sound e = sound_state s u sound e
run_sound (b ∷ bs) s u sound e = let d = split (step s.0 s.1 b) bs u e in run_sound bs d.mid u (step_sound s.0 s.1 b d.mid sound d.first) d.others

pub run_back : (bs : List ℕ) (s u : State) (rest : List ℕ) (t : Tree) → IsSound s.1 → run bs s ≡ Some u → GoesOn u rest t → GoesOn s (bs ++ rest) t
run_back [] s u rest t sound e h = subst (λ v. GoesOn v rest t) (let k : u ≡ s = cc in k) h
run_back (b ∷ bs) s u rest t sound e h =
    let d = split (step s.0 s.1 b) bs u e in
    step_back s.0 s.1 b d.mid (bs ++ rest) t sound d.first (run_back bs d.mid u rest t (step_sound s.0 s.1 b d.mid sound d.first) d.others h)

pub record Runs (bs : List ℕ) (s : State) (rest : List ℕ) (t : Tree) : Type 0 where
  pub state : State
  pub is : run bs s ≡ Some state
  pub on : GoesOn state rest t

pub run_on : (bs : List ℕ) (s : State) (rest : List ℕ) (t : Tree) → IsSound s.1 → GoesOn s (bs ++ rest) t → Runs bs s rest t
run_on [] s rest t sound h = record { state = s; is = refl; on = h }
run_on (b ∷ bs) s rest t sound h =
    let g = step_on s.0 s.1 b (bs ++ rest) t sound h in
    let r = run_on bs g.state rest t (step_sound s.0 s.1 b g.state sound g.is) g.on in
    record { state = r.state; is = ap (option_and_then (run bs)) g.is ∙ r.is; on = r.on }

no_byte : {G : Type 0} (xs : List ℕ) (b : ℕ) (ys : List ℕ) → [] ≡ xs ++ b ∷ ys → G
no_byte [] b ys e = absurd (let h : ⊥ = cc in h)
no_byte (x ∷ xs) b ys e = absurd (let h : ⊥ = cc in h)

nothing_spells : {G : Type 0} (text outer : List ℕ) (tree : Tree) → Spells text tree → [] ≡ text ++ outer → G
nothing_spells _ outer _ (bracketed text before inner behind tree b0 b1 is inside) e = no_byte before 40 ((inner ++ 41 ∷ behind) ++ outer) (e ∙ ap (λ xs. xs ++ outer) is ∙ append_assoc before (40 ∷ (inner ++ 41 ∷ behind)) outer)

nothing_behind : (f : Frame) (frames : List Frame) (tree t : Tree) → Behind (f ∷ frames) tree [] t → None ≡ Some t
nothing_behind (In_every done) frames tree t h = no_byte (h.0 ++ h.1) 41 h.3 (h.4 ∙ sym (append_assoc h.0 h.1 (41 ∷ h.3)))
nothing_behind (In_any done) frames tree t h = no_byte (h.0 ++ h.1) 41 h.3 (h.4 ∙ sym (append_assoc h.0 h.1 (41 ∷ h.3)))
nothing_behind In_not frames tree t h = no_byte h.0 41 h.1 h.2

nothing_after : (frames : List Frame) (tree t : Tree) → Behind frames tree [] t → accepted frames (After tree) ≡ Some t
nothing_after [] tree t h = ap Some (sym h.1)
nothing_after (f ∷ frames) tree t h = nothing_behind f frames tree t h

-- where nothing comes any more the tree is that which was read
pub ends : (frames : List Frame) (mode : Mode) (t : Tree) → Continues frames mode [] t → accepted frames mode ≡ Some t
ends frames Wanted t h = nothing_spells h.0 h.1 h.2 h.4 h.3
ends frames Opened t h = no_byte h.0 41 h.1 h.3
ends frames (Attribute name blanks) t h = no_byte (h.0 ++ (sign h.1 ++ h.2)) 41 h.5 (h.6 ∙ ap (λ xs. h.0 ++ xs) (sym (append_assoc (sign h.1) h.2 (41 ∷ h.5))) ∙ sym (append_assoc h.0 (sign h.1 ++ h.2) (41 ∷ h.5)))
ends frames (Operator c name) t h = no_byte [] 61 h.0 h.1
ends frames (Valued c name parts part) t h = no_byte h.0 41 h.3 h.4
ends frames (Escaped c name parts part) t h = no_byte [] h.0 h.1 h.2
ends frames (After tree) t h = nothing_after frames tree t h

accepted_after : (frames : List Frame) (tree t : Tree) → accepted frames (After tree) ≡ Some t → Behind frames tree [] t
accepted_after [] tree t e = (tt, let h : t ≡ tree = cc in h)
accepted_after (f ∷ frames) tree t e = absurd (let h : ⊥ = cc in h)

pub ended : (frames : List Frame) (mode : Mode) (t : Tree) → accepted frames mode ≡ Some t → Continues frames mode [] t
ended frames Wanted t e = absurd (let h : ⊥ = cc in h)
ended frames Opened t e = absurd (let h : ⊥ = cc in h)
ended frames (Attribute name blanks) t e = absurd (let h : ⊥ = cc in h)
ended frames (Operator c name) t e = absurd (let h : ⊥ = cc in h)
ended frames (Valued c name parts part) t e = absurd (let h : ⊥ = cc in h)
ended frames (Escaped c name parts part) t e = absurd (let h : ⊥ = cc in h)
ended frames (After tree) t e = accepted_after frames tree t e

pub begun : (text : List ℕ) (t : Tree) → Spells text t → GoesOn start text t
begun text t spells = (text, [], t, sym (append-nil text), spells, (tt, refl))

pub spelled : (text : List ℕ) (t : Tree) → GoesOn start text t → Spells text t
spelled text t h = subst (λ xs. Spells xs t) (sym h.3) (subst (λ u. Spells (h.0 ++ h.1) u) (sym h.5.1) (blanks_after h.0 h.1 h.2 h.5.0 h.4))

-- the tree that a text spells is what is read of it
pub record Read (text : List ℕ) (t : Tree) : Type 0 where
  pub state : State
  pub is : run text start ≡ Some state
  pub all : accepted state.0 state.1 ≡ Some t

pub spelled_read : (text : List ℕ) (t : Tree) → Spells text t → Read text t
spelled_read text t spells =
    let r = run_on text start [] t tt (subst (λ xs. GoesOn start xs t) (sym (append-nil text)) (begun text t spells)) in
    record { state = r.state; is = r.is; all = ends r.state.0 r.state.1 t r.on }

pub read_spelled : (text : List ℕ) (u : State) (t : Tree) → run text start ≡ Some u → accepted u.0 u.1 ≡ Some t → Spells text t
read_spelled text u t is all = spelled text t (subst (λ xs. GoesOn start xs t) (append-nil text) (run_back text start u [] t tt is (ended u.0 u.1 t all)))

-- a text spells one tree at most
pub one_tree : (text : List ℕ) (s t : Tree) → Spells text s → Spells text t → s ≡ t
one_tree text s t a b = let x = spelled_read text s a in let y = spelled_read text t b in joined_up x.state y.state x.is y.is x.all y.all where
  joined_up : (u v : State) → run text start ≡ Some u → run text start ≡ Some v → accepted u.0 u.1 ≡ Some s → accepted v.0 v.1 ≡ Some t → s ≡ t
  joined_up u v e f g h = let same : u ≡ v = cc in let k : accepted u.0 u.1 ≡ Some t = subst (λ w. accepted w.0 w.1 ≡ Some t) (sym same) h in cc

pub open_reads : (text : List ℕ) → IsOpen text → (u : State) × (run text start ≡ Some u)
open_reads text open_ = let r = run_on text start open_.rest open_.tree tt (begun (text ++ open_.rest) open_.tree open_.spells) in (r.state, r.is)

-- a filter to go on with
abbrev leaf : Tree
leaf = Compare Equal (97 ∷ []) []

leaf_inside : SpellsInside (97 ∷ 61 ∷ []) leaf
leaf_inside = compares (97 ∷ 61 ∷ []) (97 ∷ []) [] [] [] Equal refl (refl, tt) refl nothing

leaf_spells : Spells (40 ∷ 97 ∷ 61 ∷ 41 ∷ []) leaf
leaf_spells = bracketed (40 ∷ 97 ∷ 61 ∷ 41 ∷ []) [] (97 ∷ 61 ∷ []) [] leaf tt tt refl leaf_inside

some_behind : (frames : List Frame) (tree : Tree) → (rest : List ℕ) × (t : Tree) × Behind frames tree rest t
some_behind [] tree = ([], tree, (tt, refl))
some_behind (In_every done ∷ frames) tree = let k = some_behind frames (Every (joined (done ++ tree ∷ []) No_more)) in (41 ∷ k.0, k.1, ([], [], No_more, k.0, refl, tt, no_more, k.2))
some_behind (In_any done ∷ frames) tree = let k = some_behind frames (Any (joined (done ++ tree ∷ []) No_more)) in (41 ∷ k.0, k.1, ([], [], No_more, k.0, refl, tt, no_more, k.2))
some_behind (In_not ∷ frames) tree = let k = some_behind frames (Not tree) in (41 ∷ k.0, k.1, ([], k.0, refl, tt, k.2))

pub some_way : (frames : List Frame) (mode : Mode) → (rest : List ℕ) × (t : Tree) × Continues frames mode rest t
some_way frames Wanted = let k = some_behind frames leaf in (40 ∷ 97 ∷ 61 ∷ 41 ∷ k.0, k.1, (40 ∷ 97 ∷ 61 ∷ 41 ∷ [], k.0, leaf, refl, leaf_spells, k.2))
some_way frames Opened = let k = some_behind frames leaf in (97 ∷ 61 ∷ 41 ∷ k.0, k.1, (97 ∷ 61 ∷ [], k.0, leaf, refl, leaf_inside, k.2))
some_way frames (Attribute name blanks) = let k = some_behind frames (tree_with Equal (name ++ trim_back (blanks ++ [])) [] []) in (61 ∷ 41 ∷ k.0, k.1, ([], Equal, [], [], [], k.0, refl, tt, nothing, k.2))
some_way frames (Operator c name) = let k = some_behind frames (value_tree c name ([] ++ ([] ++ []) ∷ [])) in (61 ∷ 41 ∷ k.0, k.1, (41 ∷ k.0, refl, ([], [], [], k.0, refl, nothing, k.2)))
some_way frames (Valued c name parts part) = let k = some_behind frames (value_tree c name (parts ++ (part ++ []) ∷ [])) in (41 ∷ k.0, k.1, ([], [], [], k.0, refl, nothing, k.2))
some_way frames (Escaped c name parts part) = let k = some_behind frames (value_tree c name (parts ++ ((part ++ 97 ∷ []) ++ []) ∷ [])) in (97 ∷ 41 ∷ k.0, k.1, (97, 41 ∷ k.0, refl, ([], [], [], k.0, refl, nothing, k.2)))
some_way frames (After tree) = some_behind frames tree

pub reads_open : (text : List ℕ) (u : State) → run text start ≡ Some u → IsOpen text
reads_open text u is = let w = some_way u.0 u.1 in record { rest = w.0; tree = w.1; spells = spelled (text ++ w.0) w.1 (run_back text start u w.0 w.1 tt is w.2) }
