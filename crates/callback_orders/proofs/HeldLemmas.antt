-- What is bound for a reference is what it holds, where each callback has ended.
use Rattle.std.proofs.Common.{◌≡◌, ℕ, ◌+◌, ◌<◌, suc, add-one, drop, drop-cons, get_or, length, List, [], ◌∷◌, ◌++◌, Bool, true, false, refl, ap, ◌∙◌, sym, subst}
use Rattle.std.specs.Prelude.{◌&&◌, ◌||◌, ◌==◌, not, filter, Option, Some, None, is_some, if◌then◌else◌}
use Rattle.std.specs.List.{list_any}
use Rattle.std.specs.Str.{bytes_eq}
use Rattle.std.proofs.Math.Bool.{and_comm, or_comm}
use Rattle.std.proofs.lemmas.Bool.{and_parts, false≢true, eq-eqb, eqb-true}
use Rattle.std.proofs.lemmas.List.Folds.{list_any-append}
use Rattle.std.proofs.lemmas.Map.Views.{any-filter_same}
use Rattle.std.proofs.lemmas.Slice.Eq.{bytes_eq-Decides}
use Rattle.callback_orders.specs.declared.callback.Callback.{Callback}
use Rattle.callback_orders.specs.declared.callback.Callback.TheVariants.{Create, Bind, Updated, Unbind, Activate, Modified, Deactivate, Destroy}
use Rattle.callback_orders.specs.declared.callback.Outcome.{Outcome}
use Rattle.callback_orders.specs.declared.word.Called.{Called}
use Rattle.callback_orders.specs.Sequences.{Bound, bound_by, is_bound, without, bound_after, may_come, have_ended}
use Rattle.callback_orders.specs.Lives.{held_by, held_after, held_for, names_one_of, speaks_of}
use Rattle.callback_orders.proofs.RoundLemmas.{without_other, without_itself, none_bound, bound_end}

-- both tests of equality tell it either way
same_truth : (a b : Bool) → (a ≡ true → b ≡ true) → (b ≡ true → a ≡ true) → a ≡ b
same_truth true b f g = sym (f refl)
same_truth false true f g = g refl
same_truth false false f g = refl

eq_either_way : (x y : ℕ) → (x == y) ≡ (y == x)
eq_either_way x y = same_truth (x == y) (y == x) (λ e. eq-eqb y x (sym (eqb-true x y e))) (λ e. eq-eqb x y (sym (eqb-true y x e)))

pub text_is : (x y : List ℕ) → bytes_eq x y ≡ true → x ≡ y
text_is x y e = (bytes_eq-Decides x y).0 e

pub text_same : (x y : List ℕ) → x ≡ y → bytes_eq x y ≡ true
text_same x y e = (bytes_eq-Decides x y).1 e

text_either_way : (x y : List ℕ) → bytes_eq x y ≡ bytes_eq y x
text_either_way x y = same_truth (bytes_eq x y) (bytes_eq y x) (λ e. text_same y x (sym (text_is x y e))) (λ e. text_same x y (sym (text_is y x e)))

-- one of the services
abbrev pub is_one : ℕ → List ℕ → Bool
is_one s held = list_any (λ x. x == s) held

abbrev Same : List ℕ → List Bound → List ℕ → Type 0
Same name bound held = (s : ℕ) → is_bound bound (bound_by name s) ≡ is_one s held

bind_by : (t : Bool) (s v : ℕ) (is : Bool) (held : List ℕ) → is ≡ is_one s held → ((t && (s == v)) || is) ≡ is_one s (if t then held ++ v ∷ [] else held)
bind_by true s v is held e =
    ap (λ b. b || is) (eq_either_way s v)
    ∙ ap (λ b. (v == s) || b) e
    ∙ or_comm (v == s) (is_one s held)
    ∙ ap (λ b. is_one s held || b) (or_comm false (v == s))
    ∙ sym (list_any-append (λ x. x == s) held (v ∷ []))
bind_by false s v is held e = e

same_bind : (name : List ℕ) (bound : List Bound) (held : List ℕ) (r : List ℕ) (v : ℕ) → Same name bound held
    → Same name (bound_by r v ∷ bound) (if bytes_eq r name then held ++ v ∷ [] else held)
same_bind name bound held r v h s =
    ap (λ b. (b && (s == v)) || is_bound bound (bound_by name s)) (text_either_way name r)
    ∙ bind_by (bytes_eq r name) s v (is_bound bound (bound_by name s)) held (h s)

-- the services without one
is_one-without : (s v : ℕ) (held : List ℕ) → is_one s (filter (λ x. not (x == v)) held) ≡ (not (s == v) && is_one s held)
is_one-without s v held =
    any-filter_same (λ x. x == s) (λ x. not (x == v)) (not (s == v)) (λ x e. ap (λ (y : ℕ). not (y == v)) (eqb-true x s e)) held

unbind_by : (t u : Bool) (name : List ℕ) (bound : List Bound) (held : List ℕ) (r : List ℕ) (v s : ℕ) → bytes_eq r name ≡ t → (s == v) ≡ u
    → is_bound bound (bound_by name s) ≡ is_one s held
    → is_bound (without bound (bound_by r v)) (bound_by name s) ≡ (if t then not u && is_one s held else is_one s held)
unbind_by true true name bound held r v s e f h =
    subst (λ (x : Bound). is_bound (without bound (bound_by r v)) x ≡ false)
    (ap (λ (n : List ℕ). bound_by n v) (text_is r name e) ∙ ap (λ (x : ℕ). bound_by name x) (sym (eqb-true s v f)))
    (without_itself (bound_by r v) bound)
unbind_by true false name bound held r v s e f h =
    without_other (bound_by r v) (bound_by name s) bound (ap (λ b. b && (v == s)) e ∙ eq_either_way v s ∙ f) ∙ h
unbind_by false u name bound held r v s e f h =
    without_other (bound_by r v) (bound_by name s) bound (ap (λ b. b && (v == s)) e) ∙ h

held_without : (t : Bool) (s v : ℕ) (held : List ℕ)
    → (if t then not (s == v) && is_one s held else is_one s held) ≡ is_one s (if t then filter (λ x. not (x == v)) held else held)
held_without true s v held = sym (is_one-without s v held)
held_without false s v held = refl

same_unbind : (name : List ℕ) (bound : List Bound) (held : List ℕ) (r : List ℕ) (v : ℕ) → Same name bound held
    → Same name (without bound (bound_by r v)) (if bytes_eq r name then filter (λ x. not (x == v)) held else held)
same_unbind name bound held r v h s =
    unbind_by (bytes_eq r name) (s == v) name bound held r v s refl refl (h s) ∙ held_without (bytes_eq r name) s v held

same_after : (callback : Callback) (o : Option Outcome) (name : List ℕ) (bound : List Bound) (held : List ℕ) → is_some o ≡ true
    → Same name bound held → Same name (bound_after callback bound) (held_by name callback o held)
same_after (Bind r v) o name bound held e h = same_bind name bound held r v h
same_after (Unbind r v) (Some x) name bound held e h = same_unbind name bound held r v h
same_after (Unbind r v) None name bound held e h = absurd (false≢true e)
same_after Create o name bound held e h = h
same_after (Updated r v) o name bound held e h = h
same_after Activate o name bound held e h = h
same_after Modified o name bound held e h = h
same_after Deactivate o name bound held e h = h
same_after Destroy o name bound held e h = h

same_end : (calls : List Called) (name : List ℕ) (bound : List Bound) (held : List ℕ) → have_ended calls ≡ true
    → Same name bound held → Same name (bound_end bound calls) (held_after name held calls)
same_end [] name bound held e h = h
same_end (c ∷ rest) name bound held e h =
    let p = and_parts (is_some c.outcome) (have_ended rest) e in
    same_end rest name (bound_after c.callback bound) (held_by name c.callback c.outcome held) p.1 (same_after c.callback c.outcome name bound held p.0 h)

-- a service is bound for a reference where it is held for it
pub bound_is_held : (calls : List Called) (name : List ℕ) (s : ℕ) → have_ended calls ≡ true → is_bound (bound_end [] calls) (bound_by name s) ≡ is_one s (held_for name calls)
bound_is_held calls name s e = same_end calls name [] [] e (λ x. refl) s

-- nothing is held for a reference of which no callback speaks
other_reference : (t : Bool) (names : List (List ℕ)) (name r : List ℕ) → bytes_eq r name ≡ t → list_any (bytes_eq name) names ≡ false → list_any (bytes_eq r) names ≡ true → t ≡ false
other_reference false names name r e n k = refl
other_reference true names name r e n k = absurd (false≢true (sym n ∙ subst (λ (x : List ℕ). list_any (bytes_eq x) names ≡ true) (text_is r name e) k))

unspoken_by : (callback : Callback) (o : Option Outcome) (names : List (List ℕ)) (name held : List ℕ) → list_any (bytes_eq name) names ≡ false → names_one_of names callback ≡ true
    → held_by name callback o held ≡ held
unspoken_by (Bind r v) o names name held n k = ap (λ b. if b then held ++ v ∷ [] else held) (other_reference (bytes_eq r name) names name r refl n k)
unspoken_by (Unbind r v) (Some x) names name held n k =
    ap (λ b. if b then filter (λ x. not (x == v)) held else held) (other_reference (bytes_eq r name) names name r refl n k)
unspoken_by (Unbind r v) None names name held n k = refl
unspoken_by Create o names name held n k = refl
unspoken_by (Updated r v) o names name held n k = refl
unspoken_by Activate o names name held n k = refl
unspoken_by Modified o names name held n k = refl
unspoken_by Deactivate o names name held n k = refl
unspoken_by Destroy o names name held n k = refl

unspoken : (calls : List Called) (names : List (List ℕ)) (name held : List ℕ) → list_any (bytes_eq name) names ≡ false → speaks_of names calls ≡ true
    → held_after name held calls ≡ held
unspoken [] names name held n k = refl
unspoken (c ∷ rest) names name held n k =
    let p = and_parts (names_one_of names c.callback) (speaks_of names rest) k in
    ap (λ (xs : List ℕ). held_after name xs rest) (unspoken_by c.callback c.outcome names name held n p.0) ∙ unspoken rest names name held n p.1

-- nothing is held for any of these references
abbrev pub HoldsNone : List Called → List (List ℕ) → Type 0
HoldsNone calls [] = Unit {0}
HoldsNone calls (n ∷ names) = ((s : ℕ) → is_one s (held_for n calls) ≡ false) × HoldsNone calls names

one_of_none : (t rest : Bool) (calls : List Called) (n name : List ℕ) (s : ℕ) → bytes_eq name n ≡ t → (t || rest) ≡ true → is_one s (held_for n calls) ≡ false
    → (rest ≡ true → is_one s (held_for name calls) ≡ false) → is_one s (held_for name calls) ≡ false
one_of_none true rest calls n name s e k h f = subst (λ (x : List ℕ). is_one s (held_for x calls) ≡ false) (sym (text_is name n e)) h
one_of_none false rest calls n name s e k h f = f k

held_none : (calls : List Called) (names : List (List ℕ)) (name : List ℕ) (s : ℕ) → list_any (bytes_eq name) names ≡ true → HoldsNone calls names → is_one s (held_for name calls) ≡ false
held_none calls [] name s k h = absurd (false≢true k)
held_none calls (n ∷ names) name s k h =
    one_of_none (bytes_eq name n) (list_any (bytes_eq name) names) calls n name s refl k (h.0 s) (λ k. held_none calls names name s k h.1)

nothing_held : (t : Bool) (calls : List Called) (names : List (List ℕ)) (name : List ℕ) (s : ℕ) → list_any (bytes_eq name) names ≡ t → speaks_of names calls ≡ true → HoldsNone calls names
    → is_one s (held_for name calls) ≡ false
nothing_held true calls names name s k p h = held_none calls names name s k h
nothing_held false calls names name s k p h = ap (is_one s) (unspoken calls names name [] k p)

-- where nothing is held for the references of which the callbacks speak, nothing is bound
pub destroy_may_come : (calls : List Called) (names : List (List ℕ)) → have_ended calls ≡ true → speaks_of names calls ≡ true → HoldsNone calls names
    → may_come Destroy (bound_end [] calls) ≡ true
destroy_may_come calls names e p h =
    none_bound (bound_end [] calls)
    (λ (x : Bound). ap not (bound_is_held calls x.reference x.service e ∙ nothing_held (list_any (bytes_eq x.reference) names) calls names x.reference x.service refl p h))

-- one of the services and one more, and one of those without one
pub is_one-more : (s v : ℕ) (held : List ℕ) (was : Bool) → was ≡ is_one s held → (was || (v == s)) ≡ is_one s (held ++ v ∷ [])
is_one-more s v held was e =
    ap (λ b. b || (v == s)) e
    ∙ ap (λ b. is_one s held || b) (or_comm false (v == s))
    ∙ sym (list_any-append (λ x. x == s) held (v ∷ []))

pub is_one-less : (s v : ℕ) (held : List ℕ) (was : Bool) → was ≡ is_one s held → (was && not (v == s)) ≡ is_one s (filter (λ x. not (x == v)) held)
is_one-less s v held was e =
    and_comm was (not (v == s))
    ∙ ap (λ b. not b && was) (eq_either_way v s)
    ∙ ap (λ b. not (s == v) && b) e
    ∙ sym (is_one-without s v held)

-- what is held from one callback on is held from the next one on, with what that one does
pub held_after-next : (name held : List ℕ) (calls : List Called) (i : ℕ) (c : Called) → i < length calls → c ≡ get_or calls i c
    → held_after name held (drop i calls) ≡ held_after name (held_by name c.callback c.outcome held) (drop (i + 1) calls)
held_after-next name held calls i c h e =
    ap (held_after name held) (drop-cons calls i c h)
    ∙ ap (λ (d : Called). held_after name (held_by name d.callback d.outcome held) (drop (suc i) calls)) (sym e)
    ∙ ap (λ (n : ℕ). held_after name (held_by name c.callback c.outcome held) (drop n calls)) (sym (add-one i))

-- whether a service is still held for a reference after an Unbind for it has ended
pub held_past_unbind : (name r : List ℕ) (v s : ℕ) (callback : Callback) (o : Option Outcome) (x : Outcome) (held : List ℕ) (was : Bool) → callback ≡ Unbind r v → o ≡ Some x
    → true ≡ bytes_eq r name → was ≡ is_one s held → (was && not (v == s)) ≡ is_one s (held_by name callback o held)
held_past_unbind name r v s callback o x held was c p t e =
    is_one-less s v held was e
    ∙ ap (λ b. is_one s (if b then filter (λ x. not (x == v)) held else held)) t
    ∙ ap (λ (d : Callback). is_one s (held_by name d (Some x) held)) (sym c)
    ∙ ap (λ (q : Option Outcome). is_one s (held_by name callback q held)) (sym p)
