-- That Bind and Unbind alternate, as the test says it, and as the grammar says it of each service for itself.
use Rattle.std.proofs.Common.{◌≡◌, ℕ, List, [], ◌∷◌, ◌++◌, Bool, true, false, refl, ap, ◌∙◌, sym, subst}
use Rattle.std.specs.Prelude.{◌&&◌, ◌||◌, ◌==◌, not, if◌then◌else◌}
use Rattle.std.specs.Bool.{Decides}
use Rattle.std.specs.Str.{bytes_eq}
use Rattle.std.proofs.lemmas.Bool.{and_parts, and_from, false≢true, not-true}
use Rattle.std.proofs.lemmas.Bool.Decides.{Decides-and, Decides-eqb}
use Rattle.std.proofs.lemmas.Slice.Eq.{bytes_eq-Decides}
use Rattle.callback_orders.specs.declared.callback.Callback.{Callback}
use Rattle.callback_orders.specs.declared.callback.Callback.TheVariants.{Create, Bind, Updated, Unbind, Activate, Modified, Deactivate, Destroy}
use Rattle.callback_orders.specs.declared.callback.Outcome.TheVariants.{Done}
use Rattle.callback_orders.specs.declared.word.Called.{Called}
use Rattle.callback_orders.specs.Sequences.{Bound, bound_by, same_bound, is_bound, without, bound_after, may_come, alternate, done_with, is_over}
use Rattle.callback_orders.specs.Grammar.{about, speaks_of, in_rounds, is_destroy}

-- the test of two services tells equality
same_from : (a b : Bound) → (a.reference ≡ b.reference) × (a.service ≡ b.service) → a ≡ b
same_from a b e = ap (λ (r : List ℕ). record { reference = r; service = a.service }) e.0 ∙ ap (λ (s : ℕ). record { reference = b.reference; service = s }) e.1

same_parts : (a b : Bound) → Decides (same_bound a b) ((a.reference ≡ b.reference) × (a.service ≡ b.service))
same_parts a b = Decides-and (bytes_eq a.reference b.reference) (a.service == b.service) (bytes_eq-Decides a.reference b.reference) (Decides-eqb a.service b.service)

pub same_is : (a b : Bound) → same_bound a b ≡ true → a ≡ b
same_is a b e = same_from a b ((same_parts a b).0 e)

pub same_itself : (a : Bound) → same_bound a a ≡ true
same_itself a = (same_parts a a).1 (refl, refl)

same_either_way : (a b : Bound) → same_bound a b ≡ true → same_bound b a ≡ true
same_either_way a b e = subst (λ (x : Bound). same_bound x a ≡ true) (same_is a b e) (same_itself a)

-- what is bound without one service
differs_too : (t : Bool) (y x b : Bound) → same_bound x b ≡ t → same_bound y b ≡ true → same_bound y x ≡ false → t ≡ false
differs_too false y x b f e d = refl
differs_too true y x b f e d = absurd (false≢true (sym d ∙ subst (λ (z : Bound). same_bound y z ≡ true) (sym (same_is x b f)) e))

without_by : (t : Bool) (y x b : Bound) (bound : List Bound) → same_bound y b ≡ t → same_bound y x ≡ false → is_bound (without bound y) x ≡ is_bound bound x
    → is_bound (if not t then b ∷ without bound y else without bound y) x ≡ is_bound (b ∷ bound) x
without_by true y x b bound e d h = h ∙ sym (ap (λ t. t || is_bound bound x) (differs_too (same_bound x b) y x b refl e d))
without_by false y x b bound e d h = ap (λ t. same_bound x b || t) h

pub without_other : (y x : Bound) (bound : List Bound) → same_bound y x ≡ false → is_bound (without bound y) x ≡ is_bound bound x
without_other y x [] d = refl
without_other y x (b ∷ bound) d = without_by (same_bound y b) y x b bound refl d (without_other y x bound d)

without_itself_by : (t : Bool) (y b : Bound) (bound : List Bound) → same_bound y b ≡ t → is_bound (without bound y) y ≡ false
    → is_bound (if not t then b ∷ without bound y else without bound y) y ≡ false
without_itself_by true y b bound e h = h
without_itself_by false y b bound e h = ap (λ t. t || is_bound (without bound y) y) e ∙ h

pub without_itself : (y : Bound) (bound : List Bound) → is_bound (without bound y) y ≡ false
without_itself y [] = refl
without_itself y (b ∷ bound) = without_itself_by (same_bound y b) y b bound refl (without_itself y bound)

-- nothing is bound twice
abbrev pub each_once : List Bound → Bool
each_once [] = true
each_once (b ∷ bound) = not (is_bound bound b) && each_once bound

each_once_by : (t : Bool) (y b : Bound) (bound : List Bound) → same_bound y b ≡ t → not (is_bound bound b) ≡ true → each_once (without bound y) ≡ true
    → each_once (if not t then b ∷ without bound y else without bound y) ≡ true
each_once_by true y b bound e d h = h
each_once_by false y b bound e d h = and_from _ _ (ap not (without_other y b bound e) ∙ d) h

each_once-without : (y : Bound) (bound : List Bound) → each_once bound ≡ true → each_once (without bound y) ≡ true
each_once-without y [] h = refl
each_once-without y (b ∷ bound) h =
    let p = and_parts (not (is_bound bound b)) (each_once bound) h in
    each_once_by (same_bound y b) y b bound refl p.0 (each_once-without y bound p.1)

-- what ends a list of callbacks: each bound service is unbound
abbrev pub unbinds : List Bound → List Called
unbinds [] = []
unbinds (b ∷ bound) = done_with (Unbind b.reference b.service) Done ∷ unbinds bound

abbrev pub bound_end : List Bound → List Called → List Bound
bound_end bound [] = bound
bound_end bound (c ∷ rest) = bound_end (bound_after c.callback bound) rest

close_by : (t k : Bool) (r : List ℕ) (s : ℕ) (rest : List Callback) → (t ≡ true → k ≡ false) → in_rounds k rest ≡ true → in_rounds (t || k) (if t then Unbind r s ∷ rest else rest) ≡ true
close_by true k r s rest f h = subst (λ b. in_rounds b rest ≡ true) (f refl) h
close_by false k r s rest f h = h

same_answer : (x b : Bound) (bound : List Bound) → not (is_bound bound b) ≡ true → same_bound x b ≡ true → is_bound bound x ≡ false
same_answer x b bound n e = subst (λ (z : Bound). is_bound bound z ≡ false) (sym (same_is x b e)) (not-true _ n)

same_true : (x b : Bound) (bound : List Bound) → is_bound bound b ≡ true → same_bound x b ≡ true → is_bound bound x ≡ true
same_true x b bound n e = subst (λ (z : Bound). is_bound bound z ≡ true) (sym (same_is x b e)) n

close_rounds : (x : Bound) (bound : List Bound) → each_once bound ≡ true → in_rounds (is_bound bound x) (about x (unbinds bound)) ≡ true
close_rounds x [] h = refl
close_rounds x (b ∷ bound) h =
    let p = and_parts (not (is_bound bound b)) (each_once bound) h in
    close_by (same_bound x b) (is_bound bound x) b.reference b.service (about x (unbinds bound)) (same_answer x b bound p.0) (close_rounds x bound p.1)

bind_by : (t k : Bool) (r : List ℕ) (s : ℕ) (rest more : List Callback) → (t ≡ true → k ≡ false) → in_rounds (t || k) (rest ++ more) ≡ true → in_rounds k ((if t then Bind r s ∷ rest else rest) ++ more) ≡ true
bind_by true k r s rest more f h = subst (λ b. in_rounds b (Bind r s ∷ (rest ++ more)) ≡ true) (sym (f refl)) h
bind_by false k r s rest more f h = h

tell_by : (t k : Bool) (r : List ℕ) (s : ℕ) (rest more : List Callback) → (t ≡ true → k ≡ true) → in_rounds k (rest ++ more) ≡ true → in_rounds k ((if t then Updated r s ∷ rest else rest) ++ more) ≡ true
tell_by true k r s rest more f h = and_from _ _ (f refl) h
tell_by false k r s rest more f h = h

unbind_by : (t k after : Bool) (r : List ℕ) (s : ℕ) (rest more : List Callback) → (t ≡ true → (k ≡ true) × (after ≡ false)) → (t ≡ false → after ≡ k)
    → in_rounds after (rest ++ more) ≡ true → in_rounds k ((if t then Unbind r s ∷ rest else rest) ++ more) ≡ true
unbind_by true k after r s rest more f g h = and_from _ _ (f refl).0 (subst (λ b. in_rounds b (rest ++ more) ≡ true) (f refl).1 h)
unbind_by false k after r s rest more f g h = subst (λ b. in_rounds b (rest ++ more) ≡ true) (g refl) h

not_after : (x y : Bound) (bound : List Bound) → same_bound x y ≡ true → is_bound (without bound y) x ≡ false
not_after x y bound e = subst (λ (z : Bound). is_bound (without bound y) z ≡ false) (sym (same_is x y e)) (without_itself y bound)

turned_by : (t : Bool) (x y : Bound) → same_bound y x ≡ t → same_bound x y ≡ false → t ≡ false
turned_by false x y e d = refl
turned_by true x y e d = absurd (false≢true (sym d ∙ subst (λ (z : Bound). same_bound x z ≡ true) (sym (same_is y x e)) (same_itself x)))

same_after : (x y : Bound) (bound : List Bound) → same_bound x y ≡ false → is_bound (without bound y) x ≡ is_bound bound x
same_after x y bound d = without_other y x bound (turned_by (same_bound y x) x y refl d)

-- one callback more, before callbacks of which that is so
rounds_onto : (callback : Callback) (x : Bound) (bound : List Bound) (rest more : List Callback) → may_come callback bound ≡ true
    → in_rounds (is_bound (bound_after callback bound) x) (rest ++ more) ≡ true
    → in_rounds (is_bound bound x) ((if speaks_of x callback then callback ∷ rest else rest) ++ more) ≡ true
rounds_onto Create x bound rest more m h = h
rounds_onto (Bind r s) x bound rest more m h = bind_by (same_bound x (bound_by r s)) (is_bound bound x) r s rest more (same_answer x (bound_by r s) bound m) h
rounds_onto (Updated r s) x bound rest more m h = tell_by (same_bound x (bound_by r s)) (is_bound bound x) r s rest more (same_true x (bound_by r s) bound m) h
rounds_onto (Unbind r s) x bound rest more m h =
    unbind_by (same_bound x (bound_by r s)) (is_bound bound x) (is_bound (without bound (bound_by r s)) x) r s rest more
    (λ e. (same_true x (bound_by r s) bound m e, not_after x (bound_by r s) bound e)) (same_after x (bound_by r s) bound) h
rounds_onto Activate x bound rest more m h = h
rounds_onto Modified x bound rest more m h = h
rounds_onto Deactivate x bound rest more m h = h
rounds_onto Destroy x bound rest more m h = h

each_once-after : (callback : Callback) (bound : List Bound) → may_come callback bound ≡ true → each_once bound ≡ true → each_once (bound_after callback bound) ≡ true
each_once-after Create bound m h = h
each_once-after (Bind r s) bound m h = and_from _ _ m h
each_once-after (Updated r s) bound m h = h
each_once-after (Unbind r s) bound m h = each_once-without (bound_by r s) bound h
each_once-after Activate bound m h = h
each_once-after Modified bound m h = h
each_once-after Deactivate bound m h = h
each_once-after Destroy bound m h = h

-- where they alternate, the callbacks that speak of one service are rounds, once what is bound at the end is unbound
pub rounds-closed : (x : Bound) (bound : List Bound) (calls : List Called) → each_once bound ≡ true → alternate bound calls ≡ true
    → in_rounds (is_bound bound x) (about x calls ++ about x (unbinds (bound_end bound calls))) ≡ true
rounds-closed x bound [] o a = close_rounds x bound o
rounds-closed x bound (c ∷ rest) o a =
    let p = and_parts (may_come c.callback bound) (alternate (bound_after c.callback bound) rest) a in
    rounds_onto c.callback x bound (about x rest) (about x (unbinds (bound_end (bound_after c.callback bound) rest))) p.0
    (rounds-closed x (bound_after c.callback bound) rest (each_once-after c.callback bound p.0 o) p.1)

-- a Destroy is the last callback
abbrev pub ends_at_destroy : List Called → Bool
ends_at_destroy [] = true
ends_at_destroy (c ∷ rest) = (not (is_destroy c.callback) || is_over rest) && ends_at_destroy rest

head_bind : (t k : Bool) (r : List ℕ) (s : ℕ) (rest : List Callback) → t ≡ true → in_rounds k (if t then Bind r s ∷ rest else rest) ≡ true → not k ≡ true
head_bind true k r s rest e h = (and_parts (not k) (in_rounds true rest) h).0
head_bind false k r s rest e h = absurd (false≢true e)

head_tell : (t k : Bool) (r : List ℕ) (s : ℕ) (rest : List Callback) → t ≡ true → in_rounds k (if t then Updated r s ∷ rest else rest) ≡ true → k ≡ true
head_tell true k r s rest e h = (and_parts k (in_rounds k rest) h).0
head_tell false k r s rest e h = absurd (false≢true e)

head_unbind : (t k : Bool) (r : List ℕ) (s : ℕ) (rest : List Callback) → t ≡ true → in_rounds k (if t then Unbind r s ∷ rest else rest) ≡ true → k ≡ true
head_unbind true k r s rest e h = (and_parts k (in_rounds false rest) h).0
head_unbind false k r s rest e h = absurd (false≢true e)

rest_bind : (t k : Bool) (r : List ℕ) (s : ℕ) (rest : List Callback) → in_rounds k (if t then Bind r s ∷ rest else rest) ≡ true → in_rounds (t || k) rest ≡ true
rest_bind true k r s rest h = (and_parts (not k) (in_rounds true rest) h).1
rest_bind false k r s rest h = h

rest_tell : (t k : Bool) (r : List ℕ) (s : ℕ) (rest : List Callback) → in_rounds k (if t then Updated r s ∷ rest else rest) ≡ true → in_rounds k rest ≡ true
rest_tell true k r s rest h = (and_parts k (in_rounds k rest) h).1
rest_tell false k r s rest h = h

rest_unbind : (t k after : Bool) (r : List ℕ) (s : ℕ) (rest : List Callback) → (t ≡ true → after ≡ false) → (t ≡ false → after ≡ k)
    → in_rounds k (if t then Unbind r s ∷ rest else rest) ≡ true → in_rounds after rest ≡ true
rest_unbind true k after r s rest f g h = subst (λ b. in_rounds b rest ≡ true) (sym (f refl)) (and_parts k (in_rounds false rest) h).1
rest_unbind false k after r s rest f g h = subst (λ b. in_rounds b rest ≡ true) (sym (g refl)) h

abbrev AllRounds : List Bound → List Called → Type 0
AllRounds bound calls = (x : Bound) → in_rounds (is_bound bound x) (about x calls) ≡ true

-- at Destroy nothing is bound
pub none_bound : (bound : List Bound) → ((x : Bound) → not (is_bound bound x) ≡ true) → may_come Destroy bound ≡ true
none_bound [] h = refl
none_bound (b ∷ bound) h = absurd (false≢true (ap (λ t. not (t || is_bound bound b)) (sym (same_itself b)) ∙ h b))

may_come_from : (callback : Callback) (rest : List Called) (bound : List Bound) → (not (is_destroy callback) || is_over rest) ≡ true
    → ((x : Bound) → in_rounds (is_bound bound x) (if speaks_of x callback then callback ∷ about x rest else about x rest) ≡ true)
    → (may_come callback bound ≡ true) × AllRounds (bound_after callback bound) rest
may_come_from Create rest bound d h = (refl, h)
may_come_from (Bind r s) rest bound d h = (
  head_bind (same_bound (bound_by r s) (bound_by r s)) (is_bound bound (bound_by r s)) r s (about (bound_by r s) rest) (same_itself (bound_by r s)) (h (bound_by r s)),
  λ x. rest_bind (same_bound x (bound_by r s)) (is_bound bound x) r s (about x rest) (h x),
)
may_come_from (Updated r s) rest bound d h = (
  head_tell (same_bound (bound_by r s) (bound_by r s)) (is_bound bound (bound_by r s)) r s (about (bound_by r s) rest) (same_itself (bound_by r s)) (h (bound_by r s)),
  λ x. rest_tell (same_bound x (bound_by r s)) (is_bound bound x) r s (about x rest) (h x),
)
may_come_from (Unbind r s) rest bound d h = (
  head_unbind (same_bound (bound_by r s) (bound_by r s)) (is_bound bound (bound_by r s)) r s (about (bound_by r s) rest) (same_itself (bound_by r s)) (h (bound_by r s)),
  λ x. rest_unbind (same_bound x (bound_by r s)) (is_bound bound x) (is_bound (without bound (bound_by r s)) x) r s (about x rest)
      (not_after x (bound_by r s) bound) (same_after x (bound_by r s) bound) (h x),
)
may_come_from Activate rest bound d h = (refl, h)
may_come_from Modified rest bound d h = (refl, h)
may_come_from Deactivate rest bound d h = (refl, h)
may_come_from Destroy [] bound d h = (none_bound bound h, h)
may_come_from Destroy (c ∷ rest) bound d h = absurd (false≢true d)

-- where the callbacks that speak of each service are rounds, they alternate
pub alternate-from : (calls : List Called) (bound : List Bound) → ends_at_destroy calls ≡ true → AllRounds bound calls → alternate bound calls ≡ true
alternate-from [] bound d h = refl
alternate-from (c ∷ rest) bound d h =
    let p = and_parts (not (is_destroy c.callback) || is_over rest) (ends_at_destroy rest) d in
    let q = may_come_from c.callback rest bound p.0 h in
    and_from _ _ q.0 (alternate-from rest (bound_after c.callback bound) p.1 q.1)
