-- That a life cycle of the grammar, and each front of it, passes the test.
use Rattle.std.proofs.Common.{◌≡◌, List, [], ◌∷◌, ◌++◌, Bool, true, false, refl, ap, ◌∙◌, sym, subst, inl, inr}
use Rattle.std.specs.Prelude.{◌&&◌, ◌||◌, not, if◌then◌else◌, Option, Some, None}
use Rattle.std.specs.List.{list_all}
use Rattle.std.proofs.lemmas.Bool.{and_parts, and_from, false≢true}
use Rattle.callback_orders.specs.declared.callback.Callback.{Callback}
use Rattle.callback_orders.specs.declared.callback.Callback.TheVariants.{Create, Bind, Updated, Unbind, Activate, Modified, Deactivate, Destroy}
use Rattle.callback_orders.specs.declared.callback.Outcome.{Outcome}
use Rattle.callback_orders.specs.declared.callback.Outcome.TheVariants.{Done, Refused, NoMemory}
use Rattle.callback_orders.specs.declared.word.Called.{Called}
use Rattle.callback_orders.specs.Sequences.{is_over, is_done, is_failed, is_bind_or_unbind, leaving_by, leaving, active_by, active, making_by, making, created_by, created}
use Rattle.callback_orders.specs.Grammar.{is_create, is_unbind, is_activate, is_while_active, is_deactivate, is_destroy, of, PerhapsActive, Leaving, LifeCycle}
use Rattle.callback_orders.proofs.RoundLemmas.{ends_at_destroy}

unbind_leaves : (callback : Callback) (v l : Bool) → is_unbind callback ≡ true → l ≡ true → leaving_by callback v l ≡ true
unbind_leaves (Unbind r s) v l k h = h
unbind_leaves Create v l k h = absurd (false≢true k)
unbind_leaves (Bind r s) v l k h = absurd (false≢true k)
unbind_leaves (Updated r s) v l k h = absurd (false≢true k)
unbind_leaves Activate v l k h = absurd (false≢true k)
unbind_leaves Modified v l k h = absurd (false≢true k)
unbind_leaves Deactivate v l k h = absurd (false≢true k)
unbind_leaves Destroy v l k h = absurd (false≢true k)

many_leave : (first rest : List Called) → list_all (of is_unbind) first ≡ true → leaving rest ≡ true → leaving (first ++ rest) ≡ true
many_leave [] rest m h = h
many_leave (c ∷ first) rest m h =
    let p = and_parts (is_unbind c.callback) (list_all (of is_unbind) first) m in
    unbind_leaves c.callback (is_over (first ++ rest)) (leaving (first ++ rest)) p.0 (many_leave first rest p.1 h)

destroy_leaves : (callback : Callback) → is_destroy callback ≡ true → leaving_by callback true true ≡ true
destroy_leaves Destroy k = refl
destroy_leaves (Unbind r s) k = refl
destroy_leaves Create k = absurd (false≢true k)
destroy_leaves (Bind r s) k = absurd (false≢true k)
destroy_leaves (Updated r s) k = absurd (false≢true k)
destroy_leaves Activate k = absurd (false≢true k)
destroy_leaves Modified k = absurd (false≢true k)
destroy_leaves Deactivate k = absurd (false≢true k)

leaving-from : (calls : List Called) → Leaving calls → leaving calls ≡ true
leaving-from calls p =
    let last : leaving p.1 ≡ true = subst (λ (l : List Called). leaving l ≡ true) (sym p.4.1) (destroy_leaves p.4.0.callback p.4.2) in
    subst (λ (l : List Called). leaving l ≡ true) (sym p.2) (many_leave p.0 p.1 p.3 last)

stay_active : (callback : Callback) (a l : Bool) → is_while_active callback ≡ true → a ≡ true → active_by callback a l ≡ true
stay_active (Bind r s) a l k h = h
stay_active (Updated r s) a l k h = h
stay_active (Unbind r s) a l k h = h
stay_active Modified a l k h = h
stay_active Create a l k h = absurd (false≢true k)
stay_active Activate a l k h = absurd (false≢true k)
stay_active Deactivate a l k h = absurd (false≢true k)
stay_active Destroy a l k h = absurd (false≢true k)

stop_active : (callback : Callback) (a l : Bool) → is_deactivate callback ≡ true → l ≡ true → active_by callback a l ≡ true
stop_active Deactivate a l k h = h
stop_active Create a l k h = absurd (false≢true k)
stop_active (Bind r s) a l k h = absurd (false≢true k)
stop_active (Updated r s) a l k h = absurd (false≢true k)
stop_active (Unbind r s) a l k h = absurd (false≢true k)
stop_active Activate a l k h = absurd (false≢true k)
stop_active Modified a l k h = absurd (false≢true k)
stop_active Destroy a l k h = absurd (false≢true k)

active-from : (run : List Called) (c : Called) (left : List Called) → list_all (of is_while_active) run ≡ true → is_deactivate c.callback ≡ true → leaving left ≡ true
    → active ((run ++ c ∷ []) ++ left) ≡ true
active-from [] c left m d h = stop_active c.callback (active left) (leaving left) d h
active-from (b ∷ run) c left m d h =
    let p = and_parts (is_while_active b.callback) (list_all (of is_while_active) run) m in
    stay_active b.callback (active ((run ++ c ∷ []) ++ left)) (leaving ((run ++ c ∷ []) ++ left)) p.0 (active-from run c left p.1 d h)

bind_making : (callback : Callback) (v m g : Bool) → is_bind_or_unbind callback ≡ true → m ≡ true → making_by callback v m g ≡ true
bind_making (Bind r s) v m g k h = h
bind_making (Unbind r s) v m g k h = h
bind_making Create v m g k h = absurd (false≢true k)
bind_making (Updated r s) v m g k h = absurd (false≢true k)
bind_making Activate v m g k h = absurd (false≢true k)
bind_making Modified v m g k h = absurd (false≢true k)
bind_making Deactivate v m g k h = absurd (false≢true k)
bind_making Destroy v m g k h = absurd (false≢true k)

many_make : (first rest : List Called) → list_all (of is_bind_or_unbind) first ≡ true → making rest ≡ true → making (first ++ rest) ≡ true
many_make [] rest m h = h
many_make (c ∷ first) rest m h =
    let p = and_parts (is_bind_or_unbind c.callback) (list_all (of is_bind_or_unbind) first) m in
    bind_making c.callback (is_over (first ++ rest)) (making (first ++ rest)) (if is_done c.outcome then active (first ++ rest) else leaving (first ++ rest)) p.0 (many_make first rest p.1 h)

unbind_is : (callback : Callback) → is_unbind callback ≡ true → is_bind_or_unbind callback ≡ true
unbind_is (Unbind r s) k = refl
unbind_is (Bind r s) k = refl
unbind_is Create k = k
unbind_is (Updated r s) k = k
unbind_is Activate k = k
unbind_is Modified k = k
unbind_is Deactivate k = k
unbind_is Destroy k = k

unbinds_are : (calls : List Called) → list_all (of is_unbind) calls ≡ true → list_all (of is_bind_or_unbind) calls ≡ true
unbinds_are [] m = refl
unbinds_are (c ∷ rest) m =
    let p = and_parts (is_unbind c.callback) (list_all (of is_unbind) rest) m in
    and_from _ _ (unbind_is c.callback p.0) (unbinds_are rest p.1)

destroy_making : (callback : Callback) (g : Bool) → is_destroy callback ≡ true → making_by callback true true g ≡ true
destroy_making Destroy g k = refl
destroy_making Create g k = absurd (false≢true k)
destroy_making (Bind r s) g k = absurd (false≢true k)
destroy_making (Updated r s) g k = absurd (false≢true k)
destroy_making (Unbind r s) g k = absurd (false≢true k)
destroy_making Activate g k = absurd (false≢true k)
destroy_making Modified g k = absurd (false≢true k)
destroy_making Deactivate g k = absurd (false≢true k)

making-leaving : (calls : List Called) → Leaving calls → making calls ≡ true
making-leaving calls p =
    let last : making p.1 ≡ true = subst (λ (l : List Called). making l ≡ true) (sym p.4.1) (destroy_making p.4.0.callback (if is_done p.4.0.outcome then true else true) p.4.2) in
    subst (λ (l : List Called). making l ≡ true) (sym p.2) (many_make p.0 p.1 (unbinds_are p.0 p.3) last)

failed_goes : (o : Option Outcome) (a l : Bool) → is_failed o ≡ true → l ≡ true → (if is_done o then a else l) ≡ true
failed_goes (Some Done) a l f h = absurd (false≢true f)
failed_goes (Some Refused) a l f h = h
failed_goes (Some NoMemory) a l f h = h
failed_goes None a l f h = h

done_goes : (o : Option Outcome) (a l : Bool) → is_done o ≡ true → a ≡ true → (if is_done o then a else l) ≡ true
done_goes (Some Done) a l f h = h
done_goes (Some Refused) a l f h = absurd (false≢true f)
done_goes (Some NoMemory) a l f h = absurd (false≢true f)
done_goes None a l f h = absurd (false≢true f)

activate_goes : (callback : Callback) (v m g : Bool) → is_activate callback ≡ true → g ≡ true → making_by callback v m g ≡ true
activate_goes Activate v m g k h = h
activate_goes Create v m g k h = absurd (false≢true k)
activate_goes (Bind r s) v m g k h = absurd (false≢true k)
activate_goes (Updated r s) v m g k h = absurd (false≢true k)
activate_goes (Unbind r s) v m g k h = absurd (false≢true k)
activate_goes Modified v m g k h = absurd (false≢true k)
activate_goes Deactivate v m g k h = absurd (false≢true k)
activate_goes Destroy v m g k h = absurd (false≢true k)

perhaps-from : (life left : List Called) → PerhapsActive life → Leaving left → making (life ++ left) ≡ true
perhaps-from life left (inl e) l = subst (λ (x : List Called). making (x ++ left) ≡ true) (sym e) (making-leaving left l)
perhaps-from life left (inr (inl f)) l =
    let q = and_parts (is_activate f.0.callback) (is_failed f.0.outcome) f.2 in
    subst (λ (x : List Called). making (x ++ left) ≡ true) (sym f.1)
    (activate_goes f.0.callback (is_over left) (making left) (if is_done f.0.outcome then active left else leaving left) q.0
    (failed_goes f.0.outcome (active left) (leaving left) q.1 (leaving-from left l)))
perhaps-from life left (inr (inr a)) l =
    let q = and_parts (is_activate a.3.0.callback) (is_done a.3.0.outcome) a.3.2 in
    let run = a.4.0 in
    let stop = a.4.4.0 in
    let rest : a.1 ≡ run ++ stop ∷ [] = a.4.2 ∙ ap (λ (x : List Called). run ++ x) a.4.4.1 in
    let whole : life ≡ a.3.0 ∷ (run ++ stop ∷ []) = a.2 ∙ ap (λ (x : List Called). x ++ a.1) a.3.1 ∙ ap (λ (x : List Called). a.3.0 ∷ x) rest in
    subst (λ (x : List Called). making (x ++ left) ≡ true) (sym whole)
    (activate_goes a.3.0.callback (is_over ((run ++ stop ∷ []) ++ left)) (making ((run ++ stop ∷ []) ++ left))
    (if is_done a.3.0.outcome then active ((run ++ stop ∷ []) ++ left) else leaving ((run ++ stop ∷ []) ++ left)) q.0
    (done_goes a.3.0.outcome (active ((run ++ stop ∷ []) ++ left)) (leaving ((run ++ stop ∷ []) ++ left)) q.1
    (active-from run stop left a.4.3 a.4.4.2 (leaving-from left l))))

create_goes : (callback : Callback) (g : Bool) → is_create callback ≡ true → g ≡ true → created_by callback g ≡ true
create_goes Create g k h = h
create_goes (Bind r s) g k h = absurd (false≢true k)
create_goes (Updated r s) g k h = absurd (false≢true k)
create_goes (Unbind r s) g k h = absurd (false≢true k)
create_goes Activate g k h = absurd (false≢true k)
create_goes Modified g k h = absurd (false≢true k)
create_goes Deactivate g k h = absurd (false≢true k)
create_goes Destroy g k h = absurd (false≢true k)

-- a life cycle passes the test
pub created-from : (calls : List Called) → LifeCycle calls → created calls ≡ true
created-from calls (inl f) =
    let q = and_parts (is_create f.0.callback) (is_failed f.0.outcome) f.2 in
    subst (λ (x : List Called). created x ≡ true) (sym f.1) (create_goes f.0.callback (if is_done f.0.outcome then true else true) q.0 (failed_goes f.0.outcome true true q.1 refl))
created-from calls (inr a) =
    let q = and_parts (is_create a.3.0.callback) (is_done a.3.0.outcome) a.3.2 in
    let p = a.4.4 in
    let m : making (a.4.0 ++ (p.0 ++ p.1)) ≡ true = many_make a.4.0 (p.0 ++ p.1) a.4.3 (perhaps-from p.0 p.1 p.3 p.4) in
    let n : making a.1 ≡ true = subst (λ (x : List Called). making x ≡ true) (sym (a.4.2 ∙ ap (λ (x : List Called). a.4.0 ++ x) p.2)) m in
    let whole : calls ≡ a.3.0 ∷ a.1 = a.2 ∙ ap (λ (x : List Called). x ++ a.1) a.3.1 in
    subst (λ (x : List Called). created x ≡ true) (sym whole)
    (create_goes a.3.0.callback (if is_done a.3.0.outcome then making a.1 else is_over a.1) q.0 (done_goes a.3.0.outcome (making a.1) (is_over a.1) q.1 n))

over_by : (t : Bool) → (((not t) || true) && true) ≡ true
over_by true = refl
over_by false = refl

over_nothing : (c : Callback) (rest : List Called) → is_over rest ≡ true → ((not (is_destroy c) || is_over rest) && ends_at_destroy rest) ≡ true
over_nothing c [] h = over_by (is_destroy c)
over_nothing c (d ∷ rest) h = absurd (false≢true h)

leaving_ends : (callback : Callback) (rest : List Called) → leaving_by callback (is_over rest) (leaving rest) ≡ true → (leaving rest ≡ true → ends_at_destroy rest ≡ true)
    → ((not (is_destroy callback) || is_over rest) && ends_at_destroy rest) ≡ true
leaving_ends (Unbind r s) rest h ih = ih h
leaving_ends Destroy rest h ih = over_nothing Destroy rest h
leaving_ends Create rest h ih = absurd (false≢true h)
leaving_ends (Bind r s) rest h ih = absurd (false≢true h)
leaving_ends (Updated r s) rest h ih = absurd (false≢true h)
leaving_ends Activate rest h ih = absurd (false≢true h)
leaving_ends Modified rest h ih = absurd (false≢true h)
leaving_ends Deactivate rest h ih = absurd (false≢true h)

leaving-ends : (calls : List Called) → leaving calls ≡ true → ends_at_destroy calls ≡ true
leaving-ends [] h = refl
leaving-ends (c ∷ rest) h = leaving_ends c.callback rest h (leaving-ends rest)

active_ends : (callback : Callback) (rest : List Called) → active_by callback (active rest) (leaving rest) ≡ true → (active rest ≡ true → ends_at_destroy rest ≡ true)
    → ((not (is_destroy callback) || is_over rest) && ends_at_destroy rest) ≡ true
active_ends (Bind r s) rest h ih = ih h
active_ends (Updated r s) rest h ih = ih h
active_ends (Unbind r s) rest h ih = ih h
active_ends Modified rest h ih = ih h
active_ends Deactivate rest h ih = leaving-ends rest h
active_ends Create rest h ih = absurd (false≢true h)
active_ends Activate rest h ih = absurd (false≢true h)
active_ends Destroy rest h ih = absurd (false≢true h)

active-ends : (calls : List Called) → active calls ≡ true → ends_at_destroy calls ≡ true
active-ends [] h = refl
active-ends (c ∷ rest) h = active_ends c.callback rest h (active-ends rest)

goes_ends : (o : Option Outcome) (rest : List Called) → (if is_done o then active rest else leaving rest) ≡ true → ends_at_destroy rest ≡ true
goes_ends (Some Done) rest h = active-ends rest h
goes_ends (Some Refused) rest h = leaving-ends rest h
goes_ends (Some NoMemory) rest h = leaving-ends rest h
goes_ends None rest h = leaving-ends rest h

making_ends : (callback : Callback) (o : Option Outcome) (rest : List Called) → making_by callback (is_over rest) (making rest) (if is_done o then active rest else leaving rest) ≡ true
    → (making rest ≡ true → ends_at_destroy rest ≡ true) → ((not (is_destroy callback) || is_over rest) && ends_at_destroy rest) ≡ true
making_ends (Bind r s) o rest h ih = ih h
making_ends (Unbind r s) o rest h ih = ih h
making_ends Activate o rest h ih = goes_ends o rest h
making_ends Destroy o rest h ih = over_nothing Destroy rest h
making_ends Create o rest h ih = absurd (false≢true h)
making_ends (Updated r s) o rest h ih = absurd (false≢true h)
making_ends Modified o rest h ih = absurd (false≢true h)
making_ends Deactivate o rest h ih = absurd (false≢true h)

making-ends : (calls : List Called) → making calls ≡ true → ends_at_destroy calls ≡ true
making-ends [] h = refl
making-ends (c ∷ rest) h = making_ends c.callback c.outcome rest h (making-ends rest)

create_ends : (o : Option Outcome) (rest : List Called) → (if is_done o then making rest else is_over rest) ≡ true → ends_at_destroy rest ≡ true
create_ends (Some Done) rest h = making-ends rest h
create_ends (Some Refused) [] h = refl
create_ends (Some Refused) (c ∷ rest) h = absurd (false≢true h)
create_ends (Some NoMemory) [] h = refl
create_ends (Some NoMemory) (c ∷ rest) h = absurd (false≢true h)
create_ends None [] h = refl
create_ends None (c ∷ rest) h = absurd (false≢true h)

created_ends : (callback : Callback) (o : Option Outcome) (rest : List Called) → created_by callback (if is_done o then making rest else is_over rest) ≡ true
    → ((not (is_destroy callback) || is_over rest) && ends_at_destroy rest) ≡ true
created_ends Create o rest h = create_ends o rest h
created_ends (Bind r s) o rest h = absurd (false≢true h)
created_ends (Updated r s) o rest h = absurd (false≢true h)
created_ends (Unbind r s) o rest h = absurd (false≢true h)
created_ends Activate o rest h = absurd (false≢true h)
created_ends Modified o rest h = absurd (false≢true h)
created_ends Deactivate o rest h = absurd (false≢true h)
created_ends Destroy o rest h = absurd (false≢true h)

pub created-ends : (calls : List Called) → created calls ≡ true → ends_at_destroy calls ≡ true
created-ends [] h = refl
created-ends (c ∷ rest) h = created_ends c.callback c.outcome rest h

-- Binds and Unbinds alone have no Destroy
no_destroy : (callback : Callback) (v e : Bool) → is_bind_or_unbind callback ≡ true → e ≡ true → ((not (is_destroy callback) || v) && e) ≡ true
no_destroy (Bind r s) v e k h = h
no_destroy (Unbind r s) v e k h = h
no_destroy Create v e k h = absurd (false≢true k)
no_destroy (Updated r s) v e k h = absurd (false≢true k)
no_destroy Activate v e k h = absurd (false≢true k)
no_destroy Modified v e k h = absurd (false≢true k)
no_destroy Deactivate v e k h = absurd (false≢true k)
no_destroy Destroy v e k h = absurd (false≢true k)

pub binds-end : (calls : List Called) → list_all (of is_bind_or_unbind) calls ≡ true → ends_at_destroy calls ≡ true
binds-end [] m = refl
binds-end (c ∷ rest) m =
    let p = and_parts (is_bind_or_unbind c.callback) (list_all (of is_bind_or_unbind) rest) m in
    no_destroy c.callback (is_over rest) (ends_at_destroy rest) p.0 (binds-end rest p.1)
