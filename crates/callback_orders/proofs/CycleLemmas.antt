-- That callbacks keep the order of a life, as the test says it, and as the grammar says it of a finished list.
use Rattle.std.proofs.Common.{◌≡◌, List, [], ◌∷◌, ◌++◌, Bool, true, refl, ap, ◌∙◌, sym, inl, inr, append_assoc}
use Rattle.std.specs.Prelude.{◌||◌, if◌then◌else◌, Option, Some, None, is_some}
use Rattle.std.specs.List.{list_all}
use Rattle.std.proofs.lemmas.Bool.{and_parts, and_from, false≢true}
use Rattle.callback_orders.specs.declared.callback.Callback.{Callback}
use Rattle.callback_orders.specs.declared.callback.Callback.TheVariants.{Create, Bind, Updated, Unbind, Activate, Modified, Deactivate, Destroy}
use Rattle.callback_orders.specs.declared.callback.Outcome.{Outcome}
use Rattle.callback_orders.specs.declared.callback.Outcome.TheVariants.{Done, Refused, NoMemory}
use Rattle.callback_orders.specs.declared.word.Called.{Called}
use Rattle.callback_orders.specs.Sequences.{Bound, bound_after, may_come, alternate, done_with, is_over, is_done, have_ended, one_at_a_time, is_bind_or_unbind, leaving_by, leaving, active_by, active, making_by, making, created_by, created}
use Rattle.callback_orders.specs.Grammar.{about, speaks_of, is_create, is_unbind, is_activate, is_while_active, is_deactivate, is_destroy, of, done, failed, One, Many, Then, PerhapsActive, Leaving, LifeCycle, settled, settled_outcome}
use Rattle.callback_orders.proofs.RoundLemmas.{unbinds, bound_end}

-- the callbacks so far, with a continuation that ends a list of this form and unbinds what is bound
pub record Completes (Form : List Called → Type 0) (bound : List Bound) (calls : List Called) : Type 0 where
  pub more : List Called
  pub form : Form (settled Refused calls ++ more)
  pub closes : (x : Bound) → about x more ≡ about x (unbinds (bound_end bound calls))
  pub over : have_ended more ≡ true

abbrev then_none : (kind : Callback → Bool) (Rest : List Called → Type 0) (calls : List Called) → Rest calls → Then (Many (of kind)) Rest calls
then_none kind Rest calls r = ([], calls, refl, refl, r)

abbrev then_onto : (kind : Callback → Bool) (Rest : List Called → Type 0) (c : Called) (calls : List Called) → kind c.callback ≡ true
    → Then (Many (of kind)) Rest calls → Then (Many (of kind)) Rest (c ∷ calls)
then_onto kind Rest c calls k p = (c ∷ p.0, p.1, ap (λ (l : List Called). c ∷ l) p.2, and_from _ _ k p.3, p.4)

-- unbinding all, and Destroy
abbrev close : List Bound → List Called
close bound = unbinds bound ++ done_with Destroy Done ∷ []

unbinds-all : (bound : List Bound) → list_all (of is_unbind) (unbinds bound) ≡ true
unbinds-all [] = refl
unbinds-all (b ∷ bound) = unbinds-all bound

close-over : (bound : List Bound) → have_ended (close bound) ≡ true
close-over [] = refl
close-over (b ∷ bound) = close-over bound

close-about : (x : Bound) (bound : List Bound) → about x (close bound) ≡ about x (unbinds bound)
close-about x [] = refl
close-about x (b ∷ bound) = ap (λ (l : List Callback). if speaks_of x (Unbind b.reference b.service) then Unbind b.reference b.service ∷ l else l) (close-about x bound)

close-leaving : (bound : List Bound) → Leaving (close bound)
close-leaving bound = (unbinds bound, done_with Destroy Done ∷ [], refl, unbinds-all bound, (done_with Destroy Done, refl, refl))

-- the callback as it stands in the completed list
abbrev head : Callback → Option Outcome → List Called → Called
head callback o rest = record { callback = callback; outcome = settled_outcome Refused o (is_over rest) }

abbrev cons : Callback → Option Outcome → List Called → List Called
cons callback o rest = record { callback = callback; outcome = o } ∷ rest

destroyed : (Form : List Called → Type 0) (o : Option Outcome) (rest : List Called) (bound : List Bound) → is_over rest ≡ true → may_come Destroy bound ≡ true
    → Form (head Destroy o [] ∷ []) → Completes Form bound (cons Destroy o rest)
destroyed Form o [] [] v m f = record { more = []; form = f; closes = λ x. refl; over = refl }
destroyed Form o [] (b ∷ bound) v m f = absurd (false≢true m)
destroyed Form o (d ∷ rest) bound v m f = absurd (false≢true v)

just_destroyed : (o : Option Outcome) → Leaving (head Destroy o [] ∷ [])
just_destroyed o = ([], head Destroy o [] ∷ [], refl, refl, (head Destroy o [], refl, refl))

leaving_step : (callback : Callback) (o : Option Outcome) (rest : List Called) (bound : List Bound) → leaving_by callback (is_over rest) (leaving rest) ≡ true
    → may_come callback bound ≡ true → (leaving rest ≡ true → Completes Leaving (bound_after callback bound) rest) → Completes Leaving bound (cons callback o rest)
leaving_step Create o rest bound h m ih = absurd (false≢true h)
leaving_step (Bind r s) o rest bound h m ih = absurd (false≢true h)
leaving_step (Updated r s) o rest bound h m ih = absurd (false≢true h)
leaving_step (Unbind r s) o rest bound h m ih =
    let p = ih h in
    record { more = p.more; form = then_onto is_unbind (One (of is_destroy)) (head (Unbind r s) o rest) (settled Refused rest ++ p.more) refl p.form; closes = p.closes; over = p.over }
leaving_step Activate o rest bound h m ih = absurd (false≢true h)
leaving_step Modified o rest bound h m ih = absurd (false≢true h)
leaving_step Deactivate o rest bound h m ih = absurd (false≢true h)
leaving_step Destroy o rest bound h m ih = destroyed Leaving o rest bound h m (just_destroyed o)

leaving-completes : (calls : List Called) (bound : List Bound) → leaving calls ≡ true → alternate bound calls ≡ true → Completes Leaving bound calls
leaving-completes [] bound h a = record { more = close bound; form = close-leaving bound; closes = λ x. close-about x bound; over = close-over bound }
leaving-completes (c ∷ rest) bound h a =
    let p = and_parts (may_come c.callback bound) (alternate (bound_after c.callback bound) rest) a in
    leaving_step c.callback c.outcome rest bound h p.0 (λ (l : leaving rest ≡ true). leaving-completes rest (bound_after c.callback bound) l p.1)

-- an active instance and what follows
abbrev Staying : List Called → Type 0
Staying calls = Then (Many (of is_while_active)) (Then (One (of is_deactivate)) Leaving) calls

stays : (callback : Callback) (o : Option Outcome) (rest : List Called) (bound : List Bound) → is_while_active callback ≡ true
    → Completes Staying (bound_after callback bound) rest → Completes Staying bound (cons callback o rest)
stays callback o rest bound k p = record {
  more = p.more;
  form = then_onto is_while_active (Then (One (of is_deactivate)) Leaving) (head callback o rest) (settled Refused rest ++ p.more) k p.form;
  closes = p.closes;
  over = p.over;
}

deactivates : (o : Option Outcome) (rest : List Called) (bound : List Bound) → Completes Leaving bound rest → Completes Staying bound (cons Deactivate o rest)
deactivates o rest bound p = record {
  more = p.more;
  form = then_none is_while_active (Then (One (of is_deactivate)) Leaving) (head Deactivate o rest ∷ (settled Refused rest ++ p.more))
      (head Deactivate o rest ∷ [], settled Refused rest ++ p.more, refl, (head Deactivate o rest, refl, refl), p.form);
  closes = p.closes;
  over = p.over;
}

active_step : (callback : Callback) (o : Option Outcome) (rest : List Called) (bound : List Bound) → active_by callback (active rest) (leaving rest) ≡ true
    → (active rest ≡ true → Completes Staying (bound_after callback bound) rest) → (leaving rest ≡ true → Completes Leaving (bound_after callback bound) rest)
    → Completes Staying bound (cons callback o rest)
active_step Create o rest bound h ih ls = absurd (false≢true h)
active_step (Bind r s) o rest bound h ih ls = stays (Bind r s) o rest bound refl (ih h)
active_step (Updated r s) o rest bound h ih ls = stays (Updated r s) o rest bound refl (ih h)
active_step (Unbind r s) o rest bound h ih ls = stays (Unbind r s) o rest bound refl (ih h)
active_step Activate o rest bound h ih ls = absurd (false≢true h)
active_step Modified o rest bound h ih ls = stays Modified o rest bound refl (ih h)
active_step Deactivate o rest bound h ih ls = deactivates o rest bound (ls h)
active_step Destroy o rest bound h ih ls = absurd (false≢true h)

active-completes : (calls : List Called) (bound : List Bound) → active calls ≡ true → alternate bound calls ≡ true → Completes Staying bound calls
active-completes [] bound h a = record {
  more = done_with Deactivate Done ∷ close bound;
  form = (
    [],
    done_with Deactivate Done ∷ close bound,
    refl,
    refl,
    (done_with Deactivate Done ∷ [], close bound, refl, (done_with Deactivate Done, refl, refl), close-leaving bound),
  );
  closes = λ x. close-about x bound;
  over = close-over bound;
}
active-completes (c ∷ rest) bound h a =
    let p = and_parts (may_come c.callback bound) (alternate (bound_after c.callback bound) rest) a in
    active_step c.callback c.outcome rest bound h
    (λ (l : active rest ≡ true). active-completes rest (bound_after c.callback bound) l p.1)
    (λ (l : leaving rest ≡ true). leaving-completes rest (bound_after c.callback bound) l p.1)

-- what follows a Create that was done
abbrev Living : List Called → Type 0
Living calls = Then (Many (of is_bind_or_unbind)) (Then PerhapsActive Leaving) calls

never_active : (calls : List Called) → Leaving calls → Then PerhapsActive Leaving calls
never_active calls l = ([], calls, refl, inl refl, l)

activation_failed : (c : Called) (calls : List Called) → failed is_activate c ≡ true → Leaving calls → Then PerhapsActive Leaving (c ∷ calls)
activation_failed c calls f l = (c ∷ [], calls, refl, inr (inl (c, refl, f)), l)

was_active : (c : Called) (calls : List Called) → done is_activate c ≡ true → Staying calls → Then PerhapsActive Leaving (c ∷ calls)
was_active c calls f (run, rest, e, m, (stop, left, e', one, l)) = (
  c ∷ (run ++ stop),
  left,
  ap (λ (xs : List Called). c ∷ xs) (e ∙ ap (λ (xs : List Called). run ++ xs) e' ∙ sym (append_assoc run stop left)),
  inr (inr (c ∷ [], run ++ stop, refl, (c, refl, f), (run, stop, refl, m, one))),
  l,
)

activates : (o : Option Outcome) (rest : List Called) (bound : List Bound) → (if is_done o then active rest else leaving rest) ≡ true → (is_some o || is_over rest) ≡ true
    → (active rest ≡ true → Completes Staying bound rest) → (leaving rest ≡ true → Completes Leaving bound rest) → Completes (Then PerhapsActive Leaving) bound (cons Activate o rest)
activates (Some Done) rest bound h s as_ ls =
    let p = as_ h in
    record { more = p.more; form = was_active (head Activate (Some Done) rest) (settled Refused rest ++ p.more) refl p.form; closes = p.closes; over = p.over }
activates (Some Refused) rest bound h s as_ ls =
    let p = ls h in
    record { more = p.more; form = activation_failed (head Activate (Some Refused) rest) (settled Refused rest ++ p.more) refl p.form; closes = p.closes; over = p.over }
activates (Some NoMemory) rest bound h s as_ ls =
    let p = ls h in
    record { more = p.more; form = activation_failed (head Activate (Some NoMemory) rest) (settled Refused rest ++ p.more) refl p.form; closes = p.closes; over = p.over }
activates None [] bound h s as_ ls =
    let p = ls h in
    record { more = p.more; form = activation_failed (head Activate None []) p.more refl p.form; closes = p.closes; over = p.over }
activates None (d ∷ rest) bound h s as_ ls = absurd (false≢true s)

binds : (callback : Callback) (o : Option Outcome) (rest : List Called) (bound : List Bound) → is_bind_or_unbind callback ≡ true
    → Completes Living (bound_after callback bound) rest → Completes Living bound (cons callback o rest)
binds callback o rest bound k p = record {
  more = p.more;
  form = then_onto is_bind_or_unbind (Then PerhapsActive Leaving) (head callback o rest) (settled Refused rest ++ p.more) k p.form;
  closes = p.closes;
  over = p.over;
}

bound_enough : (calls : List Called) (bound : List Bound) → Completes (Then PerhapsActive Leaving) bound calls → Completes Living bound calls
bound_enough calls bound p = record { more = p.more; form = then_none is_bind_or_unbind (Then PerhapsActive Leaving) (settled Refused calls ++ p.more) p.form; closes = p.closes; over = p.over }

making_step : (callback : Callback) (o : Option Outcome) (rest : List Called) (bound : List Bound)
    → making_by callback (is_over rest) (making rest) (if is_done o then active rest else leaving rest) ≡ true → (is_some o || is_over rest) ≡ true → may_come callback bound ≡ true
    → (making rest ≡ true → Completes Living (bound_after callback bound) rest)
    → (active rest ≡ true → Completes Staying (bound_after callback bound) rest) → (leaving rest ≡ true → Completes Leaving (bound_after callback bound) rest)
    → Completes Living bound (cons callback o rest)
making_step Create o rest bound h s m ms as_ ls = absurd (false≢true h)
making_step (Bind r v) o rest bound h s m ms as_ ls = binds (Bind r v) o rest bound refl (ms h)
making_step (Updated r v) o rest bound h s m ms as_ ls = absurd (false≢true h)
making_step (Unbind r v) o rest bound h s m ms as_ ls = binds (Unbind r v) o rest bound refl (ms h)
making_step Activate o rest bound h s m ms as_ ls = bound_enough (cons Activate o rest) bound (activates o rest bound h s as_ ls)
making_step Modified o rest bound h s m ms as_ ls = absurd (false≢true h)
making_step Deactivate o rest bound h s m ms as_ ls = absurd (false≢true h)
making_step Destroy o rest bound h s m ms as_ ls =
    destroyed Living o rest bound h m (then_none is_bind_or_unbind (Then PerhapsActive Leaving) (head Destroy o [] ∷ []) (never_active (head Destroy o [] ∷ []) (just_destroyed o)))

making-completes : (calls : List Called) (bound : List Bound) → making calls ≡ true → one_at_a_time calls ≡ true → alternate bound calls ≡ true → Completes Living bound calls
making-completes [] bound h t a = record {
  more = close bound;
  form = then_none is_bind_or_unbind (Then PerhapsActive Leaving) (close bound) (never_active (close bound) (close-leaving bound));
  closes = λ x. close-about x bound;
  over = close-over bound;
}
making-completes (c ∷ rest) bound h t a =
    let p = and_parts (may_come c.callback bound) (alternate (bound_after c.callback bound) rest) a in
    let q = and_parts (is_some c.outcome || is_over rest) (one_at_a_time rest) t in
    making_step c.callback c.outcome rest bound h q.0 p.0
    (λ (l : making rest ≡ true). making-completes rest (bound_after c.callback bound) l q.1 p.1)
    (λ (l : active rest ≡ true). active-completes rest (bound_after c.callback bound) l p.1)
    (λ (l : leaving rest ≡ true). leaving-completes rest (bound_after c.callback bound) l p.1)

not_created : (o : Option Outcome) → failed is_create (head Create o []) ≡ true → Completes LifeCycle [] (cons Create o [])
not_created o f = record { more = []; form = inl (head Create o [], refl, f); closes = λ x. refl; over = refl }

made : (o : Option Outcome) (rest : List Called) → (if is_done o then making rest else is_over rest) ≡ true → (is_some o || is_over rest) ≡ true
    → (making rest ≡ true → Completes Living [] rest) → Completes LifeCycle [] (cons Create o rest)
made (Some Done) rest h s ms =
    let p = ms h in
    record { more = p.more; form = inr (head Create (Some Done) rest ∷ [], settled Refused rest ++ p.more, refl, (head Create (Some Done) rest, refl, refl), p.form); closes = p.closes; over = p.over }
made (Some Refused) [] h s ms = not_created (Some Refused) refl
made (Some Refused) (d ∷ rest) h s ms = absurd (false≢true h)
made (Some NoMemory) [] h s ms = not_created (Some NoMemory) refl
made (Some NoMemory) (d ∷ rest) h s ms = absurd (false≢true h)
made None [] h s ms = not_created None refl
made None (d ∷ rest) h s ms = absurd (false≢true s)

created_step : (callback : Callback) (o : Option Outcome) (rest : List Called)
    → created_by callback (if is_done o then making rest else is_over rest) ≡ true → (is_some o || is_over rest) ≡ true
    → (making rest ≡ true → Completes Living (bound_after callback []) rest) → Completes LifeCycle [] (cons callback o rest)
created_step Create o rest h s ms = made o rest h s ms
created_step (Bind r v) o rest h s ms = absurd (false≢true h)
created_step (Updated r v) o rest h s ms = absurd (false≢true h)
created_step (Unbind r v) o rest h s ms = absurd (false≢true h)
created_step Activate o rest h s ms = absurd (false≢true h)
created_step Modified o rest h s ms = absurd (false≢true h)
created_step Deactivate o rest h s ms = absurd (false≢true h)
created_step Destroy o rest h s ms = absurd (false≢true h)

-- callbacks that pass the test have a continuation that ends their life
pub created-completes : (calls : List Called) → created calls ≡ true → one_at_a_time calls ≡ true → alternate [] calls ≡ true → Completes LifeCycle [] calls
created-completes [] h t a = record { more = done_with Create Refused ∷ []; form = inl (done_with Create Refused, refl, refl); closes = λ x. refl; over = refl }
created-completes (c ∷ rest) h t a =
    let p = and_parts (may_come c.callback []) (alternate (bound_after c.callback []) rest) a in
    let q = and_parts (is_some c.outcome || is_over rest) (one_at_a_time rest) t in
    created_step c.callback c.outcome rest h q.0 (λ (l : making rest ≡ true). making-completes rest (bound_after c.callback []) l q.1 p.1)
