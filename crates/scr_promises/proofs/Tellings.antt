-- What a callback that begins leaves of what is held for a reference, and of the revisions that an instance was told: all but that of the service and the reference that it names.
use Rattle.std.proofs.Common.{◌≡◌, ℕ, List, [], ◌∷◌, ◌++◌, ap, sym, ◌∙◌, refl, cond, Bool, true, false, ◌&&◌, ◌||◌, inl, inr, Option, Some, None}
use Rattle.std.specs.Prelude.{filter, find, is_none, not, ◌==◌}
use Rattle.std.specs.Option.{option_map_or}
use Rattle.std.specs.Str.{bytes_eq}
use Rattle.std.proofs.lemmas.Bool.{and_from, and_parts, both_ways, cases_Bool, eq-eqb, eqb-true}
use Rattle.callback_orders.specs.declared.callback.Callback.{Callback}
use Rattle.callback_orders.specs.declared.callback.Callback.TheVariants.{Create, Bind, Updated, Unbind, Activate, Modified, Deactivate, Destroy}
use Rattle.callback_orders.specs.declared.callback.Outcome.{Outcome}
use Rattle.callback_orders.specs.declared.callback.Outcome.TheVariants.{Done}
use Rattle.callback_orders.specs.declared.word.Called.{Called}
use Rattle.callback_orders.specs.Lives.{held_after, held_by, held_for}
use Rattle.callback_orders.specs.Sequences.{ended, is_outstanding}
use Rattle.callback_orders.proofs.HeldLemmas.{text_is, text_same}
use Rattle.component_state.proofs.Apart.{has_both, has_kept}
use Rattle.prop_map.specs.Words.{has}
use Rattle.scr_promises.proofs.CallbackSteps.{firm}
use Rattle.scr_world.specs.Instances.{BeforeTurn, with_effect_of_begin}
use Rattle.scr_world.specs.declared.instance.Instance.{Instance}
use Rattle.told_revisions.specs.Told.{is_told_of, revision_told, with_told, without_told}
use Rattle.told_revisions.specs.declared.tellings.ToldRevision.{ToldRevision}

-- a callback names a service and a reference
abbrev pub touches : Callback → List ℕ → ℕ → Bool
touches (Bind q t) name s = bytes_eq q name && (t == s)
touches (Updated q t) name s = bytes_eq q name && (t == s)
touches (Unbind q t) name s = bytes_eq q name && (t == s)
touches _ name s = false

or_none : (b : Bool) → (b || false) ≡ b
or_none true = refl
or_none false = refl

or_on : (b : Bool) → (b || true) ≡ true
or_on true = refl
or_on false = refl

pub touched : (q name : List ℕ) (t s : ℕ) → (bytes_eq q name && (t == s)) ≡ true → (q ≡ name) × (t ≡ s)
touched q name t s on = let both = and_parts (bytes_eq q name) (t == s) on in (text_is q name both.0, eqb-true t s both.1)

pub touching : (q name : List ℕ) (t s : ℕ) → q ≡ name → t ≡ s → (bytes_eq q name && (t == s)) ≡ true
touching q name t s one two = and_from (bytes_eq q name) (t == s) (text_same q name one) (eq-eqb t s two)

-- ---- what is held

end_held : (name : List ℕ) (callback : Callback) (o : Outcome) (held : List ℕ) → held_by name callback (Some Done) held ≡ held_by name callback (Some o) held
end_held name Create o held = refl
end_held name (Bind r s) o held = refl
end_held name (Updated r s) o held = refl
end_held name (Unbind r s) o held = refl
end_held name Activate o held = refl
end_held name Modified o held = refl
end_held name Deactivate o held = refl
end_held name Destroy o held = refl

firm_after : (name : List ℕ) (calls : List Called) (held : List ℕ) → is_outstanding calls ≡ false → held_after name held (ended Done calls) ≡ held_after name held calls
firm_after name [] held off = refl
firm_after name (c ∷ []) held off = go c.outcome off
  where
    go : (o : Option Outcome) → is_none o ≡ false → held_by name c.callback (Some Done) held ≡ held_by name c.callback o held
    go None e = cc
    go (Some o) e = end_held name c.callback o held
firm_after name (c ∷ d ∷ rest) held off = firm_after name (d ∷ rest) (held_by name c.callback c.outcome held) off

-- where no callback is under way
pub firm_held : (name : List ℕ) (calls : List Called) → is_outstanding calls ≡ false → firm name calls ≡ held_for name calls
firm_held name calls off = firm_after name calls [] off

has_bound : (held : List ℕ) (t s : ℕ) → has (held ++ t ∷ []) s ≡ (has held s || (t == s))
has_bound held t s = has_both held (t ∷ []) s ∙ ap (λ b. has held s || b) (or_none (t == s))

pub held_elsewhere : (callback : Callback) (name : List ℕ) (held : List ℕ) (s : ℕ) → touches callback name s ≡ false → has (held_by name callback (Some Done) held) s ≡ has held s
held_elsewhere Create name held s off = refl
held_elsewhere (Bind q t) name held s off = go (bytes_eq q name) off
  where
    go : (b : Bool) → (b && (t == s)) ≡ false → has (cond b (held ++ t ∷ []) held) s ≡ has held s
    go false e = refl
    go true e = has_bound held t s ∙ ap (λ b. has held s || b) e ∙ or_none (has held s)
held_elsewhere (Updated q t) name held s off = refl
held_elsewhere (Unbind q t) name held s off = go (bytes_eq q name) off
  where
    turned : (t == s) ≡ false → (s == t) ≡ false
    turned e = elim (cases_Bool (s == t)) [
      | inl same ↦ absurd (both_ways (t == s) e (eq-eqb t s (sym (eqb-true s t same))))
      | inr other ↦ other
    ]

    go : (b : Bool) → (b && (t == s)) ≡ false → has (cond b (filter (λ x. not (x == t)) held) held) s ≡ has held s
    go false e = refl
    go true e = has_kept (λ x. not (x == t)) held s (ap not (turned e))
held_elsewhere Activate name held s off = refl
held_elsewhere Modified name held s off = refl
held_elsewhere Deactivate name held s off = refl
held_elsewhere Destroy name held s off = refl

pub held_bound : (q name : List ℕ) (t s : ℕ) (held : List ℕ) → (bytes_eq q name && (t == s)) ≡ true → has (held_by name (Bind q t) (Some Done) held) s ≡ true
held_bound q name t s held on = go (bytes_eq q name) on
  where
    go : (b : Bool) → (b && (t == s)) ≡ true → has (cond b (held ++ t ∷ []) held) s ≡ true
    go false e = cc
    go true e = has_bound held t s ∙ ap (λ b. has held s || b) e ∙ or_on (has held s)

none_left : (held : List ℕ) (s : ℕ) → has (filter (λ x. not (x == s)) held) s ≡ false
none_left [] s = refl
none_left (x ∷ xs) s = go (x == s) refl (none_left xs s)
  where
    go : (b : Bool) → (x == s) ≡ b → has (filter (λ y. not (y == s)) xs) s ≡ false → has (cond (not b) (x ∷ filter (λ y. not (y == s)) xs) (filter (λ y. not (y == s)) xs)) s ≡ false
    go true is rest = rest
    go false is rest = ap (λ b. b || has (filter (λ y. not (y == s)) xs) s) is ∙ rest

pub held_unbound : (q name : List ℕ) (t s : ℕ) (held : List ℕ) → (bytes_eq q name && (t == s)) ≡ true → has (held_by name (Unbind q t) (Some Done) held) s ≡ false
held_unbound q name t s held on = go (bytes_eq q name) on
  where
    go : (b : Bool) → (b && (t == s)) ≡ true → has (cond b (filter (λ x. not (x == t)) held) held) s ≡ false
    go false e = cc
    go true e = ap (λ n. has (filter (λ x. not (x == n)) held) s) (eqb-true t s e) ∙ none_left held s

-- what is held and isn't unbound stays
pub held_stays : (callback : Callback) (name : List ℕ) (held : List ℕ) (u : ℕ) → has held u ≡ true → ((q : List ℕ) (t : ℕ) → callback ≡ Unbind q t → touches callback name u ≡ false) → has (held_by name callback (Some Done) held) u ≡ true
held_stays Create name held u on other = on
held_stays (Bind q t) name held u on other = go (bytes_eq q name)
  where
    go : (b : Bool) → has (cond b (held ++ t ∷ []) held) u ≡ true
    go true = has_bound held t u ∙ ap (λ b. b || (t == u)) on
    go false = on
held_stays (Updated q t) name held u on other = on
held_stays (Unbind q t) name held u on other = held_elsewhere (Unbind q t) name held u (other q t refl) ∙ on
held_stays Activate name held u on other = on
held_stays Modified name held u on other = on
held_stays Deactivate name held u on other = on
held_stays Destroy name held u on other = on

-- ---- revisions told

abbrev revision_in : Option ToldRevision → ℕ
revision_in o = option_map_or (λ (t : ToldRevision). t.revision) o 0

is_of : (q : List ℕ) (t : ℕ) (name : List ℕ) (s : ℕ) (x : ToldRevision) → (bytes_eq q name && (t == s)) ≡ false → is_told_of q t x ≡ true → is_told_of name s x ≡ false
is_of q t name s x off on = elim (cases_Bool (is_told_of name s x)) [
  | inr none ↦ none
  | inl both ↦ (
      let one = and_parts (bytes_eq x.reference q) (x.service == t) on in
      let two = and_parts (bytes_eq x.reference name) (x.service == s) both in
      absurd (both_ways (bytes_eq q name && (t == s)) off (touching q name t s (sym (text_is x.reference q one.0) ∙ text_is x.reference name two.0) (sym (eqb-true x.service t one.1) ∙ eqb-true x.service s two.1))))
]

found_elsewhere : (p r : ToldRevision → Bool) → ((x : ToldRevision) → r x ≡ true → p x ≡ false) → (ts more : List ToldRevision) → find p more ≡ None → find p (filter (λ x. not (r x)) ts ++ more) ≡ find p ts
found_elsewhere p r other [] more none = none
found_elsewhere p r other (x ∷ xs) more none = go (r x) refl (p x) refl (found_elsewhere p r other xs more none)
  where
    go : (a : Bool) → r x ≡ a → (b : Bool) → p x ≡ b → find p (filter (λ y. not (r y)) xs ++ more) ≡ find p xs → find p (cond (not a) (x ∷ filter (λ y. not (r y)) xs) (filter (λ y. not (r y)) xs) ++ more) ≡ cond b (Some x) (find p xs)
    go true on b is rest = rest ∙ ap (λ c. cond c (Some x) (find p xs)) (sym (other x on) ∙ is)
    go false off b is rest = ap (λ c. cond c (Some x) (find p (filter (λ y. not (r y)) xs ++ more))) is ∙ ap (λ o. cond b (Some x) o) rest

found_new : (p : ToldRevision → Bool) (ts : List ToldRevision) (y : ToldRevision) → p y ≡ true → find p (filter (λ x. not (p x)) ts ++ y ∷ []) ≡ Some y
found_new p [] y on = ap (λ b. cond b (Some y) None) on
found_new p (x ∷ xs) y on = go (p x) refl (found_new p xs y on)
  where
    go : (b : Bool) → p x ≡ b → find p (filter (λ z. not (p z)) xs ++ y ∷ []) ≡ Some y → find p (cond (not b) (x ∷ filter (λ z. not (p z)) xs) (filter (λ z. not (p z)) xs) ++ y ∷ []) ≡ Some y
    go true is rest = rest
    go false is rest = ap (λ c. cond c (Some x) (find p (filter (λ z. not (p z)) xs ++ y ∷ []))) is ∙ rest

none_added : (xs : List ToldRevision) → xs ++ [] ≡ xs
none_added [] = refl
none_added (x ∷ xs) = ap (λ ys. x ∷ ys) (none_added xs)

told_with : (q name : List ℕ) (t s revision : ℕ) (ts : List ToldRevision) → (bytes_eq q name && (t == s)) ≡ false → revision_told (with_told q t revision ts) name s ≡ revision_told ts name s
told_with q name t s revision ts off = ap revision_in (found_elsewhere (is_told_of name s) (is_told_of q t) (λ x on. is_of q t name s x off on) ts (record { reference = q; service = t; revision = revision } ∷ [])
    (ap (λ b. cond b (Some (record { reference = q; service = t; revision = revision })) None) off))

told_without : (q name : List ℕ) (t s : ℕ) (ts : List ToldRevision) → (bytes_eq q name && (t == s)) ≡ false → revision_told (without_told q t ts) name s ≡ revision_told ts name s
told_without q name t s ts off = ap (λ xs. revision_in (find (is_told_of name s) xs)) (sym (none_added (without_told q t ts))) ∙ ap revision_in (found_elsewhere (is_told_of name s) (is_told_of q t) (λ x on. is_of q t name s x off on) ts [] refl)

pub told_elsewhere : (m : BeforeTurn) (callback : Callback) (i : Instance) (name : List ℕ) (s : ℕ) → touches callback name s ≡ false → revision_told (with_effect_of_begin m callback i).told_revisions name s ≡ revision_told i.told_revisions name s
told_elsewhere m Create i name s off = refl
told_elsewhere m (Bind q t) i name s off = told_with q name t s (m.revision t) i.told_revisions off
told_elsewhere m (Updated q t) i name s off = told_with q name t s (m.revision t) i.told_revisions off
told_elsewhere m (Unbind q t) i name s off = told_without q name t s i.told_revisions off
told_elsewhere m Activate i name s off = refl
told_elsewhere m Modified i name s off = refl
told_elsewhere m Deactivate i name s off = refl
told_elsewhere m Destroy i name s off = refl

-- the revision told last
pub told_now : (q name : List ℕ) (t s revision : ℕ) (ts : List ToldRevision) → (bytes_eq q name && (t == s)) ≡ true → revision_told (with_told q t revision ts) name s ≡ revision
told_now q name t s revision ts on =
    let same = touched q name t s on in
    ap (λ (x : List ℕ). revision_told (with_told x t revision ts) name s) same.0 ∙ ap (λ n. revision_told (with_told name n revision ts) name s) same.1
    ∙ ap revision_in (found_new (is_told_of name s) ts (record { reference = name; service = s; revision = revision }) (touching name name s s refl refl))
