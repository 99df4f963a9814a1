-- What the beginning and the end of a callback make of the callbacks that an instance was told while it was active, and of what it holds.
use Rattle.std.proofs.Common.{◌≡◌, ℕ, List, [], ◌∷◌, ◌++◌, ap, sym, ◌∙◌, refl, cond, Bool, true, false, ◌||◌, inl, inr, ◌⊎◌, Option, Some, None}
use Rattle.std.specs.Prelude.{filter, is_none, not, ◌==◌}
use Rattle.std.specs.List.{list_any}
use Rattle.std.specs.Option.{option_map_or}
use Rattle.std.proofs.lemmas.List.Folds.{list_any-append}
use Rattle.callback_orders.specs.declared.callback.Callback.{Callback}
use Rattle.callback_orders.specs.declared.callback.Callback.TheVariants.{Create, Bind, Updated, Unbind, Activate, Modified, Deactivate, Destroy}
use Rattle.callback_orders.specs.declared.callback.Outcome.{Outcome}
use Rattle.callback_orders.specs.declared.instance_view.Phase.{Phase}
use Rattle.callback_orders.specs.declared.word.Called.{Called}
use Rattle.callback_orders.specs.Grammar.{is_activate}
use Rattle.callback_orders.specs.Lives.{held_after, held_by, phase_after, phase_by}
use Rattle.callback_orders.specs.Sequences.{begun, ended, is_outstanding}
use Rattle.scr_promises.specs.Statics.{rebinds, told_active_from}
use Rattle.scr_world.specs.Instances.{is_active_phase, last_callback, last_is}

-- ---- a callback that begins

abbrev told_one : Bool → Callback → List Callback
told_one active callback = cond active (callback ∷ []) []

joined : (xs ys zs : List Callback) → xs ++ (ys ++ zs) ≡ (xs ++ ys) ++ zs
joined [] ys zs = refl
joined (x ∷ xs) ys zs = ap (λ l. x ∷ l) (joined xs ys zs)

with_nothing : (xs : List Callback) → xs ++ [] ≡ xs
with_nothing [] = refl
with_nothing (x ∷ xs) = ap (λ l. x ∷ l) (with_nothing xs)

pub told_begun : (callback : Callback) (phase : Phase) (calls : List Called) → told_active_from phase (calls ++ begun callback ∷ []) ≡ told_active_from phase calls ++ told_one (is_active_phase (phase_after phase calls)) callback
told_begun callback phase [] = with_nothing (told_one (is_active_phase phase) callback)
told_begun callback phase (c ∷ calls) =
    ap (λ l. told_one (is_active_phase phase) c.callback ++ l) (told_begun callback (phase_by c.callback c.outcome phase) calls)
    ∙ joined (told_one (is_active_phase phase) c.callback) (told_active_from (phase_by c.callback c.outcome phase) calls) (told_one (is_active_phase (phase_after phase (c ∷ calls))) callback)

-- none of them passes a test
pub none_begun : (p : Callback → Bool) (callback : Callback) (phase : Phase) (calls : List Called) → list_any p (told_active_from phase calls) ≡ false → (is_active_phase (phase_after phase calls) ≡ true → p callback ≡ false)
    → list_any p (told_active_from phase (calls ++ begun callback ∷ [])) ≡ false
none_begun p callback phase calls before now =
    ap (list_any p) (told_begun callback phase calls)
    ∙ list_any-append p (told_active_from phase calls) (told_one (is_active_phase (phase_after phase calls)) callback)
    ∙ ap (λ b. b || list_any p (told_one (is_active_phase (phase_after phase calls)) callback)) before
    ∙ go (is_active_phase (phase_after phase calls)) refl
  where
    go : (b : Bool) → is_active_phase (phase_after phase calls) ≡ b → list_any p (told_one b callback) ≡ false
    go true on = ap (λ b. b || false) (now on)
    go false off = refl

-- ---- a callback that ends

pub told_ended : (o : Outcome) (phase : Phase) (calls : List Called) → told_active_from phase (ended o calls) ≡ told_active_from phase calls
told_ended o phase [] = refl
told_ended o phase (c ∷ []) = refl
told_ended o phase (c ∷ d ∷ rest) = ap (λ l. told_one (is_active_phase phase) c.callback ++ l) (told_ended o (phase_by c.callback c.outcome phase) (d ∷ rest))

-- only the end of an Activate makes an instance active
ends_one : (callback : Callback) (was : Option Outcome) (o : Outcome) (phase : Phase) → is_none was ≡ true → is_active_phase (phase_by callback (Some o) phase) ≡ true → (is_active_phase (phase_by callback was phase) ≡ true) ⊎ (is_activate callback ≡ true)
ends_one callback (Some x) o phase running on = cc
ends_one Create None o phase running on = inl on
ends_one (Bind r s) None o phase running on = inl on
ends_one (Updated r s) None o phase running on = inl on
ends_one (Unbind r s) None o phase running on = inl on
ends_one Activate None o phase running on = inr refl
ends_one Modified None o phase running on = inl on
ends_one Deactivate None o phase running on = absurd cc
ends_one Destroy None o phase running on = inl on

pub active_ended : (o : Outcome) (phase : Phase) (calls : List Called) → is_outstanding calls ≡ true → is_active_phase (phase_after phase (ended o calls)) ≡ true → (is_active_phase (phase_after phase calls) ≡ true) ⊎ (last_is is_activate calls ≡ true)
active_ended o phase [] running on = inl on
active_ended o phase (c ∷ []) running on = ends_one c.callback c.outcome o phase running on
active_ended o phase (c ∷ d ∷ rest) running on = active_ended o (phase_by c.callback c.outcome phase) (d ∷ rest) running on

-- the callback that is outstanding in the active phase was told in it
running_active : (callback : Callback) (outcome : Option Outcome) (phase : Phase) → is_none outcome ≡ true → is_active_phase (phase_by callback outcome phase) ≡ true → is_active_phase phase ≡ true
running_active callback (Some x) phase running on = cc
running_active Create None phase running on = on
running_active (Bind r s) None phase running on = on
running_active (Updated r s) None phase running on = on
running_active (Unbind r s) None phase running on = on
running_active Activate None phase running on = on
running_active Modified None phase running on = on
running_active Deactivate None phase running on = on
running_active Destroy None phase running on = on

or_parts : (a b : Bool) → (a || b) ≡ false → (a ≡ false) × (b ≡ false)
or_parts true b e = cc
or_parts false b e = (refl, e)

pub last_told : (p : Callback → Bool) (phase : Phase) (calls : List Called) → is_outstanding calls ≡ true → is_active_phase (phase_after phase calls) ≡ true → list_any p (told_active_from phase calls) ≡ false → last_is p calls ≡ false
last_told p phase [] running on none = refl
last_told p phase (c ∷ []) running on none =
    (or_parts (p c.callback) false (ap (λ b. list_any p (told_one b c.callback ++ [])) (sym (running_active c.callback c.outcome phase running on)) ∙ none)).0
last_told p phase (c ∷ d ∷ rest) running on none =
    last_told p (phase_by c.callback c.outcome phase) (d ∷ rest) running on
    (or_parts (list_any p (told_one (is_active_phase phase) c.callback)) _ (sym (list_any-append p (told_one (is_active_phase phase) c.callback) (told_active_from (phase_by c.callback c.outcome phase) (d ∷ rest))) ∙ none)).1

-- ---- what is held

pub held_begun : (name : List ℕ) (calls : List Called) (held : List ℕ) (c : Called) → held_after name held (calls ++ c ∷ []) ≡ held_by name c.callback c.outcome (held_after name held calls)
held_begun name [] held c = refl
held_begun name (d ∷ calls) held c = held_begun name calls (held_by name d.callback d.outcome held) c

-- a callback that begins for another reference leaves what is held
pub same_held : (name : List ℕ) (callback : Callback) (held : List ℕ) → rebinds name callback ≡ false → held_by name callback None held ≡ held
same_held name Create held off = refl
same_held name (Bind r s) held off = ap (λ b. cond b (held ++ s ∷ []) held) off
same_held name (Updated r s) held off = refl
same_held name (Unbind r s) held off = refl
same_held name Activate held off = refl
same_held name Modified held off = refl
same_held name Deactivate held off = refl
same_held name Destroy held off = refl

end_held : (name : List ℕ) (callback : Callback) (o : Outcome) (was : Option Outcome) (held : List ℕ) → rebinds name callback ≡ false → held_by name callback (Some o) held ≡ held_by name callback was held
end_held name Create o was held off = refl
end_held name (Bind r s) o was held off = refl
end_held name (Updated r s) o was held off = refl
end_held name (Unbind r s) o None held off = ap (λ b. cond b (filter (λ n. not (n == s)) held) held) off
end_held name (Unbind r s) o (Some x) held off = refl
end_held name Activate o was held off = refl
end_held name Modified o was held off = refl
end_held name Deactivate o was held off = refl
end_held name Destroy o was held off = refl

pub held_ended : (o : Outcome) (name : List ℕ) (calls : List Called) (held : List ℕ) → last_is (rebinds name) calls ≡ false → held_after name held (ended o calls) ≡ held_after name held calls
held_ended o name [] held off = refl
held_ended o name (c ∷ []) held off = end_held name c.callback o c.outcome held off
held_ended o name (c ∷ d ∷ rest) held off = held_ended o name (d ∷ rest) (held_by name c.callback c.outcome held) off

-- the last callback of a longer list
pub last_begun : (calls : List Called) (callback : Callback) → last_callback (calls ++ begun callback ∷ []) ≡ Some callback
last_begun [] callback = refl
last_begun (c ∷ []) callback = refl
last_begun (c ∷ d ∷ rest) callback = last_begun (d ∷ rest) callback

pub activate_isnt : (name : List ℕ) (callback : Callback) → is_activate callback ≡ true → rebinds name callback ≡ false
activate_isnt name Create e = cc
activate_isnt name (Bind r s) e = cc
activate_isnt name (Updated r s) e = cc
activate_isnt name (Unbind r s) e = cc
activate_isnt name Activate e = refl
activate_isnt name Modified e = cc
activate_isnt name Deactivate e = cc
activate_isnt name Destroy e = cc

pub last_activate : (name : List ℕ) (calls : List Called) → last_is is_activate calls ≡ true → last_is (rebinds name) calls ≡ false
last_activate name calls is = go (last_callback calls) is
  where
    go : (o : Option Callback) → option_map_or is_activate o false ≡ true → option_map_or (rebinds name) o false ≡ false
    go None e = cc
    go (Some callback) e = activate_isnt name callback e

-- what has ended isn't outstanding
pub none_outstanding : (o : Outcome) (calls : List Called) → is_outstanding (ended o calls) ≡ false
none_outstanding o [] = refl
none_outstanding o (c ∷ []) = refl
none_outstanding o (c ∷ d ∷ rest) = go rest (none_outstanding o (d ∷ rest))
  where
    go : (more : List Called) → is_outstanding (ended o (d ∷ more)) ≡ false → is_outstanding (c ∷ ended o (d ∷ more)) ≡ false
    go [] e = e
    go (x ∷ xs) e = e
