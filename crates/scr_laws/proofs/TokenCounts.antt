-- Each get by token is counted, and none beside them.
use Rattle.std.proofs.Common.{◌≡◌, ◌<◌, ℕ, ◌+◌, ◌-◌, List, [], ◌∷◌, length, ap, sym, ◌∙◌, refl, cond, arith, Bool, true, false, ◌||◌, Option, Some, None}
use Rattle.std.specs.Prelude.{filter, find, map, not, ◌==◌}
use Rattle.std.specs.List.{Contains}
use Rattle.std.specs.Option.{option_map_or}
use Rattle.std.proofs.lemmas.Bool.{and_from, and_parts, both_ways, eq-eqb, eqb-true}
use Rattle.component_state.specs.Inside.Ready.{are_apart}
use Rattle.component_state.proofs.Apart.{kept_from, kept_over, length_over, not_true}
use Rattle.prop_map.specs.Words.{has}
use Rattle.scr_laws.specs.Reserving.{stands_for}
use Rattle.scr_laws.proofs.TokenOrder.{tokens_spread}
use Rattle.scr_laws.specs.Tokens.{AreCounted, is_get_of}
use Rattle.scr_laws.proofs.UseTables.{are_same, found_gone, found_kept, got_by_shell, got_by_token, ungot_by_shell, ungot_by_token, use_is}
use Rattle.scr_world.specs.Lists.{with_lists_of, world_after_entry, world_of}
use Rattle.scr_world.specs.Steps.{History}
use Rattle.scr_world.specs.Stepping.{world_after_step}
use Rattle.scr_world.specs.Tables.{tokens_by, uses_by, without_token}
use Rattle.scr_world.specs.declared.command.Command.TheVariants.{Install, Update, Start, Stop, Uninstall, Enable, Disable, Register, Unregister, SetProperties, Get, Unget, Listen, Unlisten, Configure, ConfigureFactory, Unconfigure}
use Rattle.scr_world.specs.declared.marks.Token.{Token}
use Rattle.scr_world.specs.declared.step.Step.{Step}
use Rattle.scr_world.specs.declared.step.Step.TheVariants.{Command as Commanded, Begin, End, Drained, Got, Released}
use Rattle.use_counts.specs.declared.uses.Holder.TheVariants.{Token as ByToken}
use Rattle.use_counts.specs.declared.uses.UseRow.{UseRow}
use Rattle.use_counts.specs.Uses.{held_by, holder_count, is_use, no_use}

-- ---- what is kept of a list by one test, of that what passes another

module _ {X : Type 0} (p : X → Bool) where
  many_kept : (q : X → Bool) → ((x : X) → p x ≡ true → q x ≡ true) → (xs : List X) → filter p (filter q xs) ≡ filter p xs
  many_kept q each [] = refl
  many_kept q each (x ∷ xs) = go (p x) (q x) refl refl (many_kept q each xs)
    where
      go : (a b : Bool) → p x ≡ a → q x ≡ b → filter p (filter q xs) ≡ filter p xs → filter p (cond b (x ∷ filter q xs) (filter q xs)) ≡ cond a (x ∷ filter p xs) (filter p xs)
      go true true here kept rest = ap (λ c. cond c (x ∷ filter p (filter q xs)) (filter p (filter q xs))) here ∙ ap (λ ys. x ∷ ys) rest
      go true false here gone rest = absurd (both_ways (q x) gone (each x here))
      go false true other kept rest = ap (λ c. cond c (x ∷ filter p (filter q xs)) (filter p (filter q xs))) other ∙ rest
      go false false other gone rest = rest

  many_gone : (q : X → Bool) → ((x : X) → p x ≡ true → q x ≡ false) → (xs : List X) → filter p (filter q xs) ≡ []
  many_gone q each [] = refl
  many_gone q each (x ∷ xs) = go (p x) (q x) refl refl (many_gone q each xs)
    where
      go : (a b : Bool) → p x ≡ a → q x ≡ b → filter p (filter q xs) ≡ [] → filter p (cond b (x ∷ filter q xs) (filter q xs)) ≡ []
      go true true here kept rest = absurd (both_ways (q x) (each x here) kept)
      go true false here gone rest = rest
      go false true other kept rest = ap (λ c. cond c (x ∷ filter p (filter q xs)) (filter p (filter q xs))) other ∙ rest
      go false false other gone rest = rest

  all_left : (xs : List X) → find p xs ≡ None → filter (λ x. not (p x)) xs ≡ xs
  all_left [] none = refl
  all_left (x ∷ xs) none = go (p x) none (all_left xs)
    where
      go : (b : Bool) → cond b (Some x) (find p xs) ≡ None → (find p xs ≡ None → filter (λ y. not (p y)) xs ≡ xs) → cond (not b) (x ∷ filter (λ y. not (p y)) xs) (filter (λ y. not (p y)) xs) ≡ x ∷ xs
      go true none rest = cc
      go false none rest = ap (λ ys. x ∷ ys) (rest none)

-- ---- a token that is released: no other has its place

module _ (place : ℕ) where
  abbrev is_there : Token → Bool
  is_there t = t.place == place

  others_left : (ts : List Token) → has (map (λ (t : Token). t.place) ts) place ≡ false → filter (λ (t : Token). not (is_there t)) ts ≡ ts
  others_left [] none = refl
  others_left (t ∷ ts) none = go (is_there t) none (others_left ts)
    where
      go : (b : Bool) → (b || has (map (λ (u : Token). u.place) ts) place) ≡ false → (has (map (λ (u : Token). u.place) ts) place ≡ false → filter (λ (u : Token). not (is_there u)) ts ≡ ts)
          → cond (not b) (t ∷ filter (λ (u : Token). not (is_there u)) ts) (filter (λ (u : Token). not (is_there u)) ts) ≡ t ∷ ts
      go true none rest = cc
      go false none rest = ap (λ us. t ∷ us) (rest none)

  module _ (g : Token → Bool) where
    one_less : (ts : List Token) (t : Token) → are_apart (map (λ (u : Token). u.place) ts) ≡ true → find is_there ts ≡ Some t
        → length (filter g (filter (λ (u : Token). not (is_there u)) ts)) + cond (g t) 1 0 ≡ length (filter g ts)
    one_less [] t apart found = cc
    one_less (x ∷ xs) t apart found = go (is_there x) refl found (one_less xs t parts.1)
      where
        parts : (not (has (map (λ (u : Token). u.place) xs) x.place) ≡ true) × (are_apart (map (λ (u : Token). u.place) xs) ≡ true)
        parts = and_parts (not (has (map (λ (u : Token). u.place) xs) x.place)) (are_apart (map (λ (u : Token). u.place) xs)) apart

        counted : (b : Bool) (us : List Token) → length us + cond b 1 0 ≡ length (cond b (x ∷ us) us)
        counted true us = omega arith
        counted false us = omega arith

        beside : (b : Bool) (us vs : List Token) (n : ℕ) → length us + n ≡ length vs → length (cond b (x ∷ us) us) + n ≡ length (cond b (x ∷ vs) vs)
        beside true us vs n e = omega (arith, e)
        beside false us vs n e = e

        go : (b : Bool) → is_there x ≡ b → cond b (Some x) (find is_there xs) ≡ Some t
            → (find is_there xs ≡ Some t → length (filter g (filter (λ (u : Token). not (is_there u)) xs)) + cond (g t) 1 0 ≡ length (filter g xs))
            → length (filter g (cond (not b) (x ∷ (filter (λ (u : Token). not (is_there u)) xs)) (filter (λ (u : Token). not (is_there u)) xs))) + cond (g t) 1 0 ≡ length (filter g (x ∷ xs))
        go true here is later =
            let same : x ≡ t = cc in
            let alone = others_left xs (ap (has (map (λ (u : Token). u.place) xs)) (sym (eqb-true x.place place here)) ∙ not_true (has (map (λ (u : Token). u.place) xs) x.place) parts.0) in
            ap (λ us. length (filter g us) + cond (g t) 1 0) alone ∙ ap (λ (u : Token). length (filter g xs) + cond (g u) 1 0) (sym same) ∙ counted (g x) (filter g xs)
        go false other is later = beside (g x) (filter g (filter (λ (u : Token). not (is_there u)) xs)) (filter g xs) (cond (g t) 1 0) (later is)

-- ---- what a step makes of gets and tokens

abbrev AreAlike : List UseRow → List Token → Type 0
AreAlike us ts = (bundle service : ℕ) → holder_count ByToken bundle service us ≡ length (filter (is_get_of bundle service) ts)

one_got : (us : List UseRow) (ts : List Token) (t : Token) (bundle service : ℕ) → holder_count ByToken bundle service us ≡ length (filter (is_get_of bundle service) ts)
    → (b : Bool) → cond b (holder_count ByToken bundle service us + 1) (holder_count ByToken bundle service us) ≡ length (filter (is_get_of bundle service) ts) + length (cond b (t ∷ []) [])
one_got us ts t bundle service was true = omega (arith, was)
one_got us ts t bundle service was false = omega (arith, was)

one_released : (n m left : ℕ) → n ≡ m → (b : Bool) → left + cond b 1 0 ≡ m → cond b (n - 1) n ≡ left
one_released n m left was true less = omega (arith, was, less)
one_released n m left was false less = omega (arith, was, less)

alike_released : (us : List UseRow) (ts : List Token) (place : ℕ) → are_apart (map (λ (t : Token). t.place) ts) ≡ true → AreAlike us ts → (o : Option Token) → find (λ (t : Token). t.place == place) ts ≡ o
    → AreAlike (option_map_or (without_token us) o us) (filter (λ (t : Token). not (t.place == place)) ts)
alike_released us ts place apart was None none bundle service =
    was bundle service ∙ ap (λ xs. length (filter (is_get_of bundle service) xs)) (sym (all_left (λ (t : Token). t.place == place) ts none))
alike_released us ts place apart was (Some t) found bundle service =
    ungot_by_token bundle service t.bundle t.service us
    ∙ one_released (holder_count ByToken bundle service us) (length (filter (is_get_of bundle service) ts)) (length (filter (is_get_of bundle service) (filter (λ (u : Token). not (u.place == place)) ts))) (was bundle service)
    (is_get_of bundle service t) (one_less place (is_get_of bundle service) ts t apart found)

alike_by : (step : Step) (here : ℕ) (us : List UseRow) (ts : List Token) → are_apart (map (λ (t : Token). t.place) ts) ≡ true → AreAlike us ts → AreAlike (uses_by step ts us) (tokens_by step here ts)
alike_by (Commanded (Install doc)) here us ts apart was = was
alike_by (Commanded (Update bundle doc)) here us ts apart was = was
alike_by (Commanded (Start bundle)) here us ts apart was = was
alike_by (Commanded (Stop bundle)) here us ts apart was = was
alike_by (Commanded (Uninstall bundle)) here us ts apart was = was
alike_by (Commanded (Enable bundle name)) here us ts apart was = was
alike_by (Commanded (Disable bundle name)) here us ts apart was = was
alike_by (Commanded (Register bundle interfaces properties)) here us ts apart was = was
alike_by (Commanded (Unregister bundle service)) here us ts apart was = was
alike_by (Commanded (SetProperties bundle service properties)) here us ts apart was = was
alike_by (Commanded (Get other of_service)) here us ts apart was = λ bundle service. got_by_shell bundle service other of_service us ∙ was bundle service
alike_by (Commanded (Unget other of_service)) here us ts apart was = λ bundle service. ungot_by_shell bundle service other of_service us ∙ was bundle service
alike_by (Commanded (Listen bundle tree)) here us ts apart was = was
alike_by (Commanded (Unlisten listener)) here us ts apart was = was
alike_by (Commanded (Configure pid properties)) here us ts apart was = was
alike_by (Commanded (ConfigureFactory factory name properties)) here us ts apart was = was
alike_by (Commanded (Unconfigure pid)) here us ts apart was = was
alike_by (Begin turn instance configuration consumer callback chosen) here us ts apart was = was
alike_by (End turn outcome) here us ts apart was = was
alike_by (Drained instance) here us ts apart was = was
alike_by (Got other of_service) here us ts apart was = λ bundle service.
    let new : Token = record { place = here; bundle = other; service = of_service } in
    got_by_token bundle service other of_service us
    ∙ one_got us ts new bundle service (was bundle service) (are_same service of_service bundle other)
    ∙ sym (ap length (kept_over (is_get_of bundle service) ts (new ∷ [])) ∙ length_over (filter (is_get_of bundle service) ts) (filter (is_get_of bundle service) (new ∷ [])))
alike_by (Released place) here us ts apart was = alike_released us ts place apart was (find (λ (t : Token). t.place == place) ts) refl

-- ---- gets that don't stand go, and their tokens with them

module _ (stands : ℕ → ℕ → Bool) (bundle service : ℕ) where
  of_row : (u : UseRow) → is_use bundle service u ≡ true → stands u.service u.bundle ≡ stands service bundle
  of_row u is = let same = use_is bundle service u is in ap (λ n. stands n u.bundle) same.0 ∙ ap (stands service) same.1

  of_token : (t : Token) → is_get_of bundle service t ≡ true → stands t.service t.bundle ≡ stands service bundle
  of_token t is =
      let both = and_parts (t.service == service) (t.bundle == bundle) is in
      ap (λ n. stands n t.bundle) (eqb-true t.service service both.0) ∙ ap (stands service) (eqb-true t.bundle bundle both.1)

  abbrev count : Option UseRow → ℕ
  count o = held_by ByToken (option_map_or (λ (u : UseRow). u) o (no_use bundle service))

  alike_kept : (us : List UseRow) (ts : List Token) → holder_count ByToken bundle service us ≡ length (filter (is_get_of bundle service) ts)
      → holder_count ByToken bundle service (filter (λ (u : UseRow). stands u.service u.bundle) us) ≡ length (filter (is_get_of bundle service) (filter (λ (t : Token). stands t.service t.bundle) ts))
  alike_kept us ts was = go (stands service bundle) refl
    where
      go : (b : Bool) → stands service bundle ≡ b
          → holder_count ByToken bundle service (filter (λ (u : UseRow). stands u.service u.bundle) us) ≡ length (filter (is_get_of bundle service) (filter (λ (t : Token). stands t.service t.bundle) ts))
      go true on =
          ap count (found_kept (is_use bundle service) (λ (u : UseRow). stands u.service u.bundle) (λ u is. of_row u is ∙ on) us) ∙ was
          ∙ ap length (sym (many_kept (is_get_of bundle service) (λ (t : Token). stands t.service t.bundle) (λ t is. of_token t is ∙ on) ts))
      go false off =
          ap count (found_gone (is_use bundle service) (λ (u : UseRow). stands u.service u.bundle) (λ u is. of_row u is ∙ off) us)
          ∙ ap length (sym (many_gone (is_get_of bundle service) (λ (t : Token). stands t.service t.bundle) (λ t is. of_token t is ∙ off) ts))

-- ---- every history

pub are_counted : (past : History) → AreCounted (world_of past)
unfolding world_of world_after_entry world_after_step
are_counted [] bundle service = refl
are_counted (entry ∷ past) bundle service =
    let w = world_of past in
    let now = with_lists_of entry (world_after_step entry.step w) in
    alike_kept (stands_for now) bundle service (uses_by entry.step w.tokens w.uses) (tokens_by entry.step w.entries w.tokens)
    (alike_by entry.step w.entries w.uses w.tokens (tokens_spread past).apart (are_counted past) bundle service)

-- so the get of a token that stands is counted
pub token_counted : (past : History) (t : Token) → Contains (world_of past).tokens t → 0 < holder_count ByToken t.bundle t.service (world_of past).uses
token_counted past t h =
    let all = are_counted past t.bundle t.service in
    let own = and_from (t.service == t.service) (t.bundle == t.bundle) (eq-eqb t.service t.service refl) (eq-eqb t.bundle t.bundle refl) in
    let kept = kept_from (is_get_of t.bundle t.service) (world_of past).tokens t h own in
    let within = kept.1 in
    omega (arith, all, within)
