-- How a bundle uses a service once a get more or a get less is counted, of it or of another.
use Rattle.std.proofs.Common.{◌≡◌, ℕ, ◌+◌, ◌-◌, List, [], ◌∷◌, ap, sym, ◌∙◌, refl, subst, cond, arith, Bool, true, false, ◌&&◌, Option, Some, None}
use Rattle.std.specs.Prelude.{filter, find, not, ◌==◌}
use Rattle.std.specs.Cmp.{Equal-is, tied_then}
use Rattle.std.specs.Option.{option_map_or}
use Rattle.std.specs.Ordering.{is_eq, nat_cmp}
use Rattle.std.proofs.lemmas.Bool.{and_from, and_parts, both_ways, eq-eqb, eqb-true}
use Rattle.std.proofs.lemmas.Map.Lookups.{exact_unsigned}
use Rattle.prop_map.specs.Words.{insert_by}
use Rattle.use_counts.specs.declared.uses.Holder.{Holder}
use Rattle.use_counts.specs.declared.uses.Holder.TheVariants.{Shell, Token as ByToken}
use Rattle.use_counts.specs.declared.uses.UseRow.{UseRow}
use Rattle.use_counts.specs.Uses.{after_get, after_unget, held_by, holder_count, is_use, no_use, one_less, one_more, total, use_before, use_cmp, use_of, with_use, without_use}
use Rattle.use_counts.proofs.UseRows.{less_ties, more_ties, own_tie, use_cmp_total, use_ties}

-- ---- what is found in a list

module _ {X : Type 0} (p : X → Bool) where
  found_put : (before : X → X → Bool) (y : X) (xs : List X) → p y ≡ true → find p xs ≡ None → find p (insert_by before y xs) ≡ Some y
  found_put before y [] on none = ap (λ b. cond b (Some y) None) on
  found_put before y (x ∷ xs) on none = go (before y x) (p x) refl none (found_put before y xs on)
    where
      go : (first here : Bool) → p x ≡ here → cond here (Some x) (find p xs) ≡ None → (find p xs ≡ None → find p (insert_by before y xs) ≡ Some y)
          → find p (cond first (y ∷ x ∷ xs) (x ∷ insert_by before y xs)) ≡ Some y
      go true here is h later = ap (λ b. cond b (Some y) (find p (x ∷ xs))) on
      go false true is h later = cc
      go false false is h later = ap (λ b. cond b (Some x) (find p (insert_by before y xs))) is ∙ later h

  found_beside : (before : X → X → Bool) (y : X) (xs : List X) → p y ≡ false → find p (insert_by before y xs) ≡ find p xs
  found_beside before y [] off = ap (λ b. cond b (Some y) None) off
  found_beside before y (x ∷ xs) off = go (before y x) (found_beside before y xs off)
    where
      go : (first : Bool) → find p (insert_by before y xs) ≡ find p xs → find p (cond first (y ∷ x ∷ xs) (x ∷ insert_by before y xs)) ≡ find p (x ∷ xs)
      go true later = ap (λ b. cond b (Some y) (find p (x ∷ xs))) off
      go false later = ap (λ o. cond (p x) (Some x) o) later

  -- a filter that keeps all that passes, and one that keeps none of it
  pub found_kept : (q : X → Bool) → ((x : X) → p x ≡ true → q x ≡ true) → (xs : List X) → find p (filter q xs) ≡ find p xs
  found_kept q each [] = refl
  found_kept q each (x ∷ xs) = go (p x) (q x) refl refl (found_kept q each xs)
    where
      go : (a b : Bool) → p x ≡ a → q x ≡ b → find p (filter q xs) ≡ find p xs → find p (cond b (x ∷ filter q xs) (filter q xs)) ≡ cond a (Some x) (find p xs)
      go true true here kept rest = ap (λ c. cond c (Some x) (find p (filter q xs))) here
      go true false here gone rest = absurd (both_ways (q x) gone (each x here))
      go false true other kept rest = ap (λ c. cond c (Some x) (find p (filter q xs))) other ∙ rest
      go false false other gone rest = rest

  pub found_gone : (q : X → Bool) → ((x : X) → p x ≡ true → q x ≡ false) → (xs : List X) → find p (filter q xs) ≡ None
  found_gone q each [] = refl
  found_gone q each (x ∷ xs) = go (p x) (q x) refl refl (found_gone q each xs)
    where
      go : (a b : Bool) → p x ≡ a → q x ≡ b → find p (filter q xs) ≡ None → find p (cond b (x ∷ filter q xs) (filter q xs)) ≡ None
      go true true here kept rest = absurd (both_ways (q x) (each x here) kept)
      go true false here gone rest = rest
      go false true other kept rest = ap (λ c. cond c (Some x) (find p (filter q xs))) other ∙ rest
      go false false other gone rest = rest

-- ---- the row of a bundle and a service

same_number : (x y : ℕ) → is_eq (nat_cmp x y) ≡ true → x ≡ y
same_number x y is = exact_unsigned x y ((Equal-is (nat_cmp x y)).0 is)

own_use : (u : UseRow) → is_use u.bundle u.service u ≡ true
own_use u = ap is_eq (own_tie (use_cmp u u) (use_cmp_total.antisymm u u))

module _ (bundle service : ℕ) where
  pub use_is : (u : UseRow) → is_use bundle service u ≡ true → (u.service ≡ service) × (u.bundle ≡ bundle)
  use_is u is =
      let both = and_parts (is_eq (nat_cmp u.service service)) (is_eq (nat_cmp u.bundle bundle)) (tied_then (nat_cmp u.service service) (nat_cmp u.bundle bundle) ∙ is) in
      (same_number u.service service both.0, same_number u.bundle bundle both.1)

  abbrev row : List UseRow → UseRow
  row us = use_of bundle service us

  read : (us : List UseRow) (o : Option UseRow) → find (is_use bundle service) us ≡ o → row us ≡ option_map_or (λ (u : UseRow). u) o (no_use bundle service)
  read us o is = ap (λ (x : Option UseRow). option_map_or (λ (u : UseRow). u) x (no_use bundle service)) is

  -- a row of this bundle and service in its place
  put : (u : UseRow) (us : List UseRow) → is_use bundle service u ≡ true → row (insert_by use_before u (without_use bundle service us)) ≡ u
  put u us on = read (insert_by use_before u (without_use bundle service us)) (Some u)
      (found_put (is_use bundle service) use_before u (without_use bundle service us) on
      (found_gone (is_use bundle service) (λ (x : UseRow). not (is_use bundle service x)) (λ x here. ap not here) us))

  abbrev held : List UseRow → ℕ
  held us = holder_count ByToken bundle service us

  with_use_held : (u : UseRow) (us : List UseRow) → is_use bundle service u ≡ true → held (with_use bundle service u us) ≡ u.tokens
  with_use_held u us on = go (total u == 0) refl
    where
      go : (b : Bool) → (total u == 0) ≡ b → held (cond b (without_use bundle service us) (insert_by use_before u (without_use bundle service us))) ≡ u.tokens
      go true none =
          let gone = read (without_use bundle service us) None (found_gone (is_use bundle service) (λ (x : UseRow). not (is_use bundle service x)) (λ x here. ap not here) us) in
          let nothing = eqb-true (total u) 0 none in
          let left : 0 ≡ u.tokens = omega (arith, nothing) in
          ap (held_by ByToken) gone ∙ left
      go false some = ap (held_by ByToken) (put u us on)

  more_is_use : (holder : Holder) (us : List UseRow) → is_use bundle service (one_more holder (row us)) ≡ true
  more_is_use holder us = ap is_eq (more_ties holder (row us) (no_use bundle service) (use_ties bundle service us))

  less_is_use : (holder : Holder) (us : List UseRow) → is_use bundle service (one_less holder (row us)) ≡ true
  less_is_use holder us = ap is_eq (less_ties holder (row us) (no_use bundle service) (use_ties bundle service us))

  got : (holder : Holder) (us : List UseRow) → held (after_get bundle service holder us) ≡ (one_more holder (row us)).tokens
  got holder us = ap (held_by ByToken) (put (one_more holder (row us)) us (more_is_use holder us))

  ungot : (holder : Holder) (us : List UseRow) → held (after_unget bundle service holder us) ≡ (one_less holder (row us)).tokens
  ungot holder us = with_use_held (one_less holder (row us)) us (less_is_use holder us)

-- ---- the row of another

abbrev pub are_same : ℕ → ℕ → ℕ → ℕ → Bool
are_same service other_service bundle other_bundle = (other_service == service) && (other_bundle == bundle)

module _ (bundle service other_bundle other_service : ℕ) (off : are_same service other_service bundle other_bundle ≡ false) where
  not_both : (u : UseRow) → is_use bundle service u ≡ true → is_use other_bundle other_service u ≡ true → ⊥
  not_both u this that =
      let a = use_is bundle service u this in
      let b = use_is other_bundle other_service u that in
      both_ways (are_same service other_service bundle other_bundle) off
      (and_from (other_service == service) (other_bundle == bundle) (eq-eqb other_service service (sym b.0 ∙ a.0)) (eq-eqb other_bundle bundle (sym b.1 ∙ a.1)))

  unlike : (b : Bool) → (b ≡ true → ⊥) → b ≡ false
  unlike true never = absurd (never refl)
  unlike false never = refl

  left : (us : List UseRow) → find (is_use bundle service) (without_use other_bundle other_service us) ≡ find (is_use bundle service) us
  left us = found_kept (is_use bundle service) (λ (u : UseRow). not (is_use other_bundle other_service u)) (λ u this. ap not (unlike (is_use other_bundle other_service u) (not_both u this))) us

  put_other : (u : UseRow) (us : List UseRow) → is_use other_bundle other_service u ≡ true
      → find (is_use bundle service) (insert_by use_before u (without_use other_bundle other_service us)) ≡ find (is_use bundle service) us
  put_other u us that =
      found_beside (is_use bundle service) use_before u (without_use other_bundle other_service us) (unlike (is_use bundle service u) (λ this. not_both u this that)) ∙ left us

  got_other : (holder : Holder) (us : List UseRow) → find (is_use bundle service) (after_get other_bundle other_service holder us) ≡ find (is_use bundle service) us
  got_other holder us = put_other (one_more holder (use_of other_bundle other_service us)) us (more_is_use other_bundle other_service holder us)

  ungot_other : (holder : Holder) (us : List UseRow) → find (is_use bundle service) (after_unget other_bundle other_service holder us) ≡ find (is_use bundle service) us
  ungot_other holder us = go (total (one_less holder (use_of other_bundle other_service us)) == 0)
    where
      go : (b : Bool) → find (is_use bundle service) (cond b (without_use other_bundle other_service us) (insert_by use_before (one_less holder (use_of other_bundle other_service us)) (without_use other_bundle other_service us)))
          ≡ find (is_use bundle service) us
      go true = left us
      go false = put_other (one_less holder (use_of other_bundle other_service us)) us (less_is_use other_bundle other_service holder us)

-- ---- gets that tokens hold, whoever gets

module _ (bundle service other_bundle other_service : ℕ) (us : List UseRow) where
  abbrev count : List UseRow → ℕ
  count vs = holder_count ByToken bundle service vs

  unchanged : (vs : List UseRow) → find (is_use bundle service) vs ≡ find (is_use bundle service) us → count vs ≡ count us
  unchanged vs is = ap (λ (o : Option UseRow). held_by ByToken (option_map_or (λ (u : UseRow). u) o (no_use bundle service))) is

  -- where the bundle and the service are these, what is so of these
  at_these : (P : ℕ → ℕ → Type 0) → are_same service other_service bundle other_bundle ≡ true → P bundle service → P other_bundle other_service
  at_these P on here =
      let both = and_parts (other_service == service) (other_bundle == bundle) on in
      subst (λ n. P other_bundle n) (sym (eqb-true other_service service both.0)) (subst (λ n. P n service) (sym (eqb-true other_bundle bundle both.1)) here)

  pub got_by_shell : count (after_get other_bundle other_service Shell us) ≡ count us
  got_by_shell = go (are_same service other_service bundle other_bundle) refl
    where
      go : (b : Bool) → are_same service other_service bundle other_bundle ≡ b → count (after_get other_bundle other_service Shell us) ≡ count us
      go true on = at_these (λ b s. count (after_get b s Shell us) ≡ count us) on (got bundle service Shell us)
      go false off = unchanged (after_get other_bundle other_service Shell us) (got_other bundle service other_bundle other_service off Shell us)

  pub ungot_by_shell : count (after_unget other_bundle other_service Shell us) ≡ count us
  ungot_by_shell = go (are_same service other_service bundle other_bundle) refl
    where
      go : (b : Bool) → are_same service other_service bundle other_bundle ≡ b → count (after_unget other_bundle other_service Shell us) ≡ count us
      go true on = at_these (λ b s. count (after_unget b s Shell us) ≡ count us) on (ungot bundle service Shell us)
      go false off = unchanged (after_unget other_bundle other_service Shell us) (ungot_other bundle service other_bundle other_service off Shell us)

  pub got_by_token : count (after_get other_bundle other_service ByToken us) ≡ cond (are_same service other_service bundle other_bundle) (count us + 1) (count us)
  got_by_token = go (are_same service other_service bundle other_bundle) refl
    where
      go : (b : Bool) → are_same service other_service bundle other_bundle ≡ b → count (after_get other_bundle other_service ByToken us) ≡ cond b (count us + 1) (count us)
      go true on = at_these (λ b s. count (after_get b s ByToken us) ≡ count us + 1) on (got bundle service ByToken us)
      go false off = unchanged (after_get other_bundle other_service ByToken us) (got_other bundle service other_bundle other_service off ByToken us)

  pub ungot_by_token : count (after_unget other_bundle other_service ByToken us) ≡ cond (are_same service other_service bundle other_bundle) (count us - 1) (count us)
  ungot_by_token = go (are_same service other_service bundle other_bundle) refl
    where
      go : (b : Bool) → are_same service other_service bundle other_bundle ≡ b → count (after_unget other_bundle other_service ByToken us) ≡ cond b (count us - 1) (count us)
      go true on = at_these (λ b s. count (after_unget b s ByToken us) ≡ count us - 1) on (ungot bundle service ByToken us)
      go false off = unchanged (after_unget other_bundle other_service ByToken us) (ungot_other bundle service other_bundle other_service off ByToken us)
