-- What is kept for passes, as one thing comes to it or goes.
use Rattle.std.proofs.Common.{◌≡◌, ℕ, ◌+◌, ◌*◌, List, [], ◌∷◌, ◌++◌, arith, ap, sym, ◌∙◌, refl, subst, cond, Bool, true, false, inl, inr, Option, Some, None, Result, Ok, Err}
use Rattle.std.specs.Prelude.{◌==◌, map, not}
use Rattle.std.specs.List.{Contains}
use Rattle.std.proofs.lemmas.Bool.{eq-eqb, eqb-true, ne_eqb}
use Rattle.component_state.proofs.Apart.{in_cases, in_either, in_first, in_none, in_rest, kept_over}
use Rattle.front_lock.specs.Histories.{In}
use Rattle.front_lock.specs.Keepings.{KeepsOthers, kept_by, kept_under}
use Rattle.hall_locked.specs.Owned.{as_kept, as_use, turn_thing, use_thing, without_turn, without_use}
use Rattle.platform_sessions.specs.Works.{IsOneMore, things_but}
use Rattle.scr_world.specs.declared.reply.CoreFault.{CoreFault}

-- ---- what is kept for a pass, without one thing

module _ (thing : ℕ) where
  abbrev is_other : ℕ × ℕ → Bool
  is_other x = not (x.1 == thing)

  under_but : (n : ℕ) (xs : List (ℕ × ℕ)) → kept_under n (things_but thing xs) ≡ things_but thing (kept_under n xs)
  under_but n [] = refl
  under_but n (x ∷ xs) = go (is_other x) (n == x.0) refl refl (under_but n xs)
    where
      left : List (ℕ × ℕ)
      left = things_but thing xs

      mine : List (ℕ × ℕ)
      mine = kept_under n xs

      go : (b c : Bool) → is_other x ≡ b → (n == x.0) ≡ c → kept_under n left ≡ things_but thing mine → kept_under n (things_but thing (x ∷ xs)) ≡ things_but thing (kept_under n (x ∷ xs))
      go true true other its rest =
          ap (λ d. kept_under n (cond d (x ∷ left) left)) other
          ∙ ap (λ d. cond d (x ∷ kept_under n left) (kept_under n left)) its
          ∙ ap (λ (ys : List (ℕ × ℕ)). x ∷ ys) rest
          ∙ sym (ap (λ d. cond d (x ∷ things_but thing mine) (things_but thing mine)) other)
          ∙ sym (ap (λ d. things_but thing (cond d (x ∷ mine) mine)) its)
      go true false other its rest =
          ap (λ d. kept_under n (cond d (x ∷ left) left)) other
          ∙ ap (λ d. cond d (x ∷ kept_under n left) (kept_under n left)) its
          ∙ rest
          ∙ sym (ap (λ d. things_but thing (cond d (x ∷ mine) mine)) its)
      go false true other its rest =
          ap (λ d. kept_under n (cond d (x ∷ left) left)) other
          ∙ rest
          ∙ sym (ap (λ d. cond d (x ∷ things_but thing mine) (things_but thing mine)) other)
          ∙ sym (ap (λ d. things_but thing (cond d (x ∷ mine) mine)) its)
      go false false other its rest =
          ap (λ d. kept_under n (cond d (x ∷ left) left)) other
          ∙ rest
          ∙ sym (ap (λ d. things_but thing (cond d (x ∷ mine) mine)) its)

  pub by_but : (ns : List ℕ) (xs : List (ℕ × ℕ)) → kept_by ns (things_but thing xs) ≡ things_but thing (kept_by ns xs)
  by_but [] xs = refl
  by_but (n ∷ ns) xs =
      ap (λ (ys : List (ℕ × ℕ)). ys ++ kept_by ns (things_but thing xs)) (under_but n xs)
      ∙ ap (λ (ys : List (ℕ × ℕ)). things_but thing (kept_under n xs) ++ ys) (by_but ns xs)
      ∙ sym (kept_over is_other (kept_under n xs) (kept_by ns xs))

-- ---- turns as things

pub halves : (a b : ℕ) → 2 * a ≡ 2 * b → a ≡ b
halves a b same = omega (arith, same)

same_half : (a b : ℕ) → (turn_thing a == turn_thing b) ≡ (a == b)
same_half a b = go (a == b) refl
  where
    go : (c : Bool) → (a == b) ≡ c → (turn_thing a == turn_thing b) ≡ (a == b)
    go true same = eq-eqb (turn_thing a) (turn_thing b) (ap turn_thing (eqb-true a b same)) ∙ sym same
    go false other = ne_eqb (turn_thing a) (turn_thing b) (λ e. both (halves a b e)) ∙ sym other
      where
        both : a ≡ b → ⊥
        both e = let here : true ≡ false = sym (eq-eqb a b e) ∙ other in cc

pub but_kept : (turn : ℕ) (turns : List (ℕ × ℕ)) → things_but (turn_thing turn) (map as_kept turns) ≡ map as_kept (without_turn turn turns)
but_kept turn [] = refl
but_kept turn (t ∷ ts) =
    ap (λ b. cond (not b) (as_kept t ∷ things_but (turn_thing turn) (map as_kept ts)) (things_but (turn_thing turn) (map as_kept ts))) (same_half t.1 turn)
    ∙ ap (λ (xs : List (ℕ × ℕ)). cond (not (t.1 == turn)) (as_kept t ∷ xs) xs) (but_kept turn ts)
    ∙ out (not (t.1 == turn))
  where
    out : (b : Bool) → cond b (as_kept t ∷ map as_kept (without_turn turn ts)) (map as_kept (without_turn turn ts)) ≡ map as_kept (cond b (t ∷ without_turn turn ts) (without_turn turn ts))
    out true = refl
    out false = refl

-- ---- gets as things

pub use_halves : (a b : ℕ) → 2 * a + 1 ≡ 2 * b + 1 → a ≡ b
use_halves a b same = omega (arith, same)

same_use : (a b : ℕ) → (use_thing a == use_thing b) ≡ (a == b)
same_use a b = go (a == b) refl
  where
    go : (c : Bool) → (a == b) ≡ c → (use_thing a == use_thing b) ≡ (a == b)
    go true same = eq-eqb (use_thing a) (use_thing b) (ap use_thing (eqb-true a b same)) ∙ sym same
    go false other = ne_eqb (use_thing a) (use_thing b) (λ e. both (use_halves a b e)) ∙ sym other
      where
        both : a ≡ b → ⊥
        both e = let here : true ≡ false = sym (eq-eqb a b e) ∙ other in cc

-- no turn is a get
pub turn_or_use : (turn place : ℕ) → turn_thing turn ≡ use_thing place → ⊥
turn_or_use turn place = λ same. go turn place same
  where
    go : (t p : ℕ) → 2 * t ≡ 2 * p + 1 → ⊥
    go t p e = omega (arith, e)

pub but_used : (place : ℕ) (uses : List (ℕ × ℕ)) → things_but (use_thing place) (map as_use uses) ≡ map as_use (without_use place uses)
but_used place [] = refl
but_used place (u ∷ us) =
    ap (λ b. cond (not b) (as_use u ∷ things_but (use_thing place) (map as_use us)) (things_but (use_thing place) (map as_use us))) (same_use u.1 place)
    ∙ ap (λ (xs : List (ℕ × ℕ)). cond (not (u.1 == place)) (as_use u ∷ xs) xs) (but_used place us)
    ∙ out (not (u.1 == place))
  where
    out : (b : Bool) → cond b (as_use u ∷ map as_use (without_use place us)) (map as_use (without_use place us)) ≡ map as_use (cond b (u ∷ without_use place us) (without_use place us))
    out true = refl
    out false = refl

-- taking a turn out leaves the gets, and a get the turns
but_others : (thing : ℕ) (f : ℕ × ℕ → ℕ × ℕ) → ((x : ℕ × ℕ) → ((f x).1 == thing) ≡ false) → (xs : List (ℕ × ℕ)) → things_but thing (map f xs) ≡ map f xs
but_others thing f other [] = refl
but_others thing f other (x ∷ xs) =
    ap (λ b. cond (not b) (f x ∷ things_but thing (map f xs)) (things_but thing (map f xs))) (other x) ∙ ap (λ (ys : List (ℕ × ℕ)). f x ∷ ys) (but_others thing f other xs)

pub turn_leaves_uses : (turn : ℕ) (uses : List (ℕ × ℕ)) → things_but (turn_thing turn) (map as_use uses) ≡ map as_use uses
turn_leaves_uses turn uses = but_others (turn_thing turn) as_use (λ u. ne_eqb (use_thing u.1) (turn_thing turn) (λ e. turn_or_use turn u.1 (sym e))) uses

pub use_leaves_turns : (place : ℕ) (turns : List (ℕ × ℕ)) → things_but (use_thing place) (map as_kept turns) ≡ map as_kept turns
use_leaves_turns place turns = but_others (use_thing place) as_kept (λ t. ne_eqb (turn_thing t.1) (use_thing place) (λ e. turn_or_use t.1 place e)) turns

pub turn_left : (turn : ℕ) (turns uses : List (ℕ × ℕ)) → things_but (turn_thing turn) (map as_kept turns ++ map as_use uses) ≡ map as_kept (without_turn turn turns) ++ map as_use uses
turn_left turn turns uses =
    kept_over (λ (x : ℕ × ℕ). not (x.1 == turn_thing turn)) (map as_kept turns) (map as_use uses)
    ∙ ap (λ (xs : List (ℕ × ℕ)). xs ++ things_but (turn_thing turn) (map as_use uses)) (but_kept turn turns)
    ∙ ap (λ (xs : List (ℕ × ℕ)). map as_kept (without_turn turn turns) ++ xs) (turn_leaves_uses turn uses)

pub use_left : (place : ℕ) (turns uses : List (ℕ × ℕ)) → things_but (use_thing place) (map as_kept turns ++ map as_use uses) ≡ map as_kept turns ++ map as_use (without_use place uses)
use_left place turns uses =
    kept_over (λ (x : ℕ × ℕ). not (x.1 == use_thing place)) (map as_kept turns) (map as_use uses)
    ∙ ap (λ (xs : List (ℕ × ℕ)). xs ++ things_but (use_thing place) (map as_use uses)) (use_leaves_turns place turns)
    ∙ ap (λ (xs : List (ℕ × ℕ)). map as_kept turns ++ xs) (but_used place uses)

-- the get at a place that none of them has
pub all_places : (place : ℕ) (uses : List (ℕ × ℕ)) → ((u : ℕ × ℕ) → Contains uses u → u.1 ≡ place → ⊥) → without_use place uses ≡ uses
all_places place [] none = refl
all_places place (u ∷ us) none =
    ap (λ b. cond (not b) (u ∷ without_use place us) (without_use place us)) (ne_eqb u.1 place (none u (in_first u us)))
    ∙ ap (λ (xs : List (ℕ × ℕ)). u ∷ xs) (all_places place us (λ x h. none x (in_rest u us x h)))

-- ---- what is kept beside each other

under_over : (n : ℕ) (xs ys : List (ℕ × ℕ)) → kept_under n (xs ++ ys) ≡ kept_under n xs ++ kept_under n ys
under_over n [] ys = refl
under_over n (x ∷ xs) ys = go (n == x.0) (under_over n xs ys)
  where
    go : (b : Bool) → kept_under n (xs ++ ys) ≡ kept_under n xs ++ kept_under n ys → cond b (x ∷ kept_under n (xs ++ ys)) (kept_under n (xs ++ ys)) ≡ cond b (x ∷ kept_under n xs) (kept_under n xs) ++ kept_under n ys
    go true rest = ap (λ (zs : List (ℕ × ℕ)). x ∷ zs) rest
    go false rest = rest

-- where others keep what they have of the one and of the other, they keep what they have
pub keeps_beside : (ns : List ℕ) (xs zs ys ws : List (ℕ × ℕ)) → KeepsOthers ns xs zs → KeepsOthers ns ys ws → KeepsOthers ns (xs ++ ys) (zs ++ ws)
keeps_beside ns xs zs ys ws one other n off =
    under_over n zs ws ∙ ap (λ (us : List (ℕ × ℕ)). us ++ kept_under n ws) (one n off) ∙ ap (λ (us : List (ℕ × ℕ)). kept_under n xs ++ us) (other n off) ∙ sym (under_over n xs ys)

-- a get that leaves is under no other number
pub left_others : (n place : ℕ) (uses : List (ℕ × ℕ)) → ((u : ℕ × ℕ) → Contains uses u → u.1 ≡ place → n ≡ u.0 → ⊥) → kept_under n (map as_use (without_use place uses)) ≡ kept_under n (map as_use uses)
left_others n place [] none = refl
left_others n place (u ∷ us) none = go (u.1 == place) refl (left_others n place us (λ x h. none x (in_rest u us x h)))
  where
    go : (b : Bool) → (u.1 == place) ≡ b → kept_under n (map as_use (without_use place us)) ≡ kept_under n (map as_use us)
        → kept_under n (map as_use (cond (not b) (u ∷ without_use place us) (without_use place us))) ≡ kept_under n (map as_use (u ∷ us))
    go true here rest =
        rest ∙ sym (ap (λ b. cond b (as_use u ∷ kept_under n (map as_use us)) (kept_under n (map as_use us))) (ne_eqb n u.0 (none u (in_first u us) (eqb-true u.1 place here))))
    go false other rest = ap (λ (xs : List (ℕ × ℕ)). cond (n == u.0) (as_use u ∷ xs) xs) rest

-- what comes for a pass is what came to the value
pub more_by : (ns : List ℕ) (answer : Result (Option ℕ) CoreFault) (before after : List (ℕ × ℕ)) → IsOneMore answer before after → IsOneMore answer (kept_by ns before) (kept_by ns after)
more_by ns (Ok (Some turn)) before after more = sym (by_but (turn_thing turn) ns after) ∙ ap (kept_by ns) more
more_by ns (Ok None) before after same = ap (kept_by ns) same
more_by ns (Err fault) before after same = ap (kept_by ns) same

-- ---- what is kept under a number

under_there : (n : ℕ) (xs : List (ℕ × ℕ)) (x : ℕ × ℕ) → Contains (kept_under n xs) x → Contains xs x
under_there n [] x h = h
under_there n (y ∷ ys) x h = go (n == y.0) (under_there n ys x) h
  where
    go : (b : Bool) → (Contains (kept_under n ys) x → Contains ys x) → Contains (cond b (y ∷ kept_under n ys) (kept_under n ys)) x → Contains (y ∷ ys) x
    go true later k = elim (in_cases y (kept_under n ys) x k) [
      | inl same ↦ subst (λ (z : ℕ × ℕ). Contains (y ∷ ys) z) same (in_first y ys)
      | inr rest ↦ in_rest y ys x (later rest)
    ]
    go false later k = in_rest y ys x (later k)

-- what a pass knows to be kept for it is kept
pub by_there : (ns : List ℕ) (xs : List (ℕ × ℕ)) (x : ℕ × ℕ) → Contains (kept_by ns xs) x → Contains xs x
by_there [] xs x h = absurd (in_none x h)
by_there (n ∷ ns) xs x h = elim (in_either (kept_under n xs) (kept_by ns xs) x h) [
  | inl here ↦ under_there n xs x here
  | inr later ↦ by_there ns xs x later
]

under_own : (n : ℕ) (xs : List (ℕ × ℕ)) (x : ℕ × ℕ) → Contains (kept_under n xs) x → x.0 ≡ n
under_own n [] x h = absurd (in_none x h)
under_own n (y ∷ ys) x h = go (n == y.0) refl (under_own n ys x) h
  where
    go : (b : Bool) → (n == y.0) ≡ b → (Contains (kept_under n ys) x → x.0 ≡ n) → Contains (cond b (y ∷ kept_under n ys) (kept_under n ys)) x → x.0 ≡ n
    go true its later k = elim (in_cases y (kept_under n ys) x k) [
      | inl same ↦ ap (λ (z : ℕ × ℕ). z.0) (sym same) ∙ sym (eqb-true n y.0 its)
      | inr rest ↦ later rest
    ]
    go false other later k = later k

-- and it is under one of its names
pub by_own : (ns : List ℕ) (xs : List (ℕ × ℕ)) (x : ℕ × ℕ) → Contains (kept_by ns xs) x → In x.0 ns
by_own [] xs x h = absurd (in_none x h)
by_own (n ∷ ns) xs x h = elim (in_either (kept_under n xs) (kept_by ns xs) x h) [
  | inl here ↦ inl (under_own n xs x here)
  | inr later ↦ inr (by_own ns xs x later)
]

pub under_it : (n : ℕ) (xs : List (ℕ × ℕ)) (x : ℕ × ℕ) → n ≡ x.0 → Contains xs x → Contains (kept_under n xs) x
under_it n [] x its h = h
under_it n (y ∷ ys) x its h = elim (in_cases y ys x h) [
  | inl same ↦ (
      let here : (n == y.0) ≡ true = eq-eqb n y.0 (its ∙ ap (λ (z : ℕ × ℕ). z.0) (sym same)) in
      subst (λ b. Contains (cond b (y ∷ kept_under n ys) (kept_under n ys)) x) (sym here) (subst (λ (z : ℕ × ℕ). Contains (y ∷ kept_under n ys) z) same (in_first y (kept_under n ys))))
  | inr rest ↦ go (n == y.0) (under_it n ys x its rest)
]
  where
    go : (b : Bool) → Contains (kept_under n ys) x → Contains (cond b (y ∷ kept_under n ys) (kept_under n ys)) x
    go true k = in_rest y (kept_under n ys) x k
    go false k = k
