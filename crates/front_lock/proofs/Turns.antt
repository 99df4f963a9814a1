-- The steps as the calls take them: by what a pass and a turn know.
use Rattle.std.proofs.Common.{◌≡◌, ℕ, ◌+◌, ◌-◌, ◌<◌, Bool, true, false, List, [], ◌∷◌, ◌++◌, refl, sym, ap, ◌∙◌, subst, arith}
use mathlib.Core.Option.{some, none, some-injective}
use lib.ListN.{get_elem?}
use Rattle.std.specs.Prelude.{Option, Some, None, IsSome}
use Rattle.atomic_table.specs.Table.{Me, step, rest, Allows, Splits, Joins, Final, Seen}
use Rattle.atomic_table.specs.Seated.{TableId}
use Rattle.front_lock.specs.Histories.{In, Owners, Extends, GrownBy, Distinct, AllEnded}
use Rattle.front_lock.specs.declared.rule.Contents.{Contents}
use Rattle.front_lock.specs.declared.rule.FrontView.{FrontView}
use Rattle.front_lock.specs.declared.rule.Stage.TheVariants.{Idle, Waits, Holds}
use Rattle.front_lock.specs.Keepings.{kept_under, kept_by, KeepsOthers}
use Rattle.front_lock.specs.Passes.{contents, known, nobody, at_stage, names, longer, PassView, TurnView, names_of, ended_of, idle_of, first_of, pass_of, turn_of, holding_of}
use Rattle.front_lock.specs.Rule.{Kept}
use Rattle.front_lock.specs.Steps.{GaveBack, PutBack, left_at, right_at, joined_at}
use Rattle.front_lock.proofs.Histories.{names_join}
use Rattle.front_lock.proofs.Returns.{gives_back, puts_back}
use Rattle.front_lock.proofs.Splits.{splits}
use Rattle.front_lock.proofs.Joins.{joins}
use Rattle.front_lock.proofs.Ends.{closes}

module _ {T E : Type 0} (shows : T → Contents E) (tie : T → List ℕ) where
  abbrev M : Type 0
  M = Me (Option T) (FrontView E)

  -- a turn under this ticket, with this in the slot
  abbrev pub in_turn : ℕ → TurnView E → Option T → M
  in_turn t f o = (holding_of t f, (0, o) ∷ [])

  pub gives_back_as : (slots id : ℕ) (me : M) (f : TurnView E) (x : T) (t : ℕ) → me ≡ in_turn t f (Some x) → GrownBy f.pass.number f.began (shows x).entries → KeepsOthers (names_of f.pass) f.kept (shows x).kept → tie x ≡ f.pass.tie
      → Allows (Kept shows tie) slots id me 1 (λ _. t + 1) (λ _. GaveBack shows tie (step slots 1 (t + 1) 0 none) me (t + 1))
  gives_back_as slots id me f x t is grown others tied_x = subst (λ (m : M). Allows (Kept shows tie) slots id m 1 (λ _. t + 1) (λ _. GaveBack shows tie (step slots 1 (t + 1) 0 none) m (t + 1))) (sym is)
      (gives_back shows tie slots id (holding_of t f) [] x t true (contents f.began f.kept) [] [] f.pass.number refl (omega arith) refl grown others tied_x)

  pub gave_is : (slots : ℕ) (me me' : M) (f : TurnView E) (x : T) (t r : ℕ) → me ≡ in_turn t f (Some x) → GaveBack shows tie (step slots 1 r 0 none) me r me' → me' ≡ (known f.pass.tie (f.pass.spare + 1) (f.pass.entered + 1) (Some f.pass.number) f.pass.joined (shows x).entries (kept_by (names_of f.pass) (shows x).kept) Idle, [])
  gave_is slots me me' f x t r is told = (subst (λ (m : M). GaveBack shows tie (step slots 1 r 0 none) m r me') is told) x refl

  -- the turn as its holder sees it, with the value in the slot again
  pub turn_put : (z : TableId) (me me' : M) (f : TurnView E) (x : T) (t : ℕ) → turn_of z me.0 ≡ f → me ≡ in_turn t (turn_of z me.0) None → me' ≡ (me.0, (0, Some x) ∷ rest me.1) → me' ≡ in_turn t f (Some x)
  turn_put z me me' f x t seen is after = subst (λ (h : TurnView E). me' ≡ in_turn t h (Some x)) seen (after ∙ (λ i. ((is i).0, (0, Some x) ∷ rest (is i).1)))

  pub puts_back_as : (slots id : ℕ) (me : M) (x : T) (t : ℕ) (fresh : Bool) (ns : List ℕ) (also : List (ℕ × E)) (n : ℕ)
      → me.1 ≡ (0, Some x) ∷ [] → me.0.stage ≡ Holds t fresh (shows x) ns also → 0 < me.0.parts → me.0.own ≡ Some n → tie x ≡ me.0.tie
      → Allows (Kept shows tie) slots id me 1 (λ _. t + 1) (λ _. PutBack shows tie (step slots 1 (t + 1) 0 none) me (t + 1))
  puts_back_as slots id me x t fresh ns also n is holding some_part mine tied_x =
      subst (λ (c : List (ℕ × Option T)). Allows (Kept shows tie) slots id (me.0, c) 1 (λ _. t + 1) (λ _. PutBack shows tie (step slots 1 (t + 1) 0 none) (me.0, c) (t + 1))) (sym is)
      (puts_back shows tie slots id me.0 [] x t fresh (shows x) ns also n holding some_part mine refl tied_x)

  head_is : (v w : FrontView E) (views : List (FrontView E)) → views ≡ v ∷ [] → views ≡ w ∷ [] → v ≡ w
  head_is v w views a b = let e : v ∷ [] ≡ w ∷ [] = sym a ∙ b in cc

  -- a pass that was taken apart, as its holder sees it
  pub idle_is : (z : TableId) (views : List (FrontView E)) (v : FrontView E) (f : PassView E) → pass_of z (first_of views) ≡ f → views ≡ idle_of (pass_of z (first_of views)) ∷ [] → views ≡ v ∷ [] → v ≡ idle_of f
  idle_is z views v f seen is at = head_is v (idle_of (pass_of z (first_of views))) views at is ∙ ap (λ (h : PassView E). idle_of h) seen

  abbrev pub Closed : PassView E → List (Option T) → T → Type 0
  Closed f xs x = (get_elem? xs 0 ≡ some (Some x)) × Extends (names_of f) f.seen (shows x).entries × Owners (λ n. In n (names_of f)) (shows x).entries × (tie x ≡ f.tie) × AllEnded f.joined (shows x).entries × Distinct (names_of f)
      × (kept_by (names_of f) (shows x).kept ≡ f.kept) × Owners (λ n. In n (names_of f)) (shows x).kept

  pub closes_as : (id : ℕ) (v : FrontView E) (f : PassView E) (ws : List ℕ) (xs : List (Option T)) → v ≡ idle_of f → f.spare ≡ 63 → Final (Seen (Kept shows tie) id v) ws xs → (x : T) × Closed f xs x
  closes_as id v f ws xs is all fin = let w = closes shows tie id (idle_of f) ws xs (let a : f.spare ≡ 63 = all in omega arith) refl (subst (λ (u : FrontView E). Final (Seen (Kept shows tie) id u) ws xs) is fin) in (w.value, (w.at, w.extends, w.owned, w.tied, w.ended_there, w.distinct, w.kept, w.keepers))

  -- what is taken out of the slot at the end
  pub closed_value : (f : PassView E) (xs : List (Option T)) (o : Option T) (x y : T) → Closed f xs x → get_elem? xs 0 ≡ some o → o ≡ Some y → Closed f xs y
  closed_value f xs o x y c at is = let e : Some x ≡ Some y = some-injective (Some x) o (sym c.0 ∙ at) ∙ is in let v : x ≡ y = cc in subst (Closed f xs) v c

  pub closed_some : (f : PassView E) (xs : List (Option T)) (o : Option T) (x : T) → Closed f xs x → get_elem? xs 0 ≡ some o → IsSome o
  closed_some f xs o x c at = subst IsSome (some-injective (Some x) o (sym c.0 ∙ at)) refl

  abbrev pub turn_with : PassView E → ℕ → T → TurnView E
  turn_with f t x = record { pass = f; ticket = t; began = (shows x).entries; kept = (shows x).kept }

  -- the pass with a ticket, and then with the value
  pub turned_is : (f : PassView E) (t : ℕ) (x : T) (v : FrontView E) (c : List (ℕ × Option T)) (me me' : M) → v ≡ idle_of f → me ≡ (at_stage v (Waits t), c)
      → me' ≡ (at_stage me.0 (Holds t true (shows x) [] []), (0, None) ∷ []) → me' ≡ in_turn t (turn_with f t x) None
  turned_is f t x v c me me' is drawn out = out ∙ (λ i. (at_stage (drawn i).0 (Holds t true (shows x) [] []), (0, None) ∷ [])) ∙ (λ i. (at_stage (is i) (Holds t true (shows x) [] []), (0, None) ∷ []))

  pub splits_as : (id : ℕ) (v : FrontView E) (f : PassView E) (t : ℕ) (x : T) → v ≡ holding_of t (turn_with f t x) → 0 < f.spare → Splits (Kept shows tie) id v (left_at v v.stage) (right_at v v.stage)
  splits_as id v f t x is enough = subst (λ (u : FrontView E). Splits (Kept shows tie) id u (left_at u u.stage) (right_at u u.stage)) (sym is) (splits shows tie id (holding_of t (turn_with f t x)) t (shows x) [] [] refl (omega arith))

  -- the two passes after a split
  pub left_is : (me me' : M) (f : PassView E) (t : ℕ) (x : T) → me ≡ in_turn t (turn_with f t x) None → me' ≡ (left_at me.0 me.0.stage, me.1) → me' ≡ (known f.tie (f.spare + 1 - 1) f.entered (Some f.number) f.joined f.seen f.kept (Holds t false (shows x) [] []), (0, None) ∷ [])
  left_is me me' f t x is after = after ∙ (λ i. (left_at (is i).0 (is i).0.stage, (is i).1))

  pub right_is : (me : M) (v : FrontView E) (f : PassView E) (t : ℕ) (x : T) → me ≡ in_turn t (turn_with f t x) None → v ≡ right_at me.0 me.0.stage → v ≡ known f.tie 1 0 (Some t) [] f.seen [] Idle
  right_is me v f t x is after = after ∙ (λ i. right_at (is i).0 (is i).0.stage)

  pub joins_as : (id : ℕ) (v : FrontView E) (other : ℕ) (w : FrontView E) (f h : PassView E) (t : ℕ) (x : T) → v ≡ holding_of t (turn_with f t x) → w ≡ idle_of h → Joins (Kept shows tie) id v other w (joined_at v w v.stage) nobody
  joins_as id v other w f h t x is idle = subst (λ (u : FrontView E × FrontView E). Joins (Kept shows tie) id u.0 other u.1 (joined_at u.0 u.1 u.0.stage) nobody) (λ i. (sym is i, sym idle i))
      (joins shows tie id (holding_of t (turn_with f t x)) other (idle_of h) t true (shows x) [] [] refl (omega arith) refl)

  abbrev pub both_of : PassView E → PassView E → ℕ → T → FrontView E
  both_of f h t x = known f.tie (f.spare + 1 + (h.spare + 1)) (f.entered + h.entered) (Some f.number) (f.joined ++ ended_of h) (longer f.seen h.seen) (f.kept ++ h.kept) (Holds t true (shows x) (names_of h) h.seen)

  pub joined_is : (me me' : M) (w : FrontView E) (f h : PassView E) (t : ℕ) (x : T) → me ≡ in_turn t (turn_with f t x) None → w ≡ idle_of h → me' ≡ (joined_at me.0 w me.0.stage, me.1) → me' ≡ (both_of f h t x, (0, None) ∷ [])
  joined_is me me' w f h t x is idle after = after ∙ (λ i. (joined_at (is i).0 (idle i) (is i).0.stage, (is i).1))

  pub turned_extends : (f : PassView E) (t : ℕ) (v : FrontView E) (c : List (ℕ × Option T)) (me : M) (log : List (ℕ × E)) → v ≡ idle_of f → me ≡ (at_stage v (Waits t), c) → Extends (names me.0) me.0.seen log → Extends (names_of f) f.seen log
  turned_extends f t v c me log is drawn e = subst (λ (u : FrontView E). Extends (names u) u.seen log) is (subst (λ (m : M). Extends (names m.0) m.0.seen log) drawn e)

  -- where the pass has all parts, what is in the list is of one of its names
  pub turned_owned : {A : Type 0} (f : PassView E) (t : ℕ) (v : FrontView E) (c : List (ℕ × Option T)) (me : M) (log : List (ℕ × A)) → v ≡ idle_of f → me ≡ (at_stage v (Waits t), c)
      → (me.0.parts ≡ 64 → Owners (λ n. In n (names me.0)) log) → f.spare ≡ 63 → Owners (λ n. In n (names_of f)) log
  turned_owned f t v c me log is drawn o all =
      let told : f.spare + 1 ≡ 64 → Owners (λ n. In n (names_of f)) log = subst (λ (u : FrontView E). u.parts ≡ 64 → Owners (λ n. In n (names u)) log) is (subst (λ (m : M). m.0.parts ≡ 64 → Owners (λ n. In n (names m.0)) log) drawn o) in
      told (ap (λ n. n + 1) all)

  -- what is seen after a join
  pub seen_after : (f h : PassView E) (t : ℕ) (x : T) (me me' : M) (views : List (FrontView E)) → me ≡ (both_of f h t x, (0, None) ∷ []) → me' ≡ (at_stage me.0 Idle, []) → views ≡ me'.0 ∷ [] → longer f.seen h.seen ≡ (first_of views).seen
  seen_after f h t x me me' views joined back at = sym (ap (λ (vs : List (FrontView E)). (first_of vs).seen) at ∙ ap (λ (m : M). m.0.seen) back ∙ ap (λ (m : M). m.0.seen) joined)

  -- what is kept for the pass that has the turn
  pub turned_kept : (f : PassView E) (t : ℕ) (v : FrontView E) (c : List (ℕ × Option T)) (me : M) (kept : List (ℕ × ℕ)) → v ≡ idle_of f → me ≡ (at_stage v (Waits t), c) → kept_by (names me.0) kept ≡ me.0.kept → kept_by (names_of f) kept ≡ f.kept
  turned_kept f t v c me kept is drawn e = subst (λ (u : FrontView E). kept_by (names u) kept ≡ u.kept) is (subst (λ (m : M). kept_by (names m.0) kept ≡ m.0.kept) drawn e)

  pub turned_keeps : (f : PassView E) (t : ℕ) (v : FrontView E) (c : List (ℕ × Option T)) (me : M) (kept : List (ℕ × ℕ)) → v ≡ idle_of f → me ≡ (at_stage v (Waits t), c)
      → ((n : ℕ) → In n (names me.0) → kept_under n kept ≡ kept_under n me.0.kept) → (n : ℕ) → In n (names_of f) → kept_under n kept ≡ kept_under n f.kept
  turned_keeps f t v c me kept is drawn e =
      subst (λ (u : FrontView E). (n : ℕ) → In n (names u) → kept_under n kept ≡ kept_under n u.kept) is (subst (λ (m : M). (n : ℕ) → In n (names m.0) → kept_under n kept ≡ kept_under n m.0.kept) drawn e)

  pub turned_later : (f : PassView E) (t : ℕ) (v : FrontView E) (c : List (ℕ × Option T)) (me : M) → v ≡ idle_of f → me ≡ (at_stage v (Waits t), c) → ((n : ℕ) → In n (names me.0) → n < t) → (n : ℕ) → In n (names_of f) → n < t
  turned_later f t v c me is drawn e = subst (λ (u : FrontView E). (n : ℕ) → In n (names u) → n < t) is (subst (λ (m : M). (n : ℕ) → In n (names m.0) → n < t) drawn e)

  -- the names of a pass that took another in, and what is kept for it
  joined_names : (f h : PassView E) (t : ℕ) (x : T) → names (both_of f h t x) ≡ names_of f ++ names_of h
  joined_names f h t x = names_join (Some f.number) f.joined (Some h.number) h.seen h.joined

  pub joined_distinct : (f h : PassView E) (t : ℕ) (x : T) (me : M) → me ≡ (both_of f h t x, (0, None) ∷ []) → Distinct (names me.0) → Distinct (names_of f ++ names_of h)
  joined_distinct f h t x me is d = subst Distinct (joined_names f h t x) (subst (λ (m : M). Distinct (names m.0)) is d)

  pub joined_kept : (f h : PassView E) (t : ℕ) (x : T) (me : M) (kept : List (ℕ × ℕ)) → me ≡ (both_of f h t x, (0, None) ∷ []) → kept_by (names me.0) kept ≡ me.0.kept → kept_by (names_of f ++ names_of h) kept ≡ f.kept ++ h.kept
  joined_kept f h t x me kept is e = ap (λ (ns : List ℕ). kept_by ns kept) (sym (joined_names f h t x)) ∙ subst (λ (m : M). kept_by (names m.0) kept ≡ m.0.kept) is e

  pub kept_after : (f h : PassView E) (t : ℕ) (x : T) (me me' : M) (views : List (FrontView E)) → me ≡ (both_of f h t x, (0, None) ∷ []) → me' ≡ (at_stage me.0 Idle, []) → views ≡ me'.0 ∷ [] → f.kept ++ h.kept ≡ (first_of views).kept
  kept_after f h t x me me' views joined back at = sym (ap (λ (vs : List (FrontView E)). (first_of vs).kept) at ∙ ap (λ (m : M). m.0.kept) back ∙ ap (λ (m : M). m.0.kept) joined)
