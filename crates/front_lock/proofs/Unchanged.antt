-- What a step of one pass leaves as it was.
use Rattle.std.proofs.Common.{◌≡◌, ◌≢◌, ℕ, zero, suc, ◌+◌, ◌<◌, ◌≤◌, Bool, List, [], ◌∷◌, get_or, set, refl, sym, ap, ◌∙◌, subst, ⊎_elim, arith}
use mathlib.Core.Option.{some, none, some-injective, some-ne-none}
use mathlib.Core.Option as maybe
use lib.ListN.{get_elem?}
use Rattle.std.specs.Prelude.{Option}
use Rattle.atomic_table.specs.Table.{State, Me, Act, Valid, carried_after, stepped}
use Rattle.atomic_table.proofs.Lists.{at_set, set_else, set_again}
use Rattle.front_lock.specs.Histories.{In, Owners}
use Rattle.front_lock.specs.declared.rule.Contents.{Contents}
use Rattle.front_lock.specs.declared.rule.FrontView.{FrontView}
use Rattle.front_lock.specs.declared.rule.Stage.{Stage}
use Rattle.front_lock.specs.declared.rule.Stage.TheVariants.{Idle, Waits, Holds}
use Rattle.front_lock.specs.Passes.{names}
use Rattle.front_lock.specs.Rule.{parts_of, HasTicket, Staged, Named, IsOut, Kept}
use Rattle.front_lock.proofs.Histories.{owners_map}
use Rattle.front_lock.proofs.Views.{parts_set, was, now}

module _ {E : Type 0} where
  pub waits_later : {T : Type 0} (next serving top : ℕ) (shown : Contents E) (homes : List (maybe.Option (Option T))) (st : Stage E) → Staged next serving top shown homes st → Staged (next + 1) serving top shown homes st
  waits_later next serving top shown homes Idle h = tt
  waits_later next serving top shown homes (Waits t) h = let a = h.0 in let b = h.1 in (a, omega arith)
  waits_later next serving top shown homes (Holds t fresh l ns also) h = let b = h.1 in (h.0, omega arith, h.2, h.3, h.4, h.5)

  pub ticket_below : {T : Type 0} (next serving top : ℕ) (shown : Contents E) (homes : List (maybe.Option (Option T))) (st : Stage E) (t : ℕ) → Staged next serving top shown homes st → HasTicket t st → (serving ≤ t) × (t < next)
  ticket_below next serving top shown homes Idle t h k = absurd k
  ticket_below next serving top shown homes (Waits u) t h k = let a = h.0 in let b = h.1 in let k' : t ≡ u = k in (omega arith, omega arith)
  ticket_below next serving top shown homes (Holds u fresh l ns also) t h k = let a = h.0 in let b = h.1 in let k' : t ≡ u = k in (omega arith, omega arith)

  pub foreign_to_none : (xs : List (ℕ × E)) → Owners (λ n. ¬ In n []) xs
  foreign_to_none [] = tt
  foreign_to_none (x ∷ xs) = ((λ h. absurd h), foreign_to_none xs)

  -- while the value is at home, no pass holds it
  pub not_held : {T : Type 0} (next serving top : ℕ) (shown : Contents E) (homes out : List (maybe.Option (Option T))) (o : Option T) → homes ≡ some o ∷ [] → (st : Stage E) → Staged next serving top shown homes st → Staged next serving top shown out st
  not_held next serving top shown homes out o home Idle h = tt
  not_held next serving top shown homes out o home (Waits t) h = h
  not_held next serving top shown homes out o home (Holds t fresh l ns also) h = absurd (some-ne-none o (ap (λ (z : List (maybe.Option _)). get_or z 0 none) (sym home ∙ h.4)))

  pub at_serving : {T : Type 0} (next serving top : ℕ) (shown : Contents E) (homes : List (maybe.Option (Option T))) (t : ℕ) (fresh : Bool) (l : Contents E) (ns : List ℕ) (also : List (ℕ × E)) (st : Stage E) → st ≡ Holds t fresh l ns also → Staged next serving top shown homes st → t ≡ serving
  at_serving next serving top shown homes t fresh l ns also st is h = (subst (Staged next serving top shown homes) is h).0

module _ {T E : Type 0} (shows : T → Contents E) (tie : T → List ℕ) where
  abbrev pub St : Type 0
  St = State (Option T) (FrontView E)

  abbrev pub M : Type 0
  M = Me (Option T) (FrontView E)

  abbrev pub Goes : St → ℕ → ℕ → M → (ℕ → M → Type 0) → ℕ → Type 0
  Goes s k id me told x = (w : FrontView E) × (a : Act (Option T)) × Valid s.homes me.1 a × Kept shows tie (stepped s k x id me.1 w a) × told (get_or s.words k 0) (w, carried_after me.1 a)

  -- what a step that changes no names of the passes keeps
  module _ (s : St) (r : Kept shows tie s) (id : ℕ) (v w : FrontView E) (at : get_elem? s.views id ≡ some v) where
    pub apart_on : (names w) ≡ (names v) → (j k : ℕ) (u z : FrontView E) → get_elem? (set s.views id w) j ≡ some u → get_elem? (set s.views id w) k ≡ some z → (n : ℕ) → In n (names u) → In n (names z) → j ≡ k
    apart_on same j k u z e f n p q = let a = was s.views id v w at same j u e in let b = was s.views id v w at same k z f in
        r.apart j k a.0 b.0 a.1 b.1 n (subst (λ (l : List ℕ). In n l) a.2 p) (subst (λ (l : List ℕ). In n l) b.2 q)

    pub turns_mid : ((k : ℕ) (u : FrontView E) (t : ℕ) → k ≢ id → get_elem? s.views k ≡ some u → HasTicket t w.stage → HasTicket t u.stage → ⊥)
        → (j k : ℕ) (u z : FrontView E) → get_elem? (set s.views id w) j ≡ some u → get_elem? (set s.views id w) k ≡ some z → (t : ℕ) → HasTicket t u.stage → HasTicket t z.stage → j ≡ k
    turns_mid alone j k u z e f t p q = ⊎_elim
        (λ (x : (j ≡ id) × (w ≡ u)). ⊎_elim
        (λ (y : (k ≡ id) × (w ≡ z)). x.0 ∙ sym y.0)
        (λ (y : (k ≢ id) × (get_elem? s.views k ≡ some z)). absurd (alone k z t y.0 y.1 (subst (λ (a : FrontView E). HasTicket t a.stage) (sym x.1) p) q))
        (at_set s.views id k w z f))
        (λ (x : (j ≢ id) × (get_elem? s.views j ≡ some u)). ⊎_elim
        (λ (y : (k ≡ id) × (w ≡ z)). absurd (alone j u t x.0 x.1 (subst (λ (a : FrontView E). HasTicket t a.stage) (sym y.1) q) p))
        (λ (y : (k ≢ id) × (get_elem? s.views k ≡ some z)). r.turns j k u z x.1 y.1 t p q)
        (at_set s.views id k w z f))
        (at_set s.views id j w u e)

  -- what a step that changes no names and no parts of the passes keeps
  module _ (s : St) (r : Kept shows tie s) (id : ℕ) (v w : FrontView E) (at : get_elem? s.views id ≡ some v) (same : names w ≡ names v) (parts : w.parts ≡ v.parts) where
    pub whole' : parts_of (set s.views id w) ≡ 64
    whole' = let h = parts_set s.views id v w at in let k = r.whole in omega arith

    named' : (n : ℕ) → Named s.views n → Named (set s.views id w) n
    named' n o = let y = now s.views id v w at same o.0 o.1 o.2 in (o.0, y.0, y.1, subst (λ (l : List ℕ). In n l) (sym y.2) o.3)

    pub owners' : Owners (Named (set s.views id w)) r.shown.entries
    owners' = owners_map (Named s.views) (Named (set s.views id w)) r.shown.entries named' r.owners

    pub keepers' : Owners (Named (set s.views id w)) r.shown.kept
    keepers' = owners_map (Named s.views) (Named (set s.views id w)) r.shown.kept named' r.keepers

    -- where the value is out, and this pass doesn't have it, it is still out
    pub out' : ((t : ℕ) (fresh : Bool) (l : Contents E) (ns : List ℕ) (also : List (ℕ × E)) → v.stage ≡ Holds t fresh l ns also → ⊥) → IsOut shows tie s.homes s.views → IsOut shows tie s.homes (set s.views id w)
    out' not o = (
      o.0,
      let h = o.1 in (
        h.0,
        h.1,
        h.2,
        h.3,
        h.4,
        h.5,
        h.6,
        set_else s.views id h.0 w (λ hit. not h.2 h.3 h.4 h.5 h.6 (ap (λ (y : FrontView E). y.stage) (some-injective v h.1 (sym at ∙ subst (λ k. get_elem? s.views k ≡ some h.1) hit h.7)) ∙ h.8)) ∙ h.7,
        h.8,
      ),
    )

  -- a step that changes nothing
  pub again : (s : St) (r : Kept shows tie s) (k id : ℕ) (v : FrontView E) → get_elem? s.views id ≡ some v → Kept shows tie record { words = set s.words k (get_or s.words k 0); homes = s.homes; views = set s.views id v }
  again s r k id v at = subst (λ (z : List ℕ × List (FrontView E)). Kept shows tie record { words = z.0; homes = s.homes; views = z.1 }) (λ i. (sym (set_same s.words k) i, sym (set_again s.views id v at) i)) r
    where
      set_same : (ns : List ℕ) (i : ℕ) → set ns i (get_or ns i 0) ≡ ns
      set_same [] i = refl
      set_same (n ∷ ns) zero = refl
      set_same (n ∷ ns) (suc i) = ap (λ l. n ∷ l) (set_same ns i)
