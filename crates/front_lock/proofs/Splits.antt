-- A pass is split off from the one that has the turn.
use Rattle.std.proofs.Common.{◌≡◌, ◌≢◌, ◌⊎◌, ℕ, zero, suc, ◌+◌, ◌-◌, ◌<◌, ◌≤◌, true, false, List, [], ◌∷◌, ◌++◌, length, set, refl, sym, ap, ◌∙◌, subst, inl, inr, ⊎_elim, arith}
use mathlib.Core.Option.{some, none, some-injective, some-ne-none}
use mathlib.Core.Option as maybe
use lib.ListN.{get_elem?}
use Rattle.std.specs.Prelude.{Option, Some}
use Rattle.atomic_table.specs.Table.{State, Me, Splits}
use Rattle.atomic_table.proofs.Lists.{at_snoc, at_longer, set_here}
use Rattle.front_lock.specs.Histories.{In, Owners}
use Rattle.front_lock.specs.declared.rule.Contents.{Contents}
use Rattle.front_lock.specs.declared.rule.FrontView.{FrontView}
use Rattle.front_lock.specs.declared.rule.Stage.{Stage}
use Rattle.front_lock.specs.declared.rule.Stage.TheVariants.{Idle, Waits, Holds}
use Rattle.front_lock.specs.Passes.{known, names}
use Rattle.front_lock.specs.Rule.{HasTicket, Staged, Fits, Named, Kept}
use Rattle.front_lock.specs.Steps.{left_at, right_at}
use Rattle.front_lock.proofs.Histories.{owners_map, owners_right}
use Rattle.front_lock.proofs.Keepings.{under_nobody}
use Rattle.front_lock.proofs.Views.{parts_set, parts_snoc, there, each_set, was, now}
use Rattle.front_lock.proofs.Unchanged.{apart_on, turns_mid}

module _ {T E : Type 0} (shows : T → Contents E) (tie : T → List ℕ) where
  abbrev St : Type 0
  St = State (Option T) (FrontView E)

  abbrev M : Type 0
  M = Me (Option T) (FrontView E)

  pub splits : (id : ℕ) (v : FrontView E) (t : ℕ) (l : Contents E) (ns : List ℕ) (also : List (ℕ × E)) → v.stage ≡ Holds t true l ns also → 1 < v.parts
      → Splits (Kept shows tie) id v (left_at v (Holds t true l ns also)) (right_at v (Holds t true l ns also))
  splits id v t l ns also holding enough s r at =
      let a : FrontView E = known v.tie (v.parts - 1) v.entered v.own v.joined v.seen v.kept (Holds t false l ns also) in
      let b : FrontView E = known v.tie 1 0 (Some t) [] v.seen [] Idle in
      let mid : List (FrontView E) = set s.views id a in
      let views : List (FrontView E) = mid ++ b ∷ [] in
      let f = r.each id v at in
      let st : Staged r.next r.serving r.top r.shown s.homes (Holds t true l ns also) = subst (Staged r.next r.serving r.top r.shown s.homes) holding f.staged in
      let served : t ≡ r.serving = st.0 in let near : t < r.next = st.1 in let top : r.top ≤ r.serving = st.3 refl in
      let has : HasTicket t v.stage = subst (HasTicket t) (sym holding) refl in
      let here : get_elem? views id ≡ some a = at_longer mid (b ∷ []) id a (set_here s.views id a (there s.views id v at)) in
      let young : (j : ℕ) (u : FrontView E) (n : ℕ) → get_elem? s.views j ≡ some u → In n (names u) → n < t = λ j u n e p. (let q : n < r.top = (r.each j u e).below n p in omega arith) in
      let named' : (n : ℕ) → Named s.views n → Named views n = λ n o. (let y = now s.views id v a at refl o.0 o.1 o.2 in (o.0, y.0, at_longer mid (b ∷ []) o.0 y.0 y.1, subst (λ (m : List ℕ). In n m) (sym y.2) o.3)) in
      let fits_b : Fits r.next r.serving (t + 1) r.shown s.homes r.tied b = record {
        tie = λ _. f.tie (omega arith);
        spent = λ none. absurd (omega arith);
        extends = record {
          rest = f.extends.rest;
          is = f.extends.is;
          foreign = owners_map (Named s.views) (λ n. ¬ In n (t ∷ [])) f.extends.rest (λ n o p. only n t (young o.0 o.1 n o.2 o.3) p) (owners_right (Named s.views) v.seen f.extends.rest (subst (Owners (Named s.views)) f.extends.is r.owners));
        };
        ended = tt;
        kept = ap (λ (k : List (ℕ × ℕ)). k ++ []) (under_nobody t r.shown.kept (owners_map (Named s.views) (λ m. t ≢ m) r.shown.kept (λ m o e. let q : m < t = young o.0 o.1 m o.2 o.3 in omega arith) r.keepers));
        distinct = ((λ p. absurd p), tt);
        below = λ n p. ⊎_elim (λ (e : n ≡ t). let q : n < t + 1 = omega arith in q) (λ (e : ⊥). absurd e) p;
        staged = tt;
      } in
      record {
        next = r.next;
        serving = r.serving;
        top = t + 1;
        shown = r.shown;
        tied = r.tied;
        words = r.words;
        order = r.order;
        small = r.small;
        top_near = omega arith;
        each = λ j u e. ⊎_elim
            (λ (old : get_elem? mid j ≡ some u). each_set s.views id v a at (Fits r.next r.serving (t + 1) r.shown s.homes r.tied)
            (λ k z other g. let fz = r.each k z g in record {
              tie = fz.tie;
              spent = fz.spent;
              extends = fz.extends;
              ended = fz.ended;
              kept = fz.kept;
              distinct = fz.distinct;
              below = (λ n p. let q : n < t = young k z n g p in omega arith);
              staged = unheld r.next r.serving r.top (t + 1) r.shown s.homes t served z.stage (λ h. other (r.turns k id z v g at t h has)) fz.staged;
            })
            record { tie = (λ _. f.tie (omega arith)); spent = λ none. absurd (omega arith); extends = f.extends; ended = f.ended; kept = f.kept; distinct = f.distinct; below = (λ n p. let q : n < t = young id v n at p in omega arith); staged = (served, near, st.2, (λ bad. absurd (apart_bools bad)), st.4, st.5) }
            j u old)
            (λ (new : b ≡ u). subst (Fits r.next r.serving (t + 1) r.shown s.homes r.tied) new fits_b)
            (at_snoc mid b u j e);
        apart = λ j k u z e g n p q. ⊎_elim
            (λ (old : get_elem? mid j ≡ some u). ⊎_elim
            (λ (old' : get_elem? mid k ≡ some z). apart_on shows tie s r id v a at refl j k u z old old' n p q)
            (λ (new' : (k ≡ length mid) × (b ≡ z)). let w = was s.views id v a at refl j u old in let n_is : n ≡ t = is_one n t (subst (λ (y : FrontView E). In n (names y)) (sym new'.1) q) in let n_less : n < t = young j w.0 n w.1 (subst (λ (y : List ℕ). In n y) w.2 p) in absurd (omega arith))
            (at_end mid b z k g))
            (λ (new : (j ≡ length mid) × (b ≡ u)). ⊎_elim
            (λ (old' : get_elem? mid k ≡ some z). let w = was s.views id v a at refl k z old' in let n_is : n ≡ t = is_one n t (subst (λ (y : FrontView E). In n (names y)) (sym new.1) p) in let n_less : n < t = young k w.0 n w.1 (subst (λ (y : List ℕ). In n y) w.2 q) in absurd (omega arith))
            (λ (new' : (k ≡ length mid) × (b ≡ z)). new.0 ∙ sym new'.0)
            (at_end mid b z k g))
            (at_end mid b u j e);
        turns = λ j k u z e g n p q. ⊎_elim
            (λ (old : get_elem? mid j ≡ some u). ⊎_elim
            (λ (old' : get_elem? mid k ≡ some z). turns_mid shows tie s r id v a at (λ k' u' t' other e' p' q'. other (r.turns k' id u' v e' at t' q' (subst (λ (m : ℕ). HasTicket m v.stage) (sym p') has))) j k u z old old' n p q)
            (λ (new' : b ≡ z). absurd (subst (λ (y : FrontView E). HasTicket n y.stage) (sym new') q))
            (at_snoc mid b z k g))
            (λ (new : b ≡ u). absurd (subst (λ (y : FrontView E). HasTicket n y.stage) (sym new) p))
            (at_snoc mid b u j e);
        place = inr (st.4, (id, a, t, false, l, ns, also, here, refl));
        whole = let x = parts_set s.views id v a at in let y = parts_snoc mid b in let z = r.whole in omega arith;
        owners = owners_map (Named s.views) (Named views) r.shown.entries named' r.owners;
        keepers = owners_map (Named s.views) (Named views) r.shown.kept named' r.keepers;
      }
    where
      apart_bools : false ≡ true → ⊥
      apart_bools e = cc

      is_one : (n t : ℕ) → In n (t ∷ []) → n ≡ t
      is_one n t p = ⊎_elim (λ (e : n ≡ t). e) (λ (e : ⊥). absurd e) p

      only : (n t : ℕ) → n < t → ¬ In n (t ∷ [])
      only n t less p = let e : n ≡ t = is_one n t p in absurd (omega arith)

      unheld : (next serving top top' : ℕ) (shown : Contents E) (homes : List (maybe.Option (Option T))) (t : ℕ) → t ≡ serving → (st : Stage E) → ¬ HasTicket t st → Staged next serving top shown homes st → Staged next serving top' shown homes st
      unheld next serving top top' shown homes t served Idle not h = tt
      unheld next serving top top' shown homes t served (Waits u) not h = h
      unheld next serving top top' shown homes t served (Holds u fresh l ns also) not h = absurd (not (served ∙ sym h.0))

      at_end : (xs : List (FrontView E)) (x y : FrontView E) (j : ℕ) → get_elem? (xs ++ x ∷ []) j ≡ some y → (get_elem? xs j ≡ some y) ⊎ ((j ≡ length xs) × (x ≡ y))
      at_end [] x y zero e = inr (refl, some-injective x y e)
      at_end [] x y (suc j) e = absurd (some-ne-none y (sym e))
      at_end (z ∷ zs) x y zero e = inl e
      at_end (z ∷ zs) x y (suc j) e = ⊎_elim inl (λ p. inr (ap suc p.0, p.1)) (at_end zs x y j e)
