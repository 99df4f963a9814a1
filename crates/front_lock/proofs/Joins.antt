-- A pass is joined into the one that has the turn.
use Rattle.std.proofs.Common.{◌≡◌, ◌≢◌, ◌⊎◌, ℕ, ◌+◌, ◌<◌, Bool, List, ◌++◌, set, refl, sym, ap, ◌∙◌, subst, inl, inr, ⊎_elim, arith}
use mathlib.Core.Option.{some, some-injective}
use mathlib.Core.Logic.{dite}
use native.Mathlib.Decide.{ℕ_discrete}
use lib.ListN.{get_elem?}
use Rattle.std.specs.Prelude.{Option}
use Rattle.atomic_table.specs.Table.{State, Me, Joins}
use Rattle.atomic_table.proofs.Lists.{at_set, set_here, set_else}
use Rattle.front_lock.specs.Histories.{In, Extends, Distinct}
use Rattle.front_lock.specs.declared.rule.Contents.{Contents}
use Rattle.front_lock.specs.declared.rule.FrontView.{FrontView}
use Rattle.front_lock.specs.declared.rule.Stage.TheVariants.{Idle, Holds}
use Rattle.front_lock.specs.Keepings.{kept_by}
use Rattle.front_lock.specs.Passes.{known, nobody, names, ended, longer}
use Rattle.front_lock.specs.Rule.{HasTicket, Staged, Fits, Named, Kept}
use Rattle.front_lock.specs.Steps.{joined_at}
use Rattle.front_lock.proofs.Histories.{both_extend, owners_map, in_left, in_right, in_either, names_join, distinct_append, ended_append, ended_one}
use Rattle.front_lock.proofs.Keepings.{by_append}
use Rattle.front_lock.proofs.Views.{parts_set, there, each_set}
use Rattle.front_lock.proofs.Unchanged.{foreign_to_none}

module _ {T E : Type 0} (shows : T → Contents E) (tie : T → List ℕ) where
  abbrev St : Type 0
  St = State (Option T) (FrontView E)

  abbrev M : Type 0
  M = Me (Option T) (FrontView E)

  pub joins : (id : ℕ) (v : FrontView E) (other : ℕ) (w : FrontView E) (t : ℕ) (fresh : Bool) (l : Contents E) (ns : List ℕ) (also : List (ℕ × E)) → v.stage ≡ Holds t fresh l ns also → 0 < v.parts → w.stage ≡ Idle
      → Joins (Kept shows tie) id v other w (joined_at v w (Holds t fresh l ns also)) nobody
  joins id v other w t fresh l ns also holding some_part idle s r at differ there_w =
      let a : FrontView E = known v.tie (v.parts + w.parts) (v.entered + w.entered) v.own (v.joined ++ ended w.own w.seen w.joined) (longer v.seen w.seen) (v.kept ++ w.kept) (Holds t fresh l (names w) w.seen) in
      let nm : names a ≡ names v ++ names w = names_join v.own v.joined w.own w.seen w.joined in
      let b : FrontView E = nobody in
      let mid : List (FrontView E) = set s.views id a in
      let views : List (FrontView E) = set mid other b in
      let at_w : get_elem? s.views other ≡ some w = sym (set_else s.views id other a differ) ∙ there_w in
      let f = r.each id v at in let fw = r.each other w at_w in
      let st : Staged r.next r.serving r.top r.shown s.homes (Holds t fresh l ns also) = subst (Staged r.next r.serving r.top r.shown s.homes) holding f.staged in
      let has : HasTicket t v.stage = subst (HasTicket t) (sym holding) refl in
      let here : get_elem? views id ≡ some a = set_else mid other id b (λ e. differ (sym e)) ∙ set_here s.views id a (there s.views id v at) in
      let named' : (n : ℕ) → Named s.views n → Named views n = λ n o. dite (ℕ_discrete o.0 id)
      (λ hit. let vu : v ≡ o.1 = some-injective v o.1 (sym at ∙ subst (λ k. get_elem? s.views k ≡ some o.1) hit o.2) in (id, a, here, subst (In n) (sym nm) (in_left n (names v) (names w) (subst (λ (y : FrontView E). In n (names y)) (sym vu) o.3))))
      (λ miss. dite (ℕ_discrete o.0 other)
      (λ hit. let wu : w ≡ o.1 = some-injective w o.1 (sym at_w ∙ subst (λ k. get_elem? s.views k ≡ some o.1) hit o.2) in (id, a, here, subst (In n) (sym nm) (in_right n (names v) (names w) (subst (λ (y : FrontView E). In n (names y)) (sym wu) o.3))))
      (λ miss'. (o.0, o.1, set_else mid other o.0 b miss' ∙ (set_else s.views id o.0 a miss ∙ o.2), o.3))) in
      -- a view that has a name: that of the pass, or one that was there
      let named : (j : ℕ) (u : FrontView E) (n : ℕ) → get_elem? views j ≡ some u → In n (names u) → ((j ≡ id) × (In n (names v) ⊎ In n (names w))) ⊎ ((j ≢ other) × (get_elem? s.views j ≡ some u)) = λ j u n e p. ⊎_elim
      (λ (x : (j ≡ other) × (b ≡ u)). absurd (subst (λ (y : FrontView E). In n (names y)) (sym x.1) p))
      (λ (x : (j ≢ other) × (get_elem? mid j ≡ some u)). ⊎_elim
      (λ (y : (j ≡ id) × (a ≡ u)). inl (y.0, in_either n (names v) (names w) (subst (In n) nm (subst (λ (z : FrontView E). In n (names z)) (sym y.1) p))))
      (λ (y : (j ≢ id) × (get_elem? s.views j ≡ some u)). inr (x.0, y.1))
      (at_set s.views id j a u x.1))
      (at_set mid other j b u e) in
      -- a view with a ticket: that of the pass, or one that was there
      let ticketed : (j : ℕ) (u : FrontView E) (n : ℕ) → get_elem? views j ≡ some u → HasTicket n u.stage → (y : FrontView E) × (get_elem? s.views j ≡ some y) × HasTicket n y.stage = λ j u n e p. ⊎_elim
      (λ (x : (j ≡ other) × (b ≡ u)). absurd (subst (λ (y : FrontView E). HasTicket n y.stage) (sym x.1) p))
      (λ (x : (j ≢ other) × (get_elem? mid j ≡ some u)). ⊎_elim
      (λ (y : (j ≡ id) × (a ≡ u)). (v, subst (λ k. get_elem? s.views k ≡ some v) (sym y.0) at, subst (λ (m : ℕ). HasTicket m v.stage) (sym (subst (λ (z : FrontView E). HasTicket n z.stage) (sym y.1) p)) has))
      (λ (y : (j ≢ id) × (get_elem? s.views j ≡ some u)). (u, y.1, p))
      (at_set s.views id j a u x.1))
      (at_set mid other j b u e) in
      record {
        next = r.next;
        serving = r.serving;
        top = r.top;
        shown = r.shown;
        tied = r.tied;
        words = r.words;
        order = r.order;
        small = r.small;
        top_near = r.top_near;
        each = each_set mid other w b there_w (Fits r.next r.serving r.top r.shown s.homes r.tied)
            (λ j u _ e. each_set s.views id v a at (Fits r.next r.serving r.top r.shown s.homes r.tied) (λ k z _ g. r.each k z g)
            record {
              tie = λ _. f.tie some_part;
              spent = λ none. absurd (omega arith);
              extends = subst (λ (l : List ℕ). Extends l (longer v.seen w.seen) r.shown.entries) (sym nm) (both_extend (names v) (names w) v.seen w.seen r.shown.entries f.extends fw.extends);
              ended = ended_append v.joined (ended w.own w.seen w.joined) r.shown.entries f.ended (ended_one w.own w.seen w.joined r.shown.entries fw.extends fw.ended);
              kept = ap (λ (k : List ℕ). kept_by k r.shown.kept) nm ∙ by_append (names v) (names w) r.shown.kept ∙ (λ i. f.kept i ++ fw.kept i);
              distinct = subst Distinct (sym nm) (distinct_append (names v) (names w) f.distinct fw.distinct (λ n p q. differ (sym (r.apart id other v w at at_w n p q))));
              below = λ n p. ⊎_elim (f.below n) (fw.below n) (in_either n (names v) (names w) (subst (In n) nm p));
              staged = (st.0, st.1, st.2, st.3, st.4, fw.extends);
            } j u e)
            record { tie = (λ some_one. absurd (omega arith)); spent = λ _. (refl, refl); extends = record { rest = r.shown.entries; is = refl; foreign = foreign_to_none r.shown.entries }; ended = tt; kept = refl; distinct = tt; below = (λ n p. absurd p); staged = tt };
        apart = λ j k u z e g n p q. ⊎_elim
            (λ (x : (j ≡ id) × (In n (names v) ⊎ In n (names w))). ⊎_elim
            (λ (y : (k ≡ id) × (In n (names v) ⊎ In n (names w))). x.0 ∙ sym y.0)
            (λ (y : (k ≢ other) × (get_elem? s.views k ≡ some z)). ⊎_elim (λ (h : In n (names v)). x.0 ∙ r.apart id k v z at y.1 n h q) (λ (h : In n (names w)). absurd (y.0 (sym (r.apart other k w z at_w y.1 n h q)))) x.1)
            (named k z n g q))
            (λ (x : (j ≢ other) × (get_elem? s.views j ≡ some u)). ⊎_elim
            (λ (y : (k ≡ id) × (In n (names v) ⊎ In n (names w))). ⊎_elim (λ (h : In n (names v)). r.apart j id u v x.1 at n p h ∙ sym y.0) (λ (h : In n (names w)). absurd (x.0 (r.apart j other u w x.1 at_w n p h))) y.1)
            (λ (y : (k ≢ other) × (get_elem? s.views k ≡ some z)). r.apart j k u z x.1 y.1 n p q)
            (named k z n g q))
            (named j u n e p);
        turns = λ j k u z e g n p q. let x = ticketed j u n e p in let y = ticketed k z n g q in r.turns j k x.0 y.0 x.1 y.1 n x.2 y.2;
        place = inr (st.4, (id, a, t, fresh, l, (names w), w.seen, here, refl));
        whole = let x = parts_set s.views id v a at in let y = parts_set mid other w b there_w in let z = r.whole in omega arith;
        owners = owners_map (Named s.views) (Named views) r.shown.entries named' r.owners;
        keepers = owners_map (Named s.views) (Named views) r.shown.kept named' r.keepers;
      }
