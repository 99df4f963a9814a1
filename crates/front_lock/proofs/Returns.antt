-- The value comes back, and the next ticket is served.
use Rattle.std.proofs.Common.{◌≡◌, ◌≢◌, ℕ, ◌+◌, ◌<◌, ◌≤◌, Bool, List, [], ◌∷◌, ◌++◌, set, refl, sym, ap, ◌∙◌, subst, inl, arith}
use mathlib.Core.Option.{some, none, some-injective, some-ne-none}
use mathlib.Core.Option as maybe
use lib.ListN.{get_elem?}
use Rattle.std.specs.Prelude.{Option, Some}
use Rattle.atomic_table.specs.Table.{State, Me, step, gives, stepped, Allows}
use Rattle.atomic_table.proofs.Lists.{set_here}
use Rattle.front_lock.specs.Histories.{In, Owners, Extends, GrownBy}
use Rattle.front_lock.specs.declared.rule.Contents.{Contents}
use Rattle.front_lock.specs.declared.rule.FrontView.{FrontView}
use Rattle.front_lock.specs.declared.rule.Stage.{Stage}
use Rattle.front_lock.specs.declared.rule.Stage.TheVariants.{Idle, Waits, Holds}
use Rattle.front_lock.specs.Keepings.{kept_under, kept_by, KeepsOthers}
use Rattle.front_lock.specs.Passes.{known, at_stage, names}
use Rattle.front_lock.specs.Rule.{HasTicket, Staged, Fits, Named, Kept}
use Rattle.front_lock.specs.Steps.{GaveBack, PutBack}
use Rattle.front_lock.proofs.Histories.{owners_map, owners_append, in_joined, own_named, own_once, extends_more, extends_all, ended_more}
use Rattle.front_lock.proofs.Keepings.{by_others, keepers_after}
use Rattle.front_lock.proofs.Views.{parts_at, there, each_set}
use Rattle.front_lock.proofs.Unchanged.{apart_on, turns_mid, whole', owners', keepers'}

module _ {T E : Type 0} (shows : T → Contents E) (tie : T → List ℕ) where
  abbrev St : Type 0
  St = State (Option T) (FrontView E)

  abbrev M : Type 0
  M = Me (Option T) (FrontView E)

  -- the value comes back, with further entries of the pass
  returned : (s : St) (r : Kept shows tie s) (id : ℕ) (v : FrontView E) (more : List (ℕ × Option T)) (x : T) (t : ℕ) (fresh : Bool) (l : Contents E) (ns : List ℕ) (also seen : List (ℕ × E)) (kept : List (ℕ × ℕ)) (n times : ℕ)
      → get_elem? s.views id ≡ some v → v.stage ≡ Holds t fresh l ns also → 0 < v.parts → v.own ≡ Some n → GrownBy n l.entries (shows x).entries → KeepsOthers (names v) l.kept (shows x).kept → Extends (names v) seen (shows x).entries → kept_by (names v) (shows x).kept ≡ kept → tie x ≡ v.tie
      → Kept shows tie (stepped s 1 (t + 1) id ((0, Some x) ∷ more) (known v.tie v.parts times v.own v.joined seen kept Idle) gives)
  returned s r id v more x t fresh l ns also seen kept n times at holding some_part own grown others ext knows tied_x =
      let mine : In n (names v) = own_named v.own v.joined n own in
      let w : FrontView E = known v.tie v.parts times v.own v.joined seen kept Idle in
      let f = r.each id v at in
      let st : Staged r.next r.serving r.top r.shown s.homes (Holds t fresh l ns also) = subst (Staged r.next r.serving r.top r.shown s.homes) holding f.staged in
      let served : t ≡ r.serving = st.0 in let near : t < r.next = st.1 in let b = r.top_near in
      let has : HasTicket t v.stage = subst (HasTicket t) (sym holding) refl in
      let grown' : GrownBy n r.shown.entries (shows x).entries = subst (λ (z : Contents E). GrownBy n z.entries (shows x).entries) st.2 grown in
      let others' : KeepsOthers (names v) r.shown.kept (shows x).kept = subst (λ (z : Contents E). KeepsOthers (names v) z.kept (shows x).kept) st.2 others in
      let mine' : (m : ℕ) → In m (names v) → Named (set s.views id w) m = λ m p. (id, w, set_here s.views id w (there s.views id v at), p) in
      let back : List (maybe.Option (Option T)) = set s.homes 0 (some (Some x)) in
      let back_is : back ≡ some (Some x) ∷ [] = ap (λ (h : List (maybe.Option (Option T))). set h 0 (some (Some x))) st.4 in
      record {
        next = r.next;
        serving = t + 1;
        top = r.top;
        shown = shows x;
        tied = r.tied;
        words = ap (λ (z : List ℕ). set z 1 (t + 1)) r.words;
        order = omega arith;
        small = r.small;
        top_near = omega arith;
        each = each_set s.views id v w at (Fits r.next (t + 1) r.top (shows x) back r.tied)
            (λ j u other e. let fu = r.each j u e in record {
              tie = fu.tie;
              spent = fu.spent;
              extends = extends_more (names u) n u.seen r.shown.entries (shows x).entries (λ h. other (r.apart j id u v e at n h mine)) grown' fu.extends;
              ended = ended_more u.joined n r.shown.entries (shows x).entries (λ h. other (r.apart j id u v e at n (in_joined u.own u.joined n h) mine)) grown' fu.ended;
              kept = by_others (names u) (names v) r.shown.kept (shows x).kept others' (λ m p q. other (r.apart j id u v e at m p q)) ∙ fu.kept;
              distinct = fu.distinct;
              below = fu.below;
              staged = passes r.next r.serving r.top r.shown (shows x) s.homes back t served u.stage (λ h. other (r.turns j id u v e at t h has)) fu.staged;
            })
            record { tie = f.tie; spent = λ none. absurd (omega arith); extends = ext; ended = ended_more v.joined n r.shown.entries (shows x).entries (own_once v.own v.joined n own f.distinct) grown' f.ended; kept = knows; distinct = f.distinct; below = f.below; staged = tt };
        apart = apart_on shows tie s r id v w at refl;
        turns = turns_mid shows tie s r id v w at (λ k u z other e p q. absurd p);
        place = inl (x, back_is, refl, (let b' : r.top ≤ t + 1 = omega arith in b'), tied_x ∙ f.tie some_part);
        whole = whole' shows tie s r id v w at refl refl;
        owners = subst (Owners (Named (set s.views id w))) (sym grown'.is)
            (owners_append (Named (set s.views id w)) r.shown.entries grown'.added (owners' shows tie s r id v w at refl refl)
            (owners_map (λ m. m ≡ n) (Named (set s.views id w)) grown'.added (λ m is. mine' m (subst (λ k. In k (names v)) (sym is) mine)) grown'.owned));
        keepers = keepers_after (Named (set s.views id w)) (names v) r.shown.kept (shows x).kept (keepers' shows tie s r id v w at refl refl) others' mine';
      }
    where
      passes : (next serving top : ℕ) (shown shown' : Contents E) (homes back : List (maybe.Option (Option T))) (t : ℕ) → t ≡ serving → (st : Stage E) → ¬ HasTicket t st → Staged next serving top shown homes st → Staged next (t + 1) top shown' back st
      passes next serving top shown shown' homes back t served Idle not h = tt
      passes next serving top shown shown' homes back t served (Waits u) not h = let a = h.0 in let other : t ≢ u = not in (omega arith, h.1)
      passes next serving top shown shown' homes back t served (Holds u fresh l ns also) not h = absurd (not (served ∙ sym h.0))

  pub gives_back : (slots id : ℕ) (v : FrontView E) (more : List (ℕ × Option T)) (x : T) (t : ℕ) (fresh : Bool) (l : Contents E) (ns : List ℕ) (also : List (ℕ × E)) (n : ℕ)
      → v.stage ≡ Holds t fresh l ns also → 0 < v.parts → v.own ≡ Some n → GrownBy n l.entries (shows x).entries → KeepsOthers (names v) l.kept (shows x).kept → tie x ≡ v.tie
      → Allows (Kept shows tie) slots id (v, (0, Some x) ∷ more) 1 (λ _. t + 1) (λ _. GaveBack shows tie (step slots 1 (t + 1) 0 none) (v, (0, Some x) ∷ more) (t + 1))
  gives_back slots id v more x t fresh l ns also n holding some_part own grown others tied_x s r wide at fits = (
    known v.tie v.parts (v.entered + 1) v.own v.joined (shows x).entries (kept_by (names v) (shows x).kept) Idle,
    gives,
    tt,
    returned s r id v more x t fresh l ns also (shows x).entries (kept_by (names v) (shows x).kept) n (v.entered + 1) at holding some_part own grown others (extends_all (names v) (shows x).entries) refl tied_x,
    λ y e. ap (λ (z : T). (known v.tie v.parts (v.entered + 1) v.own v.joined (shows z).entries (kept_by (names v) (shows z).kept) Idle, more)) (one x y more e),
  )
    where
      one : (x y : T) (more : List (ℕ × Option T)) → (0, Some x) ∷ more ≡ (0, Some y) ∷ more → x ≡ y
      one x y more e = let a : (let p : ℕ × Option T = (0, Some x) in p ≡ (0, Some y)) = cc in let b : Some x ≡ Some y = ap (λ (p : ℕ × Option T). p.1) a in cc

  pub puts_back : (slots id : ℕ) (v : FrontView E) (more : List (ℕ × Option T)) (x : T) (t : ℕ) (fresh : Bool) (l : Contents E) (ns : List ℕ) (also : List (ℕ × E)) (n : ℕ)
      → v.stage ≡ Holds t fresh l ns also → 0 < v.parts → v.own ≡ Some n → shows x ≡ l → tie x ≡ v.tie
      → Allows (Kept shows tie) slots id (v, (0, Some x) ∷ more) 1 (λ _. t + 1) (λ _. PutBack shows tie (step slots 1 (t + 1) 0 none) (v, (0, Some x) ∷ more) (t + 1))
  puts_back slots id v more x t fresh l ns also n holding some_part own same tied_x s r wide at fits =
      let f = r.each id v at in
      let st : Staged r.next r.serving r.top r.shown s.homes (Holds t fresh l ns also) = subst (Staged r.next r.serving r.top r.shown s.homes) holding f.staged in (
        at_stage v Idle,
        gives,
        tt,
        returned s r id v more x t fresh l ns also v.seen v.kept n v.entered at holding some_part own record { added = []; is = ap (λ (c : Contents E). c.entries) same ∙ nil l.entries; owned = tt } (λ m _. ap (λ (c : Contents E). kept_under m c.kept) same) (subst (λ (c : Contents E). Extends (names v) v.seen c.entries) (sym (same ∙ st.2)) f.extends) (ap (λ (c : Contents E). kept_by (names v) c.kept) (same ∙ st.2) ∙ f.kept) tied_x,
        (
          refl,
          λ u fresh' l' ns' also' e. let st' : Staged r.next r.serving r.top r.shown s.homes (Holds u fresh' l' ns' also') = subst (Staged r.next r.serving r.top r.shown s.homes) e f.staged in
              (subst (λ (c : Contents E). Extends ns' also' c.entries) (sym st'.2) st'.5, subst (λ (c : Contents E). Extends (names v) v.seen c.entries) (sym st'.2) f.extends, ap (λ (c : Contents E). kept_by (names v) c.kept) st'.2 ∙ f.kept),
          (let p = parts_at s.views id v at in let w = r.whole in omega arith),
          f.distinct,
        ),
      )
    where
      nil : (l : List (ℕ × E)) → l ≡ l ++ []
      nil [] = refl
      nil (y ∷ ys) = ap (λ z. y ∷ z) (nil ys)
