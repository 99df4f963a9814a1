-- A ticket is drawn, and the value is taken where it is served.
use Rattle.std.proofs.Common.{◌≡◌, ◌≢◌, ℕ, ◌+◌, ◌^◌, ◌<◌, ◌≤◌, eqb, Bool, true, List, [], ◌∷◌, get_or, set, refl, sym, ap, ◌∙◌, subst, inl, inr, ⊎_elim, arith}
use mathlib.Core.Option.{some, none, some-injective, some-ne-none}
use mathlib.Core.Option as maybe
use mathlib.Core.Logic.{dite}
use native.Mathlib.Decide.{ℕ_discrete}
use lib.ListN.{get_elem?}
use prog.Atomic.{either}
use Rattle.std.specs.Prelude.{Option, Some}
use Rattle.atomic_table.specs.Table.{State, Me, step, keeps, takes, Allows}
use Rattle.atomic_table.proofs.Lists.{set_here, exchanged}
use Rattle.front_lock.specs.Histories.{In, Owners, Extends}
use Rattle.front_lock.specs.declared.rule.Contents.{Contents}
use Rattle.front_lock.specs.declared.rule.FrontView.{FrontView}
use Rattle.front_lock.specs.declared.rule.Stage.{Stage}
use Rattle.front_lock.specs.declared.rule.Stage.TheVariants.{Idle, Waits, Holds}
use Rattle.front_lock.specs.Passes.{at_stage, names}
use Rattle.front_lock.specs.Keepings.{kept_under, kept_by}
use Rattle.front_lock.specs.Rule.{HasTicket, Staged, Fits, Named, AtHome, Kept}
use Rattle.front_lock.specs.Steps.{Drew, Turned, Finds}
use Rattle.front_lock.proofs.Histories.{owners_map}
use Rattle.front_lock.proofs.Keepings.{by_one}
use Rattle.front_lock.proofs.Views.{there, each_set, parts_two}
use Rattle.front_lock.proofs.Unchanged.{waits_later, ticket_below, foreign_to_none, not_held, at_serving, Goes, apart_on, turns_mid, whole', owners', keepers', out', again}

module _ {T E : Type 0} (shows : T → Contents E) (tie : T → List ℕ) where
  abbrev St : Type 0
  St = State (Option T) (FrontView E)

  abbrev M : Type 0
  M = Me (Option T) (FrontView E)

  pub draws : (slots id : ℕ) (me : M) (old : ℕ) → me.0.stage ≡ Idle → 0 < me.0.parts → old + 1 < 2 ^ 64 → Allows (Kept shows tie) slots id me 0 (λ y. either (eqb y old) (old + 1) y) (Drew shows tie (step slots 0 old (old + 1) none) me)
  draws slots id me old idle some_part small s r wide at fits = let y : ℕ = get_or s.words 0 0 in
      let y_is : y ≡ r.next = ap (λ (l : List ℕ). get_or l 0 0) r.words in
      exchanged y old (old + 1) (Goes shows tie s 0 id me (Drew shows tie (step slots 0 old (old + 1) none) me))
      (λ hit. let w = at_stage me.0 (Waits y) in let mine = r.each id me.0 at in let o = r.order in (
        w,
        keeps,
        tt,
        record {
          next = r.next + 1;
          serving = r.serving;
          top = r.top;
          shown = r.shown;
          tied = r.tied;
          words = ap (λ (l : List ℕ). set l 0 (old + 1)) r.words ∙ ap (λ (n : ℕ). (n + 1) ∷ r.serving ∷ []) (sym hit ∙ y_is);
          order = omega arith;
          small = omega arith;
          top_near = r.top_near;
          each = each_set s.views id me.0 w at (Fits (r.next + 1) r.serving r.top r.shown s.homes r.tied)
              (λ j u other e. let f = r.each j u e in record { tie = f.tie; spent = f.spent; extends = f.extends; ended = f.ended; kept = f.kept; distinct = f.distinct; below = f.below; staged = waits_later r.next r.serving r.top r.shown s.homes u.stage f.staged })
              record { tie = mine.tie; spent = λ none. absurd (omega arith); extends = mine.extends; ended = mine.ended; kept = mine.kept; distinct = mine.distinct; below = mine.below; staged = (omega arith, omega arith) };
          apart = apart_on shows tie s r id me.0 w at refl;
          turns = turns_mid shows tie s r id me.0 w at (λ k u t other e p q. let b = ticket_below r.next r.serving r.top r.shown s.homes u.stage t (r.each k u e).staged q in let p' : t ≡ y = p in omega arith);
          place = ⊎_elim inl (λ o. inr (out' shows tie s r id me.0 w at refl refl (λ t fresh l ns also h. absurd (not_idle (sym idle ∙ h))) o)) r.place;
          whole = whole' shows tie s r id me.0 w at refl refl;
          owners = owners' shows tie s r id me.0 w at refl refl;
          keepers = keepers' shows tie s r id me.0 w at refl refl;
        },
        ((λ _. refl), (λ miss. absurd (miss hit))),
      ))
      (λ miss. (me.0, keeps, tt, again shows tie s r 0 id me.0 at, ((λ hit. absurd (miss hit)), (λ _. refl))))
    where
      not_idle : {t : ℕ} {fresh : Bool} {l : Contents E} {ns : List ℕ} {also : List (ℕ × E)} → Idle ≡ Holds t fresh l ns also → ⊥
      not_idle e = cc

  abbrev OutNow : List (FrontView E) → Type 0
  OutNow views = (j : ℕ) × (v : FrontView E) × (t : ℕ) × (fresh : Bool) × (l : Contents E) × (ns : List ℕ) × (also : List (ℕ × E)) × (get_elem? views j ≡ some v) × (v.stage ≡ Holds t fresh l ns also)

  -- the pass whose ticket is served finds the value at home
  not_out : (s : St) (r : Kept shows tie s) (id : ℕ) (v : FrontView E) (t : ℕ) → get_elem? s.views id ≡ some v → v.stage ≡ Waits t → t ≡ r.serving → OutNow s.views → ⊥
  not_out s r id v t at waits served o =
      let st = (r.each o.0 o.1 o.7).staged in
      let at_t : o.2 ≡ t = at_serving r.next r.serving r.top r.shown s.homes o.2 o.3 o.4 o.5 o.6 o.1.stage o.8 st ∙ sym served in
      let same : o.0 ≡ id = r.turns o.0 id o.1 v o.7 at t (subst (HasTicket t) (sym o.8) (sym at_t)) (subst (HasTicket t) (sym waits) refl) in
      let vv : o.1 ≡ v = some-injective o.1 v (sym o.7 ∙ subst (λ k. get_elem? s.views k ≡ some v) (sym same) at) in
      differ t o.2 o.3 o.4 o.5 o.6 (sym waits ∙ ap (λ (y : FrontView E). y.stage) (sym vv) ∙ o.8)
    where
      differ : (t u : ℕ) (fresh : Bool) (l : Contents E) (ns : List ℕ) (also : List (ℕ × E)) → Waits t ≡ Holds u fresh l ns also → ⊥
      differ t u fresh l ns also e = cc

  -- where one pass has all parts, each name is one of its own
  all_mine : (s : St) (r : Kept shows tie s) (id : ℕ) (v : FrontView E) → get_elem? s.views id ≡ some v → v.parts ≡ 64 → (n : ℕ) → Named s.views n → In n (names v)
  all_mine s r id v at all n o =
      let alone : (j : ℕ) (u : FrontView E) → get_elem? s.views j ≡ some u → j ≢ id → u.parts ≡ 0 = λ j u e ne. (let h = parts_two s.views j id u v ne e at in let w = r.whole in omega arith) in
      let same : (j : ℕ) (u : FrontView E) → get_elem? s.views j ≡ some u → j ≡ id → v ≡ u = λ j u e hit. some-injective v u (sym at ∙ subst (λ k. get_elem? s.views k ≡ some u) hit e) in
      dite (ℕ_discrete o.0 id)
      (λ hit. subst (λ (y : FrontView E). In n (names y)) (sym (same o.0 o.1 o.2 hit)) o.3)
      (λ miss. absurd (subst (In n) ((r.each o.0 o.1 o.2).spent (alone o.0 o.1 o.2 miss)).0 o.3))

  -- what a pass finds at the value that is at home
  finds : (s : St) (r : Kept shows tie s) (id : ℕ) (v : FrontView E) (y : ℕ) (x : T) → get_elem? s.views id ≡ some v → 0 < v.parts → r.top ≤ y → shows x ≡ r.shown → tie x ≡ r.tied → Finds shows tie v y x
  finds s r id v y x at some_part top is tied =
      let f = r.each id v at in
      let young : (n : ℕ) → Named s.views n → n < y = λ n o. (let b : n < r.top = (r.each o.0 o.1 o.2).below n o.3 in omega arith) in
      record {
        goes_on = subst (λ (c : Contents E). Extends (names v) v.seen c.entries) (sym is) f.extends;
        unnamed = subst (λ (c : Contents E). Owners (λ n. n < y) c.entries) (sym is) (owners_map (Named s.views) (λ n. n < y) r.shown.entries young r.owners);
        later = λ n p. young n (id, v, at, p);
        tied = tied ∙ sym (f.tie some_part);
        owned = λ all. subst (λ (c : Contents E). Owners (λ n. In n (names v)) c.entries) (sym is) (owners_map (Named s.views) (λ n. In n (names v)) r.shown.entries (all_mine s r id v at all) r.owners);
        kept = subst (λ (c : Contents E). kept_by (names v) c.kept ≡ v.kept) (sym is) f.kept;
        keeps = λ n here. subst (λ (c : Contents E). kept_under n c.kept ≡ kept_under n v.kept) (sym is) (sym (by_one n (names v) r.shown.kept here f.distinct) ∙ ap (kept_under n) f.kept);
        keepers = λ all. subst (λ (c : Contents E). Owners (λ n. In n (names v)) c.kept) (sym is) (owners_map (Named s.views) (λ n. In n (names v)) r.shown.kept (all_mine s r id v at all) r.keepers);
      }

  pub takes_turn : (slots id : ℕ) (me : M) (t : ℕ) → me.0.stage ≡ Waits t → 0 < me.0.parts → Allows (Kept shows tie) slots id me 1 (λ n. n) (Turned shows tie (step slots 1 0 0 none) me)
  takes_turn slots id me t waits some_part s r wide at fits = let y : ℕ = get_or s.words 1 0 in let told = Turned shows tie (step slots 1 0 0 none) me in
      let y_is : y ≡ r.serving = ap (λ (l : List ℕ). get_or l 1 0) r.words in
      let same_ticket : (u : ℕ) → me.0.stage ≡ Waits u → t ≡ u = λ u e. one_ticket t u (sym waits ∙ e) in
      let mine = r.each id me.0 at in
      let staged : Staged r.next r.serving r.top r.shown s.homes (Waits t) = subst (Staged r.next r.serving r.top r.shown s.homes) waits mine.staged in
      let has : HasTicket t me.0.stage = subst (HasTicket t) (sym waits) refl in
      dite (ℕ_discrete y t)
      (λ hit. let goes : (AtHome shows tie r.tied r.serving r.top r.shown s.homes) → Goes shows tie s 1 id me told y = λ home.
      let x = home.0 in let st : Stage E = Holds y true (shows x) [] [] in let w = at_stage me.0 st in let out : List (maybe.Option (Option T)) = set s.homes 0 none in
      let is_out : out ≡ none ∷ [] = ap (λ (h : List (maybe.Option (Option T))). set h 0 none) home.1 in let b = staged.1 in (
        w,
        takes 0 (Some x),
        ap (λ (h : List (maybe.Option (Option T))). get_elem? h 0) home.1,
        record {
          next = r.next;
          serving = r.serving;
          top = r.top;
          shown = r.shown;
          tied = r.tied;
          words = ap (λ (l : List ℕ). set l 1 (get_or l 1 0)) r.words;
          order = r.order;
          small = r.small;
          top_near = r.top_near;
          each = each_set s.views id me.0 w at (Fits r.next r.serving r.top r.shown out r.tied)
              (λ j u other e. let f = r.each j u e in record { tie = f.tie; spent = f.spent; extends = f.extends; ended = f.ended; kept = f.kept; distinct = f.distinct; below = f.below; staged = not_held r.next r.serving r.top r.shown s.homes out (Some x) home.1 u.stage f.staged })
              record { tie = mine.tie; spent = λ none. absurd (omega arith); extends = mine.extends; ended = mine.ended; kept = mine.kept; distinct = mine.distinct; below = mine.below; staged = (y_is, omega arith, home.2, (λ _. home.3), is_out, record { rest = r.shown.entries; is = refl; foreign = foreign_to_none r.shown.entries }) };
          apart = apart_on shows tie s r id me.0 w at refl;
          turns = turns_mid shows tie s r id me.0 w at (λ k u v other e p q. let p' : v ≡ y = p in other (r.turns k id u me.0 e at t (subst (λ (n : ℕ). HasTicket n u.stage) (p' ∙ hit) q) has));
          place = inr (is_out, (id, w, y, true, shows x, [], [], set_here s.views id w (there s.views id me.0 at), refl));
          whole = whole' shows tie s r id me.0 w at refl refl;
          owners = owners' shows tie s r id me.0 w at refl refl;
          keepers = keepers' shows tie s r id me.0 w at refl refl;
        },
        λ u e. (
          (λ _. (x, refl, finds s r id me.0 y x at some_part (let c = home.3 in omega arith) home.2 home.4)),
          (λ miss. absurd (miss (hit ∙ same_ticket u e))),
        ),
      ) in
      ⊎_elim goes (λ o. absurd (not_out s r id me.0 t at waits (sym hit ∙ y_is) o.1)) r.place)
      (λ miss. (me.0, keeps, tt, again shows tie s r 1 id me.0 at, λ u e. ((λ hit. absurd (miss (hit ∙ sym (same_ticket u e)))), (λ _. refl))))
    where
      one_ticket : (t u : ℕ) → (let a : Stage E = Waits t in a ≡ Waits u) → t ≡ u
      one_ticket t u e = cc
