-- Each move keeps the rule of the hub.
use Rattle.std.proofs.Common.{◌≡◌, ◌≢◌, ◌⊎◌, ℕ, zero, suc, ◌+◌, ◌-◌, ◌<◌, ◌≤◌, true, false, true≢false, List, [], ◌∷◌, ◌++◌, length, length-append, append_assoc, append-nil, set, eqb, if◌then◌else◌, refl, sym, ap, ◌∙◌, subst, ⊎_elim, arith}
use mathlib.Core.Option.{some, some-injective, some-ne-none}
use lib.ListN.{get_elem?}
use Rattle.atomic_table.proofs.Lists.{at_set, at_last}
use Rattle.crossbeam_queue.specs.Fifo.{Pushes, Pops, Forks, Merges, Learns, Held}
use Rattle.atomic_table.specs.Seated.{TableId}
use Rattle.event_admin.specs.Views.{PublisherView, publisher_of, hand_of, posted, IsFull, IsWhole}
use Rattle.event_admin.specs.declared.post.Post.{Post}
use Rattle.event_admin.specs.declared.rule.Placed.{Placed}
use Rattle.event_admin.specs.declared.rule.Hand.{Hand}
use Rattle.event_admin.specs.Hands.{placed, hand, times, times_in, once_below, count_of, Stand, AllRise, flat, first_hand, Posted, Took, Accounts, Knows, max_of, both, nobody, lists_of, taker, without_gets, one_less, newcomer, note}
use Rattle.event_admin.specs.Rule.{total, Fits, OneList}
use Rattle.event_admin.proofs.Places.{times_append, stand_longer, stand_append, rises_snoc, total_set, total_snoc, total_at, only_one, once_snoc, each_set, none_below, at_snoc_place, flat_append, rise_append, in_lists, max_under, once_unique, gets_both, gets_else}

pub begins : OneList [] (first_hand ∷ [])
begins = record {
  taken = [];
  reader = 0;
  whole = refl;
  once = λ k. none_below k;
  many = refl;
  each = λ port v at. first port v at;
}
  where
    fits : Fits [] [] 0 0 first_hand
    fits = record { stand = tt; stand_joined = tt; rises = tt; rises_joined = tt; spent = (λ none. absurd (omega arith)); gets = (λ _. (refl, refl)); told = omega arith; met = omega arith }

    first : (port : ℕ) (v : Hand) → get_elem? (first_hand ∷ []) port ≡ some v → Fits [] [] 0 port v
    first zero v at = subst (Fits [] [] 0 0) (some-injective first_hand v at) fits
    first (suc j) v at = absurd (some-ne-none v (sym at))

-- who has no part has no posts
none_in : (views : List Hand) (items : List Post) (r : OneList items views) (k : ℕ) (i : ℕ) (u : Hand) → get_elem? views i ≡ some u → u.parts ≡ 0 → times_in k u ≡ 0
none_in views items r k i u at none = let f = (r.each i u at).spent none in (λ j. times k (f.0 j) + times k (flat (f.1 j)))

none_count : (views : List Hand) (items : List Post) (r : OneList items views) (i : ℕ) (u : Hand) → get_elem? views i ≡ some u → u.parts ≡ 0 → count_of u ≡ 0
none_count views items r i u at none = let f = (r.each i u at).spent none in (λ j. length (f.0 j) + length (flat (f.1 j)))

pub learns : (port : ℕ) (v : Hand) → Learns OneList port v (Knows v)
learns port v items views r at = let f = r.each port v at in (
  r.taken,
  (λ g. sym (f.gets g).1),
  f.met,
  record {
    stand = f.stand;
    stand_joined = f.stand_joined;
    rises = f.rises;
    rises_joined = f.rises_joined;
    told = f.told;
    few = (let t = total_at (λ (u : Hand). u.parts) views port v at in let w = r.whole in omega arith);
    many = λ all. sym (only_one (λ (u : Hand). u.parts) count_of views port v (λ i u at' z. none_count views items r i u at' z) at (r.whole ∙ sym all)) ∙ r.many;
    once = λ all k. sym (only_one (λ (u : Hand). u.parts) (times_in k) views port v (λ i u at' z. none_in views items r k i u at' z) at (r.whole ∙ sym all)) ∙ r.once k;
  },
)

pub posts : (n port : ℕ) (v : Hand) (x : Post) → 0 < v.parts → Pushes OneList n port v x (Posted v x)
posts n port v x some_part items views room r at =
    let k : ℕ = length (r.taken ++ items) in
    let w : Hand = hand v.parts (v.mine ++ placed k x ∷ []) v.joined v.gets v.taken (k + 1) v.met in
    let f = r.each port v at in
    let longer : (r.taken ++ items) ++ x ∷ [] ≡ r.taken ++ (items ++ x ∷ []) = append_assoc r.taken items (x ∷ []) in
    let len : length (r.taken ++ (items ++ x ∷ [])) ≡ k + 1 = ap length (sym longer) ∙ length-append (r.taken ++ items) (x ∷ []) in
    let on : (xs : List Placed) → Stand (r.taken ++ items) xs → Stand (r.taken ++ (items ++ x ∷ [])) xs = λ xs s. subst (λ (l : List Post). Stand l xs) longer (stand_longer (r.taken ++ items) (x ∷ []) xs s) in (
      w,
      record {
        taken = r.taken;
        reader = r.reader;
        whole = (let t = total_set (λ (u : Hand). u.parts) views port v w at in let p = r.whole in omega arith);
        once = λ j. once j;
        many = (let t : total count_of (set views port w) + count_of v ≡ total count_of views + count_of w = total_set count_of views port v w at in
            let a : length (v.mine ++ placed k x ∷ []) ≡ length v.mine + 1 = length-append v.mine (placed k x ∷ []) in
            let n : ℕ = total count_of (set views port w) in let o : ℕ = total count_of views in let m : ℕ = length v.mine in let q : ℕ = length (flat v.joined) in let z : ℕ = length (v.mine ++ placed k x ∷ []) in
            let t' : n + (m + q) ≡ o + (z + q) = t in let a' : z ≡ m + 1 = a in let s : n ≡ o + 1 = omega arith in s ∙ ap (λ (y : ℕ). y + 1) r.many ∙ sym len);
        each = each_set (Fits r.taken (items ++ x ∷ []) r.reader) views port w
            record {
              stand = stand_append (r.taken ++ (items ++ x ∷ [])) v.mine (placed k x ∷ []) (on v.mine f.stand) (subst (λ (l : List Post). get_elem? l k ≡ some x) longer (at_last (r.taken ++ items) x k refl), tt);
              stand_joined = on (flat v.joined) f.stand_joined;
              rises = rises_snoc (r.taken ++ items) k x v.mine f.stand (omega arith) f.rises;
              rises_joined = f.rises_joined;
              spent = (λ none. absurd (omega arith));
              gets = f.gets;
              told = (let l = len in omega arith);
              met = f.met;
            }
            (λ j u _ e. let g = r.each j u e in record {
              stand = on u.mine g.stand;
              stand_joined = on (flat u.joined) g.stand_joined;
              rises = g.rises;
              rises_joined = g.rises_joined;
              spent = g.spent;
              gets = g.gets;
              told = (let l = len in let t = g.told in omega arith);
              met = g.met;
            });
      },
      (k, f.told, refl),
    )
  where
    w' : ℕ → Hand
    w' k = hand v.parts (v.mine ++ placed k x ∷ []) v.joined v.gets v.taken (k + 1) v.met

    once : (j : ℕ) → total (times_in j) (set views port (w' (length (r.taken ++ items)))) ≡ once_below j (length (r.taken ++ (items ++ x ∷ [])))
    once j = let k : ℕ = length (r.taken ++ items) in
        let t = total_set (times_in j) views port v (w' k) at in
        let a = times_append j v.mine (placed k x ∷ []) in
        let len : length (r.taken ++ (items ++ x ∷ [])) ≡ k + 1 = ap length (sym (append_assoc r.taken items (x ∷ []))) ∙ length-append (r.taken ++ items) (x ∷ []) in
        let n : ℕ = total (times_in j) (set views port (w' k)) in let o : ℕ = total (times_in j) views in
        let m : ℕ = times j v.mine in let l : ℕ = times j (flat v.joined) in let one : ℕ = if eqb j k then 1 else 0 in
        let a' : times j (v.mine ++ placed k x ∷ []) ≡ m + (one + 0) = a in
        let t' : n + (m + l) ≡ o + (times j (v.mine ++ placed k x ∷ []) + l) = t in
        let s : n ≡ o + one = omega arith in
        s ∙ ap (λ (q : ℕ). q + one) (r.once j) ∙ once_snoc j k ∙ ap (once_below j) (sym len)

pub takes : (port : ℕ) (v : Hand) → v.gets ≡ true → Pops OneList port v (Took v)
takes port v gets x items views r at =
    let w : Hand = hand v.parts v.mine v.joined v.gets (v.taken ++ x ∷ []) v.told v.met in
    let f = r.each port v at in
    let same : r.taken ++ x ∷ items ≡ (r.taken ++ x ∷ []) ++ items = sym (append_assoc r.taken (x ∷ []) items) in
    let on : (xs : List Placed) → Stand (r.taken ++ x ∷ items) xs → Stand ((r.taken ++ x ∷ []) ++ items) xs = λ xs s. subst (λ (l : List Post). Stand l xs) same s in
    let len : length ((r.taken ++ x ∷ []) ++ items) ≡ length (r.taken ++ x ∷ items) = ap length (sym same) in
    let more : length (r.taken ++ x ∷ []) ≡ length r.taken + 1 = length-append r.taken (x ∷ []) in (
      w,
      record {
        taken = r.taken ++ x ∷ [];
        reader = r.reader;
        whole = (let t = total_set (λ (u : Hand). u.parts) views port v w at in let p = r.whole in omega arith);
        once = λ j. (let t : total (times_in j) (set views port w) + times_in j v ≡ total (times_in j) views + times_in j w = total_set (times_in j) views port v w at in
            let n : ℕ = total (times_in j) (set views port w) in let o : ℕ = total (times_in j) views in let m : ℕ = times_in j v in let t' : n + m ≡ o + m = t in
            let s : n ≡ o = omega arith in s ∙ r.once j ∙ ap (once_below j) (sym len));
        many = (let t : total count_of (set views port w) + count_of v ≡ total count_of views + count_of w = total_set count_of views port v w at in
            let n : ℕ = total count_of (set views port w) in let o : ℕ = total count_of views in let m : ℕ = count_of v in let t' : n + m ≡ o + m = t in
            let s : n ≡ o = omega arith in s ∙ r.many ∙ sym len);
        each = each_set (Fits (r.taken ++ x ∷ []) items r.reader) views port w
            record {
              stand = on v.mine f.stand;
              stand_joined = on (flat v.joined) f.stand_joined;
              rises = f.rises;
              rises_joined = f.rises_joined;
              spent = f.spent;
              gets = (λ g. ((f.gets g).0, ap (λ l. l ++ x ∷ []) (f.gets g).1));
              told = (let l = len in let t = f.told in omega arith);
              met = (let t = f.met in omega arith);
            }
            (λ j u other e. let g = r.each j u e in record {
              stand = on u.mine g.stand;
              stand_joined = on (flat u.joined) g.stand_joined;
              rises = g.rises;
              rises_joined = g.rises_joined;
              spent = g.spent;
              gets = (λ p. absurd (other ((g.gets p).0 ∙ sym (f.gets gets).0)));
              told = (let l = len in let t = g.told in omega arith);
              met = (let t = g.met in omega arith);
            });
      },
      refl,
    )

-- a pass without posts is split off
pub cuts : (port : ℕ) (v : Hand) (p q told met : ℕ) → p + q ≡ v.parts → (p ≡ 0 → v.parts ≡ 0) → told ≤ v.told → ((taken : List Post) → (v.gets ≡ true → v.taken ≡ taken) → v.met ≤ length taken → met ≤ length taken)
    → Forks OneList port v (hand p v.mine v.joined v.gets v.taken v.told v.met) (hand q [] [] false [] told met)
cuts port v p q told met sum some_left less few items views r at =
    let a : Hand = hand p v.mine v.joined v.gets v.taken v.told v.met in let b : Hand = hand q [] [] false [] told met in
    let vs : List Hand = set views port a in let f = r.each port v at in record {
      taken = r.taken;
      reader = r.reader;
      whole = (let t = total_set (λ (u : Hand). u.parts) views port v a at in let s = total_snoc (λ (u : Hand). u.parts) vs b in let w = r.whole in omega arith);
      once = λ j. (let t : total (times_in j) vs + times_in j v ≡ total (times_in j) views + times_in j a = total_set (times_in j) views port v a at in
          let s : total (times_in j) (vs ++ b ∷ []) ≡ total (times_in j) vs + 0 = total_snoc (times_in j) vs b in
          let n : ℕ = total (times_in j) (vs ++ b ∷ []) in let l : ℕ = total (times_in j) vs in let o : ℕ = total (times_in j) views in let m : ℕ = times_in j v in
          let t' : l + m ≡ o + m = t in let s' : n ≡ l + 0 = s in let e : n ≡ o = omega arith in e ∙ r.once j);
      many = (let t : total count_of vs + count_of v ≡ total count_of views + count_of a = total_set count_of views port v a at in
          let s : total count_of (vs ++ b ∷ []) ≡ total count_of vs + 0 = total_snoc count_of vs b in
          let n : ℕ = total count_of (vs ++ b ∷ []) in let l : ℕ = total count_of vs in let o : ℕ = total count_of views in let m : ℕ = count_of v in
          let t' : l + m ≡ o + m = t in let s' : n ≡ l + 0 = s in let e : n ≡ o = omega arith in e ∙ r.many);
      each = λ j u e. ⊎_elim
          (λ x. each_set (Fits r.taken items r.reader) views port a
          record { stand = f.stand; stand_joined = f.stand_joined; rises = f.rises; rises_joined = f.rises_joined; spent = (λ none. f.spent (some_left none)); gets = f.gets; told = f.told; met = f.met }
          (λ k y _ g. r.each k y g) j u x)
          (λ x. subst (Fits r.taken items r.reader j) x.1
          record { stand = tt; stand_joined = tt; rises = tt; rises_joined = tt; spent = (λ _. (refl, refl)); gets = (λ g. absurd (true≢false (sym g))); told = (let t = f.told in omega arith); met = few r.taken (λ g. (f.gets g).1) f.met })
          (at_snoc_place vs b u j e);
    }

pub roles : (port : ℕ) (v : Hand) → v.gets ≡ true → 0 < v.parts → Forks OneList port v (without_gets v) (taker v)
roles port v gets some_part items views r at =
    let a : Hand = without_gets v in let b : Hand = taker v in
    let vs : List Hand = set views port a in let f = r.each port v at in record {
      taken = r.taken;
      reader = length vs;
      whole = (let t = total_set (λ (u : Hand). u.parts) views port v a at in let s = total_snoc (λ (u : Hand). u.parts) vs b in let w = r.whole in omega arith);
      once = λ j. (let t : total (times_in j) vs + times_in j v ≡ total (times_in j) views + times_in j a = total_set (times_in j) views port v a at in
          let s : total (times_in j) (vs ++ b ∷ []) ≡ total (times_in j) vs + 0 = total_snoc (times_in j) vs b in
          let n : ℕ = total (times_in j) (vs ++ b ∷ []) in let l : ℕ = total (times_in j) vs in let o : ℕ = total (times_in j) views in let m : ℕ = times_in j v in
          let t' : l + m ≡ o + m = t in let s' : n ≡ l + 0 = s in let e : n ≡ o = omega arith in e ∙ r.once j);
      many = (let t : total count_of vs + count_of v ≡ total count_of views + count_of a = total_set count_of views port v a at in
          let s : total count_of (vs ++ b ∷ []) ≡ total count_of vs + 0 = total_snoc count_of vs b in
          let n : ℕ = total count_of (vs ++ b ∷ []) in let l : ℕ = total count_of vs in let o : ℕ = total count_of views in let m : ℕ = count_of v in
          let t' : l + m ≡ o + m = t in let s' : n ≡ l + 0 = s in let e : n ≡ o = omega arith in e ∙ r.many);
      each = λ j u e. ⊎_elim
          (λ x. each_set (Fits r.taken items (length vs)) views port a
          record { stand = f.stand; stand_joined = f.stand_joined; rises = f.rises; rises_joined = f.rises_joined; spent = (λ none. absurd (omega arith)); gets = (λ g. absurd (true≢false (sym g))); told = f.told; met = f.met }
          (λ k y other g. let h = r.each k y g in record { stand = h.stand; stand_joined = h.stand_joined; rises = h.rises; rises_joined = h.rises_joined; spent = h.spent; gets = (λ p. absurd (other ((h.gets p).0 ∙ sym (f.gets gets).0))); told = h.told; met = h.met }) j u x)
          (λ x. subst (Fits r.taken items (length vs) j) x.1
          record { stand = tt; stand_joined = tt; rises = tt; rises_joined = tt; spent = (λ _. (refl, refl)); gets = (λ g. (x.0, (f.gets gets).1)); told = f.told; met = f.met })
          (at_snoc_place vs b u j e);
    }

pub merges : (port : ℕ) (v : Hand) (other : ℕ) (u : Hand) → Merges OneList port v other u (both v u) nobody
merges port v other u items views r at two at' =
    let a : Hand = both v u in let b : Hand = nobody in
    let vs : List Hand = set views port a in
    let was : get_elem? views other ≡ some u = ⊎_elim (λ x. absurd (two x.0)) (λ x. x.1) (at_set views port other a u at') in
    let f = r.each port v at in let g = r.each other u was in
    let reader : ℕ = if u.gets then port else r.reader in
    let whole : List Post = r.taken ++ items in
    let times_lists : (j : ℕ) → times j (flat (lists_of u)) ≡ times_in j u = λ j. in_lists u (λ l. times j (flat l) ≡ times_in j u) (λ _. times_append j u.mine (flat u.joined)) (λ none. sym (none_in views items r j other u was none)) in
    let stand_lists : Stand whole (flat (lists_of u)) = in_lists u (λ l. Stand whole (flat l)) (λ _. stand_append whole u.mine (flat u.joined) g.stand g.stand_joined) (λ _. tt) in
    let rise_lists : AllRise (lists_of u) = in_lists u AllRise (λ _. (g.rises, g.rises_joined)) (λ _. tt) in
    let none_lists : u.parts ≡ 0 → lists_of u ≡ [] = λ z. in_lists u (λ l. l ≡ []) (λ p. absurd (omega arith)) (λ _. refl) in
    record {
      taken = r.taken;
      reader = reader;
      whole = (let t = total_set (λ (y : Hand). y.parts) views port v a at in let s = total_set (λ (y : Hand). y.parts) vs other u b at' in let w = r.whole in omega arith);
      once = λ j. (let t : total (times_in j) vs + times_in j v ≡ total (times_in j) views + times_in j a = total_set (times_in j) views port v a at in
          let s : total (times_in j) (set vs other b) + times_in j u ≡ total (times_in j) vs + 0 = total_set (times_in j) vs other u b at' in
          let c : times j (flat (v.joined ++ lists_of u)) ≡ times j (flat v.joined) + times_in j u = ap (times j) (flat_append v.joined (lists_of u)) ∙ times_append j (flat v.joined) (flat (lists_of u)) ∙ ap (λ (q : ℕ). times j (flat v.joined) + q) (times_lists j) in
          let n : ℕ = total (times_in j) (set vs other b) in let l : ℕ = total (times_in j) vs in let o : ℕ = total (times_in j) views in
          let m : ℕ = times j v.mine in let k : ℕ = times j (flat v.joined) in let y : ℕ = times_in j u in let z : ℕ = times j (flat (v.joined ++ lists_of u)) in
          let t' : l + (m + k) ≡ o + (m + z) = t in let s' : n + y ≡ l + 0 = s in let c' : z ≡ k + y = c in let e : n ≡ o = omega arith in e ∙ r.once j);
      many = (let t : total count_of vs + count_of v ≡ total count_of views + count_of a = total_set count_of views port v a at in
          let s : total count_of (set vs other b) + count_of u ≡ total count_of vs + 0 = total_set count_of vs other u b at' in
          let c1 : length (flat (v.joined ++ lists_of u)) ≡ length (flat v.joined ++ flat (lists_of u)) = ap (λ (l : List Placed). length l) (flat_append v.joined (lists_of u)) in
          let c2 : length (flat v.joined ++ flat (lists_of u)) ≡ length (flat v.joined) + length (flat (lists_of u)) = length-append (flat v.joined) (flat (lists_of u)) in
          let c3 : length (flat (lists_of u)) ≡ count_of u = in_lists u (λ l. length (flat l) ≡ count_of u) (λ _. length-append u.mine (flat u.joined)) (λ none. sym (none_count views items r other u was none)) in
          let n : ℕ = total count_of (set vs other b) in let l : ℕ = total count_of vs in let o : ℕ = total count_of views in
          let m : ℕ = length v.mine in let k : ℕ = length (flat v.joined) in let y : ℕ = count_of u in let z : ℕ = length (flat (v.joined ++ lists_of u)) in let z2 : ℕ = length (flat v.joined ++ flat (lists_of u)) in let g3 : ℕ = length (flat (lists_of u)) in
          let t' : l + (m + k) ≡ o + (m + z) = t in let s' : n + y ≡ l + 0 = s in let d1 : z ≡ z2 = c1 in let d2 : z2 ≡ k + g3 = c2 in let d3 : g3 ≡ y = c3 in let e : n ≡ o = omega arith in e ∙ r.many);
      each = each_set (Fits r.taken items reader) vs other b
          record { stand = tt; stand_joined = tt; rises = tt; rises_joined = tt; spent = (λ _. (refl, refl)); gets = (λ p. absurd (true≢false (sym p))); told = omega arith; met = omega arith }
          (λ j y apart e. ⊎_elim
          (λ (x : (j ≡ port) × (a ≡ y)). subst (λ (z : ℕ × Hand). Fits r.taken items reader z.0 z.1) (λ i. (sym x.0 i, x.1 i))
          record {
            stand = f.stand;
            stand_joined = subst (Stand whole) (sym (flat_append v.joined (lists_of u))) (stand_append whole (flat v.joined) (flat (lists_of u)) f.stand_joined stand_lists);
            rises = f.rises;
            rises_joined = rise_append v.joined (lists_of u) f.rises_joined rise_lists;
            spent = (λ none. (let fs = f.spent (omega arith) in (fs.0, (λ i. fs.1 i ++ none_lists (omega arith) i))));
            gets = gets_both v.gets u.gets port other r.reader v.taken u.taken r.taken two f.gets g.gets;
            told = max_under v.told u.told (length whole) f.told g.told;
            met = max_under v.met u.met (length r.taken) f.met g.met;
          })
          (λ (x : (j ≢ port) × (get_elem? views j ≡ some y)). let h = r.each j y x.1 in record {
            stand = h.stand;
            stand_joined = h.stand_joined;
            rises = h.rises;
            rises_joined = h.rises_joined;
            spent = h.spent;
            gets = (λ p. (gets_else u.gets port other r.reader j apart (λ q. (g.gets q).0) (h.gets p).0, (h.gets p).1));
            told = h.told;
            met = h.met;
          })
          (at_set views port j a y e));
    }

-- the same list is known by its length
pub same_length : (v w : Hand) (a b : List Post) → ((k : ℕ) → times_in k v ≡ times_in k w) → v.parts ≡ 64 → w.parts ≡ 64 → Accounts v a → Accounts w b → length a ≡ length b
same_length v w a b same all all' h g = once_unique (length a) (length b) (λ k. sym (h.once all k) ∙ same k ∙ g.once all' k)

pub cut_off : (port : ℕ) (v : Hand) → 1 < v.parts → Forks OneList port v (one_less v) (newcomer v)
cut_off port v two = cuts port v (v.parts - 1) 1 v.told v.met (omega arith) (λ none. absurd (omega arith)) (omega arith) (λ taken same h. h)

pub notes : (port : ℕ) (v : Hand) → (v.gets ≡ true) ⊎ (v.taken ≡ []) → Forks OneList port v v (note v)
notes port v known = cuts port v v.parts 0 v.told (max_of v.met (length v.taken)) (omega arith) (λ none. none) (omega arith)
    (λ taken same h. max_under v.met (length v.taken) (length taken) h (⊎_elim (λ g. let e : length v.taken ≡ length taken = ap length (same g) in omega arith) (λ n. let e : length v.taken ≡ 0 = ap length n in omega arith) known))

pub told_ok : (p : PublisherView) (t t' : TableId) (spare : ℕ) (v w : Hand) (x : Post) → publisher_of t spare v ≡ p → t' ≡ t → Posted v x w → (k : ℕ) × (p.told ≤ k) × (publisher_of t' spare w ≡ posted p k x)
told_ok p t t' spare v w x is same h = subst (λ (q : PublisherView). (k : ℕ) × (q.told ≤ k) × (publisher_of t' spare w ≡ posted q k x)) is (h.0, h.1, λ i. publisher_of (same i) spare (h.2 i))

pub told_err : (p : PublisherView) (t t' : TableId) (spare : ℕ) (v w : Hand) (room places : ℕ) → publisher_of t spare v ≡ p → t' ≡ t → v ≡ hand_of (publisher_of t spare v) → room ≡ places → w ≡ v → Held room (Knows v)
    → (publisher_of t' spare w ≡ p) × IsFull places p
told_err p t t' spare v w room places is same form size unchanged h = let e : v ≡ hand_of p = form ∙ ap hand_of is in
    ((λ i. publisher_of (same i) spare (unchanged i)) ∙ is, (h.0, h.1 ∙ size, subst (λ (u : Hand). Knows u h.0) e h.2))

-- what a pass knows after it took these posts
abbrev pub went : Hand → List Post → Hand
went v left = hand v.parts v.mine v.joined v.gets (v.taken ++ left) v.told v.met

accounts_back : (v : Hand) (left whole : List Post) → Accounts (went v left) whole → Accounts v whole
accounts_back v left whole h = record { stand = h.stand; stand_joined = h.stand_joined; rises = h.rises; rises_joined = h.rises_joined; told = h.told; few = h.few; many = h.many; once = h.once }

nothing : (l : List Post) → length l ≡ 0 → l ≡ []
nothing [] e = refl
nothing (x ∷ xs) e = absurd (omega arith)

pub knows_left : (v : Hand) (left items : List Post) → items ≡ [] → v.gets ≡ true → Knows (went v left) items → Accounts v (v.taken ++ left)
knows_left v left items none gets h = subst (Accounts v) ((λ i. h.1 gets i ++ none i) ∙ append-nil (v.taken ++ left)) (accounts_back v left (h.0 ++ items) h.3)

pub ends_counted : (v u : Hand) (left : List Post) (n : ℕ) → u ≡ went v left → length left ≡ n → v.gets ≡ true → v.parts ≡ 64 → Held n (Knows v) → (items : List Post) × Knows u items → Accounts v (v.taken ++ left)
ends_counted v u left n is size gets all before after =
    let k : Knows (went v left) after.0 = subst (λ (y : Hand). Knows y after.0) is after.1 in
    let e = same_length v (went v left) (before.2.0 ++ before.0) (k.0 ++ after.0) (λ j. refl) all all before.2.3 k.3 in
    let a : length (before.2.0 ++ before.0) ≡ length v.taken + length before.0 = length-append before.2.0 before.0 ∙ ap (λ (l : List Post). length l + length before.0) (before.2.1 gets) in
    let b : length (k.0 ++ after.0) ≡ (length v.taken + length left) + length after.0 = length-append k.0 after.0 ∙ ap (λ (l : List Post). length l + length after.0) (k.1 gets) ∙ ap (λ (m : ℕ). m + length after.0) (length-append v.taken left) in
    let s = before.1 in
    knows_left v left after.0 (nothing after.0 (omega arith)) gets k

-- an only publisher is refused only where its posts are as many as the places and what it knows was taken
pub full_only : (places : ℕ) (p : PublisherView) → p.spare ≡ 63 → IsFull places p → p.met + places ≤ length p.mine + length (flat p.joined)
full_only places p all h = let a = h.2.3.many (omega arith) in let s = h.1 in let m = h.2.2 in let l = length-append h.2.0 h.0 in
    let c : ℕ = length p.mine + length (flat p.joined) in let a' : c ≡ length (h.2.0 ++ h.0) = a in omega arith

-- to an only publisher what is left is true to all that was posted
pub whole_of : (p : PublisherView) (whole : List Post) → p.spare ≡ 63 → Accounts (hand_of p) whole → IsWhole p whole
whole_of p whole only a =
    let all : p.spare + 1 ≡ 64 = omega arith in
    record { stand = a.stand; stand_joined = a.stand_joined; rises = a.rises; rises_joined = a.rises_joined; many = a.many all; once = a.once all }

pub told_only : (p : PublisherView) (t t' : TableId) (spare : ℕ) (v w : Hand) (room places : ℕ) → publisher_of t spare v ≡ p → t' ≡ t → v ≡ hand_of (publisher_of t spare v) → room ≡ places → w ≡ v → Held room (Knows v)
    → p.spare ≡ 63 → p.met + places ≤ length p.mine + length (flat p.joined)
told_only p t t' spare v w room places is same form size unchanged h only = full_only places p only (told_err p t t' spare v w room places is same form size unchanged h).1
