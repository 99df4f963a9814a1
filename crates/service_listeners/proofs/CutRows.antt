-- Cutting listeners back, and that it gives what was there before they were told more.
use Rattle.std.proofs.Common.{◌≡◌, ◌<◌, ℕ, zero, suc, List, [], ◌∷◌, ◌++◌, ap, sym, subst, ◌∙◌, refl, arith, length, get_or, take, drop}
use Rattle.std.proofs.Math.ListN.{set}
use Rattle.std.specs.Prelude.{map}
use Rattle.service_listeners.specs.declared.listener.Listener.{Listener}
use Rattle.service_listeners.specs.declared.listener.ServiceEvent.{ServiceEvent}
use Rattle.service_listeners.specs.Listening.{ListenerTable}
use Rattle.service_listeners.specs.Numbers.{AreNumbered}
use Rattle.service_listeners.specs.Saves.{HaveGrown, count_told, cut_to, saved_of, with_first}

-- one more is cut
pub cut_step : (rows : List Listener) (counts : List ℕ) (at next count : ℕ) (row cut : Listener) → next ≡ suc at → at < length rows → at < length counts → row ≡ get_or rows at row → count ≡ get_or counts at 0 → cut ≡ with_first count row
    → take next (set rows at cut) ++ cut_to (drop next (set rows at cut)) (drop next counts) ≡ take at rows ++ cut_to (drop at rows) (drop at counts)
cut_step [] counts at next count row cut n w v is counted made = absurd (omega (arith, w))
cut_step (r ∷ rs) [] at next count row cut n w v is counted made = absurd (omega (arith, v))
cut_step (r ∷ rs) (m ∷ ms) zero next count row cut n w v is counted made =
    ap (λ k. take k (cut ∷ rs) ++ cut_to (drop k (cut ∷ rs)) (drop k (m ∷ ms))) n ∙ ap (λ (l : Listener). l ∷ cut_to rs ms) (made ∙ ap (with_first count) is ∙ ap (λ k. with_first k r) counted)
cut_step (r ∷ rs) (m ∷ ms) (suc at) next count row cut n w v is counted made =
    ap (λ k. take k (r ∷ set rs at cut) ++ cut_to (drop k (r ∷ set rs at cut)) (drop k (m ∷ ms))) n
    ∙ ap (λ ls. r ∷ ls) (cut_step rs ms at (suc at) count row cut refl (omega (arith, w)) (omega (arith, v)) is counted made)

cut_none : (rows : List Listener) → cut_to rows [] ≡ []
cut_none [] = refl
cut_none (l ∷ ls) = refl

pub first_events : (more events : List ServiceEvent) → take (length events) (events ++ more) ≡ events
first_events [] [] = refl
first_events (e ∷ es) [] = refl
first_events more (e ∷ es) = ap (λ l. e ∷ l) (first_events more es)

-- those that were told more are cut to what they were
pub grown_cut : (was now : List Listener) → HaveGrown was now → cut_to now (map count_told was) ≡ was
grown_cut [] now grown = cut_none now
grown_cut (l ∷ ls) [] grown = absurd grown
grown_cut (l ∷ ls) (m ∷ ms) grown =
    ap (λ (k : Listener). with_first (count_told l) k ∷ cut_to ms (map count_told ls)) grown.0.1
    ∙ ap (λ (events : List ServiceEvent). let k : Listener = record l { events = events } in k ∷ cut_to ms (map count_told ls)) (first_events grown.0.0 l.events)
    ∙ ap (λ rest. l ∷ rest) (grown_cut ls ms grown.1)

-- only the first listeners are cut, as many as there are counts
pub cut_first : (rows : List Listener) (counts : List ℕ) → cut_to (take (length counts) rows) counts ≡ cut_to rows counts
cut_first [] [] = refl
cut_first [] (n ∷ ns) = refl
cut_first (l ∷ ls) [] = refl
cut_first (l ∷ ls) (n ∷ ns) = ap (λ rest. with_first n l ∷ rest) (cut_first ls ns)

pub goes_back : (before now : ListenerTable) → AreNumbered before.numbered before.rows → HaveGrown before.rows now.rows → AreNumbered (saved_of before).numbered (cut_to now.rows (saved_of before).told)
goes_back before now ok grown = subst (AreNumbered before.numbered) (sym (grown_cut before.rows now.rows grown)) ok
