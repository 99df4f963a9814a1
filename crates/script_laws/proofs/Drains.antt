-- The drains that are posted until none is left are the same ones.
use Rattle.std.proofs.Common.{◌≡◌, ◌<◌, ℕ, zero, suc, List, ap, sym, ◌∙◌, refl, subst, true, false, Option, Some, None, inl, inr, arith}
use Rattle.std.specs.Prelude.{find, option_map}
use Rattle.std.specs.List.{list_any}
use Rattle.std.proofs.lemmas.Bool.{both_ways, cases_order}
use Rattle.std.proofs.Math.Nat.{eq-or-lt_of_le}
use Rattle.component_state.proofs.Apart.{any_from}
use Rattle.journal_core.specs.declared.entry.Entry.{Entry}
use Rattle.journal_core.specs.declared.entry.GateKey.{GateKey}
use Rattle.platform_hall.proofs.Desks.{same_view}
use Rattle.platform_hall.proofs.Settlings.{HasLegal}
use Rattle.platform_hall.proofs.Steps.{grown_legal}
use Rattle.platform_hall.specs.Cores.{CoreView}
use Rattle.platform_hall.specs.Platforms.{Drained, Posts, has_drain}
use Rattle.scr_laws.proofs.Listed.{found_was}
use Rattle.scr_world.specs.Calls.{Drains, next_drain, world_at}
use Rattle.scr_world.specs.Consequences.{gate_of}
use Rattle.scr_world.specs.Legal.{IsLegal, awaits_drain}
use Rattle.scr_world.specs.Steps.{history_of}
use Rattle.scr_world.specs.declared.instance.Instance.{Instance}
use Rattle.scr_world.specs.declared.step.Step.{Step}
use Rattle.scr_world.specs.declared.step.Step.TheVariants.{Drained as DrainedStep}
use Rattle.scr_world.specs.declared.world.World.{World}
use Rattle.script_laws.proofs.Entries.{grown_alike}
use Rattle.script_laws.proofs.Parts.{never_some, some_same}

-- where a drain is next, one is awaited
next_awaited : (w : World) (key : GateKey) → next_drain w ≡ Some key → list_any (awaits_drain w) w.instances ≡ true
next_awaited w key is = go (find (awaits_drain w) w.instances) refl is
  where
    go : (o : Option Instance) → find (awaits_drain w) w.instances ≡ o → option_map gate_of o ≡ Some key → list_any (awaits_drain w) w.instances ≡ true
    go None found next = absurd (never_some key next)
    go (Some i) found next = let there = found_was (awaits_drain w) w.instances i found in any_from (awaits_drain w) w.instances i there.0 there.1

-- the drain of one gate
drains_once : (limit : ℕ) (old : List (Entry Step)) (key : GateKey) (one other : List (Entry Step)) → IsLegal limit (history_of old) → Drains limit old key one → Drains limit old key other → one ≡ other
drains_once limit old key one other legal (i, found, grown) (j, found', grown') =
    let same : i ≡ j = some_same i j (sym found ∙ found') in
    grown_alike limit old (DrainedStep i.number) (DrainedStep j.number) one other legal (ap (λ (k : Instance). DrainedStep k.number) same) grown grown'

drained_legal : (limit count : ℕ) (old new : List (Entry Step)) → IsLegal limit (history_of old) → Drained limit count old new → IsLegal limit (history_of new)
drained_legal limit zero old new legal same = subst (λ (j : List (Entry Step)). IsLegal limit (history_of j)) (sym same) legal
drained_legal limit (suc count) old new legal (between, key, next, rest, (i, found, grown)) = grown_legal limit between new (DrainedStep i.number) (drained_legal limit count old between legal rest) grown

last_once : (limit : ℕ) (old : List (Entry Step)) (key key' : GateKey) (one other : List (Entry Step)) → IsLegal limit (history_of old) → next_drain (world_at old) ≡ Some key → next_drain (world_at old) ≡ Some key'
    → Drains limit old key one → Drains limit old key' other → one ≡ other
last_once limit old key key' one other legal next next' drains drains' =
    let same : key ≡ key' = some_same key key' (sym next ∙ next') in
    drains_once limit old key' one other legal (subst (λ (k : GateKey). Drains limit old k one) same drains) drains'

-- so many drains
drained_once : (limit count : ℕ) (old one other : List (Entry Step)) → IsLegal limit (history_of old) → Drained limit count old one → Drained limit count old other → one ≡ other
drained_once limit zero old one other legal same same' = same ∙ sym same'
drained_once limit (suc count) old one other legal (between, key, next, rest, drains) (between', key', next', rest', drains') =
    let same = drained_once limit count old between between' legal rest rest' in
    last_once limit between' key key' one other (drained_legal limit count old between' legal rest')
    (subst (λ (j : List (Entry Step)). next_drain (world_at j) ≡ Some key) same next) next'
    (subst (λ (j : List (Entry Step)). Drains limit j key one) same drains) drains'

-- behind fewer drains than were posted one more is next
drained_front : (limit few count : ℕ) (old new : List (Entry Step)) → few < count → Drained limit count old new
    → (between : List (Entry Step)) × (key : GateKey) × Drained limit few old between × (next_drain (world_at between) ≡ Some key)
drained_front limit few zero old new fewer drained = absurd (omega arith)
drained_front limit few (suc count) old new fewer (between, key, next, rest, drains) =
    let low = eq-or-lt_of_le {n = few} {m = count} (omega (arith, fewer)) in elim low [
      | inl same ↦ (between, key, subst (λ n. Drained limit n old between) (sym same) rest, next)
      | inr below ↦ drained_front limit few count old between below rest
    ]

none_left : (limit few count : ℕ) (old one other : List (Entry Step)) → IsLegal limit (history_of old) → few < count → Drained limit few old one → Drained limit count old other
    → list_any (awaits_drain (world_at one)) (world_at one).instances ≡ false → one ≡ other
none_left limit few count old one other legal fewer drained drained' none =
    let front = drained_front limit few count old other fewer drained' in
    let same = drained_once limit few old one front.0 legal drained front.2 in
    let next : next_drain (world_at one) ≡ Some front.1 = subst (λ (j : List (Entry Step)). next_drain (world_at j) ≡ Some front.1) (sym same) front.3 in
    absurd (both_ways (list_any (awaits_drain (world_at one)) (world_at one).instances) none (next_awaited (world_at one) front.1 next))

drained_whole : (limit count more : ℕ) (old one other : List (Entry Step)) → IsLegal limit (history_of old) → Drained limit count old one → Drained limit more old other
    → list_any (awaits_drain (world_at one)) (world_at one).instances ≡ false → list_any (awaits_drain (world_at other)) (world_at other).instances ≡ false → one ≡ other
drained_whole limit count more old one other legal drained drained' none none' = elim (cases_order count more) [
  | inl same ↦ drained_once limit more old one other legal (subst (λ n. Drained limit n old one) same drained) drained'
  | inr (inl fewer) ↦ none_left limit count more old one other legal fewer drained drained' none
  | inr (inr above) ↦ sym (none_left limit more count old other one legal above drained' drained none')
]

-- the drains that are due are posted until none is
pub posts_once : (before one other : CoreView) → HasLegal before → Posts before one → Posts before other → has_drain one ≡ false → has_drain other ≡ false → one ≡ other
posts_once before one other legal (same, count, drained) (same', more, drained') none none' =
    same_view one other (same ∙ sym same') (drained_whole before.limits.journal count more before.journal one.journal other.journal legal drained drained' none none')
