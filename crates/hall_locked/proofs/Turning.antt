-- What the value under the lock keeps stays as its journal says where turns begin and end.
use Rattle.std.proofs.Common.{◌≡◌, ℕ, ◌+◌, List, [], ◌∷◌, ◌++◌, length, ap, sym, ◌∙◌, refl, subst, cond, Bool, true, false, ◌&&◌, ◌||◌, inl, inr, Option, Some, None, Result, Ok, Err, arith}
use Rattle.std.specs.Prelude.{◌==◌, is_some, map, not}
use Rattle.std.specs.List.{Contains, count_by}
use Rattle.std.proofs.lemmas.Bool.{both_ways, cases_eq, eq-eqb, eqb-true, ne_eqb, or_parts}
use Rattle.callback_orders.specs.declared.callback.Outcome.{Outcome}
use Rattle.callback_orders.specs.Grammar.{is_create, is_destroy}
use Rattle.component_state.proofs.Apart.{in_cases, in_either, in_none, in_rest, kept_was}
use Rattle.hall_locked.specs.declared.part.Part.{Part}
use Rattle.front_lock.specs.Keepings.{kept_under}
use Rattle.hall_locked.specs.OwnedCores.{AppendsOwned, IsOwned, IsSiteOf, OwnedView, parts_of, site_told, turns_owned}
use Rattle.hall_locked.specs.Owned.{as_kept, owners_up_to, turn_numbers, without_turn}
use Rattle.hall_locked.specs.Parts.{ArePartsLeft, ArePartsWith, has_begun, parts_begun, parts_but, parts_by, parts_told, with_begun}
use Rattle.hall_locked.proofs.Appends.{GrowsByOne, appends_for, appends_none, as_many, grown_by_one}
use Rattle.hall_locked.proofs.Counts.{count_mapped, left_none, left_same, one_more, same_count}
use Rattle.hall_locked.proofs.Sites.{SitesStay}
use Rattle.hall_locked.proofs.Told.{ended_sites, next_sites, site_of_work, tells_site}
use Rattle.platform_hall.specs.Desks.{tokens_of}
use Rattle.platform_hall.specs.Platforms.{Begins, BeginsTurn, Ends, has_object, running, world}
use Rattle.platform_hall.proofs.Desks.{running_fits, running_under_way, same_view}
use Rattle.platform_hall.proofs.Settlings.{HasLegal, begins_as, begins_legal}
use Rattle.platform_hall.proofs.Starts.{runs_as}
use Rattle.platform_hall.proofs.Steps.{grown_after}
use Rattle.platform_hall.proofs.Stops.{object_after, stops_it, stops_objects, stops_others}
use Rattle.platform_hall.proofs.Taking.{full_step, idle_step}
use Rattle.platform_hall.proofs.Turns.{AreTold, one_turn, turns_legal}
use Rattle.prop_map.specs.Words.{one_if}
use Rattle.scr_core.specs.Cores.{CoreView}
use Rattle.scr_laws.proofs.InstanceLemmas.{mapped_was}
use Rattle.scr_world.specs.Calls.{FindsNoRoom, IsIdle}
use Rattle.scr_world.specs.Instances.{has_turn}
use Rattle.scr_world.specs.Legal.{is_under_way}
use Rattle.scr_world.specs.Steps.{history_of}
use Rattle.scr_world.specs.declared.instance.Instance.{Instance}
use Rattle.scr_world.specs.declared.reply.CoreFault.{CoreFault}
use Rattle.scr_world.specs.declared.reply.CoreFault.TheVariants.{JournalFull, OutOfMemory}
use Rattle.scr_world.specs.declared.step.Step.TheVariants.{End}
use Rattle.turn_runner.specs.Outcomes.{makes_object}
use Rattle.turn_work.specs.declared.work.TurnWork.{TurnWork}

-- ---- tokens

abbrev number_of : ℕ × ℕ → ℕ
number_of t = t.1

counted : (turns : List (ℕ × ℕ)) (n : ℕ) → tokens_of (turn_numbers turns) n ≡ count_by (λ (t : ℕ × ℕ). t.1 == n) turns
counted turns n = count_mapped number_of turns n

tokens_more : (turns : List (ℕ × ℕ)) (owner new n : ℕ) → tokens_of (turn_numbers (turns ++ (owner, new) ∷ [])) n ≡ tokens_of (turn_numbers turns) n + one_if (new == n)
tokens_more turns owner new n =
    counted (turns ++ (owner, new) ∷ []) n ∙ one_more number_of turns (owner, new) n ∙ ap (λ k. k + one_if (new == n)) (sym (counted turns n))

one_of_two : (a b : Bool) → (b ≡ true → a ≡ false) → one_if a + one_if b ≡ one_if (a || b)
one_of_two true true apart = let both : true ≡ false = apart refl in cc
one_of_two true false apart = refl
one_of_two false true apart = refl
one_of_two false false apart = refl

-- ---- a turn that begins

-- a journal that a turn's beginning made longer
pub begins_grows : (before after : CoreView) (work : TurnWork) → Begins before work after → GrowsByOne before.journal after.journal
begins_grows before after work (limits, number, (step, is, named, grown)) = grown_by_one before.limits.journal before.journal after.journal step grown

-- what the beginning of a turn leaves
pub record HasBegun {O : Type 0} (owner turn : ℕ) (before after : OwnedView O) : Type 0 where
  pub locked : IsOwned after
  pub appends : AppendsOwned owner before after
  pub answer : BeginsTurn before.core (Ok (Some turn)) after.core
  pub turns : after.turns ≡ with_begun owner (Ok (Some turn)) before.turns
  pub parts : after.parts ≡ parts_begun after.core (Ok (Some turn)) before.parts

module _ {O : Type 0} (before : OwnedView O) (core : CoreView) (work : TurnWork) (legal : HasLegal before.core) (locked : IsOwned before) (begins : Begins before.core work core) where
  abbrev told : Part O → Part O
  told p = cond (p.instance == work.instance) (record p { site = work.site }) p

  told_instance : (p : Part O) → (told p).instance ≡ p.instance
  told_instance p = elim (p.instance == work.instance) as (λ b. (cond b (record p { site = work.site }) p).instance ≡ p.instance) [ true ↦ refl | false ↦ refl ]

  now_told : AreTold (world core)
  now_told = turns_legal core.limits.journal (history_of core.journal) (begins_legal before.core core work legal begins)

  -- who was told in this turn has its number
  its_number : (i : Instance) → Contains (world core).instances i → has_turn work.number i ≡ true → i.number ≡ work.instance
  its_number i h its =
      let tells = tells_site (world core) work.number work (begins_as before.core core work legal begins).running in
      ap (λ (x : Instance). x.number) (one_turn (world core) now_told work.number i tells.one (in_rest (world core).whiteboard (world core).instances i h) tells.there its tells.its) ∙ tells.instance

  other_site : (p : Part O) → Contains before.parts p → (p.instance == work.instance) ≡ false → IsSiteOf (world core) p
  other_site p h other i there number = go begins
    where
      differs : has_turn work.number i ≡ true → p.site ≡ site_told (world core) i
      differs its = absurd (both_ways (p.instance == work.instance) other (eq-eqb p.instance work.instance (sym number ∙ its_number i there its)))

      go : Begins before.core work core → p.site ≡ site_told (world core) i
      go (limits, next, (step, is, named, grown)) = elim (next_sites before.core.limits.journal before.core.journal core.journal step work.number legal is next grown i there) [
        | inl its ↦ differs its
        | inr was ↦ locked.sites p h was.one was.there (was.number ∙ number) ∙ sym was.site
      ]

  site_then : (p : Part O) → Contains before.parts p → (b : Bool) → (p.instance == work.instance) ≡ b → IsSiteOf (world core) (cond b (record p { site = work.site }) p)
  site_then p h true here i there number =
      site_of_work (world core) now_told work.number work (begins_as before.core core work legal begins).running i there (number ∙ eqb-true p.instance work.instance here)
  site_then p h false other i there number = other_site p h other i there number

  begun_sites : (part : Part O) → Contains (map told before.parts) part → IsSiteOf (world core) part
  begun_sites part h =
      let was = mapped_was told before.parts part h in
      subst (λ (x : Part O). IsSiteOf (world core) x) was.2 (site_then was.0 was.1 (was.0.instance == work.instance) refl)

  begun_owned : (owner : ℕ) (owners : List ℕ) → length owners ≡ length core.journal → IsOwned (record { core = core; owners = owners; turns = before.turns ++ (owner, work.number) ∷ []; parts = map told before.parts })
  begun_owned owner owners many =
      let is = begins_as before.core core work legal begins in
      record {
        owners = many;
        tokens = λ n.
            tokens_more before.turns owner work.number n
            ∙ ap (λ k. k + one_if (work.number == n)) (locked.tokens n)
            ∙ one_of_two (is_under_way (world before.core) n) (work.number == n) (λ same. ap (is_under_way (world before.core)) (sym (eqb-true work.number n same)) ∙ is.fresh)
            ∙ ap one_if (sym (is.under_way n));
        parts = λ n. same_count (λ (p : Part O). p.instance) told told_instance before.parts n ∙ locked.parts n ∙ ap one_if (sym (is.objects n));
        sites = begun_sites;
      }

  begun_right : (owner : ℕ) (owners : List ℕ) → owners ≡ owners_up_to (length core.journal) owner before.owners
      → HasBegun owner work.number before (record { core = core; owners = owners; turns = before.turns ++ (owner, work.number) ∷ []; parts = map told before.parts })
  begun_right owner owners named =
      let is = begins_as before.core core work legal begins in
      let grows = begins_grows before.core core work begins in
      record {
        locked = begun_owned owner owners (ap length named ∙ as_many owner before.core.journal core.journal before.owners locked.owners grows);
        appends = appends_for owner before _ locked.owners named grows;
        answer = (work, refl, begins, is.running);
        turns = refl;
        parts = ap (λ (o : Option TurnWork). parts_by o before.parts) (sym is.running);
      }

  -- however its tokens and its parts came to be these
  pub began : (owner : ℕ) (owners : List ℕ) (turns : List (ℕ × ℕ)) (parts : List (Part O)) → owners ≡ owners_up_to (length core.journal) owner before.owners → turns ≡ before.turns ++ (owner, work.number) ∷ []
      → parts ≡ parts_told work.instance work.site before.parts → HasBegun owner work.number before (record { core = core; owners = owners; turns = turns; parts = parts })
  began owner owners turns parts named more told_so =
      subst (λ (ts : List (ℕ × ℕ)). HasBegun owner work.number before (record { core = core; owners = owners; turns = ts; parts = parts })) (sym more)
      (subst (λ (ps : List (Part O)). HasBegun owner work.number before (record { core = core; owners = owners; turns = before.turns ++ (owner, work.number) ∷ []; parts = ps })) (sym told_so)
      (begun_right owner owners named))

-- ---- a turn that ends

pub ends_grows : (before after : CoreView) (turn : ℕ) (outcome : Outcome) → Ends before turn outcome after → GrowsByOne before.journal after.journal
ends_grows before after turn outcome ends = grown_by_one before.limits.journal before.journal after.journal (End turn outcome) ends.1

-- the parts are counted as the objects are
counts_kept : (b m here : Bool) → (here ≡ true → m ≡ true → b ≡ false) → one_if b + one_if (m && here) ≡ one_if ((b || (m && here)) && not (false && here))
counts_kept true true true apart = let both : true ≡ false = apart refl refl in cc
counts_kept false true true apart = refl
counts_kept true false true apart = refl
counts_kept false false true apart = refl
counts_kept true true false apart = refl
counts_kept false true false apart = refl
counts_kept true false false apart = refl
counts_kept false false false apart = refl

and_none : (b : Bool) → (b && false) ≡ false
and_none true = refl
and_none false = refl

all_gone : (b m d here : Bool) → d ≡ true → here ≡ true → false ≡ ((b || (m && here)) && not (d && here))
all_gone b m true true is here = sym (and_none (b || (m && true)))
all_gone b m true false is here = cc
all_gone b m false here is same = cc

kept_other : (b m d here : Bool) → here ≡ false → one_if b + one_if (m && here) ≡ one_if ((b || (m && here)) && not (d && here))
kept_other b m d true other = cc
kept_other true true true false other = refl
kept_other false true true false other = refl
kept_other true false true false other = refl
kept_other false false true false other = refl
kept_other true true false false other = refl
kept_other false true false false other = refl
kept_other true false false false other = refl
kept_other false false false false other = refl

never_made : (board create done : Bool) → (not board && (create && done)) ≡ true → not (board || create) ≡ false
never_made true create done is = cc
never_made false true done is = refl
never_made false false done is = cc

-- what is kept under other numbers stays
other_turn : (a : Bool) → (a && true) ≡ false → a ≡ false
other_turn true is = is
other_turn false is = refl

pub others_kept : (n turn : ℕ) (turns : List (ℕ × ℕ)) → has_begun n turn turns ≡ false → kept_under n (map as_kept (without_turn turn turns)) ≡ kept_under n (map as_kept turns)
others_kept n turn [] none = refl
others_kept n turn (t ∷ ts) none =
    let parts = or_parts ((t.0 == n) && (t.1 == turn)) (has_begun n turn ts) none in
    go (t.1 == turn) parts.0 (others_kept n turn ts parts.1)
  where
    go : (b : Bool) → ((t.0 == n) && b) ≡ false → kept_under n (map as_kept (without_turn turn ts)) ≡ kept_under n (map as_kept ts)
        → kept_under n (map as_kept (cond (not b) (t ∷ without_turn turn ts) (without_turn turn ts))) ≡ kept_under n (map as_kept (t ∷ ts))
    go true other rest =
        let differ : (t.0 == n) ≡ false = other_turn (t.0 == n) other in
        rest ∙ sym (ap (λ b. cond b (as_kept t ∷ kept_under n (map as_kept ts)) (kept_under n (map as_kept ts))) (ne_eqb n t.0 (λ e. both_ways (t.0 == n) differ (eq-eqb t.0 n (sym e)))))
    go false other rest = ap (λ (l : List (ℕ × ℕ)). cond (n == t.0) (as_kept t ∷ l) l) rest

-- what the end of a turn leaves
pub record HasEnded {O A : Type 0} (shared : A → O) (owner turn : ℕ) (outcome : Outcome) (made : Option A) (before after : OwnedView O) : Type 0 where
  pub locked : IsOwned after
  pub appends : AppendsOwned owner before after
  pub ended : Ends before.core turn outcome after.core
  pub turns : after.turns ≡ without_turn turn before.turns
  pub others : (n : ℕ) → has_begun n turn before.turns ≡ false → kept_under n (turns_owned after) ≡ kept_under n (turns_owned before)
  pub parts : ArePartsLeft shared (running before.core turn) made before.parts after.parts

module _ {O A : Type 0} (shared : A → O) (before : OwnedView O) (core : CoreView) (turn : ℕ) (outcome : Outcome) (work : TurnWork) (made : Option A) (legal : HasLegal before.core) (locked : IsOwned before)
    (is : running before.core turn ≡ Some work) (ends : Ends before.core turn outcome core) (makes : is_some made ≡ makes_object work outcome) where
  are : AreTold (world before.core)
  are = turns_legal before.core.limits.journal (history_of before.core.journal) legal

  abbrev had : ℕ → Bool
  had n = has_object before.core n

  -- ---- tokens

  ended_tokens : (n : ℕ) → tokens_of (turn_numbers (without_turn turn before.turns)) n ≡ one_if (is_under_way (world core) n)
  ended_tokens n =
      let grew = grown_after before.core.limits.journal before.core.journal core.journal (End turn outcome) ends.1 in
      let runs = runs_as (world before.core) turn work is in
      counted (without_turn turn before.turns) n ∙ elim (cases_eq turn n) [
        | inl same ↦
            subst (λ m. count_by (λ (t : ℕ × ℕ). t.1 == m) (without_turn turn before.turns) ≡ 0) same (left_none number_of turn before.turns)
            ∙ sym (ap one_if (ap (is_under_way (world core)) (sym same) ∙ stops_it (world before.core) (world core) are turn outcome grew work runs))
        | inr differ ↦
            left_same number_of turn n differ before.turns
            ∙ sym (counted before.turns n)
            ∙ locked.tokens n
            ∙ ap one_if (sym (stops_others (world before.core) (world core) are turn outcome grew work runs n differ))
      ]

  -- ---- parts, one more where one was made

  with_count : (all : List (Part O)) → ArePartsWith shared work made before.parts all → (n : ℕ) → parts_of all n ≡ parts_of before.parts n + one_if (is_some made && (work.instance == n))
  with_count all parts n = go made parts
    where
      go : (m : Option A) → ArePartsWith shared work m before.parts all → parts_of all n ≡ parts_of before.parts n + one_if (is_some m && (work.instance == n))
      go None same = let alike = ap (λ (ps : List (Part O)). parts_of ps n) same in omega (arith, alike)
      go (Some one) (part, its, grew) =
          ap (λ (ps : List (Part O)). parts_of ps n) grew
          ∙ one_more (λ (p : Part O). p.instance) before.parts part n
          ∙ ap (λ k. parts_of before.parts n + one_if (k == n)) its.instance

  with_sites : (all : List (Part O)) → ArePartsWith shared work made before.parts all → (part : Part O) → Contains all part → IsSiteOf (world core) part
  with_sites all parts part h i there number = go made parts
    where
      was : SitesStay (world before.core) (world core)
      was = ended_sites before.core.limits.journal before.core.journal core.journal turn outcome legal ends.1

      old : Contains before.parts part → part.site ≡ site_told (world core) i
      old k = let it = was i there in locked.sites part k it.one it.there (it.number ∙ number) ∙ sym it.site

      new : part.instance ≡ work.instance → part.site ≡ work.site → part.site ≡ site_told (world core) i
      new instance site =
          let it = was i there in
          site ∙ site_of_work (world before.core) are turn work is it.one it.there (it.number ∙ number ∙ instance) ∙ sym it.site

      go : (m : Option A) → ArePartsWith shared work m before.parts all → part.site ≡ site_told (world core) i
      go None same = old (subst (λ (ps : List (Part O)). Contains ps part) same h)
      go (Some one) (last, its, grew) = elim (in_either before.parts (last ∷ []) part (subst (λ (ps : List (Part O)). Contains ps part) grew h)) [
        | inl earlier ↦ old earlier
        | inr added ↦ elim (in_cases last [] part added) [
          | inl same ↦ new (ap (λ (p : Part O). p.instance) (sym same) ∙ its.instance) (ap (λ (p : Part O). p.site) (sym same) ∙ its.site)
          | inr none ↦ absurd (in_none part none)
        ]
      ]

  -- an instance that is made had no object
  fresh_object : (n : ℕ) → (work.instance == n) ≡ true → is_some made ≡ true → had n ≡ false
  fresh_object n here some =
      ap had (sym (eqb-true work.instance n here))
      ∙ running_fits before.core turn work legal is
      ∙ never_made (work.instance == 0) (is_create work.callback) _ (sym makes ∙ some)

  object_then : (n : ℕ) → one_if (object_after work outcome had n) ≡ one_if (has_object core n)
  object_then n =
      ap one_if (sym (stops_objects (world before.core) (world core) are turn outcome (grown_after before.core.limits.journal before.core.journal core.journal (End turn outcome) ends.1) work (runs_as (world before.core) turn work is) n))

  -- what stands where, with whether the turn was a Destroy
  abbrev then_of : Bool → ℕ → Bool
  then_of destroys n = (had n || (is_some made && (work.instance == n))) && not (destroys && (work.instance == n))

  as_object : (n : ℕ) → one_if (then_of (is_destroy work.callback) n) ≡ one_if (has_object core n)
  as_object n = ap (λ m. one_if ((had n || (m && (work.instance == n))) && not (is_destroy work.callback && (work.instance == n)))) makes ∙ object_then n

  abbrev left_of : Bool → List (Part O) → List (Part O)
  left_of destroys all = cond destroys (parts_but work.instance all) all

  left_count : (all : List (Part O)) → ArePartsWith shared work made before.parts all → (destroys : Bool) (n : ℕ) → parts_of (left_of destroys all) n ≡ one_if (then_of destroys n)
  left_count all parts false n =
      with_count all parts n
      ∙ ap (λ k. k + one_if (is_some made && (work.instance == n))) (locked.parts n)
      ∙ counts_kept (had n) (is_some made) (work.instance == n) (fresh_object n)
  left_count all parts true n = elim (cases_eq work.instance n) [
    | inl same ↦
        subst (λ m. parts_of (parts_but work.instance all) m ≡ 0) same (left_none (λ (p : Part O). p.instance) work.instance all)
        ∙ ap one_if (all_gone (had n) (is_some made) true (work.instance == n) refl (eq-eqb work.instance n same))
    | inr differ ↦
        left_same (λ (p : Part O). p.instance) work.instance n differ all
        ∙ with_count all parts n
        ∙ ap (λ k. k + one_if (is_some made && (work.instance == n))) (locked.parts n)
        ∙ kept_other (had n) (is_some made) true (work.instance == n) (ne_eqb work.instance n differ)
  ]

  left_there : (all : List (Part O)) (destroys : Bool) (part : Part O) → Contains (left_of destroys all) part → Contains all part
  left_there all true part h = (kept_was (λ (p : Part O). not (p.instance == work.instance)) all part h).0
  left_there all false part h = h

  ended_owned : (owners : List ℕ) (turns : List (ℕ × ℕ)) (parts : List (Part O)) → length owners ≡ length core.journal → turns ≡ without_turn turn before.turns → ArePartsLeft shared (Some work) made before.parts parts
      → IsOwned (record { core = core; owners = owners; turns = turns; parts = parts })
  ended_owned owners turns parts many rest (all, more, left) = record {
    owners = many;
    tokens = λ n. ap (λ ts. tokens_of (turn_numbers ts) n) rest ∙ ended_tokens n;
    parts = λ n. ap (λ (ps : List (Part O)). parts_of ps n) left ∙ left_count all more (is_destroy work.callback) n ∙ as_object n;
    sites = λ part h. with_sites all more part (left_there all (is_destroy work.callback) part (subst (λ (ps : List (Part O)). Contains ps part) left h));
  }

  pub ended : (owner : ℕ) (owners : List ℕ) (turns : List (ℕ × ℕ)) (parts : List (Part O)) → owners ≡ owners_up_to (length core.journal) owner before.owners → turns ≡ without_turn turn before.turns
      → ArePartsLeft shared (Some work) made before.parts parts → HasEnded shared owner turn outcome made before (record { core = core; owners = owners; turns = turns; parts = parts })
  ended owner owners turns parts named rest left =
      let grows = ends_grows before.core core turn outcome ends in
      record {
        locked = ended_owned owners turns parts (ap length named ∙ as_many owner before.core.journal core.journal before.owners locked.owners grows) rest left;
        appends = appends_for owner before _ locked.owners named grows;
        ended = ends;
        turns = rest;
        others = λ n none. ap (λ (ts : List (ℕ × ℕ)). kept_under n (map as_kept ts)) rest ∙ others_kept n turn before.turns none;
        parts = subst (λ (o : Option TurnWork). ArePartsLeft shared o made before.parts parts) (sym is) left;
      }

-- ---- the token of a turn that is under way

pub one_token : {O : Type 0} (l : OwnedView O) (turn : ℕ) (work : TurnWork) → HasLegal l.core → IsOwned l → running l.core turn ≡ Some work → tokens_of (turn_numbers l.turns) turn ≡ 1
one_token l turn work legal locked is = locked.tokens turn ∙ ap one_if (running_under_way l.core turn work legal is)

-- ---- nothing changes

-- what is left where no turn begins, with what is answered
pub record HasStayed {O : Type 0} (owner : ℕ) (answer : Result (Option ℕ) CoreFault) (before after : OwnedView O) : Type 0 where
  pub locked : IsOwned after
  pub appends : AppendsOwned owner before after
  pub answer_is : BeginsTurn before.core answer after.core
  pub turns : after.turns ≡ with_begun owner answer before.turns
  pub parts : after.parts ≡ parts_begun after.core answer before.parts
  pub same : after ≡ before

module _ {O : Type 0} (owner : ℕ) (before : OwnedView O) (core : CoreView) (owners : List ℕ) (turns : List (ℕ × ℕ)) (parts : List (Part O)) (locked : IsOwned before) (limits : core.limits ≡ before.core.limits)
    (named : owners ≡ before.owners) (turned : turns ≡ before.turns) (parted : parts ≡ before.parts) where
  abbrev after : OwnedView O
  after = record { core = core; owners = owners; turns = turns; parts = parts }

  pub same_whole : core.journal ≡ before.core.journal → after ≡ before
  same_whole journal =
      ap (λ (c : CoreView). record { core = c; owners = owners; turns = turns; parts = parts }) (same_view core before.core limits journal)
      ∙ ap (λ (os : List ℕ). record { core = before.core; owners = os; turns = turns; parts = parts }) named
      ∙ ap (λ (ts : List (ℕ × ℕ)). record { core = before.core; owners = before.owners; turns = ts; parts = parts }) turned
      ∙ ap (λ (ps : List (Part O)). record { core = before.core; owners = before.owners; turns = before.turns; parts = ps }) parted

  pub still_owned : core.journal ≡ before.core.journal → IsOwned after
  still_owned journal = subst (λ (l : OwnedView O). IsOwned l) (sym (same_whole journal)) locked

  pub none_appended : core.journal ≡ before.core.journal → AppendsOwned owner before after
  none_appended journal = appends_none owner before after journal named

  pub idle_stays : IsIdle before.core.journal core.journal → HasStayed owner (Ok None) before after
  idle_stays (none, same) = record {
    locked = still_owned same;
    appends = none_appended same;
    answer_is = idle_step before.core core limits (none, same);
    turns = turned;
    parts = parted;
    same = same_whole same;
  }

  pub full_stays : FindsNoRoom before.core.limits.journal before.core.journal core.journal → HasStayed owner (Err JournalFull) before after
  full_stays (step, is, full, same) = record {
    locked = still_owned same;
    appends = none_appended same;
    answer_is = full_step before.core core limits (step, is, full, same);
    turns = turned;
    parts = parted;
    same = same_whole same;
  }

  pub memory_stays : core.journal ≡ before.core.journal → HasStayed owner (Err OutOfMemory) before after
  memory_stays same = record {
    locked = still_owned same;
    appends = none_appended same;
    answer_is = same_view core before.core limits same;
    turns = turned;
    parts = parted;
    same = same_whole same;
  }
