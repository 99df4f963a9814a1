-- A turn at the lock: what a change of the value under it is for the pass that makes it.
use Rattle.std.proofs.Common.{◌≡◌, ℕ, ◌+◌, ◌≤◌, List, [], ◌∷◌, ◌++◌, length, map, take, get_or, ap, sym, ◌∙◌, refl, subst, arith}
use Rattle.std.proofs.Math.Seq.{take-append_seam}
use Rattle.std.proofs.lemmas.List.{append-nil, append_cancel_left, length-append}
use Rattle.front_lock.specs.Histories.{Distinct, Extends, GrownBy}
use Rattle.front_lock.specs.Keepings.{KeepsOthers, kept_by, kept_under}
use Rattle.front_lock.specs.Passes.{TurnView, names_of}
use Rattle.hall_goings.specs.Went.{Went, owned_by, placed, up_to}
use Rattle.hall_goings.proofs.Chains.{grown, went_in_stretch}
use Rattle.hall_locked.specs.Locks.{AppendsFor, IsLocked, LockedView, limits_code, log_of, things_kept}
use Rattle.hall_locked.specs.Owned.{as_kept, as_use, entries_in, owned}
use Rattle.journal_core.specs.declared.entry.Entry.{Entry}
use Rattle.platform_sessions.specs.Halls.{HallPassView, HallView, IsOf, KeepsPass, KeepsSeat, Own, View, core_seen}
use Rattle.hall_locked.specs.Cores.{CoreView}
use Rattle.scr_world.specs.declared.command.Limits.{Limits}
use Rattle.scr_world.specs.declared.step.Step.{Step}

-- ---- limits, by which a value is tied

abbrev limits_with : ℕ → ℕ → Limits
limits_with journal turns = record { journal = journal; turns = turns }

pub limits_from : (l m : Limits) → limits_code l ≡ limits_code m → l ≡ m
limits_from l m same =
    ap (λ n. limits_with n l.turns) (ap (λ (xs : List ℕ). get_or xs 0 0) same) ∙ ap (λ n. limits_with m.journal n) (ap (λ (xs : List ℕ). get_or xs 1 0) same)

abbrev pub core_with : Limits → List (Entry Step) → CoreView
core_with limits journal = record { limits = limits; journal = journal }

-- ---- entries without their owners

pub entries_owned : {E : Type 0} (os : List ℕ) (es : List E) → length os ≡ length es → entries_in (owned os es) ≡ es
entries_owned [] [] same = refl
entries_owned [] (e ∷ es) same = cc
entries_owned (o ∷ os) [] same = cc
entries_owned (o ∷ os) (e ∷ es) same =
    let less : length os ≡ length es = omega (arith, same) in
    ap (λ l. e ∷ l) (entries_owned os es less)

-- ---- what the lock asks of whoever leaves

pub same_kept : (ns : List ℕ) (before after : List (ℕ × ℕ)) → after ≡ before → KeepsOthers ns before after
same_kept ns before after same = λ n no. ap (λ (ks : List (ℕ × ℕ)). kept_under n ks) same

module _ {O : Type 0} where
  pub grown_for : (owner : ℕ) (before after : LockedView O) → AppendsFor owner before after → GrownBy owner (log_of before) (log_of after)
  grown_for owner before after a = grown owner (log_of before) (log_of after) a.entries a.log

  pub same_grown : (owner : ℕ) (value : LockedView O) → GrownBy owner (log_of value) (log_of value)
  same_grown owner value = grown owner (log_of value) (log_of value) [] (sym (append-nil (log_of value)))

  -- what a turn at the lock began with, as the value shows it
  pub leaves_grown : (turn : TurnView (Entry Step)) (owner : ℕ) (before after : LockedView O) → turn.began ≡ log_of before → owner ≡ turn.pass.number → AppendsFor owner before after → GrownBy turn.pass.number turn.began (log_of after)
  leaves_grown turn owner before after began its a =
      subst (λ n. GrownBy n turn.began (log_of after)) its (subst (λ (b : Own). GrownBy owner b (log_of after)) (sym began) (grown_for owner before after a))

  pub leaves_same : (turn : TurnView (Entry Step)) (value : LockedView O) → turn.began ≡ log_of value → GrownBy turn.pass.number turn.began (log_of value)
  leaves_same turn value began = subst (λ (b : Own). GrownBy turn.pass.number b (log_of value)) (sym began) (same_grown turn.pass.number value)

  pub leaves_tie : (turn : TurnView (Entry Step)) (pass : View) (before after : LockedView O) → turn.pass ≡ pass → limits_code before.core.limits ≡ pass.tie → after.core.limits ≡ before.core.limits → limits_code after.core.limits ≡ turn.pass.tie
  leaves_tie turn pass before after its tie stay = ap limits_code stay ∙ tie ∙ ap (λ (v : View). v.tie) (sym its)

pub leaves_others : (ns : List ℕ) (turn : TurnView (Entry Step)) (before after : List (ℕ × ℕ)) → turn.kept ≡ before → KeepsOthers ns before after → KeepsOthers ns turn.kept after
leaves_others ns turn before after kept others = subst (λ (k : List (ℕ × ℕ)). KeepsOthers ns k after) (sym kept) others

-- where the same turns are under way, and the same gets weren't given back, the same is kept for passes
pub same_things : {O : Type 0} (before after : LockedView O) → after.turns ≡ before.turns → after.uses ≡ before.uses → things_kept after ≡ things_kept before
same_things before after turns uses = ap (λ (ts : List (ℕ × ℕ)). map as_kept ts ++ map as_use after.uses) turns ∙ ap (λ (us : List (ℕ × ℕ)). map as_kept before.turns ++ map as_use us) uses

-- ---- what the pass knows then

-- a turn at the lock, in which the value was changed: the entries before and after, and what it keeps then
pub record Stretch (p q : View) (began log : Own) (kept : List (ℕ × ℕ)) : Type 0 where
  pub apart : Distinct (names_of p)
  pub goes : Extends (names_of p) p.seen began
  pub same : q ≡ record p { seen = log; kept = kept_by (names_of p) kept; entered = p.entered + 1 }

pub stretch : (p q pass back : View) (turn : TurnView (Entry Step)) (began log : Own) (kept : List (ℕ × ℕ)) → pass ≡ p → turn.pass ≡ pass → Distinct (names_of p) → Extends (names_of pass) pass.seen began → q ≡ back
    → back ≡ record turn.pass { seen = log; kept = kept_by (names_of turn.pass) kept; entered = turn.pass.entered + 1 } → Stretch p q began log kept
stretch p q pass back turn began log kept own its apart goes put left = record {
  apart = apart;
  goes = subst (λ (v : View). Extends (names_of v) v.seen began) own goes;
  same = put ∙ left ∙ ap (λ (v : View). record v { seen = log; kept = kept_by (names_of v) kept; entered = v.entered + 1 }) (its ∙ own);
}

module _ (p q : View) (began log : Own) (kept : List (ℕ × ℕ)) (s : Stretch p q began log kept) where
  pub stretch_seat : KeepsSeat p q
  stretch_seat = (ap (λ (v : View). v.number) s.same, ap (λ (v : View). v.spare) s.same)

  -- what is kept for the pass then
  pub stretch_kept : q.kept ≡ kept_by (names_of p) kept
  stretch_kept = ap (λ (v : View). v.kept) s.same

  -- where nothing changes that is kept for passes
  pub stretch_keeps : (pass : View) (had : List (ℕ × ℕ)) → pass ≡ p → kept ≡ had → kept_by (names_of pass) had ≡ pass.kept → KeepsPass p q
  stretch_keeps pass had own stays its =
      (stretch_seat, stretch_kept ∙ ap (kept_by (names_of p)) stays ∙ subst (λ (v : View). kept_by (names_of v) had ≡ v.kept) own its)

  pub stretch_apart : Distinct (names_of q)
  stretch_apart = subst (λ (v : View). Distinct (names_of v)) (sym s.same) s.apart

-- a pass that has gone on is of its hall as before
pub of_went : (hall : HallView) (p q : HallPassView) (own : Own) → Went p.front q.front own → IsOf hall p → IsOf hall q
of_went hall p q own went of = record {
  lock = ap (λ (v : View). v.lock) went.same ∙ of.lock;
  limits = ap (λ (v : View). v.tie) went.same ∙ of.limits;
}

pub seat_went : (p q : View) (own : Own) → Went p q own → KeepsSeat p q
seat_went p q own went = (ap (λ (v : View). v.number) went.same, ap (λ (v : View). v.spare) went.same)

pub keeps_itself : (a : View) → KeepsPass a a
keeps_itself a = ((refl, refl), refl)

pub keeps_on : (a b c : View) → KeepsPass a b → KeepsPass b c → KeepsPass a c
keeps_on a b c first second = ((second.0.0 ∙ first.0.0, second.0.1 ∙ first.0.1), second.1 ∙ first.1)

-- and its names are as before
pub distinct_went : (p q : View) (own : Own) → Went p q own → Distinct (names_of p) → Distinct (names_of q)
distinct_went p q own went apart = subst (λ (v : View). Distinct (names_of v)) (sym went.same) apart

module _ {O : Type 0} (p q : View) (before after : LockedView O) (kept : List (ℕ × ℕ)) (apart : Distinct (names_of p)) (goes : Extends (names_of p) p.seen (log_of before))
    (same : q ≡ record p { seen = log_of after; kept = kept; entered = p.entered + 1 }) where
  pub seen_is : q.seen ≡ log_of after
  seen_is = ap (λ (v : View). v.seen) same

  pub near : length p.seen ≤ length (log_of before)
  near = let long : length (log_of before) ≡ length p.seen + length goes.rest = ap length goes.is ∙ length-append p.seen goes.rest in omega (arith, long)

  pub went_by : (es : List (Entry Step)) → log_of after ≡ log_of before ++ owned_by p.number es → Went p q (placed (length (log_of before)) es)
  went_by es is = went_in_stretch p q (log_of before) (log_of after) es kept apart.0 goes is same

  -- one that only looked
  pub looked : log_of after ≡ log_of before → Went p q []
  looked is = went_by [] (is ∙ sym (append-nil (log_of before)))

  -- all that it has seen then is the value's journal
  pub journal_is : IsLocked after → entries_in q.seen ≡ after.core.journal
  journal_is now = ap (λ (l : Own). entries_in l) seen_is ∙ entries_owned after.owners after.core.journal now.owners

  -- it is its core
  pub core_is : IsLocked after → (limits : Limits) → before.core.limits ≡ limits → after.core.limits ≡ before.core.limits → core_seen limits q ≡ after.core
  core_is now limits its stay = ap (core_with limits) (journal_is now) ∙ ap (λ (l : Limits). core_with l after.core.journal) (sym its ∙ sym stay)

  -- up to where its entries begin, it is the journal before them
  pub journal_was : IsLocked before → (es : List (Entry Step)) → log_of after ≡ log_of before ++ owned_by p.number es → entries_in (up_to (length (log_of before)) q) ≡ before.core.journal
  journal_was locked es is =
      ap (λ (l : Own). entries_in (take (length (log_of before)) l)) (seen_is ∙ is)
      ∙ ap (λ (l : Own). entries_in l) (take-append_seam (log_of before) (owned_by p.number es))
      ∙ entries_owned before.owners before.core.journal locked.owners

  module _ (a : AppendsFor p.number before after) where
    -- one entry
    pub one_more : (entry : Entry Step) → after.core.journal ≡ before.core.journal ++ entry ∷ [] → log_of after ≡ log_of before ++ owned_by p.number (entry ∷ [])
    one_more entry grew =
        a.log ∙ ap (λ (es : List (Entry Step)). log_of before ++ owned_by p.number es) (append_cancel_left before.core.journal a.entries (entry ∷ []) (sym a.journal ∙ grew))

    -- or none
    pub none_more : after.core.journal ≡ before.core.journal → log_of after ≡ log_of before
    none_more stays =
        a.log
        ∙ ap (λ (es : List (Entry Step)). log_of before ++ owned_by p.number es) (append_cancel_left before.core.journal a.entries [] (sym a.journal ∙ stays ∙ sym (append-nil before.core.journal)))
        ∙ append-nil (log_of before)

    pub longer_by_one : (entry : Entry Step) → after.core.journal ≡ before.core.journal ++ entry ∷ [] → length q.seen ≡ length (log_of before) + 1
    longer_by_one entry grew = ap length (seen_is ∙ one_more entry grew) ∙ length-append (log_of before) ((p.number, entry) ∷ [])
