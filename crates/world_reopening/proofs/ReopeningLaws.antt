-- Rows that become commands one by one.
use Rattle.std.proofs.Common.{◌≡◌, ◌<◌, ◌≤◌, ◌+◌, ℕ, zero, suc, List, [], ◌∷◌, ◌++◌, length, map, get_or, drop, Bool, true, false, cond, Option, Some, None, Result, Ok, Err, refl, ap, ap₂, sym, ◌∙◌, arith, append_assoc, append-nil, drop-cons}
use Rattle.std.proofs.lemmas.List.{drop_all, length-append}
use Rattle.scr_world.specs.declared.command.Command.{Command}
use Rattle.scr_world.specs.declared.command.Command.TheVariants.{Start}
use Rattle.world_keeper.specs.declared.kept.KeptBundle.{KeptBundle}
use Rattle.world_reopening.specs.Reopening.{Adds, commands_of, first_unread, starts_from}
use Rattle.world_reopening.specs.declared.reopen_fault.ReopenFault.{ReopenFault}
use Rattle.world_reopening.specs.declared.reopen_fault.ReopenFault.TheVariants.{BadKept, OutOfMemory}

abbrev Row : Type 0
Row = Option Command

-- ---- rows behind others

pub commands_append : (xs ys : List Row) → commands_of (xs ++ ys) ≡ commands_of xs ++ commands_of ys
commands_append [] ys = refl
commands_append (None ∷ xs) ys = commands_append xs ys
commands_append (Some c ∷ xs) ys = ap (λ cs. c ∷ cs) (commands_append xs ys)

pub unread_behind : (n : ℕ) (xs ys : List Row) → first_unread n xs ≡ None → first_unread n (xs ++ ys) ≡ first_unread (n + length (commands_of xs)) ys
unread_behind n [] ys none = ap (λ k. first_unread k ys) {x = n} {y = n + 0} (omega arith)
unread_behind n (None ∷ xs) ys none = absurd cc
unread_behind n (Some c ∷ xs) ys none = unread_behind (suc n) xs ys none ∙ ap (λ k. first_unread k ys) {x = suc n + length (commands_of xs)} {y = n + suc (length (commands_of xs))} (omega arith)

pub unread_before : (n row : ℕ) (xs ys : List Row) → first_unread n xs ≡ Some row → first_unread n (xs ++ ys) ≡ Some row
unread_before n row [] ys some = absurd cc
unread_before n row (None ∷ xs) ys some = some
unread_before n row (Some c ∷ xs) ys some = unread_before (suc n) row xs ys some

-- where all have a reading, so have the first and so have the others
pub none_front : (n : ℕ) (xs ys : List Row) → first_unread n (xs ++ ys) ≡ None → first_unread n xs ≡ None
none_front n [] ys none = refl
none_front n (None ∷ xs) ys none = absurd cc
none_front n (Some c ∷ xs) ys none = none_front (suc n) xs ys none

pub none_back : (n : ℕ) (xs ys : List Row) → first_unread n (xs ++ ys) ≡ None → first_unread (n + length (commands_of xs)) ys ≡ None
none_back n xs ys none = sym (unread_behind n xs ys (none_front n xs ys none)) ∙ none

-- ---- rows that are added behind others

pub err_before : (n : ℕ) (xs ys : List Row) (old mid now : List Command) (fault : ReopenFault) → Adds (Err fault) n xs old mid → Adds (Err fault) n (xs ++ ys) old now
err_before n xs ys old mid now (BadKept row) h = unread_before n row xs ys h
err_before n xs ys old mid now OutOfMemory h = tt

both_added : (xs ys : List Row) (old mid now : List Command) → mid ≡ old ++ commands_of xs → now ≡ mid ++ commands_of ys → now ≡ old ++ commands_of (xs ++ ys)
both_added xs ys old mid now first second =
    second ∙ ap (λ cs. cs ++ commands_of ys) first ∙ append_assoc old (commands_of xs) (commands_of ys) ∙ sym (ap (λ cs. old ++ cs) (commands_append xs ys))

longer : (xs : List Row) (old mid : List Command) → mid ≡ old ++ commands_of xs → length mid ≡ length old + length (commands_of xs)
longer xs old mid is = ap length is ∙ length-append old (commands_of xs)

further : (xs ys : List Row) (old mid : List Command) → first_unread (length old) xs ≡ None → mid ≡ old ++ commands_of xs → first_unread (length old) (xs ++ ys) ≡ first_unread (length mid) ys
further xs ys old mid none is = unread_behind (length old) xs ys none ∙ ap (λ n. first_unread n ys) (sym (longer xs old mid is))

pub then_added : (xs ys : List Row) (old mid now : List Command) (r : Result (Unit {0}) ReopenFault) → (first_unread (length old) xs ≡ None) × (mid ≡ old ++ commands_of xs)
    → Adds r (length mid) ys mid now → Adds r (length old) (xs ++ ys) old now
then_added xs ys old mid now (Ok done) first h = (further xs ys old mid first.0 first.1 ∙ h.0, both_added xs ys old mid now first.1 h.1)
then_added xs ys old mid now (Err (BadKept row)) first h = further xs ys old mid first.0 first.1 ∙ h
then_added xs ys old mid now (Err OutOfMemory) first h = tt

-- ---- rows of items, one by one

-- what is left gives what the whole gives
pub record IsLeft {X : Type 0} (f : X → Row) (xs : List X) (at : ℕ) (old now : List Command) : Type 0 where
  pub unread : first_unread (length now) (map f (drop at xs)) ≡ first_unread (length old) (map f xs)
  pub commands : now ++ commands_of (map f (drop at xs)) ≡ old ++ commands_of (map f xs)

pub left_start : {X : Type 0} (f : X → Row) (xs : List X) (old : List Command) → IsLeft f xs 0 old old
left_start f xs old = record { unread = refl; commands = refl }

at_item : {X : Type 0} (f : X → Row) (xs : List X) (at : ℕ) (x : X) (row : Row) → at < length xs → x ≡ get_or xs at x → f x ≡ row → map f (drop at xs) ≡ row ∷ map f (drop (suc at) xs)
at_item f xs at x row low is means = ap (map f) (drop-cons xs at x low) ∙ ap (λ r. r ∷ map f (drop (suc at) xs)) (ap f (sym is) ∙ means)

pub left_more : {X : Type 0} {f : X → Row} {xs : List X} {at : ℕ} {old now : List Command} → IsLeft f xs at old now → (x : X) (c : Command) → at < length xs → x ≡ get_or xs at x → f x ≡ Some c
    → IsLeft f xs (at + 1) old (now ++ c ∷ [])
left_more {X} {f} {xs} {at} {old} {now} left x c low is means =
    let whole = at_item f xs at x (Some c) low is means in
    let next : map f (drop (at + 1) xs) ≡ map f (drop (suc at) xs) = ap (λ k. map f (drop k xs)) {x = at + 1} {y = suc at} (omega arith) in
    let longer : length (now ++ c ∷ []) ≡ suc (length now) = length-append now (c ∷ []) ∙ omega arith in
    record {
      unread = ap₂ first_unread longer next ∙ sym (ap (first_unread (length now)) whole) ∙ left.unread;
      commands = ap (λ rows. (now ++ c ∷ []) ++ commands_of rows) next ∙ append_assoc now (c ∷ []) (commands_of (map f (drop (suc at) xs))) ∙ sym (ap (λ rows. now ++ commands_of rows) whole) ∙ left.commands;
    }

pub left_bad : {X : Type 0} {f : X → Row} {xs : List X} {at : ℕ} {old now : List Command} → IsLeft f xs at old now → (x : X) → at < length xs → x ≡ get_or xs at x → f x ≡ None
    → first_unread (length old) (map f xs) ≡ Some (length now)
left_bad {X} {f} {xs} {at} {old} {now} left x low is means = sym left.unread ∙ ap (first_unread (length now)) (at_item f xs at x None low is means)

pub left_none : {X : Type 0} {f : X → Row} {xs : List X} {at : ℕ} {old now : List Command} → IsLeft f xs at old now → length xs ≤ at
    → (first_unread (length old) (map f xs) ≡ None) × (now ≡ old ++ commands_of (map f xs))
left_none {X} {f} {xs} {at} {old} {now} left done =
    let end : map f (drop at xs) ≡ [] = ap (map f) (drop_all at xs done) in
    (sym left.unread ∙ ap (first_unread (length now)) end, sym (append-nil now) ∙ sym (ap (λ rows. now ++ commands_of rows) end) ∙ left.commands)

-- ---- starts, one by one

pub start_more : (bs : List KeptBundle) (at : ℕ) (b : KeptBundle) (now all : List Command) → at < length bs → b ≡ get_or bs at b → b.started ≡ true
    → now ++ starts_from (at + 1) (drop at bs) ≡ all → (now ++ Start (at + 1) ∷ []) ++ starts_from (at + 1 + 1) (drop (at + 1) bs) ≡ all
start_more bs at b now all low is so left =
    append_assoc now (Start (at + 1) ∷ []) _
    ∙ ap₂ (λ n ds. now ++ Start (at + 1) ∷ starts_from n ds) {x = at + 1 + 1} {y = suc (at + 1)} (omega arith) (ap (λ k. drop k bs) {x = at + 1} {y = suc at} (omega arith))
    ∙ sym (ap (λ t. now ++ cond t (Start (at + 1) ∷ starts_from (suc (at + 1)) (drop (suc at) bs)) (starts_from (suc (at + 1)) (drop (suc at) bs))) so)
    ∙ sym (ap (λ ds. now ++ starts_from (at + 1) ds) (drop-cons bs at b low ∙ ap (λ d. d ∷ drop (suc at) bs) (sym is))) ∙ left

pub start_none : (bs : List KeptBundle) (at : ℕ) (b : KeptBundle) (now all : List Command) → at < length bs → b ≡ get_or bs at b → b.started ≡ false
    → now ++ starts_from (at + 1) (drop at bs) ≡ all → now ++ starts_from (at + 1 + 1) (drop (at + 1) bs) ≡ all
start_none bs at b now all low is so left =
    ap₂ (λ n ds. now ++ starts_from n ds) {x = at + 1 + 1} {y = suc (at + 1)} (omega arith) (ap (λ k. drop k bs) {x = at + 1} {y = suc at} (omega arith))
    ∙ sym (ap (λ t. now ++ cond t (Start (at + 1) ∷ starts_from (suc (at + 1)) (drop (suc at) bs)) (starts_from (suc (at + 1)) (drop (suc at) bs))) so)
    ∙ sym (ap (λ ds. now ++ starts_from (at + 1) ds) (drop-cons bs at b low ∙ ap (λ d. d ∷ drop (suc at) bs) (sym is))) ∙ left

pub starts_all : (bs : List KeptBundle) (at : ℕ) (now all : List Command) → length bs ≤ at → now ++ starts_from (at + 1) (drop at bs) ≡ all → now ≡ all
starts_all bs at now all done left = sym (append-nil now) ∙ sym (ap (λ ds. now ++ starts_from (at + 1) ds) (drop_all at bs done)) ∙ left
