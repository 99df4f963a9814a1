-- Where each entry numbers on what its world counts, so does the journal.
use Rattle.std.proofs.Common.{◌≡◌, ℕ, zero, suc, ◌+◌, List, [], ◌∷◌, ◌++◌, length, ap, sym, ◌∙◌, arith, refl}
use Rattle.std.specs.List.{range_with_len}
use Rattle.std.proofs.lemmas.List.{length-append}
use Rattle.std.proofs.lemmas.List.FromFn.{length-range_with_len}
use Rattle.journal_core.specs.declared.entry.Entry.{Entry}
use Rattle.scr_laws.specs.Numbers.{AreNumbersOn, given}
use Rattle.scr_world.specs.Legal.{Follows, IsLegal}
use Rattle.scr_world.specs.Lists.{world_of}
use Rattle.scr_world.specs.Steps.{History}
use Rattle.scr_world.specs.declared.step.Step.{Step}
use Rattle.scr_world.specs.declared.world.World.{World}

pub range_joined : (from n more : ℕ) → range_with_len from n ++ range_with_len (from + n) more ≡ range_with_len from (n + more)
range_joined from zero more =
    let here : from + 0 ≡ from = omega arith in
    let all : more ≡ 0 + more = omega arith in
    ap (λ k. range_with_len k more) here ∙ ap (range_with_len from) all
range_joined from (suc n) more =
    let next : from + suc n ≡ (from + 1) + n = omega arith in
    let all : suc (n + more) ≡ suc n + more = omega arith in
    ap (λ k. from ∷ (range_with_len (from + 1) n ++ range_with_len k more)) next
    ∙ ap (λ ns. from ∷ ns) (range_joined (from + 1) n more)
    ∙ ap (range_with_len from) all

-- what is as long as it says is numbered on
pub numbers_on : (ns : List ℕ) (n : ℕ) → ns ≡ range_with_len 1 n → AreNumbersOn ns
numbers_on ns n is = is ∙ ap (range_with_len 1) (sym (ap length is ∙ length-range_with_len 1 n))

-- numbers go on behind those that were given, and a count with them
pub record GoOn (ns : List ℕ) (before after : ℕ) : Type 0 where
  pub numbers : ns ≡ range_with_len (1 + before) (length ns)
  pub count : after ≡ before + length ns

-- none go on, and one does
pub none_goes_on : (n : ℕ) → GoOn [] n n
none_goes_on n = record { numbers = refl; count = omega arith }

pub stays : (n : ℕ) → GoOn [] n (n + 0)
stays n = record { numbers = refl; count = refl }

pub one_goes_on : (n number : ℕ) → number ≡ n + 1 → GoOn (number ∷ []) n (n + 1)
one_goes_on n number next =
    let same : number ≡ 1 + n = omega (arith, next) in
    record { numbers = ap (λ k. k ∷ []) same; count = omega arith }

-- some, and then more
pub both_go_on : (these those : List ℕ) (before middle after : ℕ) → GoOn these before middle → GoOn those middle after → GoOn (these ++ those) before after
both_go_on these those before middle after one two = record {
  numbers = ap (λ ns. ns ++ those) one.numbers ∙ ap (λ ns. range_with_len (1 + before) (length these) ++ ns) (two.numbers ∙ ap (λ n. range_with_len n (length those)) from)
      ∙ range_joined (1 + before) (length these) (length those) ∙ ap (range_with_len (1 + before)) (sym (length-append these those));
  count = (let size = length-append these those in omega (arith, one.count, two.count, size));
}
  where
    from : 1 + middle ≡ (1 + before) + length these
    from = omega (arith, one.count)

module _ (limit : ℕ) (numbers : Entry Step → World → List ℕ) (count : World → ℕ)
    (none : count (world_of []) ≡ 0)
    (each : (entry : Entry Step) (past : History) → Follows limit entry past → IsLegal limit past → GoOn (numbers entry (world_of past)) (count (world_of past)) (count (world_of (entry ∷ past)))) where
  given_is : (journal : History) → IsLegal limit journal → given numbers journal ≡ range_with_len 1 (count (world_of journal))
  given_is [] legal = ap (range_with_len 1) (sym none)
  given_is (entry ∷ past) legal =
      let on = each entry past legal.0 legal.1 in
      ap (λ ns. ns ++ numbers entry (world_of past)) (given_is past legal.1)
      ∙ ap (λ ns. range_with_len 1 (count (world_of past)) ++ ns) on.numbers
      ∙ range_joined 1 (count (world_of past)) (length (numbers entry (world_of past)))
      ∙ ap (range_with_len 1) (sym on.count)

  pub numbered : (journal : History) → IsLegal limit journal → AreNumbersOn (given numbers journal)
  numbered journal legal = numbers_on (given numbers journal) (count (world_of journal)) (given_is journal legal)
