-- What is known of a turn that was run, once the object of its instance was handed out and the turn has ended.
use Rattle.std.proofs.Common.{◌≡◌, ◌⊎◌, ℕ, Bool, true, false, ap, sym, ◌∙◌, subst, inl, inr, Option, Some, None, ◌&&◌}
use Rattle.std.specs.Prelude.{List, MatchOption, OnErr, OnOk, Result, Ok, Err, is_err, is_some, not, ◌==◌}
use Rattle.std.proofs.lemmas.Bool.{and_parts}
use Rattle.callback_orders.specs.declared.callback.Outcome.{Outcome}
use Rattle.callback_orders.specs.Grammar.{is_create}
use Rattle.kind_trait.specs.Meanings.{Told}
use Rattle.kind_trait.specs.declared.kind_fault.KindFault.{KindFault}
use Rattle.turn_work.specs.declared.site.Site.{Site}
use Rattle.turn_work.specs.declared.work.TurnWork.{TurnWork}
use Rattle.prop_map.specs.declared.properties.Property.{Property}
use Rattle.turn_runner.specs.Outcomes.{IsAnswerOf, IsHeard, IsMadeAt, IsMadeFor, IsMadeFrom, IsOutcome, IsOwnFrom, is_done, is_refused, makes_object, needs_object}
use Rattle.turn_runner.specs.Turns.{IsCutOff, Starts}

-- where an object has to be told, it was the one that was handed out
pub was_heard : {S O A : Type 0} (owns : S → ℕ → O → Type 0) (hears : O → Site → Told → Result (Unit {0}) KindFault → Type 0) (shared : A → O) (desk : S) (work : TurnWork) (outcome : Outcome) (handed : Option A)
    → is_some handed ≡ needs_object work → MatchOption handed (Unit {0}) (λ o. owns desk work.instance (shared o)) → MatchOption handed (Unit {0}) (λ o. IsAnswerOf hears (shared o) work outcome) → IsHeard owns hears desk (Some work) outcome
was_heard owns hears shared desk work outcome None fits own answered needs = absurd (let both : false ≡ true = fits ∙ needs in cc)
was_heard owns hears shared desk work outcome (Some o) fits own answered needs = (shared o, own, answered)

pub heard_as : {S O A : Type 0} (owns : S → ℕ → O → Type 0) (hears : O → Site → Told → Result (Unit {0}) KindFault → Type 0) (shared : A → O) (desk : S) (running : Option TurnWork) (work : TurnWork) (outcome : Outcome) (handed : Option A)
    → running ≡ Some work → is_some handed ≡ needs_object work → MatchOption handed (Unit {0}) (λ o. owns desk work.instance (shared o)) → MatchOption handed (Unit {0}) (λ o. IsAnswerOf hears (shared o) work outcome) → IsHeard owns hears desk running outcome
heard_as owns hears shared desk running work outcome handed runs fits own answered =
    subst (λ r. IsHeard owns hears desk r outcome) (sym runs) (was_heard owns hears shared desk work outcome handed fits own answered)

-- an object that a turn made was made at its instance's Create
made_at : {O A : Type 0} (made : O → Site → Type 0) (shared : A → O) (work : TurnWork) (outcome : Outcome) (one : Option A) (instance : ℕ) (object : O)
    → IsMadeFrom made shared work.site one → is_some one ≡ makes_object work outcome → IsMadeFor shared (Some work) one instance object → IsMadeAt made (Some work) instance object
made_at made shared work outcome None instance object site makes for = absurd for
made_at made shared work outcome (Some one) instance object site makes for =
    let create = and_parts (is_create work.callback) (is_done outcome) (and_parts (not (work.instance == 0)) (is_create work.callback && is_done outcome) (sym makes)).1 in
    (for.0, create.0, subst (λ o. made o work.site) for.1 site)

-- an instance's own object afterwards was so before, or the turn made it
pub own_from : {S O A : Type 0} (owns : S → ℕ → O → Type 0) (made : O → Site → Type 0) (shared : A → O) (before handed after : S) (running later : Option TurnWork) (work : TurnWork) (outcome : Outcome) (one : Option A)
    → running ≡ Some work → later ≡ Some work → IsMadeFrom made shared work.site one → is_some one ≡ makes_object work outcome
    → ((instance : ℕ) (object : O) → owns handed instance object → owns before instance object)
    → ((instance : ℕ) (object : O) → owns after instance object → owns handed instance object ⊎ IsMadeFor shared later one instance object)
    → IsOwnFrom owns made before running after
own_from owns made shared before handed after running later work outcome one runs still site makes kept own instance object is =
    elim (own instance object is) [
      | inl was ↦ inl (kept instance object was)
      | inr for ↦ inr (subst (λ r. IsMadeAt made r instance object) (sym runs)
          (made_at made shared work outcome one instance object site makes (subst (λ r. IsMadeFor shared r one instance object) still for)))
    ]

-- a turn that begins and then wants memory
pub cut_off : {S : Type 0} (begins : S → TurnWork → S → Type 0) (stays : S → TurnWork → S → Type 0) (ends : S → ℕ → Outcome → S → Type 0) (posts : S → S → Type 0) (refuses : List ℕ → List Property → Told → Bool) (before begun after : S) (work : TurnWork)
    → begins before work begun → stays begun work after ⊎ ((outcome : Outcome) × (ended : S) × IsOutcome (is_refused refuses work) outcome × ends begun work.number outcome ended × posts ended after)
    → IsCutOff begins (Starts begins stays) ends posts refuses before after
cut_off begins stays ends posts refuses before begun after work begun_is (inl goes_on) = inl (work, (begun, begun_is, goes_on))
cut_off begins stays ends posts refuses before begun after work begun_is (inr (outcome, ended, is, ends_is, posts_is)) = inr (work, outcome, is, (begun, ended, begun_is, ends_is, posts_is))

-- what a call did, by whether it gave an error
pub when_ok : {T E P : Type 0} (r : Result T E) → is_err r ≡ false → OnOk r P → P
when_ok (Ok x) is done = done
when_ok (Err e) is done = absurd (let both : true ≡ false = is in cc)

pub when_err : {T E P : Type 0} (r : Result T E) → is_err r ≡ true → OnErr r P → P
when_err (Ok x) is failed = absurd (let both : false ≡ true = is in cc)
when_err (Err e) is failed = failed
