-- How an instance fares by one callback more.
use Rattle.std.proofs.Common.{◌≡◌, List, [], ◌∷◌, ◌++◌, Bool, refl, ap, ◌∙◌, sym}
use Rattle.std.specs.List.{list_all, list_any}
use Rattle.std.specs.Prelude.{◌&&◌, ◌||◌, not}
use Rattle.std.proofs.Math.Bool.{and-true, or-false}
use Rattle.std.proofs.lemmas.List.Folds.{list_all-append, list_any-append}
use Rattle.callback_orders.specs.Grammar.{is_activate}
use Rattle.callback_orders.specs.Lives.{goes_on, phase_after, phase_by}
use Rattle.callback_orders.specs.Sequences.{is_failed}
use Rattle.callback_orders.specs.declared.instance_view.Phase.{Phase}
use Rattle.callback_orders.specs.declared.instance_view.Phase.TheVariants.{Making}
use Rattle.callback_orders.specs.declared.word.Called.{Called}
use Rattle.instance_callbacks.specs.Courses.{IsCourseOf}
use Rattle.instance_callbacks.specs.declared.course.Course.{Course}

phase_after-append : (p : Phase) (calls : List Called) (c : Called) → phase_after p (calls ++ c ∷ []) ≡ phase_by c.callback c.outcome (phase_after p calls)
phase_after-append p [] c = refl
phase_after-append p (d ∷ calls) c = phase_after-append (phase_by d.callback d.outcome p) calls c

-- what is said of some callback, or of all, with one more
some_more : (p : Called → Bool) (calls : List Called) (c : Called) (was now : Bool) → was ≡ list_any p calls → now ≡ (was || p c) → now ≡ list_any p (calls ++ c ∷ [])
some_more p calls c was now w n =
    n ∙ ap (λ b. b || p c) w
    ∙ ap (λ b. list_any p calls || b) (sym (or-false (p c)))
    ∙ sym (list_any-append p calls (c ∷ []))

all_more : (p : Called → Bool) (calls : List Called) (c : Called) (was now : Bool) → was ≡ list_all p calls → now ≡ (was && p c) → now ≡ list_all p (calls ++ c ∷ [])
all_more p calls c was now w n =
    n ∙ ap (λ b. b && p c) w
    ∙ ap (λ b. list_all p calls && b) (sym (and-true (p c)))
    ∙ sym (list_all-append p calls (c ∷ []))

pub course_after : (calls : List Called) (c : Called) (was now : Course) → IsCourseOf calls was
    → now.phase ≡ phase_by c.callback c.outcome was.phase
    → now.has_failed ≡ (was.has_failed || (is_activate c.callback && is_failed c.outcome))
    → now.is_activated ≡ (was.is_activated || (is_activate c.callback && not (is_failed c.outcome)))
    → now.is_living ≡ (was.is_living && goes_on c.callback c.outcome)
    → IsCourseOf (calls ++ c ∷ []) now
course_after calls c was now before p f a l = record {
  phase = p ∙ ap (phase_by c.callback c.outcome) before.phase ∙ sym (phase_after-append Making calls c);
  failed = some_more (λ (c : Called). is_activate c.callback && is_failed c.outcome) calls c was.has_failed now.has_failed before.failed f;
  activated = some_more (λ (c : Called). is_activate c.callback && not (is_failed c.outcome)) calls c was.is_activated now.is_activated before.activated a;
  living = all_more (λ (c : Called). goes_on c.callback c.outcome) calls c was.is_living now.is_living before.living l;
}
