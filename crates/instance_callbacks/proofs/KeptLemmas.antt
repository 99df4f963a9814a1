-- What is kept beside the callbacks once one more has begun, and once the last one has ended.
use Rattle.std.proofs.Common.{◌≡◌, List, [], ◌∷◌, ◌++◌, refl, ap, ◌∙◌, sym, subst}
use Rattle.std.specs.Prelude.{Option, Some, None, IsTrue}
use Rattle.std.specs.Option.{option_map, option_to_list}
use Rattle.std.proofs.lemmas.Bool.{false≢true}
use Rattle.callback_orders.specs.declared.callback.Callback.{Callback}
use Rattle.callback_orders.specs.declared.callback.Outcome.{Outcome}
use Rattle.callback_orders.specs.declared.word.Called.{Called}
use Rattle.callback_orders.specs.Lives.{held_by}
use Rattle.callback_orders.specs.Sequences.{begun, done_with, ended, is_outstanding}
use Rattle.instance_callbacks.specs.Courses.{IsCourseOf}
use Rattle.instance_callbacks.specs.Held.{AreBegun, AreHoldings, AreKept, once_ended, services_of}
use Rattle.instance_callbacks.specs.declared.course.Course.{Course}
use Rattle.instance_callbacks.specs.declared.holdings.Holdings.{Holdings}
use Rattle.instance_callbacks.proofs.LastLemmas.{ended-last, held_for-begun, held_for-ended, is_outstanding-ended}

some_there : {X : Type 0} (x : X) (xs : List X) → Some x ≡ None → xs ≡ []
some_there x xs e = cc

pub kept_begun : (calls earlier : List Called) (b : Callback) (c : Course) (was now : Holdings) → AreHoldings calls was → earlier ≡ calls → IsCourseOf calls c
    → AreBegun b was.held now → AreKept earlier (Some (begun b)) c now
kept_begun calls earlier b c was now before e course begins = record {
  first = some_there (begun b) earlier;
  course = subst (λ all. IsCourseOf all c) (sym e) course;
  held = subst (λ all. AreHoldings (all ++ begun b ∷ []) now) (sym e) (record {
    held = λ name. begins.begun name ∙ ap (held_by name b None) (before.held name) ∙ sym (held_for-begun name calls b);
    left = λ out outcome name. begins.ended outcome name ∙ ap (held_by name b (Some outcome)) (before.held name) ∙ sym (held_for-ended name outcome calls b);
  });
}

none_stays : (o : Outcome) (last : Option Called) → option_map (λ (c : Called). done_with c.callback o) last ≡ None → last ≡ None
none_stays o None e = refl
none_stays o (Some c) e = cc

pub kept_ended : (o : Outcome) (earlier : List Called) (last now : Option Called) (c : Course) (was h : Holdings) → AreKept earlier last c was
    → IsTrue (is_outstanding (earlier ++ option_to_list last)) → now ≡ option_map (λ (c : Called). done_with c.callback o) last
    → h.held ≡ once_ended was → h.left ≡ None → AreKept earlier now c h
kept_ended o earlier last now c was h kept out e held left =
    let calls : earlier ++ option_to_list now ≡ ended o (earlier ++ option_to_list last) = ap (λ (l : Option Called). earlier ++ option_to_list l) e ∙ ended-last o earlier last kept.first in record {
      first = λ n. kept.first (none_stays o last (sym e ∙ n));
      course = kept.course;
      held = subst (λ all. AreHoldings all h) (sym calls) (record {
        held = λ name. ap (λ rows. services_of name rows) held ∙ kept.held.left out o name;
        left = λ still. absurd (false≢true (sym (is_outstanding-ended o (earlier ++ option_to_list last)) ∙ still));
      });
    }
