-- How an instance fares by its callbacks. OSGi Compendium 8, section 112.5 (component life cycle).
use Rattle.std.specs.Prelude.{◌≡◌, ◌&&◌, List, not}
use Rattle.std.specs.List.{list_any}
use Rattle.callback_orders.specs.Grammar.{is_activate}
use Rattle.callback_orders.specs.Lives.{is_living, phase_of}
use Rattle.callback_orders.specs.Sequences.{is_failed}
use Rattle.callback_orders.specs.declared.word.Called.{Called}
use Rattle.instance_callbacks.specs.declared.course.Course.{Course}

-- it is what these callbacks say
pub record IsCourseOf (calls : List Called) (c : Course) : Type 0 where
  pub phase : c.phase ≡ phase_of calls
  pub failed : c.has_failed ≡ list_any (λ (c : Called). is_activate c.callback && is_failed c.outcome) calls
  pub activated : c.is_activated ≡ list_any (λ (c : Called). is_activate c.callback && not (is_failed c.outcome)) calls
  pub living : c.is_living ≡ is_living calls
