-- What is kept beside an instance's callbacks. Our own.
use Rattle.std.specs.Prelude.{◌≡◌, ℕ, List, [], ◌++◌, Option, Some, None, IsTrue, unwrap_or}
use Rattle.std.specs.Option.{option_to_list}
use Rattle.callback_orders.specs.declared.callback.Callback.{Callback}
use Rattle.callback_orders.specs.declared.callback.Outcome.{Outcome}
use Rattle.callback_orders.specs.declared.word.Called.{Called}
use Rattle.callback_orders.specs.Lives.{held_by, held_for}
use Rattle.callback_orders.specs.Sequences.{ended, is_outstanding}
use Rattle.shared_map.specs.declared.rows.Row.{Row}
use Rattle.shared_map.specs.Rows.{value_of}
use Rattle.instance_callbacks.specs.Courses.{IsCourseOf}
use Rattle.instance_callbacks.specs.declared.course.Course.{Course}
use Rattle.instance_callbacks.specs.declared.holdings.Holdings.{Holdings}

-- the services that are kept for a reference, none where it has no row
abbrev pub services_of : List ℕ → List (Row (List ℕ)) → List ℕ
services_of name rows = unwrap_or (value_of name rows) []

-- what is kept for when the last callback has ended
abbrev pub once_ended : Holdings → List (Row (List ℕ))
once_ended h = unwrap_or h.left h.held

-- what is kept once a callback has begun that comes upon these rows
pub record AreBegun (callback : Callback) (rows : List (Row (List ℕ))) (h : Holdings) : Type 0 where
  pub begun : (name : List ℕ) → services_of name h.held ≡ held_by name callback None (services_of name rows)
  pub ended : (outcome : Outcome) (name : List ℕ) → services_of name (once_ended h) ≡ held_by name callback (Some outcome) (services_of name rows)

-- the rows have for each reference what is held by the callbacks
abbrev pub AreHeld : List Called → List (Row (List ℕ)) → Type 0
AreHeld calls rows = (name : List ℕ) → services_of name rows ≡ held_for name calls

-- what is kept is what the callbacks say, and what they say once the last one has ended
pub record AreHoldings (calls : List Called) (h : Holdings) : Type 0 where
  pub held : AreHeld calls h.held
  pub left : IsTrue (is_outstanding calls) → (outcome : Outcome) → AreHeld (ended outcome calls) (once_ended h)

-- what is kept beside the callbacks: how the instance fares by those before the last one, and what it holds by all
pub record AreKept (earlier : List Called) (last : Option Called) (c : Course) (h : Holdings) : Type 0 where
  pub first : last ≡ None → earlier ≡ []
  pub course : IsCourseOf earlier c
  pub held : AreHoldings (earlier ++ option_to_list last) h
