-- The service of an open component configuration, going along the open periods.
use Rattle.std.proofs.Common.{◌≡◌, ℕ, Bool, true, false, List, [], ◌∷◌, ◌∙◌, ap, refl, cond}
use Rattle.std.specs.Prelude.{Option, Some, None, ◌==◌, ◌&&◌, ◌||◌, filter, find, not, option_map}
use Rattle.prop_map.specs.Words.{has}
use Rattle.component_state.specs.Inside.Ready.{configurations_open}
use Rattle.component_state.specs.Rows.{rows_of}
use Rattle.component_state.specs.declared.open_period.OpenPeriod.{OpenPeriod}
use Rattle.scr_world.specs.Lists.{row_at}
use Rattle.scr_consequences.specs.Changes.{has_row}
use Rattle.service_registry.specs.declared.row.ServiceRow.{ServiceRow}

abbrev pub is_of : ℕ → OpenPeriod → Bool
is_of number p = p.configuration == number

abbrev pub is_real : ServiceRow → Bool
is_real r = not (r.id == 0)

first : List ServiceRow → Option ServiceRow
first rows = find (λ (r : ServiceRow). true) rows

by_real : (r : ServiceRow) (rest : List ServiceRow) (real : Bool) → first (cond real (r ∷ rest) rest) ≡ cond real (Some r) (first rest)
unfolding first
by_real r rest true = refl
by_real r rest false = refl

step_by : (p : OpenPeriod) (fs : List OpenPeriod) (b : Bool) → first (rows_of (cond b (p ∷ fs) fs)) ≡ cond b (cond (is_real p.row) (Some p.row) (first (rows_of fs))) (first (rows_of fs))
unfolding first
step_by p fs false = refl
step_by p fs true = by_real p.row (rows_of fs) (is_real p.row)

-- of one period more, at the front
pub row_at-cons : (p : OpenPeriod) (ps : List OpenPeriod) (number : ℕ) → row_at (p ∷ ps) number ≡ cond (is_of number p) (cond (is_real p.row) (Some p.row) (row_at ps number)) (row_at ps number)
unfolding first
row_at-cons p ps number = step_by p (filter (is_of number) ps) (is_of number p)

found_by : (p : OpenPeriod) (rest : Option OpenPeriod) (of real : Bool) → cond of (cond real (Some p.row) (option_map (λ (p : OpenPeriod). p.row) rest)) (option_map (λ (p : OpenPeriod). p.row) rest)
    ≡ option_map (λ (p : OpenPeriod). p.row) (cond (of && real) (Some p) rest)
found_by p rest true true = refl
found_by p rest true false = refl
found_by p rest false real = refl

-- the first period of it that has a service
pub row_at_found : (ps : List OpenPeriod) (number : ℕ) → row_at ps number ≡ option_map (λ (p : OpenPeriod). p.row) (find (has_row number) ps)
row_at_found [] number = refl
row_at_found (p ∷ ps) number =
    row_at-cons p ps number
    ∙ ap (λ (o : Option ServiceRow). cond (is_of number p) (cond (is_real p.row) (Some p.row) o) o) (row_at_found ps number)
    ∙ found_by p (find (has_row number) ps) (is_of number p) (is_real p.row)

-- a component configuration that isn't among those of the periods has none
pub or_left : (a b : Bool) → (a || b) ≡ false → a ≡ false
or_left true b e = e
or_left false b e = refl

pub or_right : (a b : Bool) → (a || b) ≡ false → b ≡ false
or_right true b e = cc
or_right false b e = e

pub skipped : (p : OpenPeriod) (ps : List OpenPeriod) (number : ℕ) → is_of number p ≡ false → row_at (p ∷ ps) number ≡ row_at ps number
skipped p ps number other = row_at-cons p ps number ∙ ap (λ b. cond b (cond (is_real p.row) (Some p.row) (row_at ps number)) (row_at ps number)) other

pub not_open : (ps : List OpenPeriod) (number : ℕ) → has (configurations_open ps) number ≡ false → row_at ps number ≡ None
not_open [] number none = refl
not_open (p ∷ ps) number none = skipped p ps number (or_left (is_of number p) (has (configurations_open ps) number) none) ∙ not_open ps number (or_right (is_of number p) (has (configurations_open ps) number) none)
