-- A listener in the place of the one of its number, or in the gap.
use Rattle.std.proofs.Common.{subst, sym, ◌∙◌, Ok, Err}
use Rattle.std.specs.Ordering.{nat_cmp}
use Rattle.row_places.specs.RowPlaces.{IsPlaceOrGap}
use Rattle.service_listeners.specs.declared.listener.Listener.{Listener}
use Rattle.service_listeners.specs.Numbers.{AreRising}
use Rattle.row_places.proofs.NumberLaws.{put_new, put_there, rising_with}
use Rattle.service_listeners.proofs.rows.put.Goals as goal

pub returns-in-Ok-clause-now : goal.returns-in-Ok-clause-now
returns-in-Ok-clause-now c =
    let place : IsPlaceOrGap (λ (l : Listener). nat_cmp l.number c.args.listener.number) (Ok c.in-Ok.place) c.args.rows.now.items =
    rw c.as_slice.ensures.value at c.in-Ok.ensures.place in
    put_there (λ (l : Listener). l.number) c.args.listener c.in-Ok.place c.args.rows.now.items c.requires.order place

pub returns-in-Ok-clause-rising : goal.returns-in-Ok-clause-rising
returns-in-Ok-clause-rising c =
    subst AreRising (sym (returns-in-Ok-clause-now c)) (rising_with (λ (l : Listener). l.number) c.args.listener c.args.rows.now.items c.requires.order)

pub returns-in-Err-clause-now : goal.returns-in-Err-clause-now
returns-in-Err-clause-now c =
    let place : IsPlaceOrGap (λ (l : Listener). nat_cmp l.number c.args.listener.number) (Err c.in-Err.gap) c.args.rows.now.items =
    rw c.as_slice.ensures.value at c.in-Err.ensures.place in
    c.insert.ensures.now ∙ put_new (λ (l : Listener). l.number) c.args.listener c.in-Err.gap c.args.rows.now.items place

pub returns-in-Err-clause-rising : goal.returns-in-Err-clause-rising
returns-in-Err-clause-rising c =
    subst AreRising (sym (returns-in-Err-clause-now c)) (rising_with (λ (l : Listener). l.number) c.args.listener c.args.rows.now.items c.requires.order)
