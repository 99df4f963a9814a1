-- The row that came last goes, and the event that came last.
use Rattle.std.proofs.Common.{◌≡◌, ◌+◌, ap, sym, ◌∙◌, refl, List, [], ◌∷◌, ◌++◌, length, Option, Some, None, IfSome, subst}
use Rattle.std.proofs.lemmas.Bool.{false≢true}
use Rattle.std.specs.Prelude.{◌-◌, take}
use Rattle.bundle_life.specs.declared.bundle.BundleEvent.{BundleEvent}
use Rattle.bundle_life.specs.declared.bundle.BundleLife.{BundleLife}
use Rattle.bundle_life.specs.EventLists.{EventList}
use Rattle.bundle_life.specs.Lives.{BundleTable, after_install, events_of, new_row}
use Rattle.bundle_life.specs.Numbers.{NumberedRows}
use Rattle.bundle_life.proofs.Installs.{ends_so, install_is}
use Rattle.bundle_life.proofs.Steps.{as_table, last_away, rows_of}
use Rattle.bundle_life.proofs.table.Bundles.undo_install.Goals as goal

no_row : (row : BundleLife) → None ≡ Some row → ⊥
no_row row h = cc

pub returns-then-not-ends_in_install-clause-taken : goal.returns-then-not-ends_in_install-clause-taken
returns-then-not-ends_in_install-clause-taken c before location name version e =
    absurd (false≢true (sym c.if-not-ends_in_install.true ∙ c.ends_in_install.ensures ∙ ends_so c.args.self.now before location name version e))

pub returns-in_err-row-clause-taken : goal.returns-in_err-row-clause-taken
returns-in_err-row-clause-taken c before location name version e =
    let row : BundleLife = new_row (before.numbered + 1) location name version in
    absurd (no_row row (sym c.in_err-row.was ∙ (c.take_back.ensures.taken (rows_of before) row (ap rows_of (c.self.view_is ∙ e)) refl).1))

pub returns-clause-taken : goal.returns-clause-taken
returns-clause-taken c before location name version e =
    let row : BundleLife = new_row (before.numbered + 1) location name version in
    let taken = c.take_back.ensures.taken (rows_of before) row (ap rows_of (c.self.view_is ∙ e)) refl in
    let came : c.self.inside.events.events ≡ before.events ++ events_of (before.numbered + 1) (1 ∷ []) = ap (λ (t : BundleTable). t.events) (c.self.view_is ∙ e) in
    let kept = c.saturating_sub-events.ensures ∙ ap (λ n. n - 1) c.length.ensures in
    let events : c.take_back-2.new.self.events ≡ before.events =
    ap (λ (l : EventList). l.events) c.take_back-2.ensures ∙ ap (λ n. take n c.self.inside.events.events) kept
    ∙ ap (λ (l : List BundleEvent). take (length l - 1) l) came ∙ last_away before.events (record { value = 1; bundle = before.numbered + 1 }) in (
      ap (λ (r : NumberedRows). as_table r c.take_back-2.new.self.events) taken.0 ∙ ap (λ (l : List BundleEvent). as_table (rows_of before) l) events,
      sym c.in_ok-row.was ∙ taken.1,
    )

pub returns-clause-installed : goal.returns-clause-installed
returns-clause-installed c =
    let t = c.args.self.now in
    let row = c.in_ok-row.row in
    let front = c.take_back.new.self in
    let parts = subst (λ (o : Option BundleLife). IfSome o (λ r. (c.self.inside.rows.rows ≡ front.rows ++ r ∷ []) × (c.self.inside.rows.numbered ≡ front.numbered + 1))) c.in_ok-row.was c.take_back.ensures.parts in
    let rows = ap (λ (u : BundleTable). u.rows) (sym c.self.view_is) ∙ parts.0 in
    let numbered = ap (λ (u : BundleTable). u.numbered) (sym c.self.view_is) ∙ parts.1 in
    let kept = c.saturating_sub-events.ensures ∙ ap (λ n. n - 1) c.length.ensures in
    let events =
    ap (λ (l : EventList). l.events) c.take_back-2.ensures ∙ ap (λ n. take n c.self.inside.events.events) kept
    ∙ ap (λ (u : BundleTable). take (length u.events - 1) u.events) c.self.view_is in
    install_is t front row rows numbered (sym c.ends_in_install.ensures ∙ c.if-not-ends_in_install.false)
    ∙ ap (λ (l : List BundleEvent). after_install row.location row.name row.version (as_table front l)) (sym events)
