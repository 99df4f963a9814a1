-- The numbers that stand are no higher than those that were given before.
use Rattle.std.proofs.Common.{◌≡◌, ◌≤◌, ◌+◌, arith, ap, sym, subst, ◌∙◌}
use Rattle.std.specs.List.{All}
use Rattle.service_registry.specs.declared.row.ServiceRow.{ServiceRow}
use Rattle.service_registry.specs.Registries.{Registered, with_numbers_given}
use Rattle.service_registry.specs.Undoing.{IsLeft}
use Rattle.service_registry.proofs.Found.{as_table}
use Rattle.service_registry.proofs.registry.Registry.give_back.Goals as goal

pub returns-clause-left : goal.returns-clause-left
returns-clause-left c =
    let value = c.as_slice.ensures.value in
    let all = subst (λ l. All (λ (r : ServiceRow). r.id ≤ c.highest_number-least.result) l) value c.highest_number-least.ensures.all in
    subst (λ (t : Registered). IsLeft c.args.count t c.max-self-inside.result) c.self.view_is (
      (omega (arith, c.saturating_sub.ensures, c.max-self-inside.ensures), λ k d within. omega (arith, all k d within, c.max-self-inside.ensures)),
      λ given covers.
          let low = c.highest_number-least.ensures.least given (subst (λ l. All (λ (r : ServiceRow). r.id ≤ given) l) (sym value) covers.1) in
          omega (arith, low, covers.0, c.saturating_sub.ensures, c.max-self-inside.ensures),
    )

pub returns-clause-undone : goal.returns-clause-undone
returns-clause-undone c before numbered was =
    let same : as_table c.self.inside.rows.items c.self.inside.numbered ≡ with_numbers_given c.args.count before = c.self.view_is ∙ was in
    let rows : c.self.inside.rows.items ≡ before.rows = ap (λ (t : Registered). t.rows) same in
    let given : c.self.inside.numbered ≡ before.numbered + c.args.count = ap (λ (t : Registered). t.numbered) same in
    let low : c.highest_number-least.result ≤ before.numbered =
    c.highest_number-least.ensures.least before.numbered (subst (λ l. All (λ (r : ServiceRow). r.id ≤ before.numbered) l) (sym (c.as_slice.ensures.value ∙ rows)) numbered.1) in
    let last : c.max-self-inside.result ≡ before.numbered = omega (arith, low, given, c.saturating_sub.ensures, c.max-self-inside.ensures) in
    ap (λ l. as_table l c.max-self-inside.result) rows ∙ ap (as_table before.rows) last
