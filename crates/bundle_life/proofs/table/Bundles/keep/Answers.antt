-- What is kept of a bundle is its row, which stands at its number.
use Rattle.std.proofs.Common.{◌≡◌, ap, sym, ◌∙◌, subst, length, Some}
use Rattle.bundle_life.specs.declared.bundle.BundleLife.{BundleLife}
use Rattle.bundle_life.specs.Lives.{BundleTable, bundle_of}
use Rattle.bundle_life.specs.Numbers.{AreNumbered}
use Rattle.row_places.proofs.NumberLaws.{stands}
use Rattle.bundle_life.proofs.table.Bundles.keep.Goals as goal

pub returns-in_ok-of-in-Some-clause-number : goal.returns-in_ok-of-in-Some-clause-number
returns-in_ok-of-in-Some-clause-number c =
    let numbered : AreNumbered c.args.self.now.numbered c.args.self.now.rows = subst (λ (t : BundleTable). AreNumbered t.numbered t.rows) c.self.view_is c.count.ensures.numbered in
    let there : bundle_of c.args.self.now.rows c.args.bundle ≡ Some c.in_ok-copy-in-Some.field-0 = sym c.in-Some.ensures ∙ ap (λ (b : BundleLife). Some b) (sym c.in_ok-copy-in-Some.ensures) in
    (stands (λ (b : BundleLife). b.number) c.args.bundle c.args.self.now.rows c.in_ok-copy-in-Some.field-0 numbered.0 there).number

pub returns-in_ok-of-in-Some-clause-kept : goal.returns-in_ok-of-in-Some-clause-kept
returns-in_ok-of-in-Some-clause-kept c =
    let there : bundle_of c.args.self.now.rows c.args.bundle ≡ Some c.in_ok-copy-in-Some.field-0 = sym c.in-Some.ensures ∙ ap (λ (b : BundleLife). Some b) (sym c.in_ok-copy-in-Some.ensures) in
    record {
      table = subst (λ (t : BundleTable). AreNumbered t.numbered t.rows) c.self.view_is c.count.ensures.numbered;
      row = ap (bundle_of c.args.self.now.rows) (returns-in_ok-of-in-Some-clause-number c) ∙ there;
      events = c.length.ensures ∙ ap (λ (t : BundleTable). length t.events) c.self.view_is;
      room = c.in_ok-of-in-Some.ensures ∙ c.count.ensures.length ∙ ap (λ (t : BundleTable). length t.rows) c.self.view_is;
    }
