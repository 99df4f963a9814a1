use Rattle.std.proofs.Common.{sym}
use Rattle.bundle_doc.specs.declared.entries_by_end.End.TheVariants.{Back, Front}
use Rattle.bundle_doc.proofs.PlaceLemmas.{found_all}
use Rattle.bundle_doc.proofs.entries_by_end.EntriesByEnd.keys_for.Goals as goal

pub returns-then-with_front-with_back : goal.returns-then-with_front-with_back
returns-then-with_front-with_back c = λ test front back.
    found_all (λ k. (k.0.items, k.1)) Front c.args.self.now c.self.inside.texts c.self.inside.from_front.items c.deref.result.now c.keys_beginning-with_front.result.now c.args.front.now c.self.invariant.0 (sym c.self.view_is) c.deref.ensures.value c.keys_beginning-with_front.ensures test front

pub returns-else-with_front-with_back : goal.returns-else-with_front-with_back
returns-else-with_front-with_back c = λ test front back.
    found_all (λ k. (k.0.items, k.1)) Back c.args.self.now c.self.inside.texts c.self.inside.from_back.items c.deref-2.result.now c.keys_beginning-with_back.result.now c.args.back.now c.self.invariant.1 (sym c.self.view_is) c.deref-2.ensures.value c.keys_beginning-with_back.ensures test back
