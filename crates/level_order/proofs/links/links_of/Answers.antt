use Rattle.std.proofs.Common.{◌≡◌, ◌∙◌, length, sym, ap, arith, subst, ◌++◌}
use Rattle.std.specs.Prelude.{map}
use Rattle.std.proofs.lemmas.List.{length-map}
use Rattle.level_order.specs.Links.{AreLinks}
use Rattle.level_order.proofs.LinkLemmas.{Built, linked}
use Rattle.level_order.proofs.links.links_of.Goals as goal

pub returns : goal.returns
returns c =
    let names = map (λ t. t.now) c.in_ok-names.names.items in
    let long_names = length-map c.in_ok-names.names.items (λ t. t.now) in
    let count_needers : c.len-2.result ≡ length names = omega (arith, long_names, c.in_ok-names.names.ok.0) in
    let count_givers : c.len-3.result ≡ length names = omega (arith, long_names, c.in_ok-names.names.ok.0) in
    let all = linked c.args.descriptions.now names c.in_ok-needs.needs.items c.in_ok-gives.gives.items c.in_ok-givers.givers.items c.in_ok-needers.needers.items (record {
      named = c.in_ok-names.ensures.all;
      needs_are = rw c.deref.ensures.value at c.in_ok-needs.ensures;
      gives_are = rw c.deref-2.ensures.value at c.in_ok-gives.ensures;
      long_givers = c.in_ok-givers.ensures.long ∙ count_givers;
      long_needers = c.in_ok-needers.ensures.long ∙ count_needers;
      givers_at = λ k place low. rw c.deref-4.ensures.value at (c.in_ok-givers.ensures.turned k place (omega (arith, low, count_givers)));
      needers_at = λ k place low. rw c.deref-3.ensures.value at (c.in_ok-needers.ensures.turned k place (omega (arith, low, count_needers)));
    }) in
    subst (λ w. AreLinks c.args.descriptions.now w c.in_ok-joined-2.field-0.items) (sym c.in_ok-joined.ensures)
    (subst (λ w. AreLinks c.args.descriptions.now (c.in_ok-needs.needs.items ++ c.in_ok-givers.givers.items) w) (sym c.in_ok-joined-2.ensures) all)
