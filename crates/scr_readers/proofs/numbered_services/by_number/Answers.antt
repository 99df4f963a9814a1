use Rattle.std.proofs.Common.{◌≡◌, ◌∙◌, ap, map, nat_lt, ℕ, List, Bor, rules, subst}
use Rattle.std.specs.List.Sorted.{IsStableByKey}
use Rattle.std.specs.Ordering.{nat_cmp}
use Rattle.std.proofs.lemmas.List.Sorted.{answers_always}
use Rattle.service_registry.specs.declared.row.ServiceRow.{ServiceRow}
use Rattle.service_registry.proofs.Sorting.{in_order_made}
use Rattle.scr_readers.proofs.StableOrder.{sorted_by_number}
use Rattle.scr_readers.proofs.numbered_services.by_number.Goals as goal

pub returns : goal.returns
returns c =
    let id_of : Bor ServiceRow → ℕ = λ r. r.now.id in
    let given : List (Bor ServiceRow) = c.args.services.items in
    ap (map (λ (r : Bor ServiceRow). r.now)) (sorted_by_number id_of given c.sort_by_key.new.self.items
    (c.in_ok-sort_by_key.ensures.sorted id_of (answers_always _ (λ a r. r ≡ id_of a.0.now) _ (λ f a r f' k. search rules)))
    (subst (λ l. IsStableByKey id_of nat_cmp l c.sort_by_key.new.self.items) c.reverse.ensures.items
    (c.in_ok-sort_by_key.ensures.stable id_of (answers_always _ (λ a r. r ≡ id_of a.0.now) _ (λ f a r f' k. search rules)))))
    ∙ in_order_made (λ (r : Bor ServiceRow). r.now) (λ (a b : ServiceRow). nat_lt a.id b.id) given
