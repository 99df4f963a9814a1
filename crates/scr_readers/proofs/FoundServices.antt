-- Services that a filter finds, first among one list and then among another.
use Rattle.std.proofs.Common.{◌≡◌, ap, sym, ◌∙◌, List, ◌++◌, Bool}
use Rattle.std.proofs.lemmas.List.{map-append}
use Rattle.std.proofs.lemmas.List.Elements.{filter-append}
use Rattle.std.specs.Prelude.{filter, map}
use Rattle.prop_map.specs.Words.{in_order}
use Rattle.service_registry.specs.declared.best_first.Ranked.{Ranked}
use Rattle.service_registry.specs.declared.row.ServiceRow.{ServiceRow}
use Rattle.service_registry.specs.Services.{best_first, ids, ranked, ranked_before}
use Rattle.service_registry.proofs.RankOrder.{numbers_ranked}

pub found_in_both : (test : ServiceRow → Bool) (direct opened : List ServiceRow) (ranks : List Ranked)
    → ranks ≡ map ranked (filter test direct) ++ map ranked (filter test opened) → map (λ (r : Ranked). r.id) (in_order ranked_before ranks) ≡ ids (best_first (filter test (direct ++ opened)))
found_in_both test direct opened ranks is =
    ap (λ (l : List Ranked). map (λ (r : Ranked). r.id) (in_order ranked_before l))
    (is ∙ sym (map-append ranked (filter test direct) (filter test opened)) ∙ ap (map ranked) (sym (filter-append test direct opened)))
    ∙ numbers_ranked (filter test (direct ++ opened))
