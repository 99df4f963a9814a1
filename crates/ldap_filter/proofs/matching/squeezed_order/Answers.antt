use Rattle.std.proofs.Common.{◌≡◌, refl, rules, tests, not}
use Rattle.std.specs.Char.{to_ascii_lowercase, is_ascii_whitespace}
use Rattle.std.specs.Ordering.{nat_cmp}
use Rattle.std.proofs.lemmas.Iterator.{YieldsList-from_map}
use Rattle.std.proofs.lemmas.Iterator.Adapters.{YieldsList-from_bytes}
use Rattle.std.proofs.lemmas.Iterator.Consumers.{YieldsList-from_filter}
use Rattle.std.proofs.lemmas.Iterator.Search.{cmp_from_yields_List}
use Rattle.ldap_filter.proofs.matching.squeezed_order.Goals as goal

pub returns : goal.returns
returns c = cmp_from_yields_List (λ x y. y ≡ x) _ nat_cmp _ c.cmp.ensures.ran
    (YieldsList-from_map _ to_ascii_lowercase (YieldsList-from_filter _ (λ b. not (is_ascii_whitespace b)) (YieldsList-from_bytes c.args.a.now cc) c.filter.ensures.closure (λ x r q k. search (rules, tests))) c.map-bytes.ensures.closure (λ x r q k. search (rules, tests)))
    (λ it e. rw e (YieldsList-from_map _ to_ascii_lowercase (YieldsList-from_filter _ (λ b. not (is_ascii_whitespace b)) (YieldsList-from_bytes c.args.b.now cc) c.filter-2.ensures.closure (λ x r q k. search (rules, tests))) c.map.ensures.closure (λ x r q k. search (rules, tests))))
    (λ x y. refl)
