use Rattle.std.proofs.Common.{ap, refl, length, take, drop, ◌++◌, ◌∙◌, rules}
use Rattle.prop_map.specs.Lends.{as_left}
use Rattle.prop_map.proofs.list.List.as_mut_slice.Goals as goal

pub returns : goal.returns
returns g c = ((refl, λ w. ap (λ n. take n (w ++ drop (length w) c.self.inside.vec.items)) c.self.inside.vec.ok.0 ∙ ap (λ items. as_left items w) c.self.view_is), record { writes_back = tt; value = search rules })
