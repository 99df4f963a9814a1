use Rattle.std.proofs.Common.{◌≡◌, ◌∷◌, ap, subst, sym, ◌∙◌, cond, drop, Some}
use Rattle.std.specs.Str.{bytes_eq}
use Rattle.std.proofs.lemmas.Result.{on_ok_weaker}
use Rattle.shared_map.specs.declared.rows.Row.{Row}
use Rattle.shared_map.specs.Parts.{rows_of}
use Rattle.shared_map.specs.Rows.{HaveSameRows, value_of}
use Rattle.shared_map.proofs.PartLemmas.{value_set}
use Rattle.shared_map.proofs.shared_map.SharedMap.set.Goals as goal

pub returns-clause-ok : goal.returns-clause-ok
returns-clause-ok g c =
    let row : Row g.row.V.Denot = record { key = c.args.key; value = c.args.value } in
    let newer : c.split_at.result.1.now ≡ drop c.kept-kept.result c.self.inside.parts.items = c.split_at.ensures.back ∙ ap (drop c.kept-kept.result) c.as_slice-2.ensures.value in
    let same : HaveSameRows c.in_ok-part.part (row ∷ rows_of (drop c.kept-kept.result c.self.inside.parts.items)) =
    subst (λ rows. HaveSameRows rows (row ∷ rows_of (drop c.kept-kept.result c.self.inside.parts.items))) (sym c.in_ok-part.ensures)
    (subst (λ parts. HaveSameRows c.in_ok-rows.rows.items (row ∷ rows_of parts)) newer c.in_ok-rows.ensures.rows) in
    on_ok_weaker c.replace_from.result
    (λ items other. ap (λ parts. value_of other (rows_of parts)) items
    ∙ value_set c.self.inside.parts.items c.kept-kept.result c.in_ok-part.part row same other
    ∙ ap (λ rows. cond (bytes_eq c.args.key other) (Some c.args.value) (value_of other rows)) c.self.view_is)
    c.replace_from.ensures.ok
