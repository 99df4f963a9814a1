use Rattle.std.proofs.Common.{◌≡◌, ap, ◌∙◌, subst}
use Rattle.std.specs.Option.{option_copied}
use Rattle.wb_context.specs.ContextForms.{is_name, is_path}
use Rattle.wb_context.specs.Contexts.{TellsContext, context_with, name_in, text_if}
use Rattle.wb_context.proofs.context.read_context.Goals as goal

pub returns : goal.returns
returns c =
    let row = c.args.row.now in
    let name = c.text_if_name-name.ensures ∙ ap (text_if is_name) c.get.ensures in
    let path = c.text_if_path-path.ensures ∙ ap (text_if is_path) c.get-2.ensures in
    subst (λ p. TellsContext (context_with row (name_in row) p) c.context_with.result) path
    (subst (λ n. TellsContext (context_with row n (option_copied c.text_if_path-path.result)) c.context_with.result) name c.context_with.ensures)
