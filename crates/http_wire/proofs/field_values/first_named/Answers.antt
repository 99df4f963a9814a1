use Rattle.std.proofs.Common.{◌∙◌, sym, ap, Some}
use Rattle.httparse.specs.Spans.{header_bytes}
use Rattle.http_wire.specs.FieldValues.{is_same_word}
use Rattle.http_wire.proofs.FieldValuesLemmas.{first_at}
use Rattle.http_wire.proofs.field_values.first_named.Goals as goal

pub returns-then-is_same_word : goal.returns-then-is_same_word
returns-then-is_same_word c =
    ap Some c.of-then-is_same_word.ensures
    ∙ sym (first_at (header_bytes c.args.bytes.now) c.args.name.now c.args.fields.now c.loop-field.field-index _ c.loop-field-test.true c.loop-field.invariant
    (ap (λ w. is_same_word w c.args.name.now) (sym c.of.ensures) ∙ ap (is_same_word c.of.result.now) (sym c.as_bytes.ensures.value) ∙ sym c.if-is_same_word.ensures))
