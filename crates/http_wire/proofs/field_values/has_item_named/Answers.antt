use Rattle.std.proofs.Common.{◌∙◌, sym, ap}
use Rattle.httparse.specs.Spans.{header_bytes}
use Rattle.http_wire.specs.FieldValues.{is_same_word, has_item}
use Rattle.http_wire.proofs.FieldValuesLemmas.{has_item_at}
use Rattle.http_wire.proofs.field_values.has_item_named.Goals as goal

pub returns-then-has_item : goal.returns-then-has_item
returns-then-has_item c =
    sym (has_item_at (header_bytes c.args.bytes.now) c.args.name.now c.args.word.now c.args.fields.now c.loop-field.field-index _ c.loop-field-test.true
    (ap (λ w. is_same_word w c.args.name.now) (sym c.of.ensures) ∙ ap (is_same_word c.of.result.now) (sym c.as_bytes.ensures.value) ∙ sym c.if-is_same_word.ensures)
    (ap (λ w. has_item c.args.word.now w) (sym c.of-then-is_same_word.ensures) ∙ sym c.if-has_item.ensures))
