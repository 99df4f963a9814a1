use Rattle.std.proofs.Common.{sym, ◌∙◌, subst, ap, take, drop, IsUtf8, ◌+◌}
use Rattle.bundle_headers.specs.Blanks.{without_blanks}
use Rattle.bundle_headers.proofs.HeaderLemmas.{name_text, value_text}
use Rattle.bundle_headers.proofs.header.name_and_value.Goals as goal

pub str_of-requires : goal.str_of-requires
str_of-requires c =
    let same = ap (λ n. take n c.args.text.now) (sym c.name_length-length.ensures.value) ∙ sym c.split_at.ensures.front in
    subst IsUtf8 same (name_text c.args.text.now c.requires.begun c.requires.utf8)

pub str_of-requires-2 : goal.str_of-requires-2
str_of-requires-2 c =
    let same = ap (λ n. without_blanks (drop (n + 2) c.args.text.now)) (sym c.name_length-length.ensures.value) ∙ (ap without_blanks (sym c.split_at-2.ensures.back) ∙ sym c.without_blanks.ensures) in
    subst IsUtf8 same (value_text c.args.text.now c.requires.begun c.requires.utf8)
