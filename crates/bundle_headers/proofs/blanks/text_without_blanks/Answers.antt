use Rattle.std.proofs.Common.{sym, ◌∙◌, ap, subst, IsUtf8}
use Rattle.bundle_headers.specs.Blanks.{without_blanks}
use Rattle.bundle_headers.proofs.TextLemmas.{text_without_blanks}
use Rattle.bundle_headers.proofs.blanks.text_without_blanks.Goals as goal

pub text_of-requires : goal.text_of-requires
text_of-requires c =
    let same = ap without_blanks (sym c.as_bytes.ensures.value) ∙ sym c.without_blanks.ensures in
    subst IsUtf8 same (text_without_blanks c.args.text.now c.utf8.text)
