use Rattle.std.proofs.Common.{IsUtf8, ◌∙◌, ap, sym, subst}
use Rattle.bundle_headers.specs.Blanks.{without_blanks}
use Rattle.bundle_headers.proofs.TextLemmas.{text_without_blanks}
use Rattle.bundle_headers.proofs.clause_reading.token.Goals as goal

pub str_of-requires : goal.str_of-requires
str_of-requires c = subst IsUtf8 (ap without_blanks (sym c.as_slice-2.ensures) ∙ sym c.without_blanks.ensures) (text_without_blanks c.args.bytes c.requires)
