use Rattle.std.proofs.Common.{◌≡◌, drop}
use Rattle.text_index.specs.Texts.{has_text}
use Rattle.wb_filters.proofs.pages.has_text.Given as goal

abbrev pub invariant-loop-one : goal.invariant-loop-one
invariant-loop-one l = has_text l.texts l.text ≡ has_text (drop l.one-index l.texts) l.text
