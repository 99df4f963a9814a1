use Rattle.std.proofs.Common.{map}
use Rattle.std.specs.Char.{to_ascii_lowercase}
use Rattle.std.proofs.lemmas.Bool.Decides.{same_from_decides}
use Rattle.std.proofs.lemmas.Slice.Eq.{bytes_eq-Decides}
use Rattle.http_wire.specs.FieldValues.{is_same_word}
use Rattle.http_wire.proofs.FieldValuesLemmas.{decides_from_iff}
use Rattle.http_wire.proofs.field_values.is_same_word.Goals as goal

pub returns : goal.returns
unfolding is_same_word
returns c =
    same_from_decides _ _ (decides_from_iff _ c.eq_ignore_ascii_case.ensures.test)
    (bytes_eq-Decides (map to_ascii_lowercase c.args.a.now) (map to_ascii_lowercase c.args.b.now))
