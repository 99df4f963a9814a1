-- An array of texts has no float, so that its text is determined.
use Rattle.std.proofs.Common.{◌≡◌, refl, ℕ, List, [], ◌∷◌, map, false}
use Rattle.serde_json.specs.Data.{string}
use Rattle.serde_json.specs.View.{items_of}
use Rattle.serde_json.specs.Written.{has_float, items_have_float}
use Rattle.shell_lang.specs.DescriptionTexts.{text_array}

texts_without : (texts : List (List ℕ)) → items_have_float (items_of (map string texts)) ≡ false
texts_without [] = refl
texts_without (t ∷ ts) = texts_without ts

pub array_without : (texts : List (List ℕ)) → has_float (text_array texts) ≡ false
array_without = texts_without
