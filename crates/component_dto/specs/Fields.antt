-- The fields of a JSON object, each read by its type. Our own words.
use Rattle.std.specs.Prelude.{ℕ, List, [], ◌∷◌, Bool, Option, Some, None, option_and_then, Result, Ok, Err}
use Rattle.serde_json.specs.Data.{Data, null, boolean, number, string, array, object, Items, no_items, item}
use Rattle.serde_json.specs.Find.{get, as_bool, as_str, as_array}
use Rattle.prop_map.specs.JsonProperties.{each}
use Rattle.prop_map.specs.Words.{after}
use Rattle.component_dto.specs.declared.fault.DescriptionFault.{DescriptionFault}
use Rattle.component_dto.specs.declared.fault.DescriptionFault.TheVariants.{MissingField, WrongType, BadWord}

-- a missing value and null are the same
abbrev pub not_null : Data → Option Data
not_null null = None
not_null (boolean b) = Some (boolean b)
not_null (number n) = Some (number n)
not_null (string s) = Some (string s)
not_null (array ds) = Some (array ds)
not_null (object ms) = Some (object ms)

-- the value of a field, where it is there and isn't null
abbrev pub given : List ℕ → Data → Option Data
given field d = option_and_then not_null (get field d)

-- what is there, or this fault
abbrev pub or_fault : {T F : Type 0} → F → Option T → Result T F
or_fault fault None = Err fault
or_fault fault (Some x) = Ok x

-- what a value is read as, if one is given
abbrev pub if_given : {T F : Type 0} → (Data → Result T F) → Option Data → Result (Option T) F
if_given reading None = Ok None
if_given reading (Some d) = after (reading d) (λ x. Ok (Some x))

-- a text in a field
abbrev pub text_in : List ℕ → Data → Result (List ℕ) DescriptionFault
text_in field d = or_fault (WrongType field) (as_str d)

abbrev pub flag_in : List ℕ → Data → Result Bool DescriptionFault
flag_in field d = or_fault (WrongType field) (as_bool d)

-- a list of texts
abbrev pub texts_in : List ℕ → Data → Result (List (List ℕ)) DescriptionFault
texts_in field d = or_fault (WrongType field) (option_and_then (each as_str) (as_array d))

-- one of a number of words
abbrev pub word_in : {T : Type 0} → (List ℕ → Option T) → List ℕ → Data → Result T DescriptionFault
word_in words field d = after (text_in field d) (λ word. or_fault (BadWord field) (words word))

abbrev pub text_at : List ℕ → Data → Result (Option (List ℕ)) DescriptionFault
text_at field d = if_given (text_in field) (given field d)

abbrev pub flag_at : List ℕ → Data → Result (Option Bool) DescriptionFault
flag_at field d = if_given (flag_in field) (given field d)

-- the texts of a field, by default none
abbrev pub or_empty : {T : Type 0} → Option (List T) → List T
or_empty None = []
or_empty (Some xs) = xs

abbrev pub texts_at : List ℕ → Data → Result (List (List ℕ)) DescriptionFault
texts_at field d = after (if_given (texts_in field) (given field d)) (λ texts. Ok (or_empty texts))

abbrev pub word_at : {T : Type 0} → (List ℕ → Option T) → List ℕ → Data → Result (Option T) DescriptionFault
word_at words field d = if_given (word_in words field) (given field d)

-- a text that is there and isn't empty
abbrev pub filled : Option (List ℕ) → Option (List ℕ)
filled None = None
filled (Some []) = None
filled (Some (b ∷ bs)) = Some (b ∷ bs)

-- the text of a field that has to be there
abbrev pub needed_text_at : List ℕ → Data → Result (List ℕ) DescriptionFault
needed_text_at field d = after (text_at field d) (λ text. or_fault (MissingField field) (filled text))

-- what each item of a list is read as, or the fault of the first that has one
abbrev pub each_read : {T F : Type 0} → (Data → Result T F) → Items → Result (List T) F
each_read reading no_items = Ok []
each_read reading (item d ds) = after (reading d) (λ x. after (each_read reading ds) (λ xs. Ok (x ∷ xs)))
