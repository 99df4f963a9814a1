-- Properties read from JSON: texts, whole numbers, flags, and lists of one of these. The rules are this project's own.
use Rattle.std.specs.Prelude.{ℕ, ℤ, List, [], ◌∷◌, Bool, true, false, not, ◌&&◌, Option, Some, None, option_map, option_and_then, if◌then◌else◌, Result, Ok, Err}
use Rattle.std.specs.List.{list_any}
use Rattle.std.specs.Str.{bytes_eq}
use Rattle.serde_json.specs.Data.{Data, null, boolean, number, string, array, object, Items, no_items, item, Members, no_members, member}
use Rattle.serde_json.specs.Find.{as_str, as_bool, as_number, as_i64}
use Rattle.prop_map.specs.declared.value.Value.{Value}
use Rattle.prop_map.specs.declared.value.Value.TheVariants.{Text, Whole, Flag, Texts, Wholes, Flags}
use Rattle.prop_map.specs.declared.properties.Property.{Property}
use Rattle.prop_map.specs.declared.prop_fault.PropFault.{PropFault}
use Rattle.prop_map.specs.declared.prop_fault.PropFault.TheVariants.{NotObject, FloatValue, NestedValue, MixedList, SameKey}
use Rattle.prop_map.specs.Keys.{same_key}
use Rattle.prop_map.specs.Maps.{put}
use Rattle.prop_map.specs.Words.{after}

-- a whole number in 64 bits with a sign; any other number is none
abbrev pub whole : Data → Option ℤ
whole d = option_and_then as_i64 (as_number d)

-- what each item of a list is, where each is something
abbrev pub each : {T : Type 0} → (Data → Option T) → Items → Option (List T)
each meaning no_items = Some []
each meaning (item d ds) = option_and_then (λ x. option_map (λ xs. x ∷ xs) (each meaning ds)) (meaning d)

abbrev pub sound_number : List ℕ → Option ℤ → Result (Unit {0}) PropFault
sound_number key (Some n) = Ok tt
sound_number key None = Err (FloatValue key)

-- an item of a list is sound by itself, or what is wrong with it
abbrev pub sound_item : List ℕ → Data → Result (Unit {0}) PropFault
sound_item key null = Err (NestedValue key)
sound_item key (boolean b) = Ok tt
sound_item key (number n) = sound_number key (as_i64 n)
sound_item key (string s) = Ok tt
sound_item key (array ds) = Err (NestedValue key)
sound_item key (object ms) = Err (NestedValue key)

-- the items are sound, or what is wrong with the first that isn't
abbrev pub sound_items : List ℕ → Items → Result (Unit {0}) PropFault
sound_items key no_items = Ok tt
sound_items key (item d ds) = after (sound_item key d) (λ _. sound_items key ds)

-- a list of flags, else one of two kinds
abbrev pub flags_or_mixed : List ℕ → Option (List Bool) → Result Value PropFault
flags_or_mixed key (Some flags) = Ok (Flags flags)
flags_or_mixed key None = Err (MixedList key)

-- a list of whole numbers, else another one
abbrev pub wholes_or : Result Value PropFault → Option (List ℤ) → Result Value PropFault
wholes_or other (Some wholes) = Ok (Wholes wholes)
wholes_or other None = other

-- a list of texts, as one without items is, else another one
abbrev pub texts_or : Result Value PropFault → Option (List (List ℕ)) → Result Value PropFault
texts_or other (Some texts) = Ok (Texts texts)
texts_or other None = other

-- a list of sound items: it is of one kind
abbrev pub sound_list : List ℕ → Items → Result Value PropFault
sound_list key ds = texts_or (wholes_or (flags_or_mixed key (each as_bool ds)) (each whole ds)) (each as_str ds)

-- the value that a list is; an item at fault comes before the kinds
abbrev pub list_value : List ℕ → Items → Result Value PropFault
list_value key ds = after (sound_items key ds) (λ _. sound_list key ds)

abbrev pub whole_or_float : List ℕ → Option ℤ → Result Value PropFault
whole_or_float key (Some n) = Ok (Whole n)
whole_or_float key None = Err (FloatValue key)

-- the value at a key; null is none
abbrev pub value_of : List ℕ → Data → Result (Option Value) PropFault
value_of key null = Ok None
value_of key (boolean b) = Ok (Some (Flag b))
value_of key (number n) = after (whole_or_float key (as_i64 n)) (λ value. Ok (Some value))
value_of key (string s) = Ok (Some (Text s))
value_of key (array ds) = after (list_value key ds) (λ value. Ok (Some value))
value_of key (object ms) = Err (NestedValue key)

-- the keys of an object
abbrev pub keys_of : Members → List (List ℕ)
keys_of no_members = []
keys_of (member key d ms) = key ∷ keys_of ms

abbrev pub is_null : Data → Bool
is_null null = true
is_null (boolean b) = false
is_null (number n) = false
is_null (string s) = false
is_null (array ds) = false
is_null (object ms) = false

-- the keys that an object gives; a null is as if its key weren't there
abbrev pub given_keys : Members → List (List ℕ)
given_keys no_members = []
given_keys (member key d ms) = if is_null d then given_keys ms else key ∷ given_keys ms

-- another spelling of a key
abbrev pub is_another : List ℕ → List ℕ → Bool
is_another other key = same_key other key && not (bytes_eq other key)

-- the keys have another spelling of a key
abbrev pub is_repeated : List (List ℕ) → List ℕ → Bool
is_repeated keys key = list_any (λ other. is_another other key) keys

-- a value, if there is one, at a key that an object gives among others
abbrev pub alone : List (List ℕ) → List ℕ → Option Value → Result (Option Value) PropFault
alone keys key None = Ok None
alone keys key (Some value) = if is_repeated keys key then Err (SameKey key) else Ok (Some value)

-- the value that a member gives; what is wrong with the value comes before what is wrong with the key
abbrev pub given_value : List (List ℕ) → List ℕ → Data → Result (Option Value) PropFault
given_value keys key d = after (value_of key d) (alone keys key)

-- a map with a value put, if there is one
abbrev pub put_given : List Property → List ℕ → Option Value → List Property
put_given before key None = before
put_given before key (Some value) = put before key value

-- the members in byte order of their keys, up to the first that is at fault, in an object that gives these keys
abbrev pub with_members : List (List ℕ) → List Property → Members → Result (List Property) PropFault
with_members keys before no_members = Ok before
with_members keys before (member key d ms) = after (given_value keys key d) (λ value. with_members keys (put_given before key value) ms)

-- the properties that an object gives, or its first fault
abbrev pub properties_of : Data → Result (List Property) PropFault
properties_of null = Err NotObject
properties_of (boolean b) = Err NotObject
properties_of (number n) = Err NotObject
properties_of (string s) = Err NotObject
properties_of (array ds) = Err NotObject
properties_of (object ms) = with_members (given_keys ms) [] ms
