-- What a call read, against what was to be read.
use Rattle.std.specs.Prelude.{◌≡◌, Result, Ok, Err}
use Rattle.prop_map.specs.declared.prop_fault.PropFault.{PropFault}
use Rattle.prop_map.specs.declared.prop_fault.PropFault.TheVariants.{NotObject, FloatValue, NestedValue, MixedList, SameKey, OutOfMemory}

-- a fault that was told is the one that is there; want of memory is free
abbrev pub Tells : {T : Type 0} → PropFault → Result T PropFault → Type 0
Tells NotObject meaning = meaning ≡ Err NotObject
Tells (FloatValue key) meaning = meaning ≡ Err (FloatValue key)
Tells (NestedValue key) meaning = meaning ≡ Err (NestedValue key)
Tells (MixedList key) meaning = meaning ≡ Err (MixedList key)
Tells (SameKey key) meaning = meaning ≡ Err (SameKey key)
Tells OutOfMemory meaning = Unit {0}

-- what was read is what is there
abbrev pub Reads : {T : Type 0} → Result T PropFault → Result T PropFault → Type 0
Reads (Ok value) meaning = meaning ≡ Ok value
Reads (Err fault) meaning = Tells fault meaning
