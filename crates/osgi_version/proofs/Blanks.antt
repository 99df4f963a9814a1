-- Blanks, and the bytes that a version's steps take, of which none is a blank.
use Rattle.std.proofs.Common.{◌≡◌, ℕ, List, [], ◌∷◌, ◌++◌, false, eqb, Option, Some, None, refl, ap, append_assoc}
use Rattle.std.proofs.lemmas.Bool.{ne_eqb}
use Rattle.osgi_version.specs.Readings.{AreBlanks, Pads, run}
use Rattle.osgi_version.specs.Steps.{plain_step}
use Rattle.osgi_version.specs.declared.reading.Reading.{Reading}
use Rattle.osgi_version.specs.declared.reading.Reading.TheVariants.{NumberDue, Number, QualifierDue, Qualifier}

pub one_blank_more : (bs : List ℕ) (b : ℕ) → AreBlanks bs → b ≡ 32 → AreBlanks (bs ++ b ∷ [])
one_blank_more [] b h e = (e, tt)
one_blank_more (c ∷ bs) b (here, rest) e = (here, one_blank_more bs b rest e)

pub padded_more : (text body : List ℕ) (b : ℕ) → Pads text body → b ≡ 32 → Pads (text ++ b ∷ []) body
padded_more text body b (before, behind, blank, blank', same) e =
    (before, behind ++ b ∷ [], blank, one_blank_more behind b blank' e, rw same (simp append_assoc))

-- a place that blanks do not leave
pub run_blanks : {S : Type 0} (step : S → ℕ → Option S) (s : S) → step s 32 ≡ Some s → (bs : List ℕ) → AreBlanks bs → run step s bs ≡ Some s
run_blanks step s stays [] h = refl
run_blanks {S} step s stays (b ∷ bs) (e, h) = rw (e, stays) (run_blanks step s stays bs h)

takes_no_blank : (s : Reading) → plain_step s 32 ≡ None
takes_no_blank (NumberDue earlier) = refl
takes_no_blank (Number earlier n) = refl
takes_no_blank (QualifierDue v) = refl
takes_no_blank (Qualifier v) = refl

takes_no_comma : (s : Reading) → plain_step s 44 ≡ None
takes_no_comma (NumberDue earlier) = refl
takes_no_comma (Number earlier n) = refl
takes_no_comma (QualifierDue v) = refl
takes_no_comma (Qualifier v) = refl

takes_no_square : (s : Reading) → plain_step s 93 ≡ None
takes_no_square (NumberDue earlier) = refl
takes_no_square (Number earlier n) = refl
takes_no_square (QualifierDue v) = refl
takes_no_square (Qualifier v) = refl

takes_no_round : (s : Reading) → plain_step s 41 ≡ None
takes_no_round (NumberDue earlier) = refl
takes_no_round (Number earlier n) = refl
takes_no_round (QualifierDue v) = refl
takes_no_round (Qualifier v) = refl

other_byte : (s t : Reading) (b c : ℕ) → plain_step s c ≡ None → plain_step s b ≡ Some t → eqb b c ≡ false
other_byte s t b c refused taken = ne_eqb b c (λ e. let same : plain_step s b ≡ plain_step s c = ap (plain_step s) e in cc)

pub not_blank : (s t : Reading) (b : ℕ) → plain_step s b ≡ Some t → eqb b 32 ≡ false
not_blank s t b e = other_byte s t b 32 (takes_no_blank s) e

pub not_comma : (s t : Reading) (b : ℕ) → plain_step s b ≡ Some t → eqb b 44 ≡ false
not_comma s t b e = other_byte s t b 44 (takes_no_comma s) e

pub not_square : (s t : Reading) (b : ℕ) → plain_step s b ≡ Some t → eqb b 93 ≡ false
not_square s t b e = other_byte s t b 93 (takes_no_square s) e

pub not_round : (s t : Reading) (b : ℕ) → plain_step s b ≡ Some t → eqb b 41 ≡ false
not_round s t b e = other_byte s t b 41 (takes_no_round s) e
