-- A byte more of a chunked body, and what completes it.
use Rattle.std.proofs.Common.{◌≡◌, ℕ, ◌+◌, ◌-◌, ◌*◌, ◌<◌, ◌≤◌, true, List, [], ◌∷◌, ◌++◌, length, refl, sym, ap, ◌∙◌, subst, arith, append_assoc, length-append, inl, inr, Some, None}
use Rattle.std.specs.Prelude.{replicate}
use Rattle.std.proofs.lemmas.List.{length-replicate}
use Rattle.std.proofs.lemmas.List.Elements.{All-nil, All-cons}
use Rattle.std.specs.Char.{is_ascii_hexdigit, digit_value}
use Rattle.std.specs.Str.Parse.{digits_value_after}
use Rattle.httparse.specs.Grammar.{is_ows, is_token_byte, is_value_byte, is_extension_byte, ChunkLine, print_chunk_line, Field, IsField, crlf, lf, print_end, print_section}
use Rattle.httparse.proofs.GrammarLemmas.{cons-append}
use Rattle.http_wire.specs.ChunkedBody.{HasSection, IsBodyAt, IsLessBody}
use Rattle.http_wire.specs.ChunkContinuation.{IsChunkRest}
use Rattle.http_wire.specs.ChunkPlaces.{Follows, InDigits, InName, gained, Steps, EndsAt, IsFollowed, LacksFrom}
use Rattle.http_wire.specs.declared.chunk_place.Place.{Place}
use Rattle.http_wire.specs.declared.chunk_place.Place.TheVariants.{Digits, Blanks, Extension, LineFeed, Chunk, ChunkEnd, ChunkFeed, Trailer, Name, Value, ValueFeed, LastFeed, Unknown}
use Rattle.http_wire.specs.declared.chunk_place.Reached.{Reached}
use Rattle.http_wire.proofs.ChunkLineCut.{line_text}
use Rattle.http_wire.proofs.ChunkNeedsLemmas.{least_body, empty_section}

-- ---- steps

pub unknown_steps : (place : Place) (b : ℕ) → Steps place b Unknown
unknown_steps place b = record { goes = λ more left c. absurd c }

pub digit_steps : (count number b digit : ℕ) → is_ascii_hexdigit b ≡ true → digit ≡ digit_value b → count < 16 → Steps (Digits count number) b (Digits (count + 1) (number * 16 + digit))
digit_steps count number b digit hex is few = record {
  goes = λ more left c. record {
    digits = b ∷ c.digits;
    hex = All-cons (λ v. is_ascii_hexdigit v ≡ true) b c.digits hex c.hex;
    some = omega arith;
    few = omega (arith, c.few);
    pad = c.pad;
    blank = c.blank;
    extension = c.extension;
    valid = c.valid;
    after = c.after;
    is = ap (λ (t : List ℕ). b ∷ t) c.is;
    follows = subst (λ (d : ℕ). Follows (digits_value_after 16 (number * 16 + d) c.digits) c.after left) is c.follows;
  };
}

-- behind a digit what stands behind a blank may stand too
pub blank_after_digit : (count number b : ℕ) (next : Place) → 0 < count → count ≤ 16 → Steps (Blanks number) b next → Steps (Digits count number) b next
blank_after_digit count number b next some few s = record {
  goes = λ more left c. let k = s.goes more left c in record {
    digits = [];
    hex = All-nil _;
    some = omega arith;
    few = omega arith;
    pad = k.pad;
    blank = k.blank;
    extension = k.extension;
    valid = k.valid;
    after = k.after;
    is = k.is;
    follows = k.follows;
  };
}

pub blank_steps : (size b : ℕ) → is_ows b ≡ true → Steps (Blanks size) b (Blanks size)
blank_steps size b ows = record {
  goes = λ more left c. record {
    pad = b ∷ c.pad;
    blank = All-cons (λ v. is_ows v ≡ true) b c.pad ows c.blank;
    extension = c.extension;
    valid = c.valid;
    after = c.after;
    is = ap (λ (t : List ℕ). b ∷ t) c.is;
    follows = c.follows;
  };
}

pub semicolon_steps : (size b : ℕ) → b ≡ 59 → Steps (Blanks size) b (Extension size)
semicolon_steps size b e = record {
  goes = λ more left c. record { pad = []; blank = All-nil _; extension = Some c.shown; valid = c.clear; after = c.after; is = λ i. e i ∷ c.is i; follows = c.follows };
}

pub blank_cr_steps : (size b : ℕ) → b ≡ 13 → Steps (Blanks size) b (LineFeed size)
blank_cr_steps size b e = record {
  goes = λ more left c. record { pad = []; blank = All-nil _; extension = None; valid = tt; after = c.after; is = λ i. e i ∷ c.is i; follows = c.follows };
}

pub shown_steps : (size b : ℕ) → is_extension_byte b ≡ true → Steps (Extension size) b (Extension size)
shown_steps size b clear = record {
  goes = λ more left c. record {
    shown = b ∷ c.shown;
    clear = All-cons (λ v. is_extension_byte v ≡ true) b c.shown clear c.clear;
    after = c.after;
    is = ap (λ (t : List ℕ). b ∷ t) c.is;
    follows = c.follows;
  };
}

pub shown_cr_steps : (size b : ℕ) → b ≡ 13 → Steps (Extension size) b (LineFeed size)
shown_cr_steps size b e = record { goes = λ more left c. record { shown = []; clear = All-nil _; after = c.after; is = λ i. e i ∷ c.is i; follows = c.follows } }

pub line_chunk_steps : (size b : ℕ) → b ≡ 10 → 0 < size → Steps (LineFeed size) b (Chunk size)
line_chunk_steps size b e some = record { goes = λ more left c. record { after = more; is = λ i. e i ∷ more; follows = inr (some, c) } }

pub line_last_steps : (size b : ℕ) → b ≡ 10 → size ≡ 0 → Steps (LineFeed size) b Trailer
line_last_steps size b e none = record { goes = λ more left c. record { after = more; is = λ i. e i ∷ more; follows = inl (none, c.0, c.1) } }

pub content_steps : (left b : ℕ) → 1 < left → Steps (Chunk left) b (Chunk (left - 1))
content_steps left b some = record {
  goes = λ more rest c. record {
    chunk = b ∷ c.chunk;
    after = c.after;
    left = c.left;
    sized = omega (arith, c.sized);
    is = ap (λ (t : List ℕ). b ∷ t) c.is;
    content_is = ap (λ (t : List ℕ). b ∷ t) c.content_is;
    reads = c.reads;
  };
}

pub content_ends : (left b : ℕ) → left ≡ 1 → Steps (Chunk left) b ChunkEnd
content_ends left b one = record {
  goes = λ more rest c. record { chunk = b ∷ []; after = c.0; left = rest; sized = sym one; is = ap (λ (t : List ℕ). b ∷ t) c.1; content_is = refl; reads = c.2 };
}

pub chunk_steps : (b : ℕ) → b ≡ 13 → Steps ChunkEnd b ChunkFeed
chunk_steps b e = record { goes = λ more left c. (c.0, (λ i. e i ∷ c.1 i), c.2) }

-- a body begins with a chunk line
pub body_begins : (more content : List ℕ) → InDigits 0 0 more content → IsBodyAt more content []
body_begins more content c =
    let line : ChunkLine = record { digits = c.digits; pad = c.pad; extension = c.extension } in
    let text : more ≡ print_chunk_line line ++ c.after = c.is ∙ sym (ap (λ (t : List ℕ). t ++ c.after) (line_text line) ∙ (simp append_assoc)) in
    let some : 0 < length c.digits = omega (arith, c.some) in
    let few : length c.digits ≤ 16 = omega (arith, c.few) in
    elim c.follows as (λ f. IsBodyAt more content []) [
      | inl f ↦ record {
        chunks = [];
        reads = (c.after, record { line = line; valid = record { digits = (some, few, c.hex); pad = c.blank; extension = c.valid }; ends = f.0; is = text }, f.2);
        is = f.1;
      }
      | inr f ↦ record {
        chunks = f.1.chunk ∷ f.1.reads.chunks;
        reads = (
          f.1.after,
          record {
            line = line;
            valid = record { digits = (some, few, c.hex); pad = c.blank; extension = c.valid };
            sized = sym f.1.sized;
            some = omega (arith, f.0, f.1.sized);
            is = text ∙ ap (λ (t : List ℕ). print_chunk_line line ++ t) f.1.is;
          },
          f.1.reads.reads,
        );
        is = f.1.content_is ∙ ap (λ (t : List ℕ). f.1.chunk ++ t) f.1.reads.is;
      }
    ]

pub chunk_feed_steps : (b : ℕ) → b ≡ 10 → Steps ChunkFeed b (Digits 0 0)
chunk_feed_steps b e = record { goes = λ more left c. (more, (λ i. e i ∷ more), body_begins more left c) }

-- the first byte of a trailer's name
pub trailer_steps : (b : ℕ) → is_token_byte b ≡ true → Steps Trailer b Name
trailer_steps b token = record { goes = λ more left c. (c.0, section b more token c.1) }
  where
    section : (b : ℕ) (more : List ℕ) → is_token_byte b ≡ true → InName more → HasSection (b ∷ more) []
    section b more token n =
        let f : Field = record { name = b ∷ n.name; raw = n.raw; end = n.end } in
        let valid : IsField f = record { name = (omega arith, All-cons (λ v. is_token_byte v ≡ true) b n.name token n.tokens); raw = n.clear } in
        let text : b ∷ more ≡ print_section (f ∷ n.section.0) n.section.1 ++ [] =
        ap (λ (t : List ℕ). b ∷ t) (n.is ∙ ap (λ (t : List ℕ). n.name ++ 58 ∷ (n.raw ++ (print_end n.end ++ t))) n.section.2.1) ∙ (simp (append_assoc, cons-append)) in
        (f ∷ n.section.0, n.section.1, (All-cons IsField f n.section.0 valid n.section.2.0, text))

pub trailer_cr_steps : (b : ℕ) → b ≡ 13 → Steps Trailer b LastFeed
trailer_cr_steps b e = record { goes = λ more left c. (c.0, ([], crlf, (All-nil IsField, (λ i. e i ∷ c.1 i)))) }

pub name_steps : (b : ℕ) → is_token_byte b ≡ true → Steps Name b Name
name_steps b token = record {
  goes = λ more left c. let n = c.1 in (
    c.0,
    record {
      name = b ∷ n.name;
      tokens = All-cons (λ v. is_token_byte v ≡ true) b n.name token n.tokens;
      raw = n.raw;
      clear = n.clear;
      end = n.end;
      after = n.after;
      is = ap (λ (t : List ℕ). b ∷ t) n.is;
      section = n.section;
    },
  );
}

pub colon_steps : (b : ℕ) → b ≡ 58 → Steps Name b Value
colon_steps b e = record {
  goes = λ more left c. let v = c.1 in (c.0, record { name = []; tokens = All-nil _; raw = v.raw; clear = v.clear; end = v.end; after = v.after; is = λ i. e i ∷ v.is i; section = v.section });
}

pub value_steps : (b : ℕ) → is_value_byte b ≡ true → Steps Value b Value
value_steps b clear = record {
  goes = λ more left c. let v = c.1 in (
    c.0,
    record { raw = b ∷ v.raw; clear = All-cons (λ x. is_value_byte x ≡ true) b v.raw clear v.clear; end = v.end; after = v.after; is = ap (λ (t : List ℕ). b ∷ t) v.is; section = v.section },
  );
}

pub value_lf_steps : (b : ℕ) → b ≡ 10 → Steps Value b Trailer
value_lf_steps b e = record { goes = λ more left c. (c.0, record { raw = []; clear = All-nil _; end = lf; after = more; is = λ i. e i ∷ more; section = c.1 }) }

pub value_cr_steps : (b : ℕ) → b ≡ 13 → Steps Value b ValueFeed
value_cr_steps b e = record { goes = λ more left c. (c.0, record { raw = []; clear = All-nil _; end = crlf; after = c.1.0; is = λ i. e i ∷ c.1.1 i; section = c.1.2 }) }

pub value_feed_steps : (b : ℕ) → b ≡ 10 → Steps ValueFeed b Trailer
value_feed_steps b e = record { goes = λ more left c. (c.0, (more, (λ i. e i ∷ more), c.1)) }

-- ---- where bytes end

pub begins_at : (reached : Reached) → reached ≡ record { place = Digits 0 0; size = 0 } → EndsAt [] reached
begins_at reached e = subst (EndsAt []) (sym e) record { content = []; size_is = refl; leads = λ more left c. body_begins more left c }

pub lost_at : (bytes : List ℕ) → EndsAt bytes record { place = Unknown; size = 0 }
lost_at bytes = record { content = []; size_is = refl; leads = λ more left c. absurd c }

pub ends_after : (bytes : List ℕ) (place next : Place) (size b gain : ℕ) → EndsAt bytes record { place = place; size = size } → Steps place b next → length (gained place b) ≡ gain
    → EndsAt (bytes ++ b ∷ []) record { place = next; size = size + gain }
ends_after bytes place next size b gain e s gain_is = record {
  content = e.content ++ gained place b;
  size_is = omega (arith, e.size_is, gain_is, length-append e.content (gained place b));
  leads = λ more left c.
      subst (λ (t : List ℕ × List ℕ). IsBodyAt t.0 t.1 []) (λ i. (sym (append_assoc bytes (b ∷ []) more) i, sym (append_assoc e.content (gained place b) left) i))
      (e.leads (b ∷ more) (gained place b ++ left) (s.goes more left c));
}

-- ---- what completes a body

pub followed_last : (size : ℕ) → size ≡ 0 → IsFollowed size 1
followed_last size none = record { more = 10 ∷ []; left = []; some = omega arith; count_is = refl; size_is = sym none; follows = inl (none, refl, empty_section) }

pub chunk_rest : (size : ℕ) → IsChunkRest size (replicate size 48 ++ (13 ∷ 10 ∷ 48 ∷ 13 ∷ 10 ∷ 10 ∷ [])) (replicate size 48 ++ [])
chunk_rest size = record {
  chunk = replicate size 48;
  after = 48 ∷ 13 ∷ 10 ∷ 10 ∷ [];
  left = [];
  sized = length-replicate {A = ℕ} size 48;
  is = refl;
  content_is = refl;
  reads = least_body;
}

pub followed_chunk : (size : ℕ) → 0 < size → IsFollowed size (size + 6)
followed_chunk size some = record {
  more = replicate size 48 ++ (13 ∷ 10 ∷ 48 ∷ 13 ∷ 10 ∷ 10 ∷ []);
  left = replicate size 48 ++ [];
  some = omega arith;
  count_is = omega (arith, length-replicate {A = ℕ} size 48, length-append {A = ℕ} (replicate size 48) (13 ∷ 10 ∷ 48 ∷ 13 ∷ 10 ∷ 10 ∷ []));
  size_is = omega (arith, length-replicate {A = ℕ} size 48, length-append {A = ℕ} (replicate size 48) []);
  follows = inr (some, chunk_rest size);
}

pub first_lacks : (count number : ℕ) → count ≡ 0 → number ≡ 0 → LacksFrom (Digits count number) 4 0
first_lacks count number none zero = subst (λ (n : ℕ × ℕ). LacksFrom (Digits n.0 n.1) 4 0) (λ i. (sym none i, sym zero i)) record {
  more = 48 ∷ 13 ∷ 10 ∷ 10 ∷ [];
  left = [];
  some = omega arith;
  count_is = refl;
  size_is = refl;
  completes = record {
    digits = 48 ∷ [];
    hex = All-cons (λ v. is_ascii_hexdigit v ≡ true) 48 [] refl (All-nil _);
    some = omega arith;
    few = omega arith;
    pad = [];
    blank = All-nil _;
    extension = None;
    valid = tt;
    after = 10 ∷ [];
    is = refl;
    follows = inl (refl, refl, empty_section);
  };
}

pub digits_lack : (count number behind : ℕ) → 0 < count → count ≤ 16 → IsFollowed number behind → LacksFrom (Digits count number) (behind + 2) number
digits_lack count number behind some few f = record {
  more = 13 ∷ 10 ∷ f.more;
  left = f.left;
  some = omega arith;
  count_is = omega (arith, f.count_is);
  size_is = f.size_is;
  completes = record { digits = []; hex = All-nil _; some = omega arith; few = omega arith; pad = []; blank = All-nil _; extension = None; valid = tt; after = f.more; is = refl; follows = f.follows };
}

pub blanks_lack : (size behind : ℕ) → IsFollowed size behind → LacksFrom (Blanks size) (behind + 2) size
blanks_lack size behind f = record {
  more = 13 ∷ 10 ∷ f.more;
  left = f.left;
  some = omega arith;
  count_is = omega (arith, f.count_is);
  size_is = f.size_is;
  completes = record { pad = []; blank = All-nil _; extension = None; valid = tt; after = f.more; is = refl; follows = f.follows };
}

pub extension_lacks : (size behind : ℕ) → IsFollowed size behind → LacksFrom (Extension size) (behind + 2) size
extension_lacks size behind f = record {
  more = 13 ∷ 10 ∷ f.more;
  left = f.left;
  some = omega arith;
  count_is = omega (arith, f.count_is);
  size_is = f.size_is;
  completes = record { shown = []; clear = All-nil _; after = f.more; is = refl; follows = f.follows };
}

pub line_feed_lacks : (size behind : ℕ) → IsFollowed size behind → LacksFrom (LineFeed size) (behind + 1) size
line_feed_lacks size behind f = record {
  more = 10 ∷ f.more;
  left = f.left;
  some = omega arith;
  count_is = omega (arith, f.count_is);
  size_is = f.size_is;
  completes = record { after = f.more; is = refl; follows = f.follows };
}

pub chunk_lacks : (left : ℕ) → LacksFrom (Chunk left) (left + 6) left
chunk_lacks left = record {
  more = replicate left 48 ++ (13 ∷ 10 ∷ 48 ∷ 13 ∷ 10 ∷ 10 ∷ []);
  left = replicate left 48 ++ [];
  some = omega arith;
  count_is = omega (arith, length-replicate {A = ℕ} left 48, length-append {A = ℕ} (replicate left 48) (13 ∷ 10 ∷ 48 ∷ 13 ∷ 10 ∷ 10 ∷ []));
  size_is = omega (arith, length-replicate {A = ℕ} left 48, length-append {A = ℕ} (replicate left 48) []);
  completes = chunk_rest left;
}

pub chunk_end_lacks : LacksFrom ChunkEnd 6 0
chunk_end_lacks = record { more = 13 ∷ 10 ∷ 48 ∷ 13 ∷ 10 ∷ 10 ∷ []; left = []; some = omega arith; count_is = refl; size_is = refl; completes = (48 ∷ 13 ∷ 10 ∷ 10 ∷ [], refl, least_body) }

pub chunk_feed_lacks : LacksFrom ChunkFeed 5 0
chunk_feed_lacks = record { more = 10 ∷ 48 ∷ 13 ∷ 10 ∷ 10 ∷ []; left = []; some = omega arith; count_is = refl; size_is = refl; completes = (48 ∷ 13 ∷ 10 ∷ 10 ∷ [], refl, least_body) }

pub trailer_lacks : LacksFrom Trailer 1 0
trailer_lacks = record { more = 10 ∷ []; left = []; some = omega arith; count_is = refl; size_is = refl; completes = (refl, empty_section) }

pub name_lacks : LacksFrom Name 3 0
name_lacks = record {
  more = 58 ∷ 10 ∷ 10 ∷ [];
  left = [];
  some = omega arith;
  count_is = refl;
  size_is = refl;
  completes = (refl, record { name = []; tokens = All-nil _; raw = []; clear = All-nil _; end = lf; after = 10 ∷ []; is = refl; section = empty_section });
}

pub value_lacks : LacksFrom Value 2 0
value_lacks = record {
  more = 10 ∷ 10 ∷ [];
  left = [];
  some = omega arith;
  count_is = refl;
  size_is = refl;
  completes = (refl, record { raw = []; clear = All-nil _; end = lf; after = 10 ∷ []; is = refl; section = empty_section });
}

pub value_feed_lacks : LacksFrom ValueFeed 2 0
value_feed_lacks = record { more = 10 ∷ 10 ∷ []; left = []; some = omega arith; count_is = refl; size_is = refl; completes = (refl, (10 ∷ [], refl, empty_section)) }

pub last_feed_lacks : LacksFrom LastFeed 1 0
last_feed_lacks = record { more = 10 ∷ []; left = []; some = omega arith; count_is = refl; size_is = refl; completes = (refl, refl) }

-- within the limits
pub less_there : (bytes : List ℕ) (reached : Reached) (count size : ℕ) → EndsAt bytes reached → LacksFrom reached.place count size → length bytes + count ≤ 1048576 → reached.size + size ≤ 65536 → IsLessBody bytes
less_there bytes reached count size e k short small = record {
  more = k.more;
  some = omega (arith, k.some, k.count_is);
  content = e.content ++ k.left;
  is = record {
    reads = e.leads k.more k.left k.completes;
    short = omega (arith, k.count_is, length-append bytes k.more);
    small = omega (arith, k.size_is, e.size_is, length-append e.content k.left);
  };
}
