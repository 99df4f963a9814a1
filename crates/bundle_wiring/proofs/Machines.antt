-- The functions that stand for versions, ranges and clauses are what their grammars say.
use Rattle.std.proofs.Common.{◌≡◌, refl, sym, ap, ◌∙◌, subst, ℕ, suc, ◌<◌, ◌≤◌, List, [], ◌∷◌, length, take, get_or, Option, Some, None, Ok, Err, arith, inl, inr}
use Rattle.std.specs.Prelude.{◌⊎◌, option_and_then}
use Rattle.std.proofs.lemmas.List.{take_all}
use Rattle.bundle_headers.specs.Clauses.{SpellsClauses}
use Rattle.bundle_headers.specs.declared.clauses.Clauses.{Clauses}
use Rattle.bundle_headers.proofs.ClauseReader.{clauses_reader}
use Rattle.osgi_version.specs.Ranges.{SpellsRange}
use Rattle.osgi_version.specs.Readings.{IsBadAt, IsRead, run}
use Rattle.osgi_version.specs.Versions.{SpellsVersion}
use Rattle.osgi_version.specs.declared.range.VersionRange.{VersionRange}
use Rattle.osgi_version.specs.declared.version.Version.{Version}
use Rattle.osgi_version.proofs.RangeReader.{range_reader}
use Rattle.osgi_version.proofs.Readers.{IsReader, bad_at_end, bad_in, reads}
use Rattle.osgi_version.proofs.VersionReader.{version_reader}
use Rattle.bundle_wiring.specs.Readings.{IsReading}
use Rattle.bundle_wiring.specs.Texts.{clauses_reading, range_reading, reach, reach_behind, reading_by, value_or_place, version_of, version_reading}

-- where a machine stops
record Stops {S : Type 0} (step : S → ℕ → Option S) (s : S) (text : List ℕ) (at : ℕ) : Type 0 where
  state : S
  within : at ≤ length text
  led : run step s (take at text) ≡ Some state
  stopped : (at ≡ length text) ⊎ ((at < length text) × (step state (get_or text at 0) ≡ None))

stops : {S : Type 0} (step : S → ℕ → Option S) (s : S) (text : List ℕ) → Stops step s text (reach step s text)
stops step s [] = record { state = s; within = omega arith; led = refl; stopped = inl refl }
stops {S} step s (b ∷ bs) = by_step (step s b) refl (λ t. stops step t bs) where
  by_step : (o : Option S) → step s b ≡ o → ((t : S) → Stops step t bs (reach step t bs)) → Stops step s (b ∷ bs) (reach_behind (λ t. reach step t bs) o)
  by_step None is rest = record { state = s; within = omega arith; led = refl; stopped = inr (omega arith, is) }
  by_step (Some t) is rest =
      let r = rest t in
      record {
        state = r.state;
        within = let h : reach step t bs ≤ length bs = r.within in omega arith;
        led = ap (option_and_then (λ u. run step u (take (reach step t bs) bs))) is ∙ r.led;
        stopped = elim r.stopped [
          | inl all ↦ inl (ap suc all)
          | inr dead ↦ inr ((let h : reach step t bs < length bs = dead.0 in omega arith), dead.1)
        ];
      }

module _ {S V : Type 0} {step : S → ℕ → Option S} {at_end : S → Option V} {start : S} {Spelled : List ℕ → V → Type 0} (reader : IsReader step at_end start Spelled) where
  none_is : (text : List ℕ) (at : ℕ) → IsBadAt Spelled text at → reads step at_end start text ≡ None
  none_is text at h = by_answer (reads step at_end start text) refl where
    by_answer : (o : Option V) → reads step at_end start text ≡ o → o ≡ None
    by_answer None is = refl
    by_answer (Some v) is = absurd (h.none v (reader.sound text v is))

  bad_where : (text : List ℕ) → reads step at_end start text ≡ None → IsBadAt Spelled text (reach step start text)
  bad_where text none = by_stop (stops step start text) where
    by_stop : Stops step start text (reach step start text) → IsBadAt Spelled text (reach step start text)
    by_stop r = elim r.stopped [
      | inl all ↦
          let whole : run step start text ≡ Some r.state = ap (run step start) (sym (take_all (reach step start text) text (omega arith))) ∙ r.led in
          let ended : at_end r.state ≡ None = sym (ap (option_and_then at_end) whole) ∙ none in
          subst (IsBadAt Spelled text) (sym all) (bad_at_end reader text r.state whole ended)
      | inr dead ↦ bad_in reader text (reach step start text) r.state dead.0 r.led dead.1
    ]

  one_place : (text : List ℕ) (a b : ℕ) → IsBadAt Spelled text a → IsBadAt Spelled text b → a ≡ b
  one_place text a b p q =
      let low : b ≤ a = p.longest b q.within q.is_open in
      let high : a ≤ b = q.longest a p.within p.is_open in
      omega arith

  read_where : (text : List ℕ) (v : V) → reads step at_end start text ≡ Some v → IsRead Spelled text v
  read_where text v is = record { spelled = reader.sound text v is; only = λ w k. let other = reader.complete text w k in cc }

  -- what a machine reads is what is spelled
  pub ok_is : (text : List ℕ) (v : V) → IsRead Spelled text v → reading_by step at_end start text ≡ Ok v
  ok_is text v h = ap (value_or_place (reach step start text)) (reader.complete text v h.spelled)

  pub bad_is : (text : List ℕ) (at : ℕ) → IsBadAt Spelled text at → reading_by step at_end start text ≡ Err at
  bad_is text at h =
      let none = none_is text at h in
      ap (value_or_place (reach step start text)) none ∙ ap Err (one_place text (reach step start text) at (bad_where text none) h)

  pub reading_is : (text : List ℕ) → IsReading Spelled text (reading_by step at_end start text)
  reading_is text = by_answer (reads step at_end start text) refl where
    by_answer : (o : Option V) → reads step at_end start text ≡ o → IsReading Spelled text (value_or_place (reach step start text) o)
    by_answer (Some v) is = read_where text v is
    by_answer None is = bad_where text is

pub version_ok : (text : List ℕ) (v : Version) → IsRead SpellsVersion text v → version_reading text ≡ Ok v
version_ok = ok_is version_reader

pub version_bad : (text : List ℕ) (at : ℕ) → IsBadAt SpellsVersion text at → version_reading text ≡ Err at
version_bad = bad_is version_reader

pub version_some : (text : List ℕ) (v : Version) → IsRead SpellsVersion text v → version_of text ≡ Some v
version_some text v h = version_reader.complete text v h.spelled

pub version_none : (text : List ℕ) (at : ℕ) → IsBadAt SpellsVersion text at → version_of text ≡ None
version_none = none_is version_reader

pub version_law : (text : List ℕ) → IsReading SpellsVersion text (version_reading text)
version_law = reading_is version_reader

pub range_ok : (text : List ℕ) (r : VersionRange) → IsRead SpellsRange text r → range_reading text ≡ Ok r
range_ok = ok_is range_reader

pub range_bad : (text : List ℕ) (at : ℕ) → IsBadAt SpellsRange text at → range_reading text ≡ Err at
range_bad = bad_is range_reader

pub range_law : (text : List ℕ) → IsReading SpellsRange text (range_reading text)
range_law = reading_is range_reader

pub clauses_ok : (text : List ℕ) (c : Clauses) → IsRead SpellsClauses text c → clauses_reading text ≡ Ok c
clauses_ok = ok_is clauses_reader

pub clauses_bad : (text : List ℕ) (at : ℕ) → IsBadAt SpellsClauses text at → clauses_reading text ≡ Err at
clauses_bad = bad_is clauses_reader

pub clauses_law : (text : List ℕ) → IsReading SpellsClauses text (clauses_reading text)
clauses_law = reading_is clauses_reader
