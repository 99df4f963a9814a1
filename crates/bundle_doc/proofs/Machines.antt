-- The functions that stand for versions and clauses are what their grammars say.
use Rattle.std.proofs.Common.{◌≡◌, ◌↔◌, refl, sym, ap, ◌∙◌, subst, ℕ, suc, ◌<◌, ◌≤◌, List, [], ◌∷◌, length, take, get_or, Option, Some, None, Ok, Err, arith, inl, inr}
use Rattle.std.specs.Prelude.{◌⊎◌, option_and_then}
use Rattle.std.proofs.lemmas.List.{take_all}
use Rattle.bundle_headers.specs.Clauses.{SpellsClauses}
use Rattle.bundle_headers.specs.declared.clauses.Clauses.{Clauses}
use Rattle.bundle_headers.proofs.ClauseReader.{clauses_reader}
use Rattle.osgi_version.specs.Readings.{IsBadAt, IsRead, ReadsAs, run}
use Rattle.osgi_version.specs.Versions.{SpellsVersion}
use Rattle.osgi_version.specs.VersionSteps.{version_at_end, version_step}
use Rattle.osgi_version.specs.VersionStart.{version_start}
use Rattle.osgi_version.specs.declared.fault.VersionFault.TheVariants.{BadVersion}
use Rattle.osgi_version.specs.declared.version.Version.{Version}
use Rattle.osgi_version.proofs.Readers.{IsReader, bad_at_end, bad_in, reads}
use Rattle.osgi_version.proofs.VersionReader.{version_reader}
use Rattle.component_dto.specs.Fields.{or_fault}
use Rattle.bundle_doc.specs.Texts.{clauses_of, reach, reach_behind, version_of}

-- where a machine stops
record Stops {S : Type 0} (step : S → ℕ → Option S) (s : S) (text : List ℕ) (at : ℕ) : Type 0 where
  state : S
  within : at ≤ length text
  led : run step s (take at text) ≡ Some state
  stopped : (at ≡ length text) ⊎ ((at < length text) × (step state (get_or text at 0) ≡ None))

stops : {S : Type 0} (step : S → ℕ → Option S) (s : S) (text : List ℕ) → Stops step s text (reach step s text)
stops step s [] = record { state = s; within = omega arith; led = refl; stopped = inl refl }
stops {S} step s (b ∷ bs) = by_step (step s b) refl (λ t. stops step t bs) where
  by_step : (o : Option S) → step s b ≡ o → ((t : S) → Stops step t bs (reach step t bs)) → Stops step s (b ∷ bs) (reach_behind (λ t. reach step t bs) o)
  by_step None is rest = record { state = s; within = omega arith; led = refl; stopped = inr (omega arith, is) }
  by_step (Some t) is rest =
      let r = rest t in
      record {
        state = r.state;
        within = let h : reach step t bs ≤ length bs = r.within in omega arith;
        led = ap (option_and_then (λ u. run step u (take (reach step t bs) bs))) is ∙ r.led;
        stopped = elim r.stopped [
          | inl all ↦ inl (ap suc all)
          | inr dead ↦ inr ((let h : reach step t bs < length bs = dead.0 in omega arith), dead.1)
        ];
      }

module _ {S V : Type 0} {step : S → ℕ → Option S} {at_end : S → Option V} {start : S} {Spelled : List ℕ → V → Type 0} (reader : IsReader step at_end start Spelled) where
  spelled_is : (text : List ℕ) (v : V) → IsRead Spelled text v → reads step at_end start text ≡ Some v
  spelled_is text v h = reader.complete text v h.spelled

  none_is : (text : List ℕ) (at : ℕ) → IsBadAt Spelled text at → reads step at_end start text ≡ None
  none_is text at h = by_answer (reads step at_end start text) refl where
    by_answer : (o : Option V) → reads step at_end start text ≡ o → o ≡ None
    by_answer None is = refl
    by_answer (Some v) is = absurd (h.none v (reader.sound text v is))

  bad_where : (text : List ℕ) → reads step at_end start text ≡ None → IsBadAt Spelled text (reach step start text)
  bad_where text none = by_stop (stops step start text) where
    by_stop : Stops step start text (reach step start text) → IsBadAt Spelled text (reach step start text)
    by_stop r = elim r.stopped [
      | inl all ↦
          let whole : run step start text ≡ Some r.state = ap (run step start) (sym (take_all (reach step start text) text (omega arith))) ∙ r.led in
          let ended : at_end r.state ≡ None = sym (ap (option_and_then at_end) whole) ∙ none in
          subst (IsBadAt Spelled text) (sym all) (bad_at_end reader text r.state whole ended)
      | inr dead ↦ bad_in reader text (reach step start text) r.state dead.0 r.led dead.1
    ]

  one_place : (text : List ℕ) (a b : ℕ) → IsBadAt Spelled text a → IsBadAt Spelled text b → a ≡ b
  one_place text a b p q =
      let low : b ≤ a = p.longest b q.within q.is_open in
      let high : a ≤ b = q.longest a p.within p.is_open in
      omega arith

  place_is : (text : List ℕ) (at : ℕ) → IsBadAt Spelled text at → reach step start text ≡ at
  place_is text at h = one_place text (reach step start text) at (bad_where text (none_is text at h)) h

  read_where : (text : List ℕ) (v : V) → reads step at_end start text ≡ Some v → IsRead Spelled text v
  read_where text v is = record { spelled = reader.sound text v is; only = λ w k. let other = reader.complete text w k in cc }

pub version_ok : (text : List ℕ) (v : Version) → IsRead SpellsVersion text v → version_of text ≡ Ok v
version_ok text v h = ap (or_fault (BadVersion (reach version_step version_start text))) (spelled_is version_reader text v h)

pub version_bad : (text : List ℕ) (at : ℕ) → IsBadAt SpellsVersion text at → version_of text ≡ Err (BadVersion at)
version_bad text at h = ap (or_fault (BadVersion (reach version_step version_start text))) (none_is version_reader text at h) ∙ ap (λ n. Err (BadVersion n)) (place_is version_reader text at h)

pub version_law : (text : List ℕ) → ReadsAs SpellsVersion text (version_of text)
version_law text = by_answer (reads version_step version_at_end version_start text) refl where
  by_answer : (o : Option Version) → reads version_step version_at_end version_start text ≡ o → ReadsAs SpellsVersion text (or_fault (BadVersion (reach version_step version_start text)) o)
  by_answer (Some v) is = read_where version_reader text v is
  by_answer None is = bad_where version_reader text is

pub clauses_ok : (text : List ℕ) (c : Clauses) → IsRead SpellsClauses text c → clauses_of text ≡ Some c
clauses_ok text c h = spelled_is clauses_reader text c h

pub clauses_bad : (text : List ℕ) (at : ℕ) → IsBadAt SpellsClauses text at → clauses_of text ≡ None
clauses_bad text at h = none_is clauses_reader text at h

pub clauses_law : (text : List ℕ) (c : Clauses) → SpellsClauses text c ↔ (clauses_of text ≡ Some c)
clauses_law text c = (clauses_reader.complete text c, clauses_reader.sound text c)
