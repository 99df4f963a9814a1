-- The rows of documents after a step are those before it, changed alike; and they have numbers of their own again.
use Rattle.std.proofs.Common.{◌≡◌, ◌∙◌, ℕ, List, [], ◌∷◌, ◌++◌, ap, sym, refl, subst, cond, Bool, true, false, Result}
use Rattle.std.proofs.lemmas.Bool.{eqb-true}
use Rattle.std.proofs.lemmas.List.{map-append}
use Rattle.std.specs.Prelude.{◌==◌, filter, map, not}
use Rattle.bundle_doc.specs.declared.document.BundleDoc.{BundleDoc}
use Rattle.bundle_wiring.specs.declared.fault.WireFault.{WireFault}
use Rattle.bundle_wiring.specs.declared.wiring.Wiring.{Wiring}
use Rattle.kept_wirings.specs.DocumentWirings.{manifest_wiring}
use Rattle.kept_wirings.specs.WiringChanges.{IsChangeBy, reread, rows_by_command, with_wiring_change, without}
use Rattle.kept_wirings.specs.WiringRows.{HaveOwnNumbers, WiringRow, row_of, rows_of}
use Rattle.kept_wirings.specs.declared.wiring_changes.WiringChange.{WiringChange}
use Rattle.row_places.specs.RowPlaces.{NoneOf}
use Rattle.scr_world.specs.Tables.{contents_with, documents_by, documents_by_command, flagged, replaced, set_back}
use Rattle.scr_world.specs.declared.command.Command.{Command}
use Rattle.scr_world.specs.declared.command.Command.TheVariants.{Install, Update, Start, Uninstall, Enable, Disable}
use Rattle.scr_world.specs.declared.contents.Contents.{Contents}
use Rattle.scr_world.specs.declared.step.Step.{Step}
use Rattle.scr_world.specs.declared.step.Step.TheVariants.{Command as Commanded, Begin, End, Drained, Got, Released}

-- ---- what a command does to the rows

either_row : (b : Bool) (x y : Contents) → row_of x ≡ row_of y → row_of (cond b x y) ≡ row_of y
either_row true x y same = same
either_row false x y same = refl

mapped_rows : (f : Contents → Contents) (h : WiringRow → WiringRow) → ((c : Contents) → row_of (f c) ≡ h (row_of c)) → (cs : List Contents) → rows_of (map f cs) ≡ map h (rows_of cs)
mapped_rows f h same [] = refl
mapped_rows f h same (c ∷ cs) = ap (λ (row : WiringRow). row ∷ rows_of (map f cs)) (same c) ∙ ap (λ (rows : List WiringRow). h (row_of c) ∷ rows) (mapped_rows f h same cs)

same_rows : (f : Contents → Contents) → ((c : Contents) → row_of (f c) ≡ row_of c) → (cs : List Contents) → rows_of (map f cs) ≡ rows_of cs
same_rows f same [] = refl
same_rows f same (c ∷ cs) = ap (λ (row : WiringRow). row ∷ rows_of (map f cs)) (same c) ∙ ap (λ (rows : List WiringRow). row_of c ∷ rows) (same_rows f same cs)

replaced_row : (bundle : ℕ) (doc : BundleDoc) (c : Contents) → row_of (replaced bundle doc c) ≡ reread bundle (manifest_wiring doc.manifest) (row_of c)
replaced_row bundle doc c = go (c.bundle == bundle)
  where
    go : (b : Bool) → row_of (cond b (contents_with bundle doc) c) ≡ cond b (bundle, manifest_wiring doc.manifest) (row_of c)
    go true = refl
    go false = refl

kept_rows : (bundle : ℕ) (cs : List Contents) → rows_of (filter (λ (c : Contents). not (c.bundle == bundle)) cs) ≡ without bundle (rows_of cs)
kept_rows bundle [] = refl
kept_rows bundle (c ∷ cs) = go (not (c.bundle == bundle)) (kept_rows bundle cs)
  where
    go : (b : Bool) → rows_of (filter (λ (c : Contents). not (c.bundle == bundle)) cs) ≡ without bundle (rows_of cs)
        → rows_of (cond b (c ∷ filter (λ (c : Contents). not (c.bundle == bundle)) cs) (filter (λ (c : Contents). not (c.bundle == bundle)) cs)) ≡ cond b (row_of c ∷ without bundle (rows_of cs)) (without bundle (rows_of cs))
    go true more = ap (λ (rows : List WiringRow). row_of c ∷ rows) more
    go false more = more

pub changed_rows : (command : Command) (next : ℕ) (cs : List Contents) → rows_of (documents_by_command command next cs) ≡ rows_by_command command next (rows_of cs)
changed_rows (Install doc) next cs = map-append row_of cs (contents_with next doc ∷ [])
changed_rows (Update bundle doc) next cs = mapped_rows (replaced bundle doc) (reread bundle (manifest_wiring doc.manifest)) (replaced_row bundle doc) cs
changed_rows (Start bundle) next cs = same_rows (set_back bundle) (λ c. either_row (c.bundle == bundle) (record c { enabled = _ }) c refl) cs
changed_rows (Uninstall bundle) next cs = kept_rows bundle cs
changed_rows (Enable bundle name) next cs = same_rows (flagged bundle name true) (λ c. either_row (c.bundle == bundle) (record c { enabled = _ }) c refl) cs
changed_rows (Disable bundle name) next cs = same_rows (flagged bundle name false) (λ c. either_row (c.bundle == bundle) (record c { enabled = _ }) c refl) cs
changed_rows _ next cs = refl

-- a change of any rows is one of those of documents
pub change_of : (command : Command) (next : ℕ) (change : WiringChange) → ((rows : List WiringRow) → rows_by_command command next rows ≡ with_wiring_change change rows) → IsChangeBy (Commanded command) next change
change_of command next change is = λ cs. changed_rows command next cs ∙ is (rows_of cs)

-- ---- numbers

module _ (number : ℕ) where
  abbrev HasNone : List WiringRow → Type 0
  HasNone rows = NoneOf (λ (row : WiringRow). row.0 == number) rows

  none_mapped : (h : WiringRow → WiringRow) → ((row : WiringRow) → (h row).0 ≡ row.0) → (rows : List WiringRow) → HasNone rows → HasNone (map h rows)
  none_mapped h same [] none = tt
  none_mapped h same (row ∷ rows) none = (ap (λ (n : ℕ). n == number) (same row) ∙ none.0, none_mapped h same rows none.1)

  none_kept : (p : WiringRow → Bool) (rows : List WiringRow) → HasNone rows → HasNone (filter p rows)
  none_kept p [] none = tt
  none_kept p (row ∷ rows) none = go (p row) (none_kept p rows none.1)
    where
      go : (b : Bool) → HasNone (filter p rows) → HasNone (cond b (row ∷ filter p rows) (filter p rows))
      go true more = (none.0, more)
      go false more = more

  none_added : (rows : List WiringRow) (row : WiringRow) → HasNone rows → (row.0 == number) ≡ false → HasNone (rows ++ row ∷ [])
  none_added [] row none other = (other, tt)
  none_added (r ∷ rows) row none other = (none.0, none_added rows row none.1 other)

own_mapped : (h : WiringRow → WiringRow) → ((row : WiringRow) → (h row).0 ≡ row.0) → (rows : List WiringRow) → HaveOwnNumbers rows → HaveOwnNumbers (map h rows)
own_mapped h same [] own = tt
own_mapped h same (row ∷ rows) own = (subst (λ (n : ℕ). NoneOf (λ (other : WiringRow). other.0 == n) (map h rows)) (sym (same row)) (none_mapped row.0 h same rows own.0), own_mapped h same rows own.1)

own_kept : (p : WiringRow → Bool) (rows : List WiringRow) → HaveOwnNumbers rows → HaveOwnNumbers (filter p rows)
own_kept p [] own = tt
own_kept p (row ∷ rows) own = go (p row) (own_kept p rows own.1)
  where
    go : (b : Bool) → HaveOwnNumbers (filter p rows) → HaveOwnNumbers (cond b (row ∷ filter p rows) (filter p rows))
    go true more = (none_kept row.0 p rows own.0, more)
    go false more = more

-- a number that none has yet
abbrev pub IsNew : ℕ → List WiringRow → Type 0
IsNew number rows = NoneOf (λ (row : WiringRow). number == row.0) rows

own_added : (rows : List WiringRow) (row : WiringRow) → HaveOwnNumbers rows → IsNew row.0 rows → HaveOwnNumbers (rows ++ row ∷ [])
own_added [] row own new = (tt, tt)
own_added (r ∷ rows) row own new = (none_added r.0 rows row own.0 new.0, own_added rows row own.1 new.1)

reread_number : (bundle : ℕ) (read : Result Wiring WireFault) (row : WiringRow) → (reread bundle read row).0 ≡ row.0
reread_number bundle read row = go (row.0 == bundle) refl
  where
    go : (b : Bool) → (row.0 == bundle) ≡ b → (cond b (bundle, read) row).0 ≡ row.0
    go true is = sym (eqb-true row.0 bundle is)
    go false is = refl

own_by_command : (command : Command) (next : ℕ) (rows : List WiringRow) → HaveOwnNumbers rows → IsNew next rows → HaveOwnNumbers (rows_by_command command next rows)
own_by_command (Install doc) next rows own new = own_added rows (next, manifest_wiring doc.manifest) own new
own_by_command (Update bundle doc) next rows own new = own_mapped (reread bundle (manifest_wiring doc.manifest)) (reread_number bundle (manifest_wiring doc.manifest)) rows own
own_by_command (Uninstall bundle) next rows own new = own_kept (λ (row : WiringRow). not (row.0 == bundle)) rows own
own_by_command _ next rows own new = own

pub own_by : (step : Step) (next : ℕ) (cs : List Contents) → HaveOwnNumbers (rows_of cs) → IsNew next (rows_of cs) → HaveOwnNumbers (rows_of (documents_by step next cs))
own_by (Commanded command) next cs own new = subst HaveOwnNumbers (sym (changed_rows command next cs)) (own_by_command command next (rows_of cs) own new)
own_by (Begin turn instance configuration consumer callback chosen) next cs own new = own
own_by (End turn outcome) next cs own new = own
own_by (Drained instance) next cs own new = own
own_by (Got bundle service) next cs own new = own
own_by (Released place) next cs own new = own
