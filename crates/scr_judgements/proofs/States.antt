-- The states of bundles after a command, and what is asked for in them.
use Rattle.std.proofs.Common.{◌≡◌, ℕ, List, [], ◌∷◌, ◌++◌, ap, sym, ◌∙◌, refl, cond, Bool, true, false, inl, inr, Option, Some, None}
use Rattle.std.specs.Prelude.{◌==◌, filter, map, not}
use Rattle.std.specs.List.{Contains}
use Rattle.std.specs.Option.{option_map_or}
use Rattle.std.proofs.lemmas.Bool.{cases_Bool, eq-eqb, eqb-true}
use Rattle.osgi_version.specs.declared.version.Version.{Version}
use Rattle.bundle_life.specs.declared.bundle.BundleLife.{BundleLife}
use Rattle.bundle_life.specs.declared.bundle.BundleState.{BundleState}
use Rattle.bundle_life.specs.declared.bundle.BundleState.TheVariants.{Installed}
use Rattle.bundle_life.specs.Lives.{bundle_of, in_state, new_row, renamed, state_number}
use Rattle.component_state.specs.declared.component.Component.{Component}
use Rattle.component_state.specs.declared.rows.BundleRow.{BundleRow}
use Rattle.component_state.specs.ComponentConfigurations.{component_configurations, components_for_bundle}
use Rattle.config_admin.specs.declared.configuration.Configuration.{Configuration}
use Rattle.component_state.proofs.Apart.{in_first, in_rest, kept_was}
use Rattle.scr_world.specs.declared.contents.Contents.{Contents as Held}
use Rattle.scr_world.specs.Tables.{bundle_row, bundle_rows}

abbrev pub state_in : List BundleLife → ℕ → ℕ
state_in rows n = option_map_or (λ (b : BundleLife). state_number b.state) (bundle_of rows n) 0

-- one bundle in another state
then_number : (k : ℕ) (s : BundleState) (b : BundleLife) → (in_state k s b).number ≡ b.number
then_number k s b = go (b.number == k)
  where
    go : (v : Bool) → (cond v (record b { state = s }) b).number ≡ b.number
    go true = refl
    go false = refl

found_then : (k : ℕ) (s : BundleState) (n : ℕ) (rows : List BundleLife) → state_in (map (in_state k s) rows) n ≡ option_map_or (λ (b : BundleLife). state_number (in_state k s b).state) (bundle_of rows n) 0
found_then k s n [] = refl
found_then k s n (b ∷ rows) =
    ap (λ m. option_map_or (λ (x : BundleLife). state_number x.state) (cond (m == n) (Some (in_state k s b)) (bundle_of (map (in_state k s) rows) n)) 0) (then_number k s b) ∙ go (found_then k s n rows) (b.number == n)
  where
    go : state_in (map (in_state k s) rows) n ≡ option_map_or (λ (x : BundleLife). state_number (in_state k s x).state) (bundle_of rows n) 0
        → (v : Bool) → option_map_or (λ (x : BundleLife). state_number x.state) (cond v (Some (in_state k s b)) (bundle_of (map (in_state k s) rows) n)) 0 ≡ option_map_or (λ (x : BundleLife). state_number (in_state k s x).state) (cond v (Some b) (bundle_of rows n)) 0
    go rest true = refl
    go rest false = rest

pub some_then : (k : ℕ) (s : BundleState) (n : ℕ) (rows : List BundleLife) (b : BundleLife) → Some b ≡ bundle_of rows n
    → state_number (in_state k s b).state ≡ option_map_or (λ (b : BundleLife). state_number b.state) (bundle_of (map (in_state k s) rows) n) 0
some_then k s n rows b is = ap (λ o. option_map_or (λ (b : BundleLife). state_number (in_state k s b).state) o 0) is ∙ sym (found_then k s n rows)

pub none_then : (k : ℕ) (s : BundleState) (n : ℕ) (rows : List BundleLife) → None ≡ bundle_of rows n
    → 0 ≡ option_map_or (λ (b : BundleLife). state_number b.state) (bundle_of (map (in_state k s) rows) n) 0
none_then k s n rows is = ap (λ o. option_map_or (λ (b : BundleLife). state_number (in_state k s b).state) o 0) is ∙ sym (found_then k s n rows)

-- the same is asked for by bundles in the same states
same_flat : (cs : List Configuration) (f g : Held → BundleRow) (documents : List Held) → ((c : Held) → Contains documents c → components_for_bundle cs (f c) ≡ components_for_bundle cs (g c))
    → component_configurations (map f documents) cs ≡ component_configurations (map g documents) cs
same_flat cs f g [] same = refl
same_flat cs f g (c ∷ documents) same =
    ap (λ (xs : List Component). xs ++ component_configurations (map f documents) cs) (same c (in_first c documents))
    ∙ ap (λ (xs : List Component). components_for_bundle cs (g c) ++ xs) (same_flat cs f g documents (λ d h. same d (in_rest c documents d h)))

abbrev row_in : Held → ℕ → BundleRow
row_in c state = record { id = c.bundle; state = state; descriptions = c.document.descriptions; enabled = c.enabled }

pub same_states : (cs : List Configuration) (rows others : List BundleLife) (documents : List Held) → ((c : Held) → Contains documents c → state_in rows c.bundle ≡ state_in others c.bundle)
    → component_configurations (bundle_rows rows documents) cs ≡ component_configurations (bundle_rows others documents) cs
same_states cs rows others documents same =
    same_flat cs (bundle_row rows) (bundle_row others) documents (λ c h. ap (λ state. components_for_bundle cs (row_in c state)) (same c h))

-- an update leaves a bundle INSTALLED under another name
pub renamed_state : (k : ℕ) (name : List ℕ) (version : Version) (n : ℕ) (rows : List BundleLife) → state_in (map (in_state k Installed) rows) n ≡ state_in (map (renamed k name version) rows) n
renamed_state k name version n [] = refl
renamed_state k name version n (b ∷ rows) = go (renamed_state k name version n rows) (b.number == k)
  where
    old : Option BundleLife
    old = bundle_of (map (in_state k Installed) rows) n

    new : Option BundleLife
    new = bundle_of (map (renamed k name version) rows) n

    state : Option BundleLife → ℕ
    state o = option_map_or (λ (x : BundleLife). state_number x.state) o 0

    here : state old ≡ state new → (u : Bool) → state (cond u (Some (record b { state = Installed })) old) ≡ state (cond u (Some (record b { name = name; version = version; state = Installed })) new)
    here rest true = refl
    here rest false = rest

    there : state old ≡ state new → (u : Bool) → state (cond u (Some b) old) ≡ state (cond u (Some b) new)
    there rest true = refl
    there rest false = rest

    go : state old ≡ state new → (v : Bool) → state (cond ((cond v (record b { state = Installed }) b).number == n) (Some (cond v (record b { state = Installed }) b)) old)
        ≡ state (cond ((cond v (record b { name = name; version = version; state = Installed }) b).number == n) (Some (cond v (record b { name = name; version = version; state = Installed }) b)) new)
    go rest true = here rest (b.number == n)
    go rest false = there rest (b.number == n)

-- without a bundle the others are in the same states
on_and_off : (v : Bool) → v ≡ true → v ≡ false → ⊥
on_and_off true on off = cc
on_and_off false on off = cc

module _ (k n : ℕ) (off : (n == k) ≡ false) where
  other : (b : BundleLife) → (b.number == k) ≡ true → (b.number == n) ≡ false
  other b on = elim (cases_Bool (b.number == n)) [
    | inl same ↦ absurd (on_and_off (n == k) (eq-eqb n k (sym (eqb-true b.number n same) ∙ eqb-true b.number k on)) off)
    | inr differs ↦ differs
  ]

  pub remaining_bundle : (rows : List BundleLife) → bundle_of rows n ≡ bundle_of (filter (λ (b : BundleLife). not (b.number == k)) rows) n
  remaining_bundle [] = refl
  remaining_bundle (b ∷ rows) = go (remaining_bundle rows) (b.number == k) refl
    where
      kept : List BundleLife
      kept = filter (λ (x : BundleLife). not (x.number == k)) rows

      go : bundle_of rows n ≡ bundle_of kept n → (v : Bool) → (b.number == k) ≡ v → cond (b.number == n) (Some b) (bundle_of rows n) ≡ bundle_of (cond (not v) (b ∷ kept) kept) n
      go rest true on = ap (λ u. cond u (Some b) (bundle_of rows n)) (other b on) ∙ rest
      go rest false differs = ap (λ o. cond (b.number == n) (Some b) o) rest

not_off : (v : Bool) → not v ≡ true → v ≡ false
not_off true e = sym e
not_off false e = refl

pub without_bundle : (cs : List Configuration) (rows : List BundleLife) (documents : List Held) (k : ℕ)
    → component_configurations (bundle_rows rows (filter (λ (c : Held). not (c.bundle == k)) documents)) cs ≡ component_configurations (bundle_rows (filter (λ (b : BundleLife). not (b.number == k)) rows) (filter (λ (c : Held). not (c.bundle == k)) documents)) cs
without_bundle cs rows documents k = same_states cs rows (filter (λ (b : BundleLife). not (b.number == k)) rows) (filter (λ (c : Held). not (c.bundle == k)) documents)
    (λ c h. ap (λ o. option_map_or (λ (b : BundleLife). state_number b.state) o 0) (remaining_bundle k c.bundle (not_off (c.bundle == k) (kept_was (λ (d : Held). not (d.bundle == k)) documents c h).1) rows))

-- a bundle that is installed isn't ACTIVE
module _ (cs : List Configuration) (new : BundleLife) (installed : new.state ≡ Installed) (c : Held) where
  last : (v : Bool) → [] ≡ components_for_bundle cs (row_in c (option_map_or (λ (b : BundleLife). state_number b.state) (cond v (Some new) None) 0))
  last true = ap (λ (s : BundleState). components_for_bundle cs (row_in c (state_number s))) (sym installed)
  last false = refl

  asks : (rows : List BundleLife) → components_for_bundle cs (row_in c (state_in rows c.bundle)) ≡ components_for_bundle cs (row_in c (state_in (rows ++ new ∷ []) c.bundle))
  asks [] = last (new.number == c.bundle)
  asks (b ∷ rows) = go (asks rows) (b.number == c.bundle)
    where
      go : components_for_bundle cs (row_in c (state_in rows c.bundle)) ≡ components_for_bundle cs (row_in c (state_in (rows ++ new ∷ []) c.bundle))
          → (v : Bool) → components_for_bundle cs (row_in c (option_map_or (λ (x : BundleLife). state_number x.state) (cond v (Some b) (bundle_of rows c.bundle)) 0))
          ≡ components_for_bundle cs (row_in c (option_map_or (λ (x : BundleLife). state_number x.state) (cond v (Some b) (bundle_of (rows ++ new ∷ []) c.bundle)) 0))
      go rest true = refl
      go rest false = rest

pub with_bundle : (cs : List Configuration) (number : ℕ) (location name : List ℕ) (version : Version) (rows : List BundleLife) (documents : List Held)
    → component_configurations (bundle_rows rows documents) cs ≡ component_configurations (bundle_rows (rows ++ new_row number location name version ∷ []) documents) cs
with_bundle cs number location name version rows documents =
    same_flat cs (bundle_row rows) (bundle_row (rows ++ new_row number location name version ∷ [])) documents (λ c h. asks cs (new_row number location name version) refl c rows)
