-- What is kept of a platform, and how a change alters it. Our own.
use Rattle.std.specs.Prelude.{ℕ, ◌&&◌, List, [], ◌∷◌, ◌++◌, Bool, not, map, filter, fold, if◌then◌else◌}
use Rattle.std.specs.List.{list_any}
use Rattle.std.specs.Str.{bytes_eq}
use Rattle.prop_map.specs.Words.{insert_by, text_before}
use Rattle.world_keeper.specs.declared.change.Change.{Change}
use Rattle.world_keeper.specs.declared.change.Change.TheVariants.{Install, Update, Remove, Started}
use Rattle.world_keeper.specs.declared.change.Change.TheVariants.{Configured, Unconfigured}
use Rattle.world_keeper.specs.declared.kept.Kept.{Kept}
use Rattle.world_keeper.specs.declared.kept.KeptBundle.{KeptBundle}
use Rattle.world_keeper.specs.declared.kept.KeptConfiguration.{KeptConfiguration}

-- ---- bundles, in the order of their last install

abbrev pub without_location : List ℕ → List KeptBundle → List KeptBundle
without_location location bundles = filter (λ (b : KeptBundle). not (bytes_eq b.location location)) bundles

-- a location is there and marked as started
abbrev pub is_marked : List ℕ → List KeptBundle → Bool
is_marked location bundles = list_any (λ (b : KeptBundle). bytes_eq b.location location && b.started) bundles

-- an install stands last; a location that was there keeps its mark
abbrev pub with_install : List ℕ → List ℕ → List KeptBundle → List KeptBundle
with_install location document bundles =
    without_location location bundles
    ++ record { location = location; document = document; started = is_marked location bundles } ∷ []

-- a bundle with this document, where it has this location
abbrev pub with_document : List ℕ → List ℕ → KeptBundle → KeptBundle
with_document location document b = if bytes_eq b.location location then record b { document = document } else b

-- a bundle so marked, where it has this location
abbrev pub with_mark : List ℕ → Bool → KeptBundle → KeptBundle
with_mark location marked b = if bytes_eq b.location location then record b { started = marked } else b

abbrev pub bundles_after : List KeptBundle → Change → List KeptBundle
bundles_after bundles (Install location document) = with_install location document bundles
bundles_after bundles (Update location document) = map (with_document location document) bundles
bundles_after bundles (Remove location) = without_location location bundles
bundles_after bundles (Started location marked) = map (with_mark location marked) bundles
bundles_after bundles (Configured pid factory properties) = bundles
bundles_after bundles (Unconfigured pid) = bundles

-- ---- configurations, by PID in byte order

abbrev pub without_pid : List ℕ → List KeptConfiguration → List KeptConfiguration
without_pid pid configurations = filter (λ (c : KeptConfiguration). not (bytes_eq c.pid pid)) configurations

abbrev pub pid_before : KeptConfiguration → KeptConfiguration → Bool
pid_before c d = text_before c.pid d.pid

-- with a configuration in place of the one of its PID
abbrev pub with_configuration : KeptConfiguration → List KeptConfiguration → List KeptConfiguration
with_configuration c configurations = insert_by pid_before c (without_pid c.pid configurations)

abbrev pub configurations_after : List KeptConfiguration → Change → List KeptConfiguration
configurations_after configurations (Install location document) = configurations
configurations_after configurations (Update location document) = configurations
configurations_after configurations (Remove location) = configurations
configurations_after configurations (Started location marked) = configurations
configurations_after configurations (Configured pid factory properties) =
    with_configuration (record { pid = pid; factory = factory; properties = properties }) configurations
configurations_after configurations (Unconfigured pid) = without_pid pid configurations

-- ---- both

-- what is kept after a change
abbrev pub kept_after : Kept → Change → Kept
kept_after kept change = record {
  bundles = bundles_after kept.bundles change;
  configurations = configurations_after kept.configurations change;
}

abbrev pub nothing : Kept
nothing = record { bundles = []; configurations = [] }

-- what is kept after these changes of an empty platform
abbrev pub kept_by : List Change → Kept
kept_by changes = fold kept_after nothing changes
