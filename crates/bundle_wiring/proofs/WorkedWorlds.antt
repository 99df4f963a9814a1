-- The definitions, computed on three worlds that were worked out by hand.
use Rattle.std.proofs.Common.{◌≡◌, refl, ℕ, List, [], ◌∷◌, true, false, Some, None}
use Rattle.std.specs.Prelude.{codes, filter}
use Rattle.ldap_filter.specs.declared.comparison.Comparison.TheVariants.{Equal, AtLeast}
use Rattle.ldap_filter.specs.Trees.{Tree, Every, Not, Compare, Present, trees_of}
use Rattle.osgi_version.specs.declared.version.Version.{Version}
use Rattle.prop_map.specs.Words.{has}
use Rattle.bundle_wiring.specs.Resolution.{Bundle, is_consistent, missing_need, version_of_numbers, wires_of}
use Rattle.bundle_wiring.specs.Wirings.{greatest, properties_of, versions_listed}
use Rattle.bundle_wiring.specs.declared.resolved.Wire.{Wire}
use Rattle.bundle_wiring.specs.declared.wiring.Offer.{Offer}
use Rattle.bundle_wiring.specs.declared.wiring.WireNeed.{WireNeed}

abbrev exported : List ℕ → Version → Offer
exported name version = record { name = name; «package» = true; version = version; versions = version ∷ []; attributes = [] }

abbrev imported : List ℕ → WireNeed
imported name = record { name = name; «package» = true; range = None; filter = None; optional = false }

abbrev imported_from : List ℕ → Version → Version → WireNeed
imported_from name low high = record (imported name) { range = Some (record { floor = record { version = low; inclusive = true }; ceiling = Some (record { version = high; inclusive = false }) }) }

abbrev required : List ℕ → Tree → WireNeed
required name tree = record { name = name; «package» = false; range = None; filter = Some tree; optional = false }

abbrev bundle : ℕ → List WireNeed → List Offer → Bundle
bundle number needs offers = (number, record { needs = needs; offers = offers })

abbrev wire : ℕ → ℕ → ℕ → ℕ → Wire
wire from need to offer = record { from = from; need = need; to = to; offer = offer }

-- the bundles of these numbers
abbrev among : List ℕ → List Bundle → List Bundle
among numbers bundles = filter (λ (b : Bundle). has numbers b.0) bundles

-- ---- two exporters of `q`, of which the better one imports `r`, and an importer of `q`

abbrev three : List Bundle
three = bundle 1 [] (exported (codes "q") (version_of_numbers 1 0 0) ∷ [])
    ∷ bundle 2 (imported (codes "r") ∷ []) (exported (codes "q") (version_of_numbers 1 2 0) ∷ [])
    ∷ bundle 3 (imported_from (codes "q") (version_of_numbers 1 0 0) (version_of_numbers 2 0 0) ∷ []) [] ∷ []

without_r : is_consistent (among (1 ∷ 3 ∷ []) three) ≡ true
without_r = refl

-- bundle 2 is in no consistent set
not_all : is_consistent three ≡ false
not_all = refl

it_misses_r : missing_need (among (1 ∷ 3 ∷ []) three) (bundle 2 (imported (codes "r") ∷ []) (exported (codes "q") (version_of_numbers 1 2 0) ∷ [])) ≡ Some (imported (codes "r"))
it_misses_r = refl

not_alone : is_consistent (among (2 ∷ []) three) ≡ false
not_alone = refl

not_with_one : is_consistent (among (1 ∷ 2 ∷ []) three) ≡ false
not_with_one = refl

not_with_three : is_consistent (among (2 ∷ 3 ∷ []) three) ≡ false
not_with_three = refl

wired_to_the_lower : wires_of (among (1 ∷ 3 ∷ []) three) ≡ wire 3 0 1 0 ∷ []
wired_to_the_lower = refl

abbrev four : List Bundle
four = bundle 4 [] (exported (codes "r") (version_of_numbers 0 0 0) ∷ []) ∷ three

with_r : is_consistent four ≡ true
with_r = refl

wired_to_the_higher : wires_of four ≡ wire 2 0 4 0 ∷ wire 3 0 2 0 ∷ []
wired_to_the_higher = refl

-- ---- a bundle that imports a package and requires what the platform offers

abbrev extender : Tree
extender = Every (trees_of (Compare Equal (codes "osgi.extender") (codes "osgi.component") ∷ Compare AtLeast (codes "version") (codes "1.5.0") ∷ Not (Compare AtLeast (codes "version") (codes "2.0.0")) ∷ []))

abbrev environment : Tree
environment = Every (trees_of (Compare Equal (codes "osgi.ee") (codes "JavaSE") ∷ Compare Equal (codes "version") (codes "17") ∷ []))

abbrev log : List ℕ
log = codes "org.osgi.service.log"

abbrev greeter : Bundle
greeter = bundle 1 (imported_from log (version_of_numbers 1 4 0) (version_of_numbers 2 0 0) ∷ required (codes "osgi.extender") extender ∷ required (codes "osgi.ee") environment ∷ []) []

alone : is_consistent (greeter ∷ []) ≡ false
alone = refl

abbrev together : List Bundle
together = greeter ∷ bundle 2 [] (exported log (version_of_numbers 1 5 0) ∷ []) ∷ []

with_log : is_consistent together ≡ true
with_log = refl

wired_to_the_platform : wires_of together ≡ wire 1 0 2 0 ∷ wire 1 1 0 0 ∷ wire 1 2 0 1 ∷ []
wired_to_the_platform = refl

-- the offers of the platform have their version as an attribute too
abbrev any_version : Bundle
any_version = bundle 1 (required (codes "osgi.extender") (Present (codes "version")) ∷ required (codes "osgi.ee") (Present (codes "Version")) ∷ []) []

with_any_version : wires_of (any_version ∷ []) ≡ wire 1 0 0 0 ∷ wire 1 1 0 1 ∷ []
with_any_version = refl

-- ---- a contract in three versions, and bundles that ask for one of them

abbrev contract : List ℕ
contract = codes "osgi.contract"

abbrev servlets : Offer
servlets = record {
  name = contract;
  «package» = false;
  version = greatest (versions_listed (codes "3.1,3.0,2.6"));
  versions = versions_listed (codes "3.1,3.0,2.6");
  attributes = properties_of ((contract, codes "JavaServlet") ∷ (codes "version", codes "3.1,3.0,2.6") ∷ []);
}

the_greatest : servlets.version ≡ version_of_numbers 3 1 0
the_greatest = refl

all_three : servlets.versions ≡ version_of_numbers 3 1 0 ∷ version_of_numbers 3 0 0 ∷ version_of_numbers 2 6 0 ∷ []
all_three = refl

-- a comma more, and it is no list of versions
no_list : versions_listed (codes "3.1,3.0,") ≡ []
no_list = refl

abbrev asking : ℕ → List ℕ → Bundle
asking number version = bundle number (required contract (Every (trees_of (Compare Equal contract (codes "JavaServlet") ∷ Compare Equal (codes "version") version ∷ []))) ∷ []) []

abbrev container : Bundle
container = bundle 1 [] (servlets ∷ [])

one_of_three : wires_of (container ∷ asking 2 (codes "3.0") ∷ asking 3 (codes "2.6.0") ∷ []) ≡ wire 2 0 1 0 ∷ wire 3 0 1 0 ∷ []
one_of_three = refl

none_of_three : is_consistent (container ∷ asking 2 (codes "2.5") ∷ []) ≡ false
none_of_three = refl
