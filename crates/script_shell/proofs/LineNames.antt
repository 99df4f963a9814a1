-- The references of each description that a line brings differ in name.
use Rattle.std.proofs.Common.{◌≡◌, ℕ, List, ap, refl, Bool, true, false, Ok, Err}
use Rattle.std.specs.Prelude.{Option, Some, None, Result, codes, if◌then◌else◌, ⊤}
use Rattle.std.specs.Str.{bytes_eq, is_utf8}
use Rattle.bundle_doc.specs.declared.document.BundleDoc.{BundleDoc}
use Rattle.bundle_doc.specs.declared.fault.DocFault.{DocFault}
use Rattle.bundle_doc.specs.Documents.{bundle_of}
use Rattle.prop_map.specs.Words.{after}
use Rattle.scr_world.specs.declared.command.Command.{Command}
use Rattle.scr_world.specs.declared.command.Command.TheVariants.{Install, Update}
use Rattle.shell_lang.specs.declared.line_fault.LineFault.{LineFault}
use Rattle.shell_lang.specs.declared.line_fault.LineFault.TheVariants.{NoFile, UnknownCommand}
use Rattle.shell_lang.specs.declared.shell_line.ShellLine.{ShellLine}
use Rattle.shell_lang.specs.declared.shell_line.ShellLine.TheVariants.{Quit, Command as Commanded, Bundles, Services, Components, ListComponents, Graph, Routes, Configurations, Listeners, Journal, Settle, Begin}
use Rattle.shell_lang.specs.declared.words.Misfit.{Misfit}
use Rattle.shell_lang.specs.Arguments.{document_argument, filter_argument, given_document, names_file, properties_argument}
use Rattle.shell_lang.specs.Help.{helping, line_word_at}
use Rattle.shell_lang.specs.Interfaces.{interfaces_at}
use Rattle.shell_lang.specs.LineFaults.{fitting}
use Rattle.shell_lang.specs.ShellLines.{Asked, alone, asking_configuration, bundle_line, calling, carrying_line, configuring, configuring_factory, configuring_line, finding, installing, is_silent, listening, listing_line, named, named_line, numbered, paired, paired_line, reading_line, registering, setting, shell_line, telling_line, text_line, unconfiguring, updating, wiring, worded_line}
use Rattle.shell_lang.specs.Requesting.{method_at, requesting}
use Rattle.shell_lang.specs.Words.{behind_word, first_word, nothing_at, number_and_text, number_and_word, number_at, only_number, only_word, text_at, two_numbers, two_numbers_and_text, two_words_and_text, word_and_text, word_at}
use Rattle.script_shell.proofs.ReadNames.{AreNamed, bundle_named}

-- of the document of a command
abbrev pub CommandNamed : Command → Type 0
CommandNamed (Install doc) = AreNamed doc.descriptions
CommandNamed (Update bundle doc) = AreNamed doc.descriptions
CommandNamed _ = ⊤

-- of that of a line
abbrev pub AskedNamed : Asked → Type 0
AskedNamed (Ok (Commanded command)) = CommandNamed command
AskedNamed _ = ⊤

when_fitting : {S : Type 0} (r : Result S Misfit) (next : S → Asked) → ((words : S) → AskedNamed (next words)) → AskedNamed (fitting r next)
when_fitting (Ok words) next each = each words
when_fitting (Err misfit) next each = tt

when_read : {A : Type 0} (r : Result A LineFault) (next : A → Asked) → ((x : A) → r ≡ Ok x → AskedNamed (next x)) → AskedNamed (after r next)
when_read (Ok x) next each = each x refl
when_read (Err fault) next each = tt

either_line : (b : Bool) (x y : Asked) → AskedNamed x → AskedNamed y → AskedNamed (if b then x else y)
either_line true x y first other = first
either_line false x y first other = other

-- ---- the document of a line

given_is : (r : Result BundleDoc DocFault) (doc : BundleDoc) → given_document r ≡ Ok doc → r ≡ Ok doc
given_is (Ok x) doc is = let same : x ≡ doc = cc in ap (λ (y : BundleDoc). Ok y) same
given_is (Err fault) doc is = absurd cc

read_named : (is_file : Bool) (text : List ℕ) (doc : BundleDoc) → (if is_file then Err NoFile else given_document (bundle_of text)) ≡ Ok doc → AreNamed doc.descriptions
read_named true text doc is = absurd cc
read_named false text doc is = bundle_named text doc (given_is (bundle_of text) doc is)

argument_named : (text : List ℕ) (doc : BundleDoc) → document_argument text ≡ Ok doc → AreNamed doc.descriptions
argument_named text doc is = read_named (names_file text) text doc is

installing_named : (rest : Option (List ℕ)) → AskedNamed (installing rest)
installing_named rest = when_fitting (text_at 1 rest) _ (λ text. when_read (document_argument text) _ (λ doc is. argument_named text doc is))

updating_named : (rest : Option (List ℕ)) → AskedNamed (updating rest)
updating_named rest = when_fitting (number_and_text rest) _ (λ words. when_read (document_argument words.1) _ (λ doc is. argument_named words.1 doc is))

-- ---- lines without one

alone_named : (line : ShellLine) (rest : Option (List ℕ)) → AskedNamed (Ok line) → AskedNamed (alone line rest)
alone_named line rest its = when_fitting (nothing_at 1 rest) _ (λ words. its)

numbered_named : (line : ℕ → ShellLine) (rest : Option (List ℕ)) → ((n : ℕ) → AskedNamed (Ok (line n))) → AskedNamed (numbered line rest)
numbered_named line rest its = when_fitting (only_number rest) _ (λ n. its n)

wiring_named : (rest : Option (List ℕ)) → AskedNamed (wiring rest)
wiring_named None = tt
wiring_named (Some text) = numbered_named _ (Some text) (λ n. tt)

helping_named : (rest : Option (List ℕ)) → AskedNamed (helping rest)
helping_named None = tt
helping_named (Some text) = when_fitting (line_word_at 1 (Some text)) _ (λ word. when_fitting (nothing_at 2 word.1) _ (λ none. tt))

paired_named : (line : ℕ → ℕ → ShellLine) (rest : Option (List ℕ)) → ((n m : ℕ) → AskedNamed (Ok (line n m))) → AskedNamed (paired line rest)
paired_named line rest its = when_fitting (two_numbers rest) _ (λ words. its words.0 words.1)

of_name : (command : ℕ → List ℕ → Command) (rest : Option (List ℕ)) → ((n : ℕ) (name : List ℕ) → CommandNamed (command n name)) → AskedNamed (named command rest)
of_name command rest its = when_fitting (number_and_word rest) _ (λ words. its words.0 words.1)

finding_named : (rest : Option (List ℕ)) → AskedNamed (finding rest)
finding_named rest = when_fitting (text_at 1 rest) _ (λ text. when_read (filter_argument text) _ (λ tree is. tt))

registering_named : (rest : Option (List ℕ)) → AskedNamed (registering rest)
registering_named rest = when_fitting (number_at 1 rest) _ (λ bundle. when_fitting (word_at 2 bundle.1) _ (λ word. when_fitting (interfaces_at 2 word.0) _ (λ interfaces. when_fitting (text_at 3 word.1) _ (λ text.
    when_read (properties_argument text) _ (λ properties is. tt)))))

setting_named : (rest : Option (List ℕ)) → AskedNamed (setting rest)
setting_named rest = when_fitting (two_numbers_and_text rest) _ (λ words. when_read (properties_argument words.2) _ (λ properties is. tt))

listening_named : (rest : Option (List ℕ)) → AskedNamed (listening rest)
listening_named rest = when_fitting (number_and_text rest) _ (λ words. when_read (filter_argument words.1) _ (λ tree is. tt))

configuring_named : (rest : Option (List ℕ)) → AskedNamed (configuring rest)
configuring_named rest = when_fitting (word_and_text rest) _ (λ words. when_read (properties_argument words.1) _ (λ properties is. tt))

factory_named : (rest : Option (List ℕ)) → AskedNamed (configuring_factory rest)
factory_named rest = when_fitting (two_words_and_text rest) _ (λ words. when_read (properties_argument words.2) _ (λ properties is. tt))

unconfiguring_named : (rest : Option (List ℕ)) → AskedNamed (unconfiguring rest)
unconfiguring_named rest = when_fitting (only_word rest) _ (λ pid. tt)

asking_configuration_named : (rest : Option (List ℕ)) → AskedNamed (asking_configuration rest)
asking_configuration_named rest = when_fitting (only_word rest) _ (λ pid. tt)

calling_named : (rest : Option (List ℕ)) → AskedNamed (calling rest)
calling_named rest = when_fitting (two_numbers_and_text rest) _ (λ words. tt)

requesting_named : (rest : Option (List ℕ)) → AskedNamed (requesting rest)
requesting_named rest = when_fitting (method_at 1 rest) _ (λ method. when_fitting (word_at 2 method.1) _ (λ target. tt))

-- ---- by the first word

module _ (word : List ℕ) (rest : Option (List ℕ)) where
  configuring_line_named : AskedNamed (configuring_line word rest)
  configuring_line_named =
      either_line (bytes_eq word (codes "config")) (configuring rest) _ (configuring_named rest)
      (either_line (bytes_eq word (codes "factory")) (configuring_factory rest) _ (factory_named rest)
      (either_line (bytes_eq word (codes "unconfig")) (unconfiguring rest) _ (unconfiguring_named rest)
      (either_line (bytes_eq word (codes "configuration")) (asking_configuration rest) (Err UnknownCommand) (asking_configuration_named rest) tt)))

  carrying_line_named : AskedNamed (carrying_line word rest)
  carrying_line_named =
      either_line (bytes_eq word (codes "install")) (installing rest) _ (installing_named rest)
      (either_line (bytes_eq word (codes "update")) (updating rest) _ (updating_named rest)
      (either_line (bytes_eq word (codes "register")) (registering rest) _ (registering_named rest)
      (either_line (bytes_eq word (codes "set")) (setting rest) _ (setting_named rest)
      (either_line (bytes_eq word (codes "listen")) (listening rest) _ (listening_named rest)
      (either_line (bytes_eq word (codes "find")) (finding rest) _ (finding_named rest)
      (either_line (bytes_eq word (codes "call")) (calling rest) _ (calling_named rest)
      (either_line (bytes_eq word (codes "http")) (requesting rest) (configuring_line word rest) (requesting_named rest) configuring_line_named)))))))

  named_line_named : AskedNamed (named_line word rest)
  named_line_named =
      either_line (bytes_eq word (codes "enable")) _ _ (of_name _ rest (λ n name. tt))
      (either_line (bytes_eq word (codes "disable")) _ (carrying_line word rest) (of_name _ rest (λ n name. tt)) carrying_line_named)

  paired_line_named : AskedNamed (paired_line word rest)
  paired_line_named =
      either_line (bytes_eq word (codes "unregister")) _ _ (paired_named _ rest (λ n m. tt))
      (either_line (bytes_eq word (codes "get")) _ _ (paired_named _ rest (λ n m. tt))
      (either_line (bytes_eq word (codes "unget")) _ _ (paired_named _ rest (λ n m. tt))
      (either_line (bytes_eq word (codes "events")) _ (named_line word rest) (paired_named _ rest (λ n m. tt)) named_line_named)))

  telling_line_named : AskedNamed (telling_line word rest)
  telling_line_named =
      either_line (bytes_eq word (codes "details")) _ _ (numbered_named _ rest (λ n. tt))
      (either_line (bytes_eq word (codes "service")) _ _ (numbered_named _ rest (λ n. tt))
      (either_line (bytes_eq word (codes "descriptions")) _ (paired_line word rest) (numbered_named _ rest (λ n. tt)) paired_line_named))

  reading_line_named : AskedNamed (reading_line word rest)
  reading_line_named =
      either_line (bytes_eq word (codes "report")) _ _ (numbered_named _ rest (λ n. tt))
      (either_line (bytes_eq word (codes "held")) _ _ (numbered_named _ rest (λ n. tt))
      (either_line (bytes_eq word (codes "trace")) _ _ (numbered_named _ rest (λ n. tt))
      (either_line (bytes_eq word (codes "bundle-events")) _ _ (numbered_named _ rest (λ n. tt))
      (either_line (bytes_eq word (codes "finish")) _ _ (numbered_named _ rest (λ n. tt))
      (either_line (bytes_eq word (codes "wiring")) (wiring rest) (telling_line word rest) (wiring_named rest) telling_line_named)))))

  bundle_line_named : AskedNamed (bundle_line word rest)
  bundle_line_named =
      either_line (bytes_eq word (codes "start")) _ _ (numbered_named _ rest (λ n. tt))
      (either_line (bytes_eq word (codes "stop")) _ _ (numbered_named _ rest (λ n. tt))
      (either_line (bytes_eq word (codes "uninstall")) _ _ (numbered_named _ rest (λ n. tt))
      (either_line (bytes_eq word (codes "unlisten")) _ (reading_line word rest) (numbered_named _ rest (λ n. tt)) reading_line_named)))

  listing_line_named : AskedNamed (listing_line word rest)
  listing_line_named =
      either_line (bytes_eq word (codes "list")) (alone ListComponents rest) _ (alone_named ListComponents rest tt)
      (either_line (bytes_eq word (codes "graph")) (alone Graph rest) _ (alone_named Graph rest tt)
      (either_line (bytes_eq word (codes "configs")) (alone Configurations rest) _ (alone_named Configurations rest tt)
      (either_line (bytes_eq word (codes "listeners")) (alone Listeners rest) _ (alone_named Listeners rest tt)
      (either_line (bytes_eq word (codes "journal")) (alone Journal rest) (bundle_line word rest) (alone_named Journal rest tt) bundle_line_named))))

  worded_line_named : AskedNamed (worded_line word rest)
  worded_line_named =
      either_line (bytes_eq word (codes "quit")) (alone Quit rest) _ (alone_named Quit rest tt)
      (either_line (bytes_eq word (codes "bundles")) (alone Bundles rest) _ (alone_named Bundles rest tt)
      (either_line (bytes_eq word (codes "services")) (alone Services rest) _ (alone_named Services rest tt)
      (either_line (bytes_eq word (codes "components")) (alone Components rest) _ (alone_named Components rest tt)
      (either_line (bytes_eq word (codes "routes")) (alone Routes rest) _ (alone_named Routes rest tt)
      (either_line (bytes_eq word (codes "settle")) (alone Settle rest) _ (alone_named Settle rest tt)
      (either_line (bytes_eq word (codes "begin")) (alone Begin rest) _ (alone_named Begin rest tt)
      (either_line (bytes_eq word (codes "help")) (helping rest) (listing_line word rest) (helping_named rest) listing_line_named)))))))

pub line_named : (line : List ℕ) → AskedNamed (shell_line line)
line_named line = either_line (is_silent line) _ _ tt (either_line (is_utf8 line) (text_line line) (Err UnknownCommand) (worded_line_named (first_word line) (behind_word line)) tt)
