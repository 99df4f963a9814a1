-- What a line asks. Our own form.
use Rattle.std.specs.Prelude.{ℕ, ◌==◌, List, [], ◌∷◌, codes, Bool, true, false, Option, Some, None, Result, Ok, Err, if◌then◌else◌}
use Rattle.std.specs.Str.{bytes_eq, is_utf8}
use Rattle.prop_map.specs.Words.{after}
use Rattle.scr_world.specs.declared.command.Command.{Command}
use Rattle.scr_world.specs.declared.command.Command.TheVariants.{Install, Update, Start, Stop, Uninstall, Enable, Disable, Register, Unregister, SetProperties, Get, Unget, Listen, Unlisten, Configure, ConfigureFactory, Unconfigure}
use Rattle.shell_lang.specs.declared.line_fault.LineFault.{LineFault}
use Rattle.shell_lang.specs.declared.line_fault.LineFault.TheVariants.{UnknownCommand}
use Rattle.shell_lang.specs.declared.shell_line.ShellLine.{ShellLine}
use Rattle.shell_lang.specs.declared.shell_line.ShellLine.TheVariants.{Silent, Quit, Command as Commanded, Bundles, Services, Components, Report, Held, ListComponents, Graph, Details, AboutService, Descriptions, Find, Events, BundleEvents, Trace, Wiring, BundleWiring, Routes, Configurations, Configuration, Listeners, Journal, Settle, Begin, Finish, Call}
use Rattle.shell_lang.specs.Arguments.{document_argument, filter_argument, properties_argument}
use Rattle.shell_lang.specs.Help.{helping}
use Rattle.shell_lang.specs.Interfaces.{interfaces_at}
use Rattle.shell_lang.specs.LineFaults.{Reads, fitting}
use Rattle.shell_lang.specs.Requesting.{requesting}
use Rattle.shell_lang.specs.Words.{behind_word, first_word, nothing_at, number_and_text, number_and_word, number_at, only_number, only_word, text_at, two_numbers, two_numbers_and_text, two_words_and_text, word_and_text, word_at}

-- what a line asks, or why it asks nothing that it can have
abbrev pub Asked : Type 0
Asked = Result ShellLine LineFault

-- an empty line or a comment
abbrev pub is_silent : List ℕ → Bool
is_silent [] = true
is_silent (b ∷ bs) = b == 35

-- a line of its word alone
abbrev pub alone : ShellLine → Option (List ℕ) → Asked
alone line rest = fitting (nothing_at 1 rest) (λ _. Ok line)

-- a line of a number
abbrev pub numbered : (ℕ → ShellLine) → Option (List ℕ) → Asked
numbered line rest = fitting (only_number rest) (λ number. Ok (line number))

-- a line of two numbers
abbrev pub paired : (ℕ → ℕ → ShellLine) → Option (List ℕ) → Asked
paired line rest = fitting (two_numbers rest) (λ words. Ok (line words.0 words.1))

-- a line of a bundle and a name
abbrev pub named : (ℕ → List ℕ → Command) → Option (List ℕ) → Asked
named command rest = fitting (number_and_word rest) (λ words. Ok (Commanded (command words.0 words.1)))

abbrev pub installing : Option (List ℕ) → Asked
installing rest = fitting (text_at 1 rest) (λ text. after (document_argument text) (λ doc. Ok (Commanded (Install doc))))

abbrev pub updating : Option (List ℕ) → Asked
updating rest = fitting (number_and_text rest) (λ words. after (document_argument words.1) (λ doc. Ok (Commanded (Update words.0 doc))))

abbrev pub finding : Option (List ℕ) → Asked
finding rest = fitting (text_at 1 rest) (λ text. after (filter_argument text) (λ tree. Ok (Find tree)))

-- the properties stand behind the interfaces
abbrev pub registering : Option (List ℕ) → Asked
registering rest =
    fitting (number_at 1 rest) (λ bundle. fitting (word_at 2 bundle.1) (λ word. fitting (interfaces_at 2 word.0) (λ interfaces. fitting (text_at 3 word.1) (λ text.
    after (properties_argument text) (λ properties. Ok (Commanded (Register bundle.0 interfaces properties)))))))

abbrev pub setting : Option (List ℕ) → Asked
setting rest = fitting (two_numbers_and_text rest) (λ words. after (properties_argument words.2) (λ properties. Ok (Commanded (SetProperties words.0 words.1 properties))))

abbrev pub listening : Option (List ℕ) → Asked
listening rest = fitting (number_and_text rest) (λ words. after (filter_argument words.1) (λ tree. Ok (Commanded (Listen words.0 tree))))

abbrev pub configuring : Option (List ℕ) → Asked
configuring rest = fitting (word_and_text rest) (λ words. after (properties_argument words.1) (λ properties. Ok (Commanded (Configure words.0 properties))))

abbrev pub configuring_factory : Option (List ℕ) → Asked
configuring_factory rest = fitting (two_words_and_text rest) (λ words. after (properties_argument words.2) (λ properties. Ok (Commanded (ConfigureFactory words.0 words.1 properties))))

abbrev pub unconfiguring : Option (List ℕ) → Asked
unconfiguring rest = fitting (only_word rest) (λ pid. Ok (Commanded (Unconfigure pid)))

abbrev pub asking_configuration : Option (List ℕ) → Asked
asking_configuration rest = fitting (only_word rest) (λ pid. Ok (Configuration pid))

-- the request stands behind the bundle and the service, and may be empty
abbrev pub calling : Option (List ℕ) → Asked
calling rest = fitting (two_numbers_and_text rest) (λ words. Ok (Call words.0 words.1 words.2))

-- what a line asks by its first word and what follows it, where the word is one of these: with a PID
abbrev pub configuring_line : List ℕ → Option (List ℕ) → Asked
configuring_line word rest =
    if bytes_eq word (codes "config") then configuring rest
    else (if bytes_eq word (codes "factory") then configuring_factory rest
    else (if bytes_eq word (codes "unconfig") then unconfiguring rest
    else (if bytes_eq word (codes "configuration") then asking_configuration rest else Err UnknownCommand)))

-- with a document, properties, a filter or a request
abbrev pub carrying_line : List ℕ → Option (List ℕ) → Asked
carrying_line word rest =
    if bytes_eq word (codes "install") then installing rest
    else (if bytes_eq word (codes "update") then updating rest
    else (if bytes_eq word (codes "register") then registering rest
    else (if bytes_eq word (codes "set") then setting rest
    else (if bytes_eq word (codes "listen") then listening rest
    else (if bytes_eq word (codes "find") then finding rest
    else (if bytes_eq word (codes "call") then calling rest
    else (if bytes_eq word (codes "http") then requesting rest else configuring_line word rest)))))))

-- with a bundle and a name
abbrev pub named_line : List ℕ → Option (List ℕ) → Asked
named_line word rest =
    if bytes_eq word (codes "enable") then named (λ bundle name. Enable bundle name) rest
    else (if bytes_eq word (codes "disable") then named (λ bundle name. Disable bundle name) rest else carrying_line word rest)

-- with a bundle and a service, or a listener and a number of events
abbrev pub paired_line : List ℕ → Option (List ℕ) → Asked
paired_line word rest =
    if bytes_eq word (codes "unregister") then paired (λ bundle service. Commanded (Unregister bundle service)) rest
    else (if bytes_eq word (codes "get") then paired (λ bundle service. Commanded (Get bundle service)) rest
    else (if bytes_eq word (codes "unget") then paired (λ bundle service. Commanded (Unget bundle service)) rest
    else (if bytes_eq word (codes "events") then paired (λ listener above. Events listener above) rest else named_line word rest)))

-- the wiring of a bundle, or without a number that of all
abbrev pub wiring : Option (List ℕ) → Asked
wiring None = Ok Wiring
wiring (Some text) = numbered (λ bundle. BundleWiring bundle) (Some text)

-- with a number, of what is told whole
abbrev pub telling_line : List ℕ → Option (List ℕ) → Asked
telling_line word rest =
    if bytes_eq word (codes "details") then numbered (λ configuration. Details configuration) rest
    else (if bytes_eq word (codes "service") then numbered (λ service. AboutService service) rest
    else (if bytes_eq word (codes "descriptions") then numbered (λ bundle. Descriptions bundle) rest else paired_line word rest))

-- with a number that is told
abbrev pub reading_line : List ℕ → Option (List ℕ) → Asked
reading_line word rest =
    if bytes_eq word (codes "report") then numbered (λ configuration. Report configuration) rest
    else (if bytes_eq word (codes "held") then numbered (λ configuration. Held configuration) rest
    else (if bytes_eq word (codes "trace") then numbered (λ above. Trace above) rest
    else (if bytes_eq word (codes "bundle-events") then numbered (λ above. BundleEvents above) rest
    else (if bytes_eq word (codes "finish") then numbered (λ turn. Finish turn) rest
    else (if bytes_eq word (codes "wiring") then wiring rest else telling_line word rest)))))

-- with a bundle or a listener
abbrev pub bundle_line : List ℕ → Option (List ℕ) → Asked
bundle_line word rest =
    if bytes_eq word (codes "start") then numbered (λ bundle. Commanded (Start bundle)) rest
    else (if bytes_eq word (codes "stop") then numbered (λ bundle. Commanded (Stop bundle)) rest
    else (if bytes_eq word (codes "uninstall") then numbered (λ bundle. Commanded (Uninstall bundle)) rest
    else (if bytes_eq word (codes "unlisten") then numbered (λ listener. Commanded (Unlisten listener)) rest else reading_line word rest)))

-- alone: what is there
abbrev pub listing_line : List ℕ → Option (List ℕ) → Asked
listing_line word rest =
    if bytes_eq word (codes "list") then alone ListComponents rest
    else (if bytes_eq word (codes "graph") then alone Graph rest
    else (if bytes_eq word (codes "configs") then alone Configurations rest
    else (if bytes_eq word (codes "listeners") then alone Listeners rest
    else (if bytes_eq word (codes "journal") then alone Journal rest else bundle_line word rest))))

-- alone, or with a word of a line
abbrev pub worded_line : List ℕ → Option (List ℕ) → Asked
worded_line word rest =
    if bytes_eq word (codes "quit") then alone Quit rest
    else (if bytes_eq word (codes "bundles") then alone Bundles rest
    else (if bytes_eq word (codes "services") then alone Services rest
    else (if bytes_eq word (codes "components") then alone Components rest
    else (if bytes_eq word (codes "routes") then alone Routes rest
    else (if bytes_eq word (codes "settle") then alone Settle rest
    else (if bytes_eq word (codes "begin") then alone Begin rest
    else (if bytes_eq word (codes "help") then helping rest else listing_line word rest)))))))

abbrev pub text_line : List ℕ → Asked
text_line line = worded_line (first_word line) (behind_word line)

-- what a line asks
abbrev pub shell_line : List ℕ → Asked
shell_line line = if is_silent line then Ok Silent else (if is_utf8 line then text_line line else Err UnknownCommand)

abbrev pub ReadsLine : List ℕ → Asked → Type 0
ReadsLine line answer = Reads (shell_line line) answer

abbrev pub is_quit : Asked → Bool
is_quit (Ok Quit) = true
is_quit _ = false
