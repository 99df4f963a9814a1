-- No line of a script is answered that its form isn't built.
use Rattle.std.proofs.Common.{◌≡◌, ℕ, List, subst, sym, Bool, true, false, Ok, Err}
use Rattle.std.specs.Prelude.{◌≢◌, Option, Some, None, Result, nat_le, length, if◌then◌else◌, ⊤}
use Rattle.std.specs.Option.{option_map_or}
use Rattle.call_moves.specs.Evaluations.{Meaning}
use Rattle.callback_orders.specs.declared.callback.Outcome.{Outcome}
use Rattle.callback_orders.specs.declared.callback.Outcome.TheVariants.{Done as IsDone, Refused as IsRefused, NoMemory}
use Rattle.config_admin.specs.Configurations.{of_pid}
use Rattle.http_wire.specs.declared.messages.Answered.{Answered}
use Rattle.scr_calls.specs.declared.call_fault.CallFault.{CallFault}
use Rattle.scr_calls.specs.declared.call_fault.CallFault.TheVariants.{Gone, NoObject, Pending, Refused as Declined, CallTooLong, Core, Settle as InSettling, OutOfMemory as CallNoMemory}
use Rattle.scr_readers.specs.Events.{has_listener}
use Rattle.scr_readers.specs.ServiceViews.{service_view}
use Rattle.scr_report.specs.DetailData.{details_in}
use Rattle.scr_report.specs.Reports.{report_in}
use Rattle.scr_world.specs.Tables.{contents_of}
use Rattle.scr_world.specs.declared.lines.HeldLine.{HeldLine}
use Rattle.scr_world.specs.declared.reply.CoreFault.{CoreFault}
use Rattle.scr_world.specs.declared.reply.Reply.{Reply}
use Rattle.scr_world.specs.declared.reply.Reply.TheVariants.{Done as InCore, Bundle as OfBundle, Service as OfService, Uses as OfUses, Listener as OfListener}
use Rattle.platform_hall.specs.Cores.{CoreView}
use Rattle.platform_hall.specs.Platforms.{world}
use Rattle.platform_hall.specs.declared.finish_fault.FinishFault.{FinishFault}
use Rattle.platform_hall.specs.declared.finish_fault.FinishFault.TheVariants.{NoTurn as NoSuchTurn, OutOfMemory as NoMemoryLeft}
use Rattle.shell_lang.specs.declared.shell_line.ShellLine.TheVariants.{Silent, Quit, Help, Command as Commanded, Bundles, Services, Components, Report, Held, ListComponents, Graph, Details, AboutService, Descriptions, Find, Events, BundleEvents, Trace, Wiring, BundleWiring, Routes, Configurations, Configuration, Listeners, Journal, Settle, Begin, Finish, Call, Http}
use Rattle.shell_lang.specs.declared.shell_reply.Refusal.TheVariants.{NotBuilt}
use Rattle.shell_lang.specs.declared.shell_reply.ShellReply.{ShellReply}
use Rattle.shell_lang.specs.declared.shell_reply.ShellReply.TheVariants.{Refused}
use Rattle.shell_lang.specs.ShellLines.{Asked}
use Rattle.wiring_reader.specs.declared.wiring_line.NeedLine.{NeedLine}
use Rattle.script_shell.specs.Asks.{Asks, AsksBegin, AsksFinish, Manually, Setting, TellsBegun, TellsFinished, command_reply, events_reply, held_reply, report_reply}
use Rattle.script_shell.specs.Calling.{TellsCall}
use Rattle.script_shell.specs.ComponentListings.{descriptions_reply, details_reply}
use Rattle.script_shell.specs.Listings.{configuration_reply}
use Rattle.script_shell.specs.Requests.{AnswersFound, AnswersSized, greatest_body}
use Rattle.script_shell.specs.ServiceFacts.{service_reply}
use Rattle.script_shell.specs.Wiring.{bundle_reply}

-- this isn't told
abbrev IsBuilt : Option ShellReply → Type 0
IsBuilt (Some (Refused NotBuilt)) = ⊥
IsBuilt _ = ⊤

-- what is told is a reply, which is that one
told_built : (told : Option ShellReply) (reply : ShellReply) → told ≡ Some reply → IsBuilt (Some reply) → IsBuilt told
told_built told reply is built = subst IsBuilt (sym is) built

reply_built : (reply other : ShellReply) → reply ≡ other → IsBuilt (Some other) → IsBuilt (Some reply)
reply_built reply other is built = subst (λ (r : ShellReply). IsBuilt (Some r)) (sym is) built

mapped_built : {A : Type 0} (tells : A → ShellReply) (found : Option A) (other : ShellReply) → ((a : A) → IsBuilt (Some (tells a))) → IsBuilt (Some other)
    → IsBuilt (Some (option_map_or tells found other))
mapped_built tells None other each none = none
mapped_built tells (Some a) other each none = each a

chosen_built : (b : Bool) (one other : ShellReply) → IsBuilt (Some one) → IsBuilt (Some other) → IsBuilt (Some (if b then one else other))
chosen_built true one other is none = is
chosen_built false one other is none = none

command_built : (answer : Result Reply CoreFault) → IsBuilt (Some (command_reply answer))
command_built (Ok InCore) = tt
command_built (Ok (OfBundle bundle)) = tt
command_built (Ok (OfService service)) = tt
command_built (Ok (OfUses uses)) = tt
command_built (Ok (OfListener listener)) = tt
command_built (Err fault) = tt

held_built : (answer : Result (List HeldLine) CoreFault) → IsBuilt (Some (held_reply answer))
held_built (Ok rows) = tt
held_built (Err fault) = tt

bundle_built : (bundle : ℕ) (told : Option (List NeedLine)) → IsBuilt (Some (bundle_reply bundle told))
bundle_built bundle None = tt
bundle_built bundle (Some lines) = tt

begun_built : (after : CoreView) (taken : Option ℕ) (reply : ShellReply) → TellsBegun after taken reply → IsBuilt (Some reply)
begun_built after None reply is = reply_built reply _ is tt
begun_built after (Some turn) reply (work, runs, is) = reply_built reply _ is tt

finished_built : (turn : ℕ) (answer : Result Outcome FinishFault) (reply : ShellReply) → TellsFinished turn answer reply → IsBuilt (Some reply)
finished_built turn (Ok IsDone) reply is = reply_built reply _ is tt
finished_built turn (Ok IsRefused) reply is = reply_built reply _ is tt
finished_built turn (Ok NoMemory) reply is = absurd is
finished_built turn (Err NoSuchTurn) reply is = reply_built reply _ is tt
finished_built turn (Err NoMemoryLeft) reply is = absurd is

manually_built : (manual : Bool) (asks : CoreView → ShellReply → CoreView → Type 0) (before after : CoreView) (reply : ShellReply)
    → (asks before reply after → IsBuilt (Some reply)) → Manually manual asks before reply after → IsBuilt (Some reply)
manually_built true asks before after reply built asked = built asked
manually_built false asks before after reply built (is, same) = reply_built reply _ is tt

called_built : (answer : Result (List ℕ) CallFault) (reply : ShellReply) → TellsCall answer reply → IsBuilt (Some reply)
called_built (Ok text) reply is = reply_built reply _ is tt
called_built (Err (Gone front)) reply is = reply_built reply _ is tt
called_built (Err (NoObject front)) reply is = reply_built reply _ is tt
called_built (Err (Pending front)) reply is = reply_built reply _ is tt
called_built (Err (Declined front nested)) reply is = reply_built reply _ is tt
called_built (Err (CallTooLong front nested)) reply is = reply_built reply _ is tt
called_built (Err (Core fault)) reply (told, is) = reply_built reply _ is tt
called_built (Err (InSettling fault)) reply none = absurd none
called_built (Err CallNoMemory) reply none = absurd none

sized_built : (next : Meaning) (method target body : List ℕ) (fits : Bool) (before : CoreView) (path : List ℕ) (reply : ShellReply)
    → AnswersSized next method target body fits before path reply → IsBuilt (Some reply)
sized_built next method target body true before path reply (answer, answers, is) = reply_built reply _ is tt
sized_built next method target body false before path reply is = reply_built reply _ is tt

found_built : (next : Meaning) (method target body : List ℕ) (before : CoreView) (found : Option (List ℕ)) (reply : ShellReply)
    → AnswersFound next method target body before found reply → IsBuilt (Some reply)
found_built next method target body before None reply is = reply_built reply _ is tt
found_built next method target body before (Some path) reply answers = sized_built next method target body (nat_le (length body) greatest_body) before path reply answers

asks_built : (s : Setting) (asked : Asked) (before after : CoreView) (told : Option ShellReply) → Asks s asked before told after → IsBuilt told
asks_built s (Ok Silent) before after told (none, same) = subst IsBuilt (sym none) tt
asks_built s (Ok Quit) before after told (none, same) = subst IsBuilt (sym none) tt
asks_built s (Ok (Help rows)) before after told (is, same) = told_built told _ is tt
asks_built s (Ok (Commanded command)) before after told (reply, is, (answer, takes, tells, replied)) =
    told_built told reply is (reply_built reply _ replied (command_built answer))
asks_built s (Ok Bundles) before after told (is, same) = told_built told _ is tt
asks_built s (Ok Services) before after told (is, same) = told_built told _ is tt
asks_built s (Ok Components) before after told (is, same) = told_built told _ is tt
asks_built s (Ok (Report configuration)) before after told (is, same) =
    told_built told (report_reply (world before) configuration) is (mapped_built _ (report_in (world before) configuration) _ (λ d. tt) tt)
asks_built s (Ok (Held configuration)) before after told (reply, is, (answer, tells, told_one, replied, same)) =
    told_built told reply is (reply_built reply _ replied (held_built answer))
asks_built s (Ok ListComponents) before after told (is, same) = told_built told _ is tt
asks_built s (Ok Graph) before after told (is, same) = told_built told _ is tt
asks_built s (Ok (Details configuration)) before after told (is, same) =
    told_built told (details_reply (world before) configuration) is (mapped_built _ (details_in (world before) configuration) _ (λ d. tt) tt)
asks_built s (Ok (AboutService service)) before after told (is, same) =
    told_built told (service_reply (world before) service) is (mapped_built _ (service_view (world before) service) _ (λ v. tt) tt)
asks_built s (Ok (Descriptions bundle)) before after told (is, same) =
    told_built told (descriptions_reply (world before) bundle) is (mapped_built _ (contents_of (world before).documents bundle) _ (λ c. tt) tt)
asks_built s (Ok (Find tree)) before after told (is, same) = told_built told _ is tt
asks_built s (Ok (Events listener number)) before after told (is, same) =
    told_built told (events_reply (world before) listener number) is (chosen_built (has_listener (world before) listener) _ _ tt tt)
asks_built s (Ok (BundleEvents number)) before after told (is, same) = told_built told _ is tt
asks_built s (Ok (Trace number)) before after told (is, same) = told_built told _ is tt
asks_built s (Ok Wiring) before after told (reply, is, (lines, tells, replied, same)) = told_built told reply is (reply_built reply _ replied tt)
asks_built s (Ok (BundleWiring bundle)) before after told (reply, is, (lines, tells, replied, same)) =
    told_built told reply is (reply_built reply _ replied (bundle_built bundle lines))
asks_built s (Ok Routes) before after told (is, same) = told_built told _ is tt
asks_built s (Ok Configurations) before after told (is, same) = told_built told _ is tt
asks_built s (Ok (Configuration pid)) before after told (is, same) =
    told_built told (configuration_reply (world before) pid) is (mapped_built _ (of_pid pid (world before).configurations) _ (λ k. tt) tt)
asks_built s (Ok Listeners) before after told (is, same) = told_built told _ is tt
asks_built s (Ok Journal) before after told (is, same) = told_built told _ is tt
asks_built s (Ok Settle) before after told (reply, is, (count, settles, replied)) = told_built told reply is (reply_built reply _ replied tt)
asks_built s (Ok Begin) before after told (reply, is, asked) =
    told_built told reply is (manually_built s.is_manual AsksBegin before after reply (λ begun. begun_built after begun.0 reply begun.2) asked)
asks_built s (Ok (Finish turn)) before after told (reply, is, asked) =
    told_built told reply is (manually_built s.is_manual (AsksFinish s.refuses turn) before after reply (λ ends. finished_built turn ends.0 reply ends.2) asked)
asks_built s (Ok (Call bundle service request)) before after told (reply, is, (answer, calls, tells)) = told_built told reply is (called_built answer reply tells)
asks_built s (Ok (Http method target body)) before after told (reply, is, (same, (found, finds, answers))) =
    told_built told reply is (found_built s.next method target body before found reply answers)
asks_built s (Err fault) before after told (is, same) = told_built told _ is tt

-- no line is answered so
pub all_built : (s : Setting) (asked : Asked) (before after : CoreView) (told : Option ShellReply) → Asks s asked before told after → told ≢ Some (Refused NotBuilt)
all_built s asked before after told asks = λ is. subst IsBuilt is (asks_built s asked before after told asks)
