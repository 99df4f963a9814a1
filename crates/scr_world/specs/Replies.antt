-- What a command changes, and what it answers. OSGi Core 8, chapters 4 and 5, where they say that a call has no effect; the rest is our own.
use Rattle.std.specs.Prelude.{◌≡◌, ℕ, List, [], ◌∷◌, ◌+◌, ◌-◌, ◌&&◌, ◌||◌, ◌++◌, Bool, true, false, not, is_none, Result, Ok, Err, IfErr}
use Rattle.std.specs.Option.{option_or, option_map_or}
use Rattle.std.specs.Str.{bytes_eq}
use Rattle.bundle_life.specs.declared.bundle.BundleLife.{BundleLife}
use Rattle.bundle_life.specs.Lives.{bundle_at, is_active, state_is}
use Rattle.component_dto.specs.declared.description.Description.{Description}
use Rattle.level_order.specs.Cycles.{TellsCycle}
use Rattle.use_counts.specs.Uses.{use_count}
use Rattle.scr_world.specs.declared.command.Command.{Command}
use Rattle.scr_world.specs.declared.command.Command.TheVariants.{Install, Update, Start, Stop, Enable, Disable, Register, Get, Unget, Listen, Configure, ConfigureFactory, Unconfigure}
use Rattle.scr_world.specs.declared.reply.CoreFault.{CoreFault}
use Rattle.scr_world.specs.declared.reply.CoreFault.TheVariants.{NoComponent, Cycle, BundlesFull, ComponentsFull, JournalFull, OutOfMemory}
use Rattle.scr_world.specs.declared.reply.Reply.{Reply}
use Rattle.scr_world.specs.declared.reply.Reply.TheVariants.{Done, Bundle as InBundle, Service as AsService, Uses as WithUses, Listener as AsListener}
use Rattle.scr_world.specs.declared.contents.Contents.{Contents}
use Rattle.scr_world.specs.Refusals.{descriptions_with, refusal, refuse_if}
use Rattle.scr_world.specs.Room.{has_room}
use Rattle.scr_world.specs.Tables.{contents_of, descriptions_of}
use Rattle.scr_world.specs.declared.world.World.{World}

-- the description of this name is enabled
abbrev pub flag_of : List ℕ → List Description → List Bool → Bool
flag_of name [] flags = false
flag_of name (d ∷ ds) [] = false
flag_of name (d ∷ ds) (f ∷ fs) = (bytes_eq d.name name && f) || flag_of name ds fs

abbrev pub is_enabled : World → ℕ → List ℕ → Bool
is_enabled w bundle name = option_map_or (λ (c : Contents). flag_of name c.document.descriptions c.enabled) (contents_of w.documents bundle) false

-- a command that isn't refused changes something, but for an install from a known location, the start of an ACTIVE bundle, the stop of any other, and
-- an enable or disable that is already so
abbrev pub has_effect : World → Command → Bool
has_effect w (Install doc) = is_none (bundle_at w.bundles.rows doc.location)
has_effect w (Start bundle) = not (state_is is_active w.bundles.rows bundle)
has_effect w (Stop bundle) = state_is is_active w.bundles.rows bundle
has_effect w (Enable bundle name) = not (is_enabled w bundle name)
has_effect w (Disable bundle name) = is_enabled w bundle name
has_effect w _ = true

-- a command that would change something finds no room for its entry
abbrev pub lacks_room : ℕ → World → Command → Bool
lacks_room limit w command = has_effect w command && not (has_room limit w 1)

abbrev pub changes : ℕ → World → Command → Bool
changes limit w command = is_none (refusal w command) && (has_effect w command && has_room limit w 1)

-- what a command answers that isn't refused; a use count is that after it
abbrev pub answer : World → Command → Reply
answer w (Install doc) = InBundle (option_map_or (λ (b : BundleLife). b.number) (bundle_at w.bundles.rows doc.location) (w.bundles.numbered + 1))
answer w (Register bundle interfaces properties) = AsService (w.registry.numbered + 1)
answer w (Get bundle service) = WithUses (use_count bundle service w.uses + 1)
answer w (Unget bundle service) = WithUses (use_count bundle service w.uses - 1)
answer w (Listen bundle filter) = AsListener (w.listeners.numbered + 1)
answer w _ = Done

-- what a command answers: the first refusal, last that for want of room, else the answer
abbrev pub reply : ℕ → World → Command → Result Reply CoreFault
reply limit w command = option_map_or (λ fault. Err fault) (option_or (refusal w command) (refuse_if (lacks_room limit w command) JournalFull)) (Ok (answer w command))

-- the told cycle is that of all descriptions with those of the document in their place
abbrev pub TellsPath : World → Command → List (List ℕ) → Type 0
TellsPath w (Install doc) path = TellsCycle (descriptions_of w.documents ++ doc.descriptions) path
TellsPath w (Update bundle doc) path = TellsCycle (descriptions_with w doc bundle) path
TellsPath w _ path = ⊥

-- what a command answers, where a cycle is told with its path
abbrev pub Replies : ℕ → World → Command → Result Reply CoreFault → Type 0
Replies limit w command (Err (Cycle path)) = (reply limit w command ≡ Err (Cycle [])) × TellsPath w command path
Replies limit w command answer = reply limit w command ≡ answer

-- ---- want of memory

-- a command that takes memory to judge: it may bring a cycle, or too many component configurations
abbrev pub takes_memory_to_judge : Command → Bool
takes_memory_to_judge (Install doc) = true
takes_memory_to_judge (Update bundle doc) = true
takes_memory_to_judge (Start bundle) = true
takes_memory_to_judge (Enable bundle name) = true
takes_memory_to_judge (Configure pid properties) = true
takes_memory_to_judge (ConfigureFactory factory name properties) = true
takes_memory_to_judge (Unconfigure pid) = true
takes_memory_to_judge _ = false

-- a refusal that takes memory to find or to tell; those for too many bundles and for want of room may stand behind such a one, and want of memory is none
abbrev pub takes_memory_to_refuse : Command → CoreFault → Bool
takes_memory_to_refuse command (NoComponent name) = true
takes_memory_to_refuse command (Cycle path) = true
takes_memory_to_refuse command BundlesFull = true
takes_memory_to_refuse command ComponentsFull = true
takes_memory_to_refuse command JournalFull = takes_memory_to_judge command
takes_memory_to_refuse command OutOfMemory = true
takes_memory_to_refuse command _ = false

-- want of memory may come: nothing refuses the command, or what does takes memory
abbrev pub MayLackMemory : ℕ → World → Command → Type 0
MayLackMemory limit w command = IfErr (reply limit w command) (λ fault. takes_memory_to_refuse command fault ≡ true)
