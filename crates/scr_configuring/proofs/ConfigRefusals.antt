-- The refusals of the table of configurations as those of commands, and the tables after these.
use Rattle.std.proofs.Common.{◌≡◌, ◌∙◌, ℕ, List, [], ◌∷◌, ◌++◌, ap, refl, subst, sym, Bool, true, false, Option, Some, None, Err}
use Rattle.std.specs.Prelude.{is_none, is_some, map, not}
use Rattle.config_admin.specs.Configurations.{factory_configuration, factory_pid, of_factory, of_pid, own_configuration, with_configuration, without_pid}
use Rattle.config_admin.specs.Refusals.{IsRefusedBy, delete_refusal, is_full, is_pid, set_factory_refusal, set_refusal}
use Rattle.config_admin.specs.Refusals as table
use Rattle.config_admin.specs.declared.config_fault.ConfigFault.{ConfigFault}
use Rattle.config_admin.specs.declared.config_fault.ConfigFault.TheVariants.{BadPid, FactoryClash, NoConfiguration, ConfigurationsFull, OutOfMemory}
use Rattle.config_admin.specs.declared.configuration.Configuration.{Configuration}
use Rattle.journal_core.specs.Rooms.{JournalRows}
use Rattle.prop_map.specs.Words.{first_some, is_empty}
use Rattle.prop_map.specs.declared.properties.Property.{Property}
use Rattle.scr_judgements.specs.Changing.{Changes}
use Rattle.scr_configuring.specs.ConfigRefusals.{core_fault}
use Rattle.scr_judgements.proofs.Drafted.{descriptions_stay, levels_stay}
use Rattle.scr_judgements.proofs.Changed.{asks_takes}
use Rattle.scr_judgements.proofs.Judged.{no_memory_judged, refused}
use Rattle.scr_judgements.specs.Drafting.{no_tables}
use Rattle.scr_judgements.specs.Judgements.{Judges}
use Rattle.scr_state.specs.Keeps.{Keeps}
use Rattle.scr_state.specs.declared.state.State.{State}
use Rattle.scr_world.specs.Refusals.{components_full, refusal, refuse_if}
use Rattle.scr_world.specs.Replies.{takes_memory_to_judge}
use Rattle.scr_world.specs.declared.command.Command.{Command}
use Rattle.scr_world.specs.declared.command.Command.TheVariants.{Configure, ConfigureFactory, Unconfigure}
use Rattle.scr_world.specs.declared.reply.CoreFault.{CoreFault}
use Rattle.scr_world.specs.declared.reply.Reply.TheVariants.{Done}
use Rattle.scr_world.specs.declared.step.Step.{Step}

-- ---- the same tests refuse the change of the table and the command, in one order; behind them the command has one refusal more

abbrev of_table : List (Bool × ConfigFault) → Option ConfigFault
of_table tests = first_some (map (λ (t : Bool × ConfigFault). table.refuse_if t.0 t.1) tests)

abbrev of_core : List (Bool × ConfigFault) → Option CoreFault → Option CoreFault
of_core tests last = first_some (map (λ (t : Bool × ConfigFault). refuse_if t.0 (core_fault t.1)) tests ++ last ∷ [])

some_same : (x y : ConfigFault) → Some x ≡ Some y → Some (core_fault x) ≡ Some (core_fault y)
some_same x y e = let same : x ≡ y = cc in ap (λ f. Some (core_fault f)) same

translated : (tests : List (Bool × ConfigFault)) (last : Option CoreFault) (fault : ConfigFault) → of_table tests ≡ Some fault → of_core tests last ≡ Some (core_fault fault)
translated [] last fault is = absurd cc
translated ((true, f) ∷ tests) last fault is = some_same f fault is
translated ((false, f) ∷ tests) last fault is = translated tests last fault is

lone : (o : Option CoreFault) → first_some (o ∷ []) ≡ o
lone None = refl
lone (Some f) = refl

left : (tests : List (Bool × ConfigFault)) (last : Option CoreFault) → of_table tests ≡ None → of_core tests last ≡ last
left [] last free = lone last
left ((true, f) ∷ tests) last free = absurd cc
left ((false, f) ∷ tests) last free = left tests last free

-- a command whose tests these are
module _ (limit : ℕ) (s : State) (command : Command) (tests : List (Bool × ConfigFault)) (same : refusal s.world command ≡ of_core tests (components_full s.world command))
    (judges : takes_memory_to_judge command ≡ true) where
  by_table : (fault : ConfigFault) → of_table tests ≡ Some fault → refusal s.world command ≡ Some (core_fault fault)
  by_table fault is = same ∙ translated tests (components_full s.world command) fault is

  judged : (fault : ConfigFault) → IsRefusedBy {A = List Configuration} (of_table tests) (Err fault) → Judges limit s command (Err (core_fault fault))
  judged BadPid is = refused limit s command (core_fault BadPid) refl (by_table BadPid is)
  judged FactoryClash is = refused limit s command (core_fault FactoryClash) refl (by_table FactoryClash is)
  judged NoConfiguration is = refused limit s command (core_fault NoConfiguration) refl (by_table NoConfiguration is)
  judged ConfigurationsFull is = refused limit s command (core_fault ConfigurationsFull) refl (by_table ConfigurationsFull is)
  judged OutOfMemory is = no_memory_judged limit s command judges (asks_takes s.world command (same ∙ left tests (components_full s.world command) is)) (core_fault OutOfMemory) refl

abbrev own_tests : List ℕ → List Configuration → List (Bool × ConfigFault)
own_tests pid cs = (not (is_pid pid), BadPid) ∷ (not (is_empty (of_factory pid cs)), FactoryClash) ∷ (is_full pid cs, ConfigurationsFull) ∷ []

abbrev factory_tests : List ℕ → List ℕ → List Configuration → List (Bool × ConfigFault)
factory_tests factory name cs = (not (is_pid factory), BadPid) ∷ (not (is_pid name), BadPid) ∷ (is_some (of_pid factory cs), FactoryClash) ∷ (is_full (factory_pid factory name) cs, ConfigurationsFull) ∷ []

abbrev delete_tests : List ℕ → List Configuration → List (Bool × ConfigFault)
delete_tests pid cs = (is_none (of_pid pid cs), NoConfiguration) ∷ []

delete_alone : (pid : List ℕ) (cs : List Configuration) → of_table (delete_tests pid cs) ≡ delete_refusal pid cs
delete_alone pid cs = alone (delete_refusal pid cs)
  where
    alone : (o : Option ConfigFault) → first_some (o ∷ []) ≡ o
    alone None = refl
    alone (Some f) = refl

module _ (limit : ℕ) (s : State) where
  pub own_refused : (pid : List ℕ) (properties : List Property) (fault : ConfigFault) → IsRefusedBy {A = List Configuration} (set_refusal pid s.world.configurations) (Err fault) → Judges limit s (Configure pid properties) (Err (core_fault fault))
  own_refused pid properties fault is = judged limit s (Configure pid properties) (own_tests pid s.world.configurations) refl refl fault is

  pub factory_refused : (factory name : List ℕ) (properties : List Property) (fault : ConfigFault) → IsRefusedBy {A = List Configuration} (set_factory_refusal factory name s.world.configurations) (Err fault)
      → Judges limit s (ConfigureFactory factory name properties) (Err (core_fault fault))
  factory_refused factory name properties fault is = judged limit s (ConfigureFactory factory name properties) (factory_tests factory name s.world.configurations) refl refl fault is

  pub delete_refused : (pid : List ℕ) (fault : ConfigFault) → IsRefusedBy {A = List Configuration} (delete_refusal pid s.world.configurations) (Err fault) → Judges limit s (Unconfigure pid) (Err (core_fault fault))
  delete_refused pid fault is =
      judged limit s (Unconfigure pid) (delete_tests pid s.world.configurations) refl refl fault
      (subst (λ (o : Option ConfigFault). IsRefusedBy {A = List Configuration} o (Err fault)) (sym (delete_alone pid s.world.configurations)) is)

-- ---- what isn't refused so changes the configurations alone

module _ (j : JournalRows Step) (s : State) (keeps : Keeps j s) (after : List Configuration) where
  pub own_changes : (pid : List ℕ) (properties : List Property) → set_refusal pid s.world.configurations ≡ None → after ≡ with_configuration (own_configuration pid properties) s.world.configurations
      → Changes s (Configure pid properties) (components_full s.world (Configure pid properties)) Done (record no_tables { configurations = Some after })
  own_changes pid properties free is = record {
    refusals = left (own_tests pid s.world.configurations) (components_full s.world (Configure pid properties)) free;
    effect = refl;
    answers = refl;
    after = record {
      documents = refl;
      registry = refl;
      configurations = is;
      uses = refl;
      descriptions = descriptions_stay j s keeps s.world.documents refl;
      levels = levels_stay j s keeps s.world.documents refl;
    };
  }

  pub factory_changes : (factory name : List ℕ) (properties : List Property) → set_factory_refusal factory name s.world.configurations ≡ None
      → after ≡ with_configuration (factory_configuration factory name properties) s.world.configurations
      → Changes s (ConfigureFactory factory name properties) (components_full s.world (ConfigureFactory factory name properties)) Done (record no_tables { configurations = Some after })
  factory_changes factory name properties free is = record {
    refusals = left (factory_tests factory name s.world.configurations) (components_full s.world (ConfigureFactory factory name properties)) free;
    effect = refl;
    answers = refl;
    after = record {
      documents = refl;
      registry = refl;
      configurations = is;
      uses = refl;
      descriptions = descriptions_stay j s keeps s.world.documents refl;
      levels = levels_stay j s keeps s.world.documents refl;
    };
  }

  pub delete_changes : (pid : List ℕ) → delete_refusal pid s.world.configurations ≡ None → after ≡ without_pid pid s.world.configurations
      → Changes s (Unconfigure pid) (components_full s.world (Unconfigure pid)) Done (record no_tables { configurations = Some after })
  delete_changes pid free is = record {
    refusals = left (delete_tests pid s.world.configurations) (components_full s.world (Unconfigure pid)) (delete_alone pid s.world.configurations ∙ free);
    effect = refl;
    answers = refl;
    after = record {
      documents = refl;
      registry = refl;
      configurations = is;
      uses = refl;
      descriptions = descriptions_stay j s keeps s.world.documents refl;
      levels = levels_stay j s keeps s.world.documents refl;
    };
  }
