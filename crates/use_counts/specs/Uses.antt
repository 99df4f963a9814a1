-- Gets of services. OSGi Core 8, chapter 5 "Service Layer"; the section stands at each group of words. That a get is held by the shell or by a token is our own.
use Rattle.std.specs.Prelude.{ℕ, ◌+◌, ◌-◌, ◌==◌, List, map, Bool, not, filter, find, if◌then◌else◌}
use Rattle.std.specs.Ordering.{is_eq, is_lt, nat_cmp, ordering_then}
use Rattle.std.specs.declared.cmp.Ordering.{Ordering}
use Rattle.std.specs.Option.{option_map_or}
use Rattle.prop_map.specs.Words.{insert_by}
use Rattle.use_counts.specs.declared.uses.Holder.{Holder}
use Rattle.use_counts.specs.declared.uses.Holder.TheVariants.{Shell, Token}
use Rattle.use_counts.specs.declared.uses.UseRow.{UseRow}

-- ---- the table: rows by service, then by bundle

abbrev pub use_cmp : UseRow → UseRow → Ordering
use_cmp u v = ordering_then (nat_cmp u.service v.service) (nat_cmp u.bundle v.bundle)

abbrev pub use_before : UseRow → UseRow → Bool
use_before u v = is_lt (use_cmp u v)

-- a bundle that doesn't use a service
abbrev pub no_use : ℕ → ℕ → UseRow
no_use bundle service = record { service = service; bundle = bundle; shell = 0; tokens = 0 }

-- the row is that of a bundle and a service
abbrev pub is_use : ℕ → ℕ → UseRow → Bool
is_use bundle service u = is_eq (use_cmp u (no_use bundle service))

-- how a bundle uses a service
abbrev pub use_of : ℕ → ℕ → List UseRow → UseRow
use_of bundle service us = option_map_or (λ (u : UseRow). u) (find (is_use bundle service) us) (no_use bundle service)

-- ---- use counts ("Getting Services", "Releasing Services")

-- how many gets a row counts, and how many of a holder
abbrev pub total : UseRow → ℕ
total u = u.shell + u.tokens

abbrev pub held_by : Holder → UseRow → ℕ
held_by Shell u = u.shell
held_by Token u = u.tokens

abbrev pub use_count : ℕ → ℕ → List UseRow → ℕ
use_count bundle service us = total (use_of bundle service us)

-- how many a holder holds
abbrev pub holder_count : Holder → ℕ → ℕ → List UseRow → ℕ
holder_count holder bundle service us = held_by holder (use_of bundle service us)

-- the bundles that use a service, by number ("Getting Services", using bundles)
abbrev pub bundles_using : ℕ → List UseRow → List ℕ
bundles_using service us = map (λ (u : UseRow). u.bundle) (filter (λ (u : UseRow). u.service == service) us)

-- ---- one get more, and one less

abbrev pub one_more : Holder → UseRow → UseRow
one_more Shell u = record u { shell = u.shell + 1 }
one_more Token u = record u { tokens = u.tokens + 1 }

abbrev pub one_less : Holder → UseRow → UseRow
one_less Shell u = record u { shell = u.shell - 1 }
one_less Token u = record u { tokens = u.tokens - 1 }

-- the rows of others, and of other services
abbrev pub without_use : ℕ → ℕ → List UseRow → List UseRow
without_use bundle service us = filter (λ (u : UseRow). not (is_use bundle service u)) us

abbrev pub after_get : ℕ → ℕ → Holder → List UseRow → List UseRow
after_get bundle service holder us = insert_by use_before (one_more holder (use_of bundle service us)) (without_use bundle service us)

-- a row that counts no get any more goes
abbrev pub with_use : ℕ → ℕ → UseRow → List UseRow → List UseRow
with_use bundle service u us = if total u == 0 then without_use bundle service us else insert_by use_before u (without_use bundle service us)

abbrev pub after_unget : ℕ → ℕ → Holder → List UseRow → List UseRow
after_unget bundle service holder us = with_use bundle service (one_less holder (use_of bundle service us)) us

-- ---- what ends with a service ("Unregistering Services") and with a bundle ("Stopping Bundles")

abbrev pub without_service : ℕ → List UseRow → List UseRow
without_service service us = filter (λ (u : UseRow). not (u.service == service)) us

abbrev pub without_uses_of : ℕ → List UseRow → List UseRow
without_uses_of bundle us = filter (λ (u : UseRow). not (u.bundle == bundle)) us
