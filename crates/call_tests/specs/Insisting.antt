-- What is left of a request to component code that asks its reference again and again.
use Rattle.kind_trait.specs.Meanings.{Asking}
use Rattle.call_tests.specs.declared.insisting.Insisted.{Insisted}

-- the request that a work stands for
abbrev pub asking_of : Insisted → Asking
asking_of work = record { class = work.site.class; properties = work.site.properties; request = work.request; replies = work.replies }
