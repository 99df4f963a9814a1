use Rattle.fault_count.proofs.memory_sink.MemorySinkSink.write.Goals as goal

pub returns-then-contains-clause-step : goal.returns-then-contains-clause-step
returns-then-contains-clause-step c = rw (← c.self.view_is) (λ unlisted. cc)
