pub mod Journals
pub mod Asking
mod Greeter
mod RelayedCalls
mod BestHeldService
mod ReachedByGets
mod LongChains
mod ManyNestedCalls
mod EightServlets
mod EndingServlet
mod DirectServlets
mod RefusedRequests
