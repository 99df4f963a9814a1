use Rattle.wb_filters.proofs.ChainLemmas.{no_chain, same_chain}
use Rattle.wb_filters.proofs.chains.Chains.note_chains.Goals as goal

pub returns-clause-chain : goal.returns-clause-chain
returns-clause-chain c = λ contexts servlets filters pages path. same_chain contexts servlets filters pages path

pub returns-clause-lost : goal.returns-clause-lost
returns-clause-lost c = λ contexts servlets filters pages path e. no_chain contexts servlets filters pages path e
