use Rattle.std.proofs.Common.{◌≡◌, ◌≤◌, length, Err, arith, rules}
use Rattle.http.specs.declared.method.MethodError.TheVariants.{Invalid}
use Rattle.http_wire.proofs.MethodTokenLemmas.{header_token, token_unless}
use Rattle.http_wire.proofs.method_token.read_method.Goals as goal

pub returns-in-Ok-clause-found : goal.returns-in-Ok-clause-found
returns-in-Ok-clause-found c =
    let token = token_unless c.args.bytes.now (λ no. let bad = c.from_bytes.ensures.invalid.1 no in cc) in (token, search rules)

pub returns-in-Err-Invalid-clause-found : goal.returns-in-Err-Invalid-clause-found
returns-in-Err-Invalid-clause-found c =
    let refused : c.from_bytes.result ≡ Err Invalid = cc in λ token. c.from_bytes.ensures.invalid.0 refused (header_token c.args.bytes.now token)

pub returns-in-Err-OutOfMemory-clause-memory : goal.returns-in-Err-OutOfMemory-clause-memory
returns-in-Err-OutOfMemory-clause-memory c =
    let token = token_unless c.args.bytes.now (λ no. let bad = c.from_bytes.ensures.invalid.1 no in cc) in
    let long : length c.args.bytes.now ≤ 15 → ⊥ =
    λ short. (let bad = rw c.in-Err-OutOfMemory.is at (c.from_bytes.ensures.no_memory_needed (header_token c.args.bytes.now token) short) in cc) in
    (token, omega (arith, long))
