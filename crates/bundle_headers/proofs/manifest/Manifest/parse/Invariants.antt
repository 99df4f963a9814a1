use Rattle.std.proofs.Common.{◌≡◌, drop}
use Rattle.bundle_headers.specs.Headers.{headers_after, manifest_of}
use Rattle.bundle_headers.proofs.manifest.Manifest.parse.Given as goal

-- the headers so far, and then those of the lines that are left
abbrev pub invariant-loop-lines : goal.invariant-loop-lines
invariant-loop-lines l = headers_after l.bytes l.headers (drop l.lines-index l.lines-items) ≡ manifest_of l.bytes
