use Rattle.osgi_version.proofs.Canonical.{canonical_is_read, spelled_is_version}
use Rattle.osgi_version.proofs.version.canonical_text_is_read.Goals as goal

pub returns-clause-of_spelled : goal.returns-clause-of_spelled
returns-clause-of_spelled c = spelled_is_version

pub returns-clause-read_again : goal.returns-clause-read_again
returns-clause-read_again c = canonical_is_read
