use Rattle.scr_promises.proofs.ProviderLaws.{have_providers}
use Rattle.scr_promises.proofs.holdings.note_providers.Goals as goal

pub returns : goal.returns
returns c = have_providers
