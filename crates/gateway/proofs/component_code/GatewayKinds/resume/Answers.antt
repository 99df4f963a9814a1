use Rattle.std.proofs.Common.{ap, ◌∙◌}
use Rattle.gateway.specs.Classes.{class_of}
use Rattle.gateway.specs.Requests.{asked}
use Rattle.gateway.proofs.RequestLemmas.{first_reply}
use Rattle.gateway.proofs.component_code.GatewayKinds.resume.Goals as goal

pub returns-in-None : goal.returns-in-None
returns-in-None c =
    first_reply (λ work. asked work.site work.request work.reading) c.args.work.site.class c.args.work.site.properties c.args.work.request c.args.work.reading c.args.reply.now c.in-Some.class c.replied.result
    c.in-None.is (c.in-Some.ensures ∙ ap class_of c.as_str.ensures) c.replied.ensures
