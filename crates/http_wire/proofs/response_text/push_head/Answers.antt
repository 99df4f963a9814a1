use Rattle.std.proofs.Common.{◌≡◌, ◌∙◌, ℕ, List, ◌++◌, length, ap, append_assoc}
use Rattle.std.specs.Prelude.{codes, decimal, ◌==◌}
use Rattle.httparse.specs.Ascii.{crlf_bytes}
use Rattle.http_wire.specs.declared.messages.Answered.{Answered}
use Rattle.http_wire.specs.ResponseText.{line, line_if, status_text, response_head}
use Rattle.http_wire.proofs.ResponseTextLemmas.{grows_on}
use Rattle.http_wire.proofs.response_text.push_head.Goals as goal

joined : (a : Answered) (o t1 t2 t3 t4 t5 t6 service : List ℕ) (n : ℕ) → n ≡ length a.body → service ≡ codes "service-id"
    → t1 ≡ o ++ line (codes "HTTP/1.1 ") (status_text a.status)
    → t2 ≡ t1 ++ line (service ++ codes ": ") (decimal a.service)
    → t3 ≡ t2 ++ line_if (a.status == 200) (codes "content-type: ") (codes "text/plain; charset=utf-8")
    → t4 ≡ t3 ++ line (codes "content-length: ") (decimal n)
    → t5 ≡ t4 ++ line_if a.last (codes "connection: ") (codes "close")
    → t6 ≡ t5 ++ crlf_bytes
    → t6 ≡ o ++ response_head a
joined a o t1 t2 t3 t4 t5 t6 service n en es e1 e2 e3 e4 e5 e6 =
    e6 ∙ regroup o (line (codes "HTTP/1.1 ") (status_text a.status)) (line (codes "service-id: ") (decimal a.service))
    (line_if (a.status == 200) (codes "content-type: ") (codes "text/plain; charset=utf-8")) (line (codes "content-length: ") (decimal (length a.body))) (line_if a.last (codes "connection: ") (codes "close")) crlf_bytes
    t1 t2 t3 t4 t5 e1 (e2 ∙ ap (λ (name : List ℕ). t1 ++ line (name ++ codes ": ") (decimal a.service)) es) e3 (e4 ∙ ap (λ (m : ℕ). t3 ++ line (codes "content-length: ") (decimal m)) en) e5
  where
    regroup : (o a b c d e f t1 t2 t3 t4 t5 : List ℕ) → t1 ≡ o ++ a → t2 ≡ t1 ++ b → t3 ≡ t2 ++ c → t4 ≡ t3 ++ d → t5 ≡ t4 ++ e → t5 ++ f ≡ o ++ (a ++ b ++ c ++ d ++ e ++ f)
    regroup o a b c d e f t1 t2 t3 t4 t5 e1 e2 e3 e4 e5 = rw (e5, e4, e3, e2, e1) (simp append_assoc)

pub returns-clause-ok : goal.returns-clause-ok
returns-clause-ok c =
    joined c.args.answer.now _ _ _ _ _ _ _ _ _ (ap length c.as_slice-length.ensures) c.from_static-service.ensures
    c.in_ok-push_status_line.ensures.ok c.in_ok-push_number_field.ensures.ok c.in_ok-push_field_if.ensures.ok c.in_ok-push_number_field-2.ensures.ok c.in_ok-push_field_if-2.ensures.ok c.in_ok-push.ensures.ok

pub returns-in_err-push-clause-grows : goal.returns-in_err-push-clause-grows
returns-in_err-push-clause-grows c =
    grows_on _ _ _ c.in_ok-push_status_line.ensures.grows
    (grows_on _ _ _ c.in_ok-push_number_field.ensures.grows
    (grows_on _ _ _ c.in_ok-push_field_if.ensures.grows
    (grows_on _ _ _ c.in_ok-push_number_field-2.ensures.grows
    (grows_on _ _ _ c.in_ok-push_field_if-2.ensures.grows c.in_err-push.ensures.grows))))

pub returns-clause-grows : goal.returns-clause-grows
returns-clause-grows c =
    grows_on _ _ _ c.in_ok-push_status_line.ensures.grows
    (grows_on _ _ _ c.in_ok-push_number_field.ensures.grows
    (grows_on _ _ _ c.in_ok-push_field_if.ensures.grows
    (grows_on _ _ _ c.in_ok-push_number_field-2.ensures.grows
    (grows_on _ _ _ c.in_ok-push_field_if-2.ensures.grows c.in_ok-push.ensures.grows))))
