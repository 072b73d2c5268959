use Rattle.std.proofs.Common.{◌≡◌, List, ℕ, string_bytes, subst, sym}
use Rattle.codex32.specs.Encode.{IsEncodedString}
use Rattle.codex32.specs.Header.{identifier_of_header, threshold_of_header}
use Rattle.codex32.specs.Share.{IsShareString}
use Rattle.uses.proofs.Recovered.{same_text}
use Rattle.uses.proofs.callers.recovered.Goals as goal

pub returns-clause-encoded : goal.returns-clause-encoded
returns-clause-encoded c =
    let same : string_bytes c.in-Ok-recover.text ≡ string_bytes c.in-Ok.own_text = same_text c.in-Ok-parse.own_share c.in-Ok-parse-2.other_share c.in-Ok-parse-3.first_share c.in-Ok-parse-4.second_share _ _ (string_bytes c.in-Ok.own_text) (string_bytes c.in-Ok-derive.first) (string_bytes c.in-Ok-derive-2.second)
    (string_bytes c.in-Ok-recover.text) c.args.own.now c.args.secret.now c.in-Ok.ensures.string.0 c.requires c.in-Ok.ensures.text c.in-Ok.ensures.string.1 (rw c.deref.ensures at c.in-Ok-parse.ensures.parts)
    c.in-Ok-derive.ensures.refused.0 c.in-Ok-derive.ensures.refused.1 c.in-Ok-derive.ensures.value (rw c.deref-3.ensures at c.in-Ok-parse-3.ensures.parts)
    c.in-Ok-derive-2.ensures.refused.0 c.in-Ok-derive-2.ensures.value (rw c.deref-4.ensures at c.in-Ok-parse-4.ensures.parts) c.in-Ok-recover.ensures.refused.0 c.in-Ok-recover.ensures.value in
    subst (λ (t : List ℕ). IsEncodedString c.args.own.now c.args.secret.now t) (sym same) c.in-Ok.ensures.text

pub returns-clause-string : goal.returns-clause-string
returns-clause-string c =
    let same : string_bytes c.in-Ok-recover.text ≡ string_bytes c.in-Ok.own_text = same_text c.in-Ok-parse.own_share c.in-Ok-parse-2.other_share c.in-Ok-parse-3.first_share c.in-Ok-parse-4.second_share _ _ (string_bytes c.in-Ok.own_text) (string_bytes c.in-Ok-derive.first) (string_bytes c.in-Ok-derive-2.second)
    (string_bytes c.in-Ok-recover.text) c.args.own.now c.args.secret.now c.in-Ok.ensures.string.0 c.requires c.in-Ok.ensures.text c.in-Ok.ensures.string.1 (rw c.deref.ensures at c.in-Ok-parse.ensures.parts)
    c.in-Ok-derive.ensures.refused.0 c.in-Ok-derive.ensures.refused.1 c.in-Ok-derive.ensures.value (rw c.deref-3.ensures at c.in-Ok-parse-3.ensures.parts)
    c.in-Ok-derive-2.ensures.refused.0 c.in-Ok-derive-2.ensures.value (rw c.deref-4.ensures at c.in-Ok-parse-4.ensures.parts) c.in-Ok-recover.ensures.refused.0 c.in-Ok-recover.ensures.value in
    let (payload, string, elements) = c.in-Ok.ensures.string in
    let header = c.args.own.now in (
      payload,
      subst (λ x. IsShareString (string_bytes c.in-Ok-recover.text) (threshold_of_header header) (identifier_of_header header) x payload) c.requires
          (subst (λ (t : List ℕ). IsShareString t (threshold_of_header header) (identifier_of_header header) header.share_index payload) (sym same) string),
      elements,
    )
