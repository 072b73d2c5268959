use Rattle.b32_replies.proofs.Contents.{elements_decoded, strict_decoded}
use Rattle.b32_replies.proofs.content.decoded.Goals as goal

pub returns-in-Bytes : goal.returns-in-Bytes
returns-in-Bytes g c =
    rw c.in-Bytes.is
    (strict_decoded (λ v. v.items) g.Ck.Checksum.code c.args.text.now c.decode_strict.result c.decode_strict.ensures.value c.decode_strict.ensures.refused)

pub returns-in-Elements : goal.returns-in-Elements
returns-in-Elements g c =
    rw c.in-Elements.is
    (elements_decoded (λ v. v.items) g.Ck.Checksum.code c.args.text.now c.decode_elements.result c.decode_elements.ensures.value c.decode_elements.ensures.values
    c.decode_elements.ensures.refused)
