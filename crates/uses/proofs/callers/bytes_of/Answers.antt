use Rattle.std.proofs.Common.{◌≡◌, ◌∙◌, length}
use Rattle.codex32.specs.Share.{bytes_of_share}
use Rattle.uses.proofs.Recovered.{taken_front}
use Rattle.uses.proofs.callers.bytes_of.Goals as goal

pub returns : goal.returns
returns c =
    let count : c.in-Ok-vec.bytes.len ≡ length (bytes_of_share c.in-Ok.share) = c.in-Ok-vec.ensures.len ∙ c.in-Ok-byte_count.ensures.0 in
    (c.in-Ok.share, c.in-Ok.ensures.parts, taken_front c.in-Ok-vec.bytes.len (bytes_of_share c.in-Ok.share) _ _ c.put_bytes.new.buffer count c.put_bytes.ensures.buffer)
