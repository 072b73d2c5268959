use Rattle.bech32_encode.proofs.buffer.put_front.Goals as goal

pub returns : goal.returns
returns c = rw c.as_bytes.ensures at c.put_front_of.ensures
