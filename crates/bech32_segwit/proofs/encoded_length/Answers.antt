use Rattle.bech32_segwit.proofs.encoded_length.Goals as goal

pub returns : goal.returns
returns c = rw c.as_bytes.ensures at c.encoded_length_of_part.ensures
