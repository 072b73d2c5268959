use Rattle.bech32.proofs.encoded_length.Goals as goal

pub returns : goal.returns
returns g c = rw c.as_bytes.ensures at c.encoded_length_of_part.ensures
