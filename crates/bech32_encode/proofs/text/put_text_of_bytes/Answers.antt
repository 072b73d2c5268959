use Rattle.bech32_encode.proofs.text.put_text_of_bytes.Goals as goal

pub returns : goal.returns
returns g c = rw c.as_bytes.ensures at c.put_text_of_part.ensures
