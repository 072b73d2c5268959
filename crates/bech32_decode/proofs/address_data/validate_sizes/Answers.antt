use Rattle.std.proofs.Common.{refl}
use Rattle.bech32_decode.proofs.Addresses.{elements_some, some_of}
use Rattle.bech32_decode.proofs.address_data.validate_sizes.Goals as goal

pub returns-then-text_length-gt-MAX_STRING_LENGTH : goal.returns-then-text_length-gt-MAX_STRING_LENGTH
returns-then-text_length-gt-MAX_STRING_LENGTH c =
    let characters = c.args.characters.now in
    (elements_some characters (some_of characters c.is_empty.result c.is_empty.ensures c.if-is_empty.false), c.if-text_length-gt-MAX_STRING_LENGTH.true, refl)

pub returns : goal.returns
returns c = (c.if-text_length-gt-MAX_STRING_LENGTH.false, some_of c.args.characters.now c.is_empty.result c.is_empty.ensures c.if-is_empty.false)
