use Rattle.std.proofs.Common.{refl}
use Rattle.bech32_encode.specs.Cased.{in_case}
use Rattle.bech32_encode.proofs.TextsLeft.{put_front, put_within, fits_in_case}
use Rattle.bech32_encode.proofs.text.put_front_of_text.Goals as goal

pub raise_front-requires : goal.raise_front-requires
raise_front-requires g c =
    let (text, is, put) = c.put_text_of_bytes-count.ensures in
    put_within _ _ _ _ (put_front text c.args.buffer.now c.put_text_of_bytes-count.new.buffer c.put_text_of_bytes-count.result put)

pub returns : goal.returns
returns g c =
    let (text, is, put) = c.put_text_of_bytes-count.ensures in (
      in_case c.args.upper text,
      (text, is, refl),
      fits_in_case c.args.upper text c.args.buffer.now c.put_text_of_bytes-count.new.buffer c.raise_front.new.buffer c.put_text_of_bytes-count.result put c.raise_front.ensures,
    )
