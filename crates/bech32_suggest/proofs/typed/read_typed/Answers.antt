use Rattle.std.specs.Str.{IsUtf8}
use Rattle.std.proofs.Common.{sym, subst}
use Rattle.bech32_suggest.proofs.Reading.{utf8_read}
use Rattle.bech32_suggest.proofs.typed.read_typed.Goals as goal

pub from_utf8_unchecked-text-requires : goal.from_utf8_unchecked-text-requires
from_utf8_unchecked-text-requires c =
    let front = rw c.as_bytes.ensures.value at c.put_read.ensures.front in
    subst IsUtf8 (sym front) (utf8_read c.args.typed.now c.utf8.typed)
