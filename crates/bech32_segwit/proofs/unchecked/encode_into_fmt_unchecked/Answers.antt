use Rattle.std.proofs.Common.{◌∙◌}
use Rattle.std.proofs.Output.{writes_in_calls_single}
use Rattle.std.proofs.lemmas.Result.{on_ok_weaker}
use Rattle.std.proofs.lemmas.Str.{IsUtf8-from_ascii}
use Rattle.bech32_hrp.specs.HrpBytes.{hrp_bytes}
use Rattle.bech32_hrp.proofs.HrpParts.{hrp_bytes-ascii}
use Rattle.bech32_segwit.proofs.Fronts.{IsAscii-front}
use Rattle.bech32_segwit.proofs.unchecked.encode_into_fmt_unchecked.Goals as goal

pub from_utf8_unchecked-front-requires : goal.from_utf8_unchecked-front-requires
from_utf8_unchecked-front-requires g c =
    IsUtf8-from_ascii _ (IsAscii-front c.args.upper (hrp_bytes c.args.hrp) c.args.witness_version c.args.witness_program.now _ (hrp_bytes-ascii c.args.hrp) c.put_front-count.ensures.front)

pub returns-clause-ok : goal.returns-clause-ok
returns-clause-ok g c =
    let (text, is, e) = c.put_front-count.ensures.front in
    on_ok_weaker c.write_str.result (λ taken. (c.from_utf8_unchecked-front.result.now, (text, is, c.from_utf8_unchecked-front.ensures ∙ e), writes_in_calls_single g.S.FmtSink.takes _ _ _ taken)) c.write_str.ensures.piece
