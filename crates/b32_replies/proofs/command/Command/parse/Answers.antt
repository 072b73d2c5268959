use Rattle.std.proofs.Common.{◌≡◌, ◌∷◌, sym, codes}
use Rattle.line_program.specs.Words.{words}
use Rattle.b32_replies.proofs.Split.{encode-no-checksum, encode-no-hex, decode-no-text}
use Rattle.b32_replies.proofs.SegwitSplit.{segwit-encode-no-hex, segwit-encode-no-version, segwit-decode-no-text}
use Rattle.b32_replies.proofs.command.Command.parse.Goals as goal

pub returns-in_err-checksum_named-in-encode : goal.returns-in_err-checksum_named-in-encode
returns-in_err-checksum_named-in-encode c =
    let spelled : words c.args.line.now ≡ codes "encode" ∷ c.in_ok-checksum-in-encode.checksum.now ∷ c.in_ok-hrp-in-encode.hrp.now ∷ words c.in_ok-hrp-in-encode.hex.now =
    cc (c.in_ok-name.ensures.0, c.in-encode.is, c.in_ok-checksum-in-encode.ensures.0, c.in_ok-hrp-in-encode.ensures.0) in
    rw c.from_residual-in_err-checksum_named-in-encode.ensures (encode-no-checksum c.args.line.now _ _ _ spelled (sym c.in_err-checksum_named-in-encode.ensures))

pub returns-in_err-only_word-in-encode : goal.returns-in_err-only_word-in-encode
returns-in_err-only_word-in-encode c =
    let spelled : words c.args.line.now ≡ codes "encode" ∷ c.in_ok-checksum-in-encode.checksum.now ∷ c.in_ok-hrp-in-encode.hrp.now ∷ words c.in_ok-hrp-in-encode.hex.now =
    cc (c.in_ok-name.ensures.0, c.in-encode.is, c.in_ok-checksum-in-encode.ensures.0, c.in_ok-hrp-in-encode.ensures.0) in
    rw c.from_residual-in_err-only_word-in-encode.ensures (encode-no-hex c.args.line.now _ _ _ spelled c.in_err-only_word-in-encode.ensures)

pub returns-in_err-only_word-in-decode : goal.returns-in_err-only_word-in-decode
returns-in_err-only_word-in-decode c =
    let spelled : words c.args.line.now ≡ codes "decode" ∷ words c.in_ok-name.arguments.now = cc (c.in_ok-name.ensures.0, c.in-decode.is) in
    rw c.from_residual-in_err-only_word-in-decode.ensures (decode-no-text c.args.line.now _ spelled c.in_err-only_word-in-decode.ensures)

pub returns-in_err-hrp-in-text : goal.returns-in_err-hrp-in-text
returns-in_err-hrp-in-text c =
    let spelled : words c.args.line.now ≡ codes "segwit-encode" ∷ words c.in_ok-name.arguments.now = cc (c.in_ok-name.ensures.0, c.in-text.is) in
    rw c.from_residual-in_err-hrp-in-text.ensures (segwit-encode-no-version c.args.line.now _ spelled c.in_err-hrp-in-text.ensures)

pub returns-in_err-only_word-in-text : goal.returns-in_err-only_word-in-text
returns-in_err-only_word-in-text c =
    let spelled : words c.args.line.now ≡ codes "segwit-encode" ∷ c.in_ok-hrp-in-text.hrp.now ∷ c.in_ok-version-in-text.version.now ∷ words c.in_ok-version-in-text.hex.now =
    cc (c.in_ok-name.ensures.0, c.in-text.is, c.in_ok-hrp-in-text.ensures.0, c.in_ok-version-in-text.ensures.0) in
    rw c.from_residual-in_err-only_word-in-text.ensures (segwit-encode-no-hex c.args.line.now _ _ _ spelled c.in_err-only_word-in-text.ensures)

pub returns-in_err-only_word-in-text-2 : goal.returns-in_err-only_word-in-text-2
returns-in_err-only_word-in-text-2 c =
    let spelled : words c.args.line.now ≡ codes "segwit-decode" ∷ words c.in_ok-name.arguments.now = cc (c.in_ok-name.ensures.0, c.in-text-2.is) in
    rw c.from_residual-in_err-only_word-in-text-2.ensures (segwit-decode-no-text c.args.line.now _ spelled c.in_err-only_word-in-text-2.ensures)
