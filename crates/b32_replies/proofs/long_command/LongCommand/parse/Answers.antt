use Rattle.std.proofs.Common.{◌≡◌, ◌∷◌, ◌∙◌, ap, codes}
use Rattle.line_program.specs.Words.{words}
use Rattle.b32_replies.specs.LongRequest.{LiquidDecode, LiquidEncode, LongDecode, LongEncode, long_asks, long_request_of_words}
use Rattle.b32_replies.specs.declared.long_command.Kind.TheVariants.{Bytes, Elements}
use Rattle.b32_replies.proofs.Counted.{one-none, one-some}
use Rattle.b32_replies.proofs.LongSplit.{long-no-word, long-other-name}
use Rattle.b32_replies.proofs.long_command.LongCommand.parse.Goals as goal

pub returns-in_err-name : goal.returns-in_err-name
returns-in_err-name c = rw c.from_residual.ensures (long-no-word _ c.in_err-name.ensures)

pub returns-in_err-named_words-in-encode : goal.returns-in_err-named_words-in-encode
returns-in_err-named_words-in-encode c =
    let spelled : words c.args.line.now ≡ codes "encode" ∷ words c.in_ok-name.behind.now = cc (c.in_ok-name.ensures.0, c.in-encode.is) in
    rw c.from_residual-in_err-named_words-in-encode.ensures (ap long_request_of_words spelled ∙ ap (long_asks (λ a. LongEncode Bytes a.0 a.1.0 a.1.1)) c.in_err-named_words-in-encode.ensures)

pub returns-in_ok-named_words-in-encode : goal.returns-in_ok-named_words-in-encode
returns-in_ok-named_words-in-encode c =
    let spelled : words c.args.line.now ≡ codes "encode" ∷ words c.in_ok-name.behind.now = cc (c.in_ok-name.ensures.0, c.in-encode.is) in
    ap long_request_of_words spelled ∙ ap (long_asks (λ a. LongEncode Bytes a.0 a.1.0 a.1.1)) c.in_ok-named_words-in-encode.ensures

pub returns-in_err-named_words-in-text : goal.returns-in_err-named_words-in-text
returns-in_err-named_words-in-text c =
    let spelled : words c.args.line.now ≡ codes "encode-elements" ∷ words c.in_ok-name.behind.now = cc (c.in_ok-name.ensures.0, c.in-text.is) in
    rw c.from_residual-in_err-named_words-in-text.ensures (ap long_request_of_words spelled ∙ ap (long_asks (λ a. LongEncode Elements a.0 a.1.0 a.1.1)) c.in_err-named_words-in-text.ensures)

pub returns-in_ok-named_words-in-text : goal.returns-in_ok-named_words-in-text
returns-in_ok-named_words-in-text c =
    let spelled : words c.args.line.now ≡ codes "encode-elements" ∷ words c.in_ok-name.behind.now = cc (c.in_ok-name.ensures.0, c.in-text.is) in
    ap long_request_of_words spelled ∙ ap (long_asks (λ a. LongEncode Elements a.0 a.1.0 a.1.1)) c.in_ok-named_words-in-text.ensures

pub returns-in_err-named_word-in-text-2 : goal.returns-in_err-named_word-in-text-2
returns-in_err-named_word-in-text-2 c =
    let spelled : words c.args.line.now ≡ codes "decode-strict" ∷ words c.in_ok-name.behind.now = cc (c.in_ok-name.ensures.0, c.in-text-2.is) in
    rw c.from_residual-in_err-named_word-in-text-2.ensures (ap long_request_of_words spelled ∙ ap (long_asks (λ a. LongDecode Bytes a.0 a.1)) c.in_err-named_word-in-text-2.ensures)

pub returns-in_ok-named_word-in-text-2 : goal.returns-in_ok-named_word-in-text-2
returns-in_ok-named_word-in-text-2 c =
    let spelled : words c.args.line.now ≡ codes "decode-strict" ∷ words c.in_ok-name.behind.now = cc (c.in_ok-name.ensures.0, c.in-text-2.is) in
    ap long_request_of_words spelled ∙ ap (long_asks (λ a. LongDecode Bytes a.0 a.1)) c.in_ok-named_word-in-text-2.ensures

pub returns-in_err-named_word-in-text-3 : goal.returns-in_err-named_word-in-text-3
returns-in_err-named_word-in-text-3 c =
    let spelled : words c.args.line.now ≡ codes "decode-elements" ∷ words c.in_ok-name.behind.now = cc (c.in_ok-name.ensures.0, c.in-text-3.is) in
    rw c.from_residual-in_err-named_word-in-text-3.ensures (ap long_request_of_words spelled ∙ ap (long_asks (λ a. LongDecode Elements a.0 a.1)) c.in_err-named_word-in-text-3.ensures)

pub returns-in_ok-named_word-in-text-3 : goal.returns-in_ok-named_word-in-text-3
returns-in_ok-named_word-in-text-3 c =
    let spelled : words c.args.line.now ≡ codes "decode-elements" ∷ words c.in_ok-name.behind.now = cc (c.in_ok-name.ensures.0, c.in-text-3.is) in
    ap long_request_of_words spelled ∙ ap (long_asks (λ a. LongDecode Elements a.0 a.1)) c.in_ok-named_word-in-text-3.ensures

pub returns-in_err-four_words-in-text-4 : goal.returns-in_err-four_words-in-text-4
returns-in_err-four_words-in-text-4 c =
    let spelled : words c.args.line.now ≡ codes "liquid-encode" ∷ words c.in_ok-name.behind.now = cc (c.in_ok-name.ensures.0, c.in-text-4.is) in
    rw c.from_residual-in_err-four_words-in-text-4.ensures (ap long_request_of_words spelled ∙ ap (long_asks (λ a. LiquidEncode a.0 a.1.0 a.1.1.0 a.1.1.1)) c.in_err-four_words-in-text-4.ensures)

pub returns-in_ok-four_words-in-text-4 : goal.returns-in_ok-four_words-in-text-4
returns-in_ok-four_words-in-text-4 c =
    let spelled : words c.args.line.now ≡ codes "liquid-encode" ∷ words c.in_ok-name.behind.now = cc (c.in_ok-name.ensures.0, c.in-text-4.is) in
    ap long_request_of_words spelled ∙ ap (long_asks (λ a. LiquidEncode a.0 a.1.0 a.1.1.0 a.1.1.1)) c.in_ok-four_words-in-text-4.ensures

pub returns-in_err-only_word-in-text-5 : goal.returns-in_err-only_word-in-text-5
returns-in_err-only_word-in-text-5 c =
    let spelled : words c.args.line.now ≡ codes "liquid-decode" ∷ words c.in_ok-name.behind.now = cc (c.in_ok-name.ensures.0, c.in-text-5.is) in
    rw c.from_residual-in_err-only_word-in-text-5.ensures (ap long_request_of_words spelled ∙ ap (long_asks LiquidDecode) (one-none _ c.in_err-only_word-in-text-5.ensures))

pub returns-in_ok-only_word-in-text-5 : goal.returns-in_ok-only_word-in-text-5
returns-in_ok-only_word-in-text-5 c =
    let spelled : words c.args.line.now ≡ codes "liquid-decode" ∷ words c.in_ok-name.behind.now = cc (c.in_ok-name.ensures.0, c.in-text-5.is) in
    ap long_request_of_words spelled ∙ ap (long_asks LiquidDecode) (one-some _ _ c.in_ok-only_word-in-text-5.ensures.0 c.in_ok-only_word-in-text-5.ensures.1)

pub returns-in_default : goal.returns-in_default
returns-in_default c =
    ap long_request_of_words c.in_ok-name.ensures.0
    ∙ long-other-name c.in_ok-name.name.now (words c.in_ok-name.behind.now) c.in_default.not-encode c.in_default.not-text c.in_default.not-text-2 c.in_default.not-text-3 c.in_default.not-text-4 c.in_default.not-text-5
