use Rattle.std.proofs.Common.{◌∙◌, ◌∷◌, Bool, cond, ap, arith, sym, subst, string_bytes, IfOk}
use Rattle.bech32_bits.specs.Bits.{to_fes}
use Rattle.bech32_bits.proofs.RoundTrip.{length-to_fes}
use Rattle.bech32_checksum.specs.Code.{Code, bech32, bech32m}
use Rattle.bech32_hrp.specs.HrpBytes.{hrp_bytes}
use Rattle.bech32_checksum.specs.Encoded.{IsEncodedText}
use Rattle.bech32_segwit.proofs.text_of_version_in.Goals as goal

pub returns-then-eq : goal.returns-then-eq
returns-then-eq g c =
    subst (λ (k : Code). IfOk c.encode_text.result (λ s. IsEncodedText k (hrp_bytes c.args.hrp) (c.args.version ∷ to_fes c.args.program.now) (string_bytes s)))
    (sym (ap (λ (b : Bool). cond b bech32 bech32m) (sym c.eq.ensures ∙ c.if-eq.true))) c.encode_text.ensures

pub returns-else-eq : goal.returns-else-eq
returns-else-eq g c =
    subst (λ (k : Code). IfOk c.encode_text-else-eq.result (λ s. IsEncodedText k (hrp_bytes c.args.hrp) (c.args.version ∷ to_fes c.args.program.now) (string_bytes s)))
    (sym (ap (λ (b : Bool). cond b bech32 bech32m) (sym c.eq.ensures ∙ c.if-eq.false))) c.encode_text-else-eq.ensures

pub encode_text-requires : goal.encode_text-requires
encode_text-requires g c =
    let elements = length-to_fes c.args.program.now in
    let size = c.requires.0 in
    let few = c.requires.1 in
    omega arith

pub encode_text-requires-else-eq : goal.encode_text-requires-else-eq
encode_text-requires-else-eq g c =
    let elements = length-to_fes c.args.program.now in
    let size = c.requires.0 in
    let few = c.requires.1 in
    omega arith
