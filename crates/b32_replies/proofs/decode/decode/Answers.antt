use Rattle.std.proofs.Common.{ℕ, List, ◌∷◌, ◌++◌, length, refl, ap, ◌∙◌, arith, inl, inr, codes}
use Rattle.bech32_hrp.specs.HrpBytes.{hrp_bytes}
use Rattle.bech32_hrp.specs.Hrp.{lowered}
use Rattle.b32_replies.specs.Hex.{hex_of}
use Rattle.b32_replies.proofs.Sizes.{decoded-sizes, parts-reply}
use Rattle.b32_replies.proofs.decode.decode.Goals as goal

pub append_decoded-requires : goal.append_decoded-requires
append_decoded-requires g c =
    let (part, size) = decoded-sizes c.args.text.now (hrp_bytes c.in-Ok.decoded.0) c.in-Ok.decoded.1.items c.in-Ok.ensures.value in
    omega (arith, part, size, ap length c.as_slice.ensures.value, c.requires)

pub returns-clause-answer : goal.returns-clause-answer
returns-clause-answer g c =
    let hrp = hrp_bytes c.in-Ok.decoded.0 in
    let bytes = c.in-Ok.decoded.1.items in
    let is = c.in-Ok.ensures.value in
    let (part, size) = decoded-sizes c.args.text.now hrp bytes is in
    record {
      said = codes "ok " ++ (lowered hrp ++ (32 ∷ hex_of bytes));
      says = inl (record { hrp = hrp; bytes = bytes; is_decoded = is; spelling = refl });
      size = omega (arith, parts-reply hrp bytes, part, size);
      added = c.append_decoded.ensures.items ∙ ap (λ (l : List ℕ). c.args.out.now.items ++ (codes "ok " ++ (lowered hrp ++ (32 ∷ hex_of l)))) c.as_slice.ensures.value;
    }

pub returns-in-Err-clause-answer : goal.returns-in-Err-clause-answer
returns-in-Err-clause-answer g c = (inr (record { error = c.in-Err.e; is_refusal = c.in-Err.ensures.refused; spelling = refl }), refl)
