use Rattle.std.proofs.Common.{ℕ, List, [], ◌∷◌, ◌++◌, length, refl, ap, ◌∙◌, arith, inl, inr, codes, length-append, append_assoc, subst}
use Rattle.std.proofs.lemmas.List.{length-map}
use Rattle.std.specs.Char.{to_ascii_lowercase}
use Rattle.std.specs.Fmt.{decimal}
use Rattle.bech32_hrp.specs.Hrp.{lowered}
use Rattle.bech32_hrp.specs.HrpBytes.{hrp_bytes}
use Rattle.b32_replies.specs.Hex.{AreBytes, hex_of}
use Rattle.line_program.proofs.Pieces.{four-pieces}
use Rattle.b32_replies.proofs.SegwitReplies.{address-sizes, segwit-decode-size}
use Rattle.b32_replies.proofs.segwit_decode.segwit_decode.Goals as goal

pub append_part-requires : goal.append_part-requires
append_part-requires g c =
    let (part, size) = address-sizes c.args.text.now (hrp_bytes c.in-Ok.decoded.0) c.in-Ok.decoded.1 c.in-Ok.decoded.2.items c.in-Ok.ensures.value.1 in
    omega (arith, part, c.requires)

pub append_hex-requires : goal.append_hex-requires
append_hex-requires g c =
    let hrp = hrp_bytes c.in-Ok.decoded.0 in
    let (part, size) = address-sizes c.args.text.now hrp c.in-Ok.decoded.1 c.in-Ok.decoded.2.items c.in-Ok.ensures.value.1 in
    omega (
      arith,
      part,
      size,
      ap length c.as_slice.ensures.value,
      ap length c.append_part.ensures.items,
      length-append c.args.out.now.items (codes "ok " ++ (lowered hrp ++ 32 ∷ [])),
      length-append (lowered hrp) (32 ∷ []),
      length-map hrp to_ascii_lowercase,
      c.append_number.ensures.size,
      ap length c.append.ensures.items,
      length-append c.append_number.new.out.items (32 ∷ []),
      c.append_part.ensures.capacity,
      c.append_number.ensures.capacity,
      c.append.ensures.capacity,
      c.requires,
      c.append_part.new.out.ok.0,
      c.append_number.new.out.ok.0,
      c.append.new.out.ok.0,
      c.args.out.now.ok.0,
    )

pub returns-clause-answer : goal.returns-clause-answer
returns-clause-answer g c =
    let hrp = hrp_bytes c.in-Ok.decoded.0 in
    let version = c.in-Ok.decoded.1 in
    let program = c.in-Ok.decoded.2.items in
    let is = c.in-Ok.ensures.value in
    let out = c.args.out.now.items in
    let behind = decimal version.value ++ (32 ∷ hex_of program) in
    let number_is = c.append_number.ensures.items ∙ ap (λ (n : ℕ). c.append_part.new.out.items ++ decimal n) c.to_u8.ensures in
    let last_is = c.append_hex.ensures.items ∙ ap (λ (t : List ℕ). c.append.new.out.items ++ hex_of t) c.as_slice.ensures.value in
    record {
      said = codes "ok " ++ (lowered hrp ++ (32 ∷ behind));
      says = inl (record { hrp = hrp; version = version; program = program; is_hrp = is.0; are_bytes = subst AreBytes c.as_slice.ensures.value c.append_hex.ensures.bytes; is_address = is.1; spelling = refl });
      size = segwit-decode-size c.args.text.now hrp version program is.1;
      added = four-pieces out (codes "ok " ++ (lowered hrp ++ 32 ∷ [])) (decimal version.value) (32 ∷ []) (hex_of program) _ _ _ _ c.append_part.ensures.items number_is
          c.append.ensures.items last_is
          ∙ ap (λ (t : List ℕ). out ++ (codes "ok " ++ t)) (append_assoc (lowered hrp) (32 ∷ []) behind);
    }

pub returns-in-Err-clause-answer : goal.returns-in-Err-clause-answer
returns-in-Err-clause-answer g c = (inr (record { error = c.in-Err.e; is_refusal = c.in-Err.ensures.refused; spelling = refl }), refl)
