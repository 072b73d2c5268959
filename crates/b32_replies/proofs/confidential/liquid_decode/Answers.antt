use Rattle.std.proofs.Common.{ℕ, ◌≤◌, List, [], ◌∷◌, ◌++◌, ◌∙◌, ap, append_assoc, arith, codes, inl, inr, length, refl, subst}
use Rattle.std.specs.Fmt.{decimal}
use Rattle.bech32_gf.specs.declared.gf32.Fe32.{Fe32}
use Rattle.bech32_hrp.specs.Hrp.{lowered}
use Rattle.bech32_hrp.specs.HrpBytes.{hrp_bytes}
use Rattle.bech32_hrp.specs.declared.Hrp.{Hrp}
use Rattle.liquid.specs.Parts.{confidential_key, confidential_part, confidential_program, confidential_version}
use Rattle.line_program.proofs.Pieces.{four-pieces}
use Rattle.b32_replies.specs.Hex.{AreBytes, hex_of}
use Rattle.b32_replies.proofs.ConfidentialReplies.{behind_part}
use Rattle.b32_replies.proofs.confidential.liquid_decode.Goals as goal

pub returns-in-Err-clause-answer : goal.returns-in-Err-clause-answer
returns-in-Err-clause-answer c = (inr (record { error = c.in-Err.e; is_refusal = c.in-Err.ensures.refused; spelling = refl }), refl)

pub append_part-requires : goal.append_part-requires
append_part-requires c =
    let few : length (hrp_bytes c.hrp-hrp.result) ≤ 83 = rw c.hrp-hrp.ensures c.in-Ok.ensures.value.is_hrp.not_long in
    omega (arith, few, c.requires)

-- what stands behind the human-readable part
pub append_number-requires-clause-room : goal.append_number-requires-clause-room
append_number-requires-clause-room c =
    let few : length (hrp_bytes c.hrp-hrp.result) ≤ 83 = rw c.hrp-hrp.ensures c.in-Ok.ensures.value.is_hrp.not_long in
    omega (
      arith,
      few,
      behind_part c.args.out.now.items (hrp_bytes c.hrp-hrp.result) c.append_part.new.out.items c.append_part.ensures.items,
      c.append_part.ensures.capacity,
      c.append_part.new.out.ok.0,
      c.args.out.now.ok.0,
      c.requires,
    )

pub append_spaced-requires : goal.append_spaced-requires
append_spaced-requires c =
    let few : length (hrp_bytes c.hrp-hrp.result) ≤ 83 = rw c.hrp-hrp.ensures c.in-Ok.ensures.value.is_hrp.not_long in
    omega (
      arith,
      few,
      behind_part c.args.out.now.items (hrp_bytes c.hrp-hrp.result) c.append_part.new.out.items c.append_part.ensures.items,
      c.append_part.ensures.capacity,
      c.append_part.new.out.ok.0,
      c.args.out.now.ok.0,
      c.append_number.ensures.size,
      c.append_number.ensures.capacity,
      c.blinding_key.ensures.size,
      c.requires,
    )

pub append_spaced-requires-2 : goal.append_spaced-requires-2
append_spaced-requires-2 c =
    let few : length (hrp_bytes c.hrp-hrp.result) ≤ 83 = rw c.hrp-hrp.ensures c.in-Ok.ensures.value.is_hrp.not_long in
    omega (
      arith,
      few,
      behind_part c.args.out.now.items (hrp_bytes c.hrp-hrp.result) c.append_part.new.out.items c.append_part.ensures.items,
      c.append_part.ensures.capacity,
      c.append_part.new.out.ok.0,
      c.args.out.now.ok.0,
      c.append_number.ensures.size,
      c.append_number.ensures.capacity,
      c.append_spaced.ensures.size,
      c.append_spaced.ensures.capacity,
      c.blinding_key.ensures.size,
      ap length c.program.ensures,
      c.in-Ok.ensures.value.is_address.address.program_length.not_long,
      c.requires,
    )

pub returns-clause-answer : goal.returns-clause-answer
returns-clause-answer c =
    let a = c.in-Ok.address in
    let out = c.args.out.now.items in
    let hrp = confidential_part a in
    let version = confidential_version a in
    let key = confidential_key a in
    let program = confidential_program a in
    let part_is = c.append_part.ensures.items ∙ ap (λ (h : Hrp). out ++ (codes "ok " ++ (lowered (hrp_bytes h) ++ 32 ∷ []))) c.hrp-hrp.ensures in
    let number_is = c.append_number.ensures.items ∙ ap (λ (n : ℕ). c.append_part.new.out.items ++ decimal n) (c.to_u8.ensures ∙ ap (λ (v : Fe32). v.value) c.witness_version.ensures) in
    let key_is = c.append_spaced.ensures.items ∙ ap (λ (t : List ℕ). c.append_number.new.out.items ++ (32 ∷ hex_of t)) c.blinding_key.ensures.value in
    let last_is = c.append_spaced-2.ensures.items ∙ ap (λ (t : List ℕ). c.append_spaced.new.out.items ++ (32 ∷ hex_of t)) c.program.ensures in
    let behind = decimal version.value ++ ((32 ∷ hex_of key) ++ (32 ∷ hex_of program)) in (
      codes "ok " ++ (lowered hrp ++ (32 ∷ behind)),
      inl (record {
        hrp = hrp;
        version = version;
        key = key;
        program = program;
        decoded = c.in-Ok.ensures.value;
        are_bytes = (subst AreBytes c.blinding_key.ensures.value c.append_spaced.ensures.bytes, subst AreBytes c.program.ensures c.append_spaced-2.ensures.bytes);
        spelling = refl;
      }),
      four-pieces out (codes "ok " ++ (lowered hrp ++ 32 ∷ [])) (decimal version.value) (32 ∷ hex_of key) (32 ∷ hex_of program) _ _ _ _ part_is number_is key_is last_is
          ∙ ap (λ (t : List ℕ). out ++ (codes "ok " ++ t)) (append_assoc (lowered hrp) (32 ∷ []) behind),
    )

pub returns-clause-room : goal.returns-clause-room
returns-clause-room c =
    let few : length (hrp_bytes c.hrp-hrp.result) ≤ 83 = rw c.hrp-hrp.ensures c.in-Ok.ensures.value.is_hrp.not_long in
    omega (
      arith,
      few,
      behind_part c.args.out.now.items (hrp_bytes c.hrp-hrp.result) c.append_part.new.out.items c.append_part.ensures.items,
      c.append_part.ensures.capacity,
      c.append_part.new.out.ok.0,
      c.args.out.now.ok.0,
      c.append_number.ensures.size,
      c.append_number.ensures.capacity,
      c.append_spaced.ensures.size,
      c.append_spaced.ensures.capacity,
      c.append_spaced-2.ensures.size,
      c.append_spaced-2.ensures.capacity,
      c.blinding_key.ensures.size,
      ap length c.program.ensures,
      c.in-Ok.ensures.value.is_address.address.program_length.not_long,
      c.requires,
    )
