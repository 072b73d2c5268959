use Rattle.std.proofs.Common.{ℕ, List, [], ◌∷◌, ◌++◌, length, ap, ◌∙◌, arith, codes, append_assoc, length-append}
use Rattle.std.proofs.lemmas.List.{length-map}
use Rattle.std.specs.Char.{to_ascii_lowercase}
use Rattle.bech32_hrp.specs.Hrp.{lowered}
use Rattle.bech32_hrp.specs.HrpBytes.{hrp_bytes}
use Rattle.b32_replies.specs.Hex.{hex_of}
use Rattle.line_program.proofs.Pieces.{two-pieces}
use Rattle.b32_replies.proofs.append.append_decoded.Goals as goal

pub append_hex-requires : goal.append_hex-requires
append_hex-requires c =
    let hrp = hrp_bytes c.args.hrp.now in
    omega (
      arith,
      ap length c.append_part.ensures.items,
      length-append c.args.out.now.items (codes "ok " ++ (lowered hrp ++ 32 ∷ [])),
      length-append (lowered hrp) (32 ∷ []),
      length-map hrp to_ascii_lowercase,
      c.append_part.ensures.capacity,
      c.requires,
      c.append_part.new.out.ok.0,
      c.args.out.now.ok.0,
    )

pub returns-clause-items : goal.returns-clause-items
returns-clause-items c =
    let out = c.args.out.now.items in
    let hrp = hrp_bytes c.args.hrp.now in
    let word = hex_of c.args.bytes.now in
    two-pieces out (codes "ok " ++ (lowered hrp ++ 32 ∷ [])) word _ _ c.append_part.ensures.items c.append_hex.ensures.items
    ∙ ap (λ (t : List ℕ). out ++ (codes "ok " ++ t)) (append_assoc (lowered hrp) (32 ∷ []) word)
