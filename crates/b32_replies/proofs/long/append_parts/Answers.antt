use Rattle.std.proofs.Common.{ℕ, ap, ◌∙◌, arith, codes, length, length-append, List, ◌∷◌, ◌++◌, [], append_assoc}
use Rattle.std.proofs.lemmas.List.{length-map}
use Rattle.std.specs.Char.{to_ascii_lowercase}
use Rattle.bech32_hrp.specs.Hrp.{lowered}
use Rattle.bech32_hrp.specs.HrpBytes.{hrp_bytes}
use Rattle.b32_replies.specs.Hex.{hex_of}
use Rattle.line_program.proofs.Pieces.{two-pieces}
use Rattle.b32_replies.proofs.Sizes.{length-hex_of}
use Rattle.b32_replies.proofs.long.append_parts.Goals as goal

pub returns-clause-items : goal.returns-clause-items
returns-clause-items c =
    let part = lowered (hrp_bytes c.args.hrp.now) in
    let word = hex_of c.args.bytes.now in
    two-pieces c.reserve.new.self.items (codes "ok " ++ (part ++ 32 ∷ [])) word _ _ c.append_part.ensures.items c.append_hex.ensures.items
    ∙ ap (λ (t : List ℕ). c.reserve.new.self.items ++ (codes "ok " ++ t)) (append_assoc part (32 ∷ []) word)
    ∙ ap (λ (l : List ℕ). l ++ (codes "ok " ++ (part ++ (32 ∷ word)))) c.reserve.ensures.items

pub returns-clause-room : goal.returns-clause-room
returns-clause-room c =
    let hrp = hrp_bytes c.args.hrp.now in
    let part = lowered hrp in
    omega (
      arith,
      c.in-Some.ensures,
      c.in-Some-checked_add.ensures,
      ap length c.as_bytes.ensures,
      c.in_ok-reserve.ensures.ok,
      ap length c.append_part.ensures.items,
      length-append c.reserve.new.self.items (codes "ok " ++ (part ++ 32 ∷ [])),
      length-append part (32 ∷ []),
      length-map hrp to_ascii_lowercase,
      ap length c.append_hex.ensures.items,
      length-append c.append_part.new.out.items (hex_of c.args.bytes.now),
      length-hex_of c.args.bytes.now,
      c.append_part.ensures.capacity,
      c.append_hex.ensures.capacity,
      c.reserve.new.self.ok.0,
      c.append_part.new.out.ok.0,
      c.append_hex.new.out.ok.0,
    )
