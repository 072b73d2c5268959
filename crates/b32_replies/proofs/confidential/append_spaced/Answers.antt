use Rattle.std.proofs.Common.{[], ◌∷◌, ap, arith, length, length-append}
use Rattle.b32_replies.specs.Hex.{hex_of}
use Rattle.line_program.proofs.Pieces.{two-pieces}
use Rattle.b32_replies.proofs.Sizes.{length-hex_of}
use Rattle.b32_replies.proofs.confidential.append_spaced.Goals as goal

pub append_hex-requires : goal.append_hex-requires
append_hex-requires c =
    omega (
      arith,
      ap length c.append.ensures.items,
      length-append c.args.out.now.items (32 ∷ []),
      c.append.ensures.capacity,
      c.requires,
      c.append.new.out.ok.0,
      c.args.out.now.ok.0,
    )

pub returns-clause-items : goal.returns-clause-items
returns-clause-items c = two-pieces c.args.out.now.items (32 ∷ []) (hex_of c.args.bytes.now) _ _ c.append.ensures.items c.append_hex.ensures.items

pub returns-clause-size : goal.returns-clause-size
returns-clause-size c =
    omega (
      arith,
      ap length c.append.ensures.items,
      length-append c.args.out.now.items (32 ∷ []),
      ap length c.append_hex.ensures.items,
      length-append c.append.new.out.items (hex_of c.args.bytes.now),
      length-hex_of c.args.bytes.now,
      c.append.new.out.ok.0,
      c.append_hex.new.out.ok.0,
      c.args.out.now.ok.0,
    )
