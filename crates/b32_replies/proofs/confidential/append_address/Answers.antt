use Rattle.std.proofs.Common.{◌++◌, ◌∙◌, ℕ, List, ap, arith, codes, length, length-append, take}
use Rattle.line_program.proofs.Pieces.{two-pieces}
use Rattle.b32_replies.proofs.ConfidentialReplies.{address-size, put-front}
use Rattle.b32_replies.proofs.confidential.append_address.Goals as goal

pub put_address-size-requires-clause-room : goal.put_address-size-requires-clause-room
put_address-size-requires-clause-room c =
    address-size c.args.hrp.now c.args.version (length c.args.program.now) c.requires.short c.requires.lawful

pub append-requires-2 : goal.append-requires-2
append-requires-2 c =
    let (written, is, put) = c.put_address-size.ensures in
    omega (
      arith,
      put.fits,
      ap length (put-front written _ _ _ put),
      ap length c.append.ensures.items,
      length-append c.args.out.now.items (codes "ok "),
      c.append.ensures.capacity,
      c.requires.room,
      c.append.new.out.ok.0,
      c.args.out.now.ok.0,
    )

pub returns-clause-text : goal.returns-clause-text
returns-clause-text c =
    let (written, is, put) = c.put_address-size.ensures in
    let front = put-front written _ _ _ put in (
      written,
      is,
      two-pieces c.args.out.now.items (codes "ok ") written _ _ c.append.ensures.items (c.append-2.ensures.items ∙ ap (λ (t : List ℕ). c.append.new.out.items ++ t) front),
    )

pub returns-clause-room : goal.returns-clause-room
returns-clause-room c =
    let (written, is, put) = c.put_address-size.ensures in
    omega (
      arith,
      put.fits,
      ap length (put-front written _ _ _ put),
      ap length c.append.ensures.items,
      length-append c.args.out.now.items (codes "ok "),
      ap length c.append-2.ensures.items,
      length-append c.append.new.out.items (take c.put_address-size.result c.put_address-size.new.text),
      c.append.ensures.capacity,
      c.append-2.ensures.capacity,
      c.requires.room,
      c.append.new.out.ok.0,
      c.append-2.new.out.ok.0,
      c.args.out.now.ok.0,
    )
