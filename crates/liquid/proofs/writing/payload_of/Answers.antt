use Rattle.std.proofs.Common.{◌≡◌, length, rules}
use Rattle.liquid.proofs.Written.{payload_put}
use Rattle.liquid.proofs.writing.payload_of.Goals as goal

pub returns-clause-bytes : goal.returns-clause-bytes
returns-clause-bytes c =
    let size : length c.args.blinding_key.now ≡ 33 = search rules in
    rw (c.copy_from_slice.ensures.after, c.copy_from_slice-2.ensures.after) (payload_put c.args.blinding_key.now c.args.program.now _ _ size)
