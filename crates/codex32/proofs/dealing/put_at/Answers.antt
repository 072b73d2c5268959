use Rattle.std.proofs.Common.{◌*◌, ◌≤◌, length, arith}
use Rattle.codex32.proofs.TextAt.{before-from_put}
use Rattle.codex32.proofs.dealing.put_at.Goals as goal

pub returns-clause-before : goal.returns-clause-before
returns-clause-before c = λ i less.
    let n = length c.args.text.now in
    let room : c.args.j * n ≤ length c.args.texts.now = let room = c.requires in omega (arith, room) in
    before-from_put n c.args.texts.now _ c.args.j i room less
