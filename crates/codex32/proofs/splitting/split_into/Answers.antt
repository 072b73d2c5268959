use Rattle.std.proofs.Common.{◌≡◌, ◌*◌, ◌++◌, ℕ, List, length, take, drop, subst, sym}
use Rattle.std.proofs.lemmas.List.{take_at}
use Rattle.bech32_bits.proofs.RoundTrip.{bytes-below}
use Rattle.codex32.specs.Split.{IsSplit, Recovers, text_size}
use Rattle.codex32.proofs.SplitMade.{recovers-from_split}
use Rattle.codex32.proofs.SplitRefusals.{can-split}
use Rattle.codex32.proofs.splitting.split_into.Goals as goal

pub returns-clause-recovers : goal.returns-clause-recovers
returns-clause-recovers c =
    let secret = c.args.secret.now in
    let random = c.args.random.now in
    let n : ℕ = c.in_ok-size.size in
    let new = c.put_split.new.texts in
    let n_is : n ≡ text_size (length secret) = c.in_ok-size.ensures.1 in
    let can = can-split c.args.threshold (length secret) c.args.count random (length c.args.buffer.now) c.in_ok-size.ensures.0 in
    let split : IsSplit c.args.threshold c.args.identifier secret random c.args.count n new = subst (λ (k : ℕ). IsSplit c.args.threshold c.args.identifier secret random c.args.count k new) (sym n_is) c.put_split.ensures in
    let same : take (c.args.count * n) (new ++ drop (c.args.count * n) c.args.buffer.now) ≡ new = take_at new (drop (c.args.count * n) c.args.buffer.now) (c.args.count * n) split.size in
    subst (λ (u : List ℕ). Recovers c.args.threshold c.args.identifier secret c.args.count n u) (sym same)
    (recovers-from_split c.args.threshold c.args.identifier secret random c.args.count n (length c.args.buffer.now) new can (bytes-below secret c.type_inv.secret) split)
