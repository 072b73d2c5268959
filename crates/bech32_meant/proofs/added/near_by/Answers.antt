use Rattle.bech32_meant.proofs.added.near_by.Goals as goal

pub returns-then-is_bech32m : goal.returns-then-is_bech32m
returns-then-is_bech32m g c = rw c.if-is_bech32m.true c.in_ok-near.ensures.0

pub returns : goal.returns
returns g c = rw c.if-is_bech32m.false (rw c.by_bech32.ensures.text at c.in_ok-near-2.ensures.0)
