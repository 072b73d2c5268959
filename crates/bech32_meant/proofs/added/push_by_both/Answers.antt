use Rattle.bech32_meant.proofs.added.push_by_both.Goals as goal

pub returns : goal.returns
returns g c = (_, c.in_ok-push_near.ensures, c.in_ok-push_near-2.ensures)
