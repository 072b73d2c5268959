use Rattle.bech32_meant.proofs.search.push_slips.Goals as goal

pub returns : goal.returns
returns g c = (_, c.in_ok-push_tried.ensures, c.in_ok-push_tried-2.ensures)
