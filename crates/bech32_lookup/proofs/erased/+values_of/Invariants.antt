use Rattle.bech32_lookup.proofs.erased.+values_of.Given as goal

abbrev pub decreases-values_of : goal.decreases-values_of
decreases-values_of l = l.last
