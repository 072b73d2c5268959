use Rattle.std.proofs.Common.{rules, [], arith}
use Rattle.bech32_checksum.specs.laws.RootLaws.{bech32m_roots}
use Rattle.bech32_correction.proofs.in_place.Bech32mCorrectsInPlace.listing_of_residue.Goals as goal

pub listing_given-requires : goal.listing_given-requires
listing_given-requires c = (search rules, (search rules, ((bech32m_roots, omega arith), c.requires)))

pub answer_of-requires : goal.answer_of-requires
answer_of-requires c = c.listing_given.ensures.in_place (omega arith)

pub returns : goal.returns
returns c = rw c.answer_of.ensures at (c.listing_given.ensures.answer [])
