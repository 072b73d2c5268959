use Rattle.std.proofs.Common.{[], ◌∷◌, refl, rules}
use Rattle.bech32_bits.specs.Bits.{byte_bits}
use Rattle.bech32_bits.proofs.AdaptorWalks.{pulled_next, pulled_none}
use Rattle.bech32_bits.proofs.BitLists.{take-held, take-byte, end-none, end-some}
use Rattle.bech32_bits.proofs.BytesToFesIterator.next.Goals as goal

pub returns-then-self-ge5-clause-steps : goal.returns-then-self-ge5-clause-steps
returns-then-self-ge5-clause-steps g c = record {
  taken = [];
  pulled = pulled_none g.I.Iterator.next_gives _;
  ended = search rules;
  nothing_left = search rules;
  gave = λ rest z. take-held _ _ _ (byte_bits rest) (search rules) c.from_low_bits.ensures;
}

pub returns-then-self-eq0-clause-steps : goal.returns-then-self-eq0-clause-steps
returns-then-self-eq0-clause-steps g c = record {
  taken = [];
  pulled = pulled_next g.I.Iterator.next_gives _ _ _ c.in_default.ensures.steps;
  ended = c.in_default.ensures.steps.1;
  nothing_left = end-none _ _ [] c.if-self-eq0.true refl;
  gave = λ rest z. end-none _ _ rest c.if-self-eq0.true (z c.in_default.ensures.steps.1);
}

pub returns-in_default-clause-steps : goal.returns-in_default-clause-steps
returns-in_default-clause-steps g c = record {
  taken = [];
  pulled = pulled_next g.I.Iterator.next_gives _ _ _ c.in_default.ensures.steps;
  ended = search rules;
  nothing_left = search rules;
  gave = λ rest z. end-some _ _ _ rest c.if-self-eq0.false (search rules) c.from_low_bits-last.ensures (z c.in_default.ensures.steps.1);
}

pub returns-clause-steps : goal.returns-clause-steps
returns-clause-steps g c = record {
  taken = c.in-Some.byte ∷ [];
  pulled = pulled_next g.I.Iterator.next_gives _ _ _ c.in-Some.ensures.steps;
  ended = search rules;
  nothing_left = search rules;
  gave = λ rest z. take-byte _ _ c.in-Some.byte _ (byte_bits rest) (search rules) (search rules) c.element_above.ensures;
}
