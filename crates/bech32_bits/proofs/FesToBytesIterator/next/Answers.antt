use Rattle.std.proofs.Common.{[], ◌∷◌, refl, rules}
use Rattle.bech32_bits.specs.Bits.{fe_bits}
use Rattle.bech32_bits.proofs.AdaptorWalks.{at_none, pulled_next, pulled_two}
use Rattle.bech32_bits.proofs.ByteCuts.{cut-one, cut-two, end_of_held, end_of_one, unfilled}
use Rattle.bech32_bits.proofs.FesToBytesIterator.next.Goals as goal

pub returns-in_default-clause-steps : goal.returns-in_default-clause-steps
returns-in_default-clause-steps g c =
    let byte = rw c.to_u8.ensures at c.last_byte-last.ensures.byte in
    record {
      taken = [];
      pulled = pulled_next g.I.Iterator.next_gives _ _ _ c.in_default.ensures.steps;
      ended = search rules;
      nothing_left = at_none c.last_byte-last.result (unfilled c.args.self.now.padded 0 0 refl);
      gave = λ rest z. end_of_held c.args.self.now.padded c.args.self.now.count c.args.self.now.held.value _ rest byte (z c.in_default.ensures.steps.1);
    }

pub returns-then-self-ge3-clause-steps : goal.returns-then-self-ge3-clause-steps
returns-then-self-ge3-clause-steps g c =
    let byte = rw (c.to_u8-2.ensures, c.to_u8-3.ensures) at c.byte_above.ensures in
    record {
      taken = c.in-Some.first ∷ [];
      pulled = pulled_next g.I.Iterator.next_gives _ _ _ c.in-Some.ensures.steps;
      ended = search rules;
      nothing_left = tt;
      gave = λ rest z. cut-one c.args.self.now.padded _ _ _ _ (fe_bits rest) c.if-self-ge3.true (search rules) c.in-Some.first.in_field byte;
    }

pub returns-in_default-next-clause-steps : goal.returns-in_default-next-clause-steps
returns-in_default-next-clause-steps g c =
    let byte = rw (c.to_u8-2.ensures, c.to_u8-3.ensures) at c.last_byte-last-in_default-next.ensures.byte in
    record {
      taken = c.in-Some.first ∷ [];
      pulled = pulled_two g.I.Iterator.next_gives _ _ _ _ _ c.in-Some.ensures.steps c.in_default-next.ensures.steps;
      ended = search rules;
      nothing_left = at_none c.last_byte-last-in_default-next.result (unfilled c.args.self.now.padded 0 0 refl);
      gave = λ rest z. end_of_one c.args.self.now.padded c.args.self.now.count c.args.self.now.held.value c.in-Some.first.value _ rest c.in-Some.first.in_field byte (z c.in_default-next.ensures.steps.1);
    }

pub returns-clause-steps : goal.returns-clause-steps
returns-clause-steps g c =
    let byte = rw (c.to_u8-2.ensures, c.to_u8-3.ensures, c.to_u8-4.ensures) at c.byte_above-2.ensures in
    record {
      taken = c.in-Some.first ∷ c.in-Some-next.second ∷ [];
      pulled = pulled_two g.I.Iterator.next_gives _ _ _ _ _ c.in-Some.ensures.steps c.in-Some-next.ensures.steps;
      ended = search rules;
      nothing_left = tt;
      gave = λ rest z. cut-two c.args.self.now.padded _ _ _ _ _ (fe_bits rest) c.if-self-ge3.false c.in-Some.first.in_field c.in-Some-next.second.in_field byte;
    }
