use Rattle.std.proofs.Common.{◌++◌, [], ap, option_to_list}
use Rattle.bech32_bits.proofs.AdaptorWalks.{at_none, pulled_next}
use Rattle.bech32_encode.proofs.FrontedWalks.{ended_at_none, passed_on}
use Rattle.bech32_encode.proofs.version.WitnessVersionIterIterator.next.Goals as goal

pub returns-in-None-clause-steps : goal.returns-in-None-clause-steps
returns-in-None-clause-steps g c = record {
  taken = option_to_list c.next.result;
  pulled = pulled_next g.I.Iterator.next_gives _ _ _ c.next.ensures.steps;
  nothing_left = at_none c.next.result (ap (λ v. option_to_list v ++ []) c.in-None.is);
  ended = ended_at_none _ _ c.next.result c.next.ensures.steps.1;
  gave = λ rest z. passed_on c.args.self.now.version c.next.result _ rest c.in-None.is c.next.ensures.steps.1 z;
}
