use Rattle.std.proofs.Common.{◌≡◌, ◌∙◌, Bool, true, false, true≢false, [], ◌∷◌, Option, Some, None, MatchBool, ap, sym, refl, rules}
use Rattle.std.specs.Option.{ForSome}
use Rattle.std.specs.Iterator.Adapters.{fuse_done}
use Rattle.bech32_bits.specs.Adaptor.{then_gives}
use Rattle.bech32_encode.specs.ChecksumElements.{then_checksum}
use Rattle.bech32_bits.proofs.AdaptorWalks.{pulled_next, pulled_next_same}
use Rattle.bech32_encode.proofs.ChecksumEnds.{then_checksum-more}
use Rattle.bech32_encode.proofs.checksummed.ChecksummedIterator.next.Goals as goal

-- before the elements end, no element of the checksum has come
no_tail : {N A : Type 0} → (tail : Option N) (done : Bool) (x : A) (P : Type 0) → ForSome tail (λ _. done ≡ true) → MatchBool done (Some x ≡ None) P → tail ≡ None
no_tail None done x P h k = refl
no_tail (Some n) true x P h k = absurd cc
no_tail (Some n) false x P h k = absurd (true≢false (sym (h n refl)))

pub returns-in-Some-clause-steps : goal.returns-in-Some-clause-steps
returns-in-Some-clause-steps g c =
    let s = c.args.self.now in
    record {
      taken = c.in-Some.fe ∷ [];
      pulled = pulled_next g.I.Iterator.next_gives _ _ _ c.in-Some.ensures.steps;
      ended = search rules;
      nothing_left = tt;
      gave = λ rest z. then_checksum-more g.Ck.MidstateRepr.PackedFe32.number g.Ck.Checksum.code s.engine _ s.tail c.in-Some.fe rest
          (no_tail s.tail (fuse_done s.elements) c.in-Some.fe _ s.ended c.in-Some.ensures.steps.0) c.input_fe.ensures;
    }

pub returns-in-None-clause-steps : goal.returns-in-None-clause-steps
returns-in-None-clause-steps g c =
    let s = c.args.self.now in
    let after = c.next_of_checksum.ensures in
    let number = g.Ck.MidstateRepr.PackedFe32.number in
    let code = g.Ck.Checksum.code in
    record {
      taken = [];
      pulled = pulled_next_same g.I.Iterator.next_gives s.elements c.next.new.self _ _ c.in-None.ensures.steps after.elements;
      ended = search rules;
      nothing_left = after.nothing_left;
      gave = λ rest z.
          ap (then_checksum number code s.engine s.tail) (z (search rules))
          ∙ after.gives
          ∙ ap (λ l. then_gives c.next_of_checksum.result (then_checksum number code c.next_of_checksum.new.self.engine c.next_of_checksum.new.self.tail l)) (sym (z (search rules)));
    }
