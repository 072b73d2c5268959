use Rattle.std.proofs.Common.{◌≡◌, ◌≤◌, ◌∙◌, ◌+◌, ℕ, List, ◌++◌, [], ◌∷◌, take, length, length-append, ap, sym, subst, arith}
use Rattle.std.proofs.lemmas.List.{take_more}
use Rattle.bech32_gf.specs.declared.gf32.Fe32.{Fe32}
use Rattle.bech32_correction.proofs.Values.{all_at}
use Rattle.b32_replies.specs.Reply.{listed}
use Rattle.b32_replies.proofs.CorrectReplies.{listed-more}
use Rattle.b32_replies.proofs.correct.append_listing.Goals as goal

pub append_location-requires-clause-small : goal.append_location-requires-clause-small
append_location-requires-clause-small c =
    subst (λ (q : ℕ × Fe32). q.0 ≤ 1022) (sym c.item-item.is)
    (all_at (λ (q : ℕ × Fe32). q.0 ≤ 1022) c.args.listing.now c.loop-item.item-index c.item-item.result c.loop-item-test.true c.requires.small)

pub loop-item-preserved : goal.loop-item-preserved
loop-item-preserved c =
    let old = c.args.out.now.items in
    let item = c.item-item.result in
    let more : take (c.loop-item.item-index + 1) c.args.listing.now ≡ take c.loop-item.item-index c.args.listing.now ++ (c.item-item.result ∷ []) =
    take_more c.args.listing.now c.loop-item.item-index item c.loop-item-test.true
    ∙ ap (λ (q : ℕ × Fe32). take c.loop-item.item-index c.args.listing.now ++ (q ∷ [])) (sym c.item-item.is) in
    let behind = c.append.ensures.items ∙ ap (λ (b : ℕ). c.append_location.new.out.items ++ (58 ∷ b ∷ 32 ∷ [])) c.to_char.ensures.value in
    record {
      items = listed-more c.loop-item.out.items c.append_location.new.out.items c.append.new.out.items (take c.loop-item.item-index c.args.listing.now) item old
          c.loop-item.invariant.items c.append_location.ensures.items behind
          ∙ ap (λ (l : List (ℕ × Fe32)). old ++ listed l) (sym more);
      size = omega (
        arith,
        c.loop-item.invariant.size,
        c.append_location.ensures.size,
        ap length c.append.ensures.items,
        length-append c.append_location.new.out.items (58 ∷ c.to_char.result ∷ 32 ∷ []),
        c.append.new.out.ok.0,
        c.append_location.new.out.ok.0,
      );
      capacity = omega (arith, c.loop-item.invariant.capacity, c.append_location.ensures.capacity, c.append.ensures.capacity);
    }
