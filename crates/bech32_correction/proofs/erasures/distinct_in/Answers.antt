use Rattle.std.proofs.Common.{◌≡◌, ◌≢◌, ◌+◌, ◌<◌, ◌≤◌, ℕ, Bool, true, false, cond, [], ◌∷◌, ◌++◌, List, length, length-append, get_or, sym, ap, ◌∙◌, refl, arith}
use Rattle.bech32_bch.specs.Erasures.{has, with_erasures}
use Rattle.bech32_correction.proofs.Counted.{more_with, one_more}
use Rattle.bech32_correction.proofs.erasures.distinct_in.Goals as goal

pub loop-location-preserved-then-contains : goal.loop-location-preserved-then-contains
loop-location-preserved-then-contains g c =
    let x : ℕ = get_or c.args.given.now c.loop-location.location-index 0 in
    let known : has c.loop-location.distinct x ≡ true =
    ap (λ (s : List ℕ). has s x) (sym c.as_slice.ensures) ∙ sym c.contains.ensures ∙ c.if-contains.true in
    record {
      so_far = sym (one_more c.args.given.now c.loop-location.distinct c.loop-location.location-index x c.loop-location-test.true refl c.loop-location.invariant.so_far
          ∙ ap (λ (b : Bool). cond b c.loop-location.distinct (c.loop-location.distinct ++ x ∷ [])) known);
      few = c.loop-location.invariant.few;
    }

pub returns-then-len-most-clause-value : goal.returns-then-len-most-clause-value
returns-then-len-most-clause-value g c =
    let x : ℕ = get_or c.args.given.now c.loop-location.location-index 0 in
    let new : has c.loop-location.distinct x ≡ false =
    ap (λ (s : List ℕ). has s x) (sym c.as_slice.ensures) ∙ sym c.contains.ensures ∙ c.if-contains.false in
    let more : length c.loop-location.distinct < length (with_erasures [] c.args.given.now) =
    more_with c.args.given.now c.loop-location.distinct c.loop-location.location-index x c.loop-location-test.true refl c.loop-location.invariant.so_far new in
    let full : length c.loop-location.distinct ≡ c.args.most = sym c.len.ensures ∙ c.if-len-most.true in
    omega arith

pub loop-location-preserved : goal.loop-location-preserved
loop-location-preserved g c =
    let x : ℕ = get_or c.args.given.now c.loop-location.location-index 0 in
    let new : has c.loop-location.distinct x ≡ false =
    ap (λ (s : List ℕ). has s x) (sym c.as_slice.ensures) ∙ sym c.contains.ensures ∙ c.if-contains.false in
    let pushed : c.push.new.self ≡ c.loop-location.distinct ++ x ∷ [] = c.in_ok-push.ensures.ok in
    let longer : length (c.loop-location.distinct ++ x ∷ []) ≡ length c.loop-location.distinct + 1 = length-append c.loop-location.distinct (x ∷ []) in
    let few : length c.loop-location.distinct ≤ c.args.most = c.loop-location.invariant.few in
    let not_full : length c.loop-location.distinct ≢ c.args.most = λ e. c.if-len-most.false (c.len.ensures ∙ e) in
    let room : length c.loop-location.distinct + 1 ≤ c.args.most = omega arith in
    record {
      so_far = pushed ∙ sym (one_more c.args.given.now c.loop-location.distinct c.loop-location.location-index x c.loop-location-test.true refl c.loop-location.invariant.so_far
          ∙ ap (λ (b : Bool). cond b c.loop-location.distinct (c.loop-location.distinct ++ x ∷ [])) new);
      few = omega (arith, ap length pushed);
    }

pub returns-in_err-push-clause-few : goal.returns-in_err-push-clause-few
returns-in_err-push-clause-few g c = λ fits.
    let x : ℕ = get_or c.args.given.now c.loop-location.location-index 0 in
    let new : has c.loop-location.distinct x ≡ false =
    ap (λ (s : List ℕ). has s x) (sym c.as_slice.ensures) ∙ sym c.contains.ensures ∙ c.if-contains.false in
    let more : length c.loop-location.distinct < length (with_erasures [] c.args.given.now) =
    more_with c.args.given.now c.loop-location.distinct c.loop-location.location-index x c.loop-location-test.true refl c.loop-location.invariant.so_far new in
    absurd (cc (c.in_err-push.ensures.in_place (omega (arith, more, fits))))
