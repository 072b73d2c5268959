use Rattle.std.proofs.Common.{rules, ◌≡◌, ◌≢◌, ◌+◌, ◌<◌, ◌≤◌, ℕ, Bool, true, false, cond, [], ◌∷◌, ◌++◌, List, length, length-append, get_or, take, sym, ap, ◌∙◌, refl, arith}
use Rattle.std.proofs.lemmas.List.{take_all}
use Rattle.bech32_bch.specs.Erasures.{has, with_erasures}
use Rattle.bech32_correction.proofs.Counted.{more_with, one_more}
use Rattle.bech32_more_calls.proofs.confidential.nearest.are_few.Goals as goal

pub loop-location-preserved-then-contains : goal.loop-location-preserved-then-contains
loop-location-preserved-then-contains c =
    let x : ℕ = get_or c.args.given.now c.loop-location.location-index 0 in
    let known : has c.loop-location.distinct x ≡ true =
    ap (λ (s : List ℕ). has s x) (sym c.as_slice.ensures) ∙ sym c.contains.ensures ∙ c.if-contains.true in
    record {
      so_far = sym (one_more c.args.given.now c.loop-location.distinct c.loop-location.location-index x c.loop-location-test.true refl c.loop-location.invariant.so_far
          ∙ ap (λ (b : Bool). cond b c.loop-location.distinct (c.loop-location.distinct ++ x ∷ [])) known);
      few = c.loop-location.invariant.few;
    }

pub returns-then-len-most : goal.returns-then-len-most
returns-then-len-most c =
    let x : ℕ = get_or c.args.given.now c.loop-location.location-index 0 in
    let new : has c.loop-location.distinct x ≡ false =
    ap (λ (s : List ℕ). has s x) (sym c.as_slice.ensures) ∙ sym c.contains.ensures ∙ c.if-contains.false in
    let more : length c.loop-location.distinct < length (with_erasures [] c.args.given.now) =
    more_with c.args.given.now c.loop-location.distinct c.loop-location.location-index x c.loop-location-test.true refl c.loop-location.invariant.so_far new in
    let full : length c.loop-location.distinct ≡ c.args.most = sym c.len.ensures ∙ c.if-len-most.true in
    (λ is. absurd cc, λ few. absurd (omega (arith, more, full, few)))

pub unwrap-requires : goal.unwrap-requires
unwrap-requires c =
    let few : length c.loop-location.distinct ≤ c.args.most = c.loop-location.invariant.few in
    let not_full : length c.loop-location.distinct ≢ c.args.most = λ e. c.if-len-most.false (c.len.ensures ∙ e) in
    let most : c.args.most ≤ 7 = c.requires in
    c.push.ensures.in_place (omega arith)

pub loop-location-preserved : goal.loop-location-preserved
loop-location-preserved c =
    let x : ℕ = get_or c.args.given.now c.loop-location.location-index 0 in
    let new : has c.loop-location.distinct x ≡ false =
    ap (λ (s : List ℕ). has s x) (sym c.as_slice.ensures) ∙ sym c.contains.ensures ∙ c.if-contains.false in
    let few : length c.loop-location.distinct ≤ c.args.most = c.loop-location.invariant.few in
    let not_full : length c.loop-location.distinct ≢ c.args.most = λ e. c.if-len-most.false (c.len.ensures ∙ e) in
    let room : length c.loop-location.distinct + 1 ≤ c.args.most = omega arith in
    let pushed : c.push.new.self ≡ c.loop-location.distinct ++ x ∷ [] = search rules in
    let longer : length (c.loop-location.distinct ++ x ∷ []) ≡ length c.loop-location.distinct + 1 = length-append c.loop-location.distinct (x ∷ []) in
    record {
      so_far = pushed ∙ sym (one_more c.args.given.now c.loop-location.distinct c.loop-location.location-index x c.loop-location-test.true refl c.loop-location.invariant.so_far
          ∙ ap (λ (b : Bool). cond b c.loop-location.distinct (c.loop-location.distinct ++ x ∷ [])) new);
      few = omega (arith, ap length pushed);
    }

pub returns : goal.returns
returns c =
    let few : length c.loop-location.distinct ≤ c.args.most = c.loop-location.invariant.few in
    let all : take c.loop-location.location-index c.args.given.now ≡ c.args.given.now =
    take_all c.loop-location.location-index c.args.given.now (omega (arith, c.loop-location-test.false)) in
    let is : c.loop-location.distinct ≡ with_erasures [] c.args.given.now = c.loop-location.invariant.so_far ∙ ap (with_erasures []) all in
    (λ _. omega (arith, few, ap (λ (s : List ℕ). length s) is), λ _. refl)
