use Rattle.std.proofs.Common.{◌+◌, ◌<◌, ◌≤◌, ◌∷◌, ℕ, [], length, append-nil, subst, sym, ap, ◌∙◌, refl, arith}
use Rattle.std.proofs.lemmas.List.{length-map}
use Rattle.std.proofs.lemmas.Result.{err_from_is_err_and}
use Rattle.bech32_gf.specs.Fe32 as fe32
use Rattle.bech32_gf.specs.Fe32.{element_of, elements_of}
use Rattle.bech32_gf.specs.declared.gf32.Fe32.{Fe32 as Element}
use Rattle.bech32_checksum.specs.TextPolynomial.{text_polynomial}
use Rattle.bech32_hrp.specs.HrpBytes.{hrp_bytes}
use Rattle.bech32_near.specs.edits.Walks.{HasLengthsFor, IsAcceptedOfKind, IsWordOf}
use Rattle.bech32_near.proofs.Kept.{found_all, found_chain, found_none, none_lower}
use Rattle.bech32_near.proofs.Located.{never, first_with, word_with_zero}
use Rattle.bech32_near.proofs.Verdicts.{lower_first, of_put_in}
use Rattle.bech32_near.proofs.edits.walks.Original.push_put_in.Goals as goal

pub returns-then-not-has_lengths : goal.returns-then-not-has_lengths
returns-then-not-has_lengths g c =
    let code = g.Ck.Checksum.code in
    let hrp = hrp_bytes c.args.self.now.hrp in
    let old = elements_of c.args.self.now.characters.now in
    let size = length-map c.args.self.now.characters.now element_of in
    found_none (IsAcceptedOfKind 2 code hrp old) c.args.found.now.items
    (λ e h. never (c.if-not-has_lengths.ensures.1 (subst (λ (n : ℕ). HasLengthsFor code hrp (n + 1)) size (of_put_in code hrp old e h).0)))

pub loop-location-init : goal.loop-location-init
loop-location-init g c =
    let number = g.Ck.MidstateRepr.PackedFe32.number in
    let code = g.Ck.Checksum.code in
    let hrp = hrp_bytes c.args.self.now.hrp in
    let old = elements_of c.args.self.now.characters.now in record {
      powers = c.new-powers.ensures;
      pairs = c.new-pairs.ensures;
      with_none = λ low.
          subst (IsWordOf number code c.word_of-with_none.result) (ap (λ (x : Element). x ∷ text_polynomial hrp old) (fe32.path _ fe32.zero refl) ∙ first_with hrp old)
          (c.word_of-with_none.ensures _ (c.input_fe.ensures _ c.engine_of-engine.ensures));
      kept = ([], sym (append-nil c.args.found.now.items), none_lower (IsAcceptedOfKind 2 code hrp old) (λ e. e.location));
    }

pub push_put_in_at-requires-clause-within : goal.push_put_in_at-requires-clause-within
push_put_in_at-requires-clause-within g c = omega arith

pub loop-location-preserved : goal.loop-location-preserved
loop-location-preserved g c =
    let at = c.loop-location in
    let number = g.Ck.MidstateRepr.PackedFe32.number in
    let code = g.Ck.Checksum.code in
    let hrp = hrp_bytes c.args.self.now.hrp in
    let old = elements_of c.args.self.now.characters.now in
    let room = c.if-not-has_lengths.ensures.0 refl in
    let low : at.location ≤ length c.args.self.now.characters.now = omega arith in
    let word = at.invariant.with_none low in
    record {
      powers = c.raise.ensures at.location 1 at.invariant.powers;
      pairs = c.raise-in-loop-location.ensures at.location 2 at.invariant.pairs;
      with_none = λ more.
          let less : at.location < length c.args.self.now.characters.now = omega (arith, more) in
          word_with_zero code hrp c.args.self.now.characters.now at.location number c.sum_of-with_none.result c.element_or_zero-element.result (c.element_or_zero-element.ensures less) less
          (c.sum_of-with_none.ensures _ _ word (c.times.ensures at.location 2 at.invariant.pairs));
      kept = found_chain (IsAcceptedOfKind 2 code hrp old) (λ e. e.location) at.location c.args.found.now.items at.found.items c.push_put_in_at.new.found.items
          (lower_first 2 code hrp old) (c.in_ok-push_put_in_at.ensures hrp room word at.invariant.powers) at.invariant.kept;
    }

pub returns-in_err-push_put_in_at : goal.returns-in_err-push_put_in_at
returns-in_err-push_put_in_at g c =
    let at = c.loop-location in
    let hrp = hrp_bytes c.args.self.now.hrp in
    let room = c.if-not-has_lengths.ensures.0 refl in
    let low : at.location ≤ length c.args.self.now.characters.now = omega arith in
    let p = err_from_is_err_and c.from_residual.result c.from_residual.ensures.1 in
    rw p.1 (c.in_err-push_put_in_at.ensures hrp room (at.invariant.with_none low) at.invariant.powers)

pub returns : goal.returns
returns g c =
    let at = c.loop-location in
    let code = g.Ck.Checksum.code in
    let hrp = hrp_bytes c.args.self.now.hrp in
    let old = elements_of c.args.self.now.characters.now in
    let size = length-map c.args.self.now.characters.now element_of in
    let end : length c.args.self.now.characters.now + 1 ≤ at.location = omega arith in
    found_all (IsAcceptedOfKind 2 code hrp old) (λ e. e.location) at.location c.args.found.now.items at.found.items (λ e h. let low = (of_put_in code hrp old e h).1 in omega (arith, low, end, size)) at.invariant.kept
