use Rattle.std.specs.Prelude.{option_to_list}
use Rattle.std.proofs.Common.{◌≤◌, [], length, append-nil, subst, sym, refl, arith}
use Rattle.std.proofs.lemmas.List.{length-map}
use Rattle.std.proofs.lemmas.Result.{err_from_is_err_and}
use Rattle.bech32_gf.specs.Fe32.{element_of, elements_of}
use Rattle.bech32_checksum.specs.TextPolynomial.{text_polynomial}
use Rattle.bech32_hrp.specs.HrpBytes.{hrp_bytes}
use Rattle.bech32_near.specs.edits.Walks.{HasLengthsFor, IsAcceptedAt, IsAcceptedOfKind}
use Rattle.bech32_near.proofs.Kept.{found_all, found_more, found_none, none_lower, some_kept}
use Rattle.bech32_near.proofs.Located.{never}
use Rattle.bech32_near.proofs.Verdicts.{lower_first, of_swap}
use Rattle.bech32_near.proofs.edits.walks.Original.push_swapped.Goals as goal

pub returns-then-not-has_lengths : goal.returns-then-not-has_lengths
returns-then-not-has_lengths g c =
    let code = g.Ck.Checksum.code in
    let hrp = hrp_bytes c.args.self.now.hrp in
    let old = elements_of c.args.self.now.characters.now in
    let size = length-map c.args.self.now.characters.now element_of in
    found_none (IsAcceptedOfKind 0 code hrp old) c.args.found.now.items
    (λ e h. never (c.if-not-has_lengths.ensures.1 (subst (HasLengthsFor code hrp) size (of_swap code hrp old e h).0)))

pub loop-location-init : goal.loop-location-init
loop-location-init g c = record {
  powers = c.new-pairs.ensures;
  kept = ([], sym (append-nil c.args.found.now.items), none_lower (IsAcceptedOfKind 0 g.Ck.Checksum.code (hrp_bytes c.args.self.now.hrp) (elements_of c.args.self.now.characters.now)) (λ e. e.location));
}

pub loop-location-preserved : goal.loop-location-preserved
loop-location-preserved g c =
    let at = c.loop-location in
    let code = g.Ck.Checksum.code in
    let hrp = hrp_bytes c.args.self.now.hrp in
    let old = elements_of c.args.self.now.characters.now in
    let word = c.word_of-whole.ensures (text_polynomial hrp old) c.engine_of.ensures in
    let room = c.if-not-has_lengths.ensures.0 refl in
    record {
      powers = c.raise.ensures at.location 2 at.invariant.powers;
      kept = found_more (IsAcceptedOfKind 0 code hrp old) (λ e. e.location) at.location c.args.found.now.items at.found.items c.push_some.new.found.items (option_to_list c.swap_at.result)
          (lower_first 0 code hrp old) c.in_ok-push_some.ensures (c.swap_at.ensures hrp room word at.invariant.powers) at.invariant.kept;
    }

pub returns-in_err-push_some : goal.returns-in_err-push_some
returns-in_err-push_some g c =
    let at = c.loop-location in
    let code = g.Ck.Checksum.code in
    let hrp = hrp_bytes c.args.self.now.hrp in
    let old = elements_of c.args.self.now.characters.now in
    let word = c.word_of-whole.ensures (text_polynomial hrp old) c.engine_of.ensures in
    let room = c.if-not-has_lengths.ensures.0 refl in
    let (e, ((k, a), l)) = some_kept (IsAcceptedAt 0 code hrp old at.location) c.swap_at.result c.in_err-push_some.ensures (c.swap_at.ensures hrp room word at.invariant.powers) in
    let p = err_from_is_err_and c.from_residual.result c.from_residual.ensures.1 in
    rw p.1 (e, a)

pub returns : goal.returns
returns g c =
    let at = c.loop-location in
    let code = g.Ck.Checksum.code in
    let hrp = hrp_bytes c.args.self.now.hrp in
    let old = elements_of c.args.self.now.characters.now in
    let size = length-map c.args.self.now.characters.now element_of in
    let end : length c.args.self.now.characters.now ≤ at.location = omega arith in
    found_all (IsAcceptedOfKind 0 code hrp old) (λ e. e.location) at.location c.args.found.now.items at.found.items (λ e h. let low = (of_swap code hrp old e h).1 in omega (arith, low, end, size)) at.invariant.kept
