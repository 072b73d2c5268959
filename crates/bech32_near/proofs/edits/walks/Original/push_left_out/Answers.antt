use Rattle.std.specs.Prelude.{option_to_list}
use Rattle.std.proofs.Common.{◌-◌, ◌+◌, ◌≤◌, ℕ, [], length, append-nil, replicate, subst, sym, ◌∙◌, refl, arith}
use Rattle.std.proofs.lemmas.Bool.{eqb-true}
use Rattle.std.proofs.lemmas.List.{length-map}
use Rattle.std.proofs.lemmas.Result.{err_from_is_err_and}
use Rattle.bech32_gf.specs.Fe32.{element_of, elements_of}
use Rattle.bech32_gf.specs.declared.gf32.Fe32.{Fe32 as Element}
use Rattle.bech32_decode.proofs.Letters.{is_data-take}
use Rattle.bech32_hrp.specs.HrpBytes.{hrp_bytes}
use Rattle.bech32_near.specs.edits.Walks.{HasLengthsFor, IsAcceptedAt, IsAcceptedOfKind, IsWordOf, element_in, times_power}
use Rattle.bech32_near.proofs.Kept.{found_all, found_more, found_none, none_lower, some_kept}
use Rattle.bech32_near.proofs.Located.{never, first_without, word_without}
use Rattle.bech32_near.proofs.Verdicts.{lower_first, of_left_out}
use Rattle.bech32_near.proofs.edits.walks.Original.push_left_out.Goals as goal

pub engine_of-requires : goal.engine_of-requires
engine_of-requires g c = is_data-take _ c.args.self.now.characters.now c.args.self.now.of_alphabet

pub returns-then-is_empty : goal.returns-then-is_empty
returns-then-is_empty g c =
    let code = g.Ck.Checksum.code in
    let hrp = hrp_bytes c.args.self.now.hrp in
    let old = elements_of c.args.self.now.characters.now in
    let size = length-map c.args.self.now.characters.now element_of in
    let none = eqb-true _ _ (sym c.is_empty.ensures ∙ c.if-is_empty.true) in
    found_none (IsAcceptedOfKind 1 code hrp old) c.args.found.now.items (λ e h. let low = (of_left_out code hrp old e h).1 in omega (arith, low, size, none))

pub returns-then-not-has_lengths : goal.returns-then-not-has_lengths
returns-then-not-has_lengths g c =
    let code = g.Ck.Checksum.code in
    let hrp = hrp_bytes c.args.self.now.hrp in
    let old = elements_of c.args.self.now.characters.now in
    let size = length-map c.args.self.now.characters.now element_of in
    found_none (IsAcceptedOfKind 1 code hrp old) c.args.found.now.items
    (λ e h. never (c.if-not-has_lengths.ensures.1 (subst (λ (n : ℕ). HasLengthsFor code hrp (n - 1)) size (of_left_out code hrp old e h).0)))

pub loop-location-init : goal.loop-location-init
loop-location-init g c =
    let number = g.Ck.MidstateRepr.PackedFe32.number in
    let code = g.Ck.Checksum.code in
    let hrp = hrp_bytes c.args.self.now.hrp in record {
      powers = c.new-powers.ensures;
      rest = λ some. subst (IsWordOf number code c.word_of-rest.result) (first_without hrp c.args.self.now.characters.now) (c.word_of-rest.ensures _ c.engine_of.ensures);
      kept = ([], sym (append-nil c.args.found.now.items), none_lower (IsAcceptedOfKind 1 code hrp (elements_of c.args.self.now.characters.now)) (λ e. e.location));
    }

pub loop-location-preserved : goal.loop-location-preserved
loop-location-preserved g c =
    let at = c.loop-location in
    let number = g.Ck.MidstateRepr.PackedFe32.number in
    let code = g.Ck.Checksum.code in
    let hrp = hrp_bytes c.args.self.now.hrp in
    let old = elements_of c.args.self.now.characters.now in
    let room = c.if-not-has_lengths.ensures.0 refl in
    let word = at.invariant.rest c.loop-location-test.true in
    record {
      powers = c.raise.ensures at.location 1 at.invariant.powers;
      rest = λ more.
          let term = subst (λ (x : Element). IsWordOf number code c.times.result (times_power at.location (replicate 1 x))) (c.change_above-change.ensures more) (c.times.ensures at.location 1 at.invariant.powers) in
          word_without code hrp c.args.self.now.characters.now at.location number c.sum_of-rest.result (element_in (at.location + 1) old) (element_in at.location old) refl refl more
          (c.sum_of-rest.ensures _ _ word term);
      kept = found_more (IsAcceptedOfKind 1 code hrp old) (λ e. e.location) at.location c.args.found.now.items at.found.items c.push_some.new.found.items (option_to_list c.left_out_at.result)
          (lower_first 1 code hrp old) c.in_ok-push_some.ensures (c.left_out_at.ensures hrp room word) at.invariant.kept;
    }

pub returns-in_err-push_some : goal.returns-in_err-push_some
returns-in_err-push_some g c =
    let at = c.loop-location in
    let code = g.Ck.Checksum.code in
    let hrp = hrp_bytes c.args.self.now.hrp in
    let old = elements_of c.args.self.now.characters.now in
    let room = c.if-not-has_lengths.ensures.0 refl in
    let (e, ((k, a), l)) = some_kept (IsAcceptedAt 1 code hrp old at.location) c.left_out_at.result c.in_err-push_some.ensures (c.left_out_at.ensures hrp room (at.invariant.rest c.loop-location-test.true)) in
    let p = err_from_is_err_and c.from_residual.result c.from_residual.ensures.1 in
    rw p.1 (e, a)

pub returns : goal.returns
returns g c =
    let at = c.loop-location in
    let code = g.Ck.Checksum.code in
    let hrp = hrp_bytes c.args.self.now.hrp in
    let old = elements_of c.args.self.now.characters.now in
    let size = length-map c.args.self.now.characters.now element_of in
    let end : length c.args.self.now.characters.now ≤ at.location = omega arith in
    found_all (IsAcceptedOfKind 1 code hrp old) (λ e. e.location) at.location c.args.found.now.items at.found.items (λ e h. let low = (of_left_out code hrp old e h).1 in omega (arith, low, end, size)) at.invariant.kept
