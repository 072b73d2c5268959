use Rattle.std.proofs.Common.{◌≡◌, ◌∙◌, [], true, false, length, sym, eqb-true}
use Rattle.bech32_lookup.proofs.OneError.{empty}
use Rattle.bech32_correction.proofs.Within.{bounded, none_distinct}
use Rattle.bech32_correction.proofs.erasures.distinct_below.Goals as goal

pub returns-then-not-are_below-clause-value : goal.returns-then-not-are_below-clause-value
returns-then-not-are_below-clause-value g c = λ within.
    let all : c.are_below.result ≡ true = c.are_below.ensures.1 within.0 in
    let not_all : c.are_below.result ≡ false = c.if-not-are_below.true in
    absurd cc

pub returns-clause-value : goal.returns-clause-value
returns-clause-value g c =
    bounded c.args.window c.args.most c.args.given.now c.distinct_in.result (c.are_below.ensures.0 c.if-not-are_below.false) c.distinct_in.ensures.value

pub returns-then-is_empty-clause-value : goal.returns-then-is_empty-clause-value
returns-then-is_empty-clause-value g c =
    let none : c.args.given.now ≡ [] = empty c.args.given.now (eqb-true (length c.args.given.now) 0 (sym c.is_empty.ensures ∙ c.if-is_empty.true)) in
    none_distinct c.args.window c.args.most c.args.given.now c.new.result none c.new.ensures
