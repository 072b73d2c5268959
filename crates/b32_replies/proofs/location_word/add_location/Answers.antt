use Rattle.std.proofs.Common.{rules, ◌≡◌, ◌≢◌, ◌≤◌, ℕ, List, false, length, sym, ap, ◌∙◌, arith}
use Rattle.bech32_bch.specs.Erasures.{has}
use Rattle.b32_replies.proofs.FewLocations.{grows-new, stays-full, stays-known}
use Rattle.b32_replies.proofs.location_word.add_location.Goals as goal

pub returns-then-len-kept : goal.returns-then-len-kept
returns-then-len-kept c = stays-full c.args.kept c.args.few.now c.args.location (sym c.len.ensures ∙ c.if-len-kept.true)

pub returns-then-contains : goal.returns-then-contains
returns-then-contains c =
    stays-known c.args.kept c.args.few.now c.args.location c.requires.size (ap (λ (s : List ℕ). has s c.args.location) (sym c.as_slice.ensures) ∙ sym c.contains.ensures ∙ c.if-contains.true)

pub unwrap-requires : goal.unwrap-requires
unwrap-requires c =
    let some : length c.args.few.now ≢ c.args.kept = λ e. c.if-len-kept.false (c.len.ensures ∙ e) in
    let few : length c.args.few.now ≤ c.args.kept = c.requires.size in
    c.push.ensures.in_place (omega (arith, c.requires.in_place))

pub returns : goal.returns
returns c =
    let some : length c.args.few.now ≢ c.args.kept = λ e. c.if-len-kept.false (c.len.ensures ∙ e) in
    let few : length c.args.few.now ≤ c.args.kept = c.requires.size in
    let other : has c.args.few.now c.args.location ≡ false = ap (λ (s : List ℕ). has s c.args.location) (sym c.as_slice.ensures) ∙ sym c.contains.ensures ∙ c.if-contains.false in
    grows-new c.args.kept c.args.few.now c.push.new.self c.args.location (omega arith) other (search rules)
