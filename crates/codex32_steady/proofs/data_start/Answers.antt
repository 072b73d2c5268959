use Rattle.std.proofs.Common.{◌≡◌, ℕ, ◌+◌, ◌-◌, ◌||◌, Bool, not, length, get_or, sym, ap, subst, ◌∙◌, arith}
use Rattle.bech32_gf.specs.Alphabet.{is_of_alphabet}
use Rattle.codex32_steady.proofs.Places.{IsSeen, from_bool-le, seen_all, seen_more, seen_none}
use Rattle.codex32_steady.proofs.data_start.Goals as goal

pub loop-i-init : goal.loop-i-init
loop-i-init c = seen_none c.args.bytes.now _ (omega arith)

pub loop-i-preserved : goal.loop-i-preserved
loop-i-preserved c =
    let bytes = c.args.bytes.now in
    let i : ℕ = c.loop-i.i in
    let from : ℕ = length bytes - (i + 1) in
    let of : Bool = c.is_data_byte.result in
    let at : length bytes - 1 - i ≡ from = omega (arith, c.loop-i-test.true) in
    let before : length bytes - i ≡ from + 1 = omega (arith, c.loop-i-test.true) in
    let more = seen_more bytes from c.loop-i.start c.loop-i.found of (omega (arith, c.loop-i-test.true)) (c.is_data_byte.ensures ∙ ap (λ (n : ℕ). is_of_alphabet (get_or bytes n 0)) at)
    (subst (λ (n : ℕ). IsSeen bytes n c.loop-i.found c.loop-i.start) before c.loop-i.invariant) in
    subst (λ (n : ℕ). IsSeen bytes from (c.loop-i.found || not of) (c.loop-i.start + n)) (sym c.from-start.ensures) more

pub overflow_add-start : goal.overflow_add-start
overflow_add-start c = omega (arith, c.loop-i.invariant.few, c.loop-i-test.true, c.from-start.ensures, from_bool-le (c.loop-i.found || not c.is_data_byte.result))

pub returns-clause-bound : goal.returns-clause-bound
returns-clause-bound c = omega (arith, c.loop-i.invariant.few)

pub returns-clause-data : goal.returns-clause-data
returns-clause-data c =
    let none : length c.args.bytes.now - c.loop-i.i ≡ 0 = omega (arith, c.loop-i-test.false) in
    (seen_all c.args.bytes.now c.loop-i.start c.loop-i.found (subst (λ (n : ℕ). IsSeen c.args.bytes.now n c.loop-i.found c.loop-i.start) none c.loop-i.invariant)).0

pub returns-clause-before : goal.returns-clause-before
returns-clause-before c =
    let none : length c.args.bytes.now - c.loop-i.i ≡ 0 = omega (arith, c.loop-i-test.false) in
    (seen_all c.args.bytes.now c.loop-i.start c.loop-i.found (subst (λ (n : ℕ). IsSeen c.args.bytes.now n c.loop-i.found c.loop-i.start) none c.loop-i.invariant)).1
