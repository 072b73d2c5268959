use Rattle.std.proofs.Common.{◌≡◌, ◌<◌, ◌≤◌, ◌∙◌, sym, true, false, refl, arith, lt-ltb, le-ltb, rules}
use Rattle.bech32_gf.specs.Alphabet.{is_of_alphabet}
use Rattle.bech32_gf.specs.Fe32.{path, element_of}
use Rattle.bech32_gf.proofs.Characters.{is_of_alphabet-high, VALUES-below, VALUES-value}
use Rattle.bech32_gf.proofs.gf32.Fe32.from_char.Goals as goal

pub returns-then-not-is_ascii-clause-accepts : goal.returns-then-not-is_ascii-clause-accepts
returns-then-not-is_ascii-clause-accepts c =
    let high : 128 ≤ c.args.c = search rules in
    let none = is_of_alphabet-high c.args.c high in
    (λ h. cc, λ h. cc)

pub returns-then-value-gt31-clause-accepts : goal.returns-then-value-gt31-clause-accepts
returns-then-value-gt31-clause-accepts c =
    let low : c.args.c < 128 = search rules in
    let none : is_of_alphabet c.args.c ≡ false = sym (VALUES-below c.args.c low) ∙ le-ltb _ 32 (omega arith) in
    (λ h. cc, λ h. cc)

pub returns-clause-accepts : goal.returns-clause-accepts
returns-clause-accepts c =
    let low : c.args.c < 128 = search rules in
    let some : is_of_alphabet c.args.c ≡ true = sym (VALUES-below c.args.c low) ∙ lt-ltb _ 32 (omega arith) in
    (λ h. some, λ h. refl)

pub returns-clause-value : goal.returns-clause-value
returns-clause-value c =
    let low : c.args.c < 128 = search rules in
    let some : is_of_alphabet c.args.c ≡ true = sym (VALUES-below c.args.c low) ∙ lt-ltb _ 32 (omega arith) in
    path _ (element_of c.args.c) (VALUES-value c.args.c some)
