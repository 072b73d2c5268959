use Rattle.std.proofs.Common.{List, ℕ, refl, subst}
use Rattle.bech32_gf.specs.laws.Fe32Laws.{is_field}
use Rattle.bech32_poly.proofs.Remainder.{remainder_unique}
use Rattle.bech32_checksum.specs.Code.{bech32m}
use Rattle.bech32_decode.specs.Text.{IsText}
use Rattle.bech32_calls.specs.declared.refusal.Refusal.TheVariants.{NotUtf8, Text}
use Rattle.bech32_small.proofs.input.read.Goals as goal

pub returns-in_default : goal.returns-in_default
returns-in_default c = record { refusal = NotUtf8; holds = rw c.in_default.is at c.text_of.ensures; number = refl }

pub returns-in-Err : goal.returns-in-Err
returns-in-Err c =
    let (same, utf8) = rw c.in-Some.is at c.text_of.ensures in
    record { refusal = Text c.in-Err.e; holds = (utf8, rw same at c.in-Err.ensures); number = c.number.ensures.value }

pub invariant_of-result : goal.invariant_of-result
invariant_of-result c =
    let h : List ℕ = c.in-Ok.hrp.now in
    let d : List ℕ = c.in-Ok.data_part.now in
    let (same, utf8) = rw c.in-Some.is at c.text_of.ensures in
    let grammar : IsText c.in-Some.text.now h d = c.in-Ok.ensures in
    record {
      is_reading = record {
        grammar = subst (λ (t : List ℕ). IsText t h d) same grammar;
        clear = c.residue_of.ensures.clear;
        leaves = remainder_unique is_field bech32m.generator _ _ c.residue_of.ensures.residue;
      };
    }
