use Rattle.std.specs.Prelude.{◌==◌, ◌&&◌, not}
use Rattle.std.proofs.Common.{◌≡◌, ◌≤◌, ◌∙◌, ℕ, true, get_or, sym, ap, arith}
use Rattle.bech32_decode.proofs.Grammar.{none_first}
use Rattle.bech32_gf.specs.declared.gf32.Fe32.{Fe32}
use Rattle.codex32.specs.HeaderParts.{secret_index, unshared_fault}
use Rattle.codex32.specs.Strings.{share_index_fault, threshold_fault}
use Rattle.codex32.specs.declared.error.HeaderError.{HeaderError}
use Rattle.codex32.specs.declared.threshold.Threshold.{Threshold}
use Rattle.codex32.proofs.Digits.{secret-from_s, threshold-least}
use Rattle.codex32.proofs.Refused.{none_share_index, none_threshold}
use Rattle.std.proofs.Common.{cond, Bool, None, Some}
use Rattle.std.proofs.lemmas.Bool.{cases_Bool, eqb-true}
use Rattle.std.proofs.Common.{inl, inr}
use Rattle.codex32.specs.declared.error.HeaderError.TheVariants.{Unshared}
use Rattle.codex32_small.proofs.derive.header_in.Goals as goal

unshared_none : (t : Threshold) (x : Fe32) (e : HeaderError) → (t.number ≡ 0 → x ≡ secret_index) → unshared_fault t x ≡ Some e → ⊥
unshared_none t x e is h = elim (cases_Bool (t.number == 0)) [
  | inl zero ↦
      let same : x ≡ secret_index = is (eqb-true t.number 0 zero) in
      absurd (let k = sym (ap (λ (b : Bool). cond (b && not (x.value == 16)) (Some Unshared) None) zero ∙ ap (λ (y : Fe32). cond (true && not (y.value == 16)) (Some Unshared) None) same) ∙ h in cc)
  | inr other ↦ absurd (let k = sym (ap (λ (b : Bool). cond (b && not (x.value == 16)) (Some Unshared) None) other) ∙ h in cc)
]

pub unreachable-requires-in-Err : goal.unreachable-requires-in-Err
unreachable-requires-in-Err c =
    let given = c.args.data_part.now in
    let t : ℕ = get_or given 0 0 in
    let x : ℕ = get_or given 5 0 in
    let parts = none_first (threshold_fault t) (share_index_fault t x) c.requires.tested in
    let least : 48 ≤ t = threshold-least t (none_threshold t parts.0) in
    unshared_none c.in-Some.threshold c.from_char_unchecked-share_index.result c.in-Err.field-0
    (λ zero.
    let same : t ≡ 48 = omega (arith, zero, least, c.in-Some.ensures) in
    c.from_char_unchecked-share_index.ensures ∙ secret-from_s x (none_share_index t x parts.1 same))
    c.in-Err.ensures
