use Rattle.std.proofs.Common.{rules, ◌≤◌, ◌<◌, ◌∙◌, ℕ, All, Any, get_or, map, ap, subst}
use Rattle.bech32_gf.specs.Fe32.{element}
use Rattle.bech32_decode.proofs.EightAtOnce.{first_eight-is}
use Rattle.bech32_decode.proofs.ValueWords.{all_small, eight_bytes, elements_in, some_high}
use Rattle.bech32_decode.proofs.values.word_of_values.Goals as goal

pub returns-then-bytes-ne0 : goal.returns-then-bytes-ne0
returns-then-bytes-ne0 c =
    let cs = c.args.values.now in
    let bytes = eight_bytes _ (get_or cs 0 0) (get_or cs 1 0) (get_or cs 2 0) (get_or cs 3 0) (get_or cs 4 0) (get_or cs 5 0) (get_or cs 6 0) (get_or cs 7 0) c.from_be_bytes-bytes.ensures in
    subst (Any (λ (x : ℕ). 31 < x)) (first_eight-is cs c.requires) (some_high _ _ _ _ _ _ _ _ _ bytes c.if-bytes-ne0.true)

pub returns : goal.returns
returns c =
    let cs = c.args.values.now in
    let small : (i : ℕ) → get_or cs i 0 < 256 = search rules in
    let bytes = eight_bytes _ (get_or cs 0 0) (get_or cs 1 0) (get_or cs 2 0) (get_or cs 3 0) (get_or cs 4 0) (get_or cs 5 0) (get_or cs 6 0) (get_or cs 7 0) c.from_be_bytes-bytes.ensures in
    let whole = first_eight-is cs c.requires in (
      subst (All (λ (x : ℕ). x ≤ 31)) whole (all_small _ _ _ _ _ _ _ _ _ bytes (small 0) (small 1) (small 2) (small 3) (small 4) (small 5) (small 6) (small 7) c.if-bytes-ne0.false),
      c.packed.ensures.elements ∙ elements_in _ _ _ _ _ _ _ _ _ bytes (small 0) (small 1) (small 2) (small 3) (small 4) (small 5) (small 6) (small 7) ∙ ap (map element) whole,
      c.packed.ensures.small,
    )
