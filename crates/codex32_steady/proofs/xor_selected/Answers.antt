use Rattle.std.proofs.Common.{◌≡◌, ◌<◌, ◌+◌, ◌*◌, ◌/◌, ◌%◌, ◌^◌, ◌∙◌, ◌-◌, ◌==◌, ℕ, Bool, true, false, bit_and, get_or, ap, arith, eqb, refl, rules}
use Rattle.std.specs.Prelude.{if◌then◌else◌}
use Rattle.std.proofs.lemmas.Bool.{eqb-true}
use lib.Bits.{and_mask, and_zero_r}
use Rattle.bech32_gf.specs.laws.Below.{each_below, each_below-at}
use Rattle.codex32_steady.specs.Masks.{masks_of, repeated_byte}
use Rattle.codex32_steady.proofs.xor_selected.Goals as goal

abbrev is_set : ℕ → ℕ → Bool
is_set i bits = (bits / 2 ^ i) % 2 == 1

abbrev mask : ℕ → ℕ → ℕ
mask i bits = masks_of bits / 2 ^ (8 * i + 8) % 256 * repeated_byte

ones : ℕ → ℕ → ℕ
ones i bits = if is_set i bits then 2 ^ 128 - 1 else 0

masks : (i bits : ℕ) → i < 5 → bits < 32 → mask i bits ≡ ones i bits
unfolding ones
masks i bits hi hb =
    eqb-true _ _
    (each_below-at 32 (λ bits. eqb (mask i bits) (ones i bits))
    (each_below-at 5 (λ i. each_below 32 (λ bits. eqb (mask i bits) (ones i bits))) refl i hi) bits hb)

all_or_none : (w : ℕ) (b : Bool) → w < 2 ^ 128 → bit_and w (if b then 2 ^ 128 - 1 else 0) ≡ (if b then w else 0)
all_or_none w true h = let e : w % 2 ^ 128 ≡ w = omega arith in and_mask w 128 ∙ e
all_or_none w false h = and_zero_r w

chosen : (w i bits : ℕ) → i < 5 → bits < 32 → w < 2 ^ 128 → bit_and w (mask i bits) ≡ (if is_set i bits then w else 0)
unfolding ones
chosen w i bits hi hb h = ap (bit_and w) (masks i bits hi hb) ∙ all_or_none w (is_set i bits) h

pub returns : goal.returns
returns c =
    let b = c.args.bits in
    let small = c.requires in
    let w0 : get_or c.args.words 0 0 < 2 ^ 128 = search rules in
    let w1 : get_or c.args.words 1 0 < 2 ^ 128 = search rules in
    let w2 : get_or c.args.words 2 0 < 2 ^ 128 = search rules in
    let w3 : get_or c.args.words 3 0 < 2 ^ 128 = search rules in
    let w4 : get_or c.args.words 4 0 < 2 ^ 128 = search rules in
    let a = chosen (get_or c.args.words 0 0) 0 b (omega arith) small w0 in
    let d = chosen (get_or c.args.words 1 0) 1 b (omega arith) small w1 in
    let e = chosen (get_or c.args.words 2 0) 2 b (omega arith) small w2 in
    let f = chosen (get_or c.args.words 3 0) 3 b (omega arith) small w3 in
    let g = chosen (get_or c.args.words 4 0) 4 b (omega arith) small w4 in
    rw (c.mask_at.ensures, c.mask_at-2.ensures, c.mask_at-3.ensures, c.mask_at-4.ensures, c.mask_at-5.ensures, c.byte_masks-masks.ensures, a, d, e, f, g) refl
