use Rattle.std.proofs.Common.{◌≡◌, ◌<◌, ◌≤◌, ◌+◌, ◌*◌, ◌-◌, ◌/◌, ◌%◌, ◌^◌, ◌++◌, ◌∙◌, ℕ, List, [], ◌∷◌, append-nil, append_assoc, drop, length, ap, refl, subst, sym, arith}
use Rattle.bech32_bits.specs.Bits.{bits, cut_in_eights, fe_bits, to_bytes}
use Rattle.bech32_encode.specs.Buffers.{IsPut}
use Rattle.bech32_encode.proofs.TextPieces.{put_as_fits, put_whole, puts_none, puts_then}
use Rattle.bech32_gf.specs.Fe32.{elements_of, value}
use Rattle.bech32_small.proofs.Regrouped.{more_held, no_more, one_byte, value_at}
use Rattle.bech32_small.proofs.elements.put_bytes.Goals as goal

pub loop-c-init : goal.loop-c-init
loop-c-init c = record {
  few = omega arith;
  small = omega arith;
  smaller = λ less. omega arith;
  put = ([], refl, puts_none [] _ _ refl);
}

pub loop-c-preserved-then-left-lt3 : goal.loop-c-preserved-then-left-lt3
loop-c-preserved-then-left-lt3 c =
    let cs = c.args.characters.now in
    let i = c.loop-c.c-index in
    let less = c.loop-c-test.true in
    let inv = c.loop-c.invariant in
    let is : c.to_u8-element.result ≡ value_at cs i less = c.to_u8-element.ensures ∙ ap value c.from_char_unchecked.ensures in
    let (done, parts, put) = inv.put in
    record {
      few = omega (arith, c.if-left-lt3.true);
      small = omega (arith, inv.smaller c.if-left-lt3.true, is, c.from_char_unchecked.result.in_field);
      smaller = λ few. omega (arith, few);
      put = (
        done,
        ap (λ (n : ℕ). done ++ cut_in_eights (bits (c.loop-c.left + 5) (c.loop-c.held * 32 + n) ++ fe_bits (elements_of (drop (i + 1) cs)))) is
            ∙ ap (λ (l : List ℕ). done ++ cut_in_eights l) (sym (more_held cs i less c.loop-c.left c.loop-c.held)) ∙ parts,
        put,
      );
    }

pub loop-c-preserved : goal.loop-c-preserved
loop-c-preserved c =
    let cs = c.args.characters.now in
    let i = c.loop-c.c-index in
    let less = c.loop-c-test.true in
    let inv = c.loop-c.invariant in
    let is : c.to_u8-element.result ≡ value_at cs i less = c.to_u8-element.ensures ∙ ap value c.from_char_unchecked.ensures in
    let (done, parts, put) = inv.put in
    let held = c.loop-c.held in
    let left = c.loop-c.left in
    let small : c.to_u8-element.result < 32 = omega (arith, is, c.from_char_unchecked.result.in_field) in
    let byte : ℕ = (held * 32 + c.to_u8-element.result) / 2 ^ (left - 3) % 256 in
    let first = one_byte cs i less left held byte (omega (arith, c.if-left-lt3.false)) inv.few
    (ap (λ (n : ℕ). (held * 32 + n) / 2 ^ (left - 3) % 256) is) in
    record {
      few = omega (arith, inv.few);
      small = omega (arith, small);
      smaller = λ few. small;
      put = (
        done ++ byte ∷ [],
        append_assoc done (byte ∷ []) (cut_in_eights (bits (left - 3) c.to_u8-element.result ++ fe_bits (elements_of (drop (i + 1) cs))))
            ∙ ap (λ (n : ℕ). done ++ byte ∷ cut_in_eights (bits (left - 3) n ++ fe_bits (elements_of (drop (i + 1) cs)))) is
            ∙ ap (λ (l : List ℕ). done ++ l) (sym first) ∙ parts,
        puts_then done (byte ∷ []) (done ++ byte ∷ []) c.args.buffer.now c.loop-c.buffer c.put_byte-count.new.buffer 0 c.loop-c.count c.put_byte-count.result refl put c.put_byte-count.ensures,
      );
    }

pub returns : goal.returns
returns c =
    let cs = c.args.characters.now in
    let old = c.args.buffer.now in
    let inv = c.loop-c.invariant in
    let (done, parts, put) = inv.put in
    let all : length cs ≤ c.loop-c.c-index = omega (arith, c.loop-c-test.false) in
    let whole : done ≡ to_bytes (elements_of cs) =
    sym (append-nil done) ∙ ap (λ (l : List ℕ). done ++ l) (sym (no_more cs c.loop-c.c-index c.loop-c.left c.loop-c.held all inv.few)) ∙ parts in
    let room : length done ≤ length old = subst (λ (l : List ℕ). length l ≤ length old) (sym whole) c.requires.room in
    subst (λ (l : List ℕ). IsPut l old c.loop-c.buffer c.loop-c.count) whole
    (put_whole done old c.loop-c.buffer c.loop-c.count (put_as_fits done old c.loop-c.buffer c.loop-c.count put) room)
