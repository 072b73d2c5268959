use Rattle.std.specs.Prelude.{map}
use Rattle.std.proofs.Common.{◌≡◌, ℕ, ◌++◌, List, length, take, drop, sym, ap, ◌∙◌, append_assoc, arith}
use Rattle.std.proofs.lemmas.List.{take-append-le, take_all}
use Rattle.bech32_gf.specs.Fe32.{ops}
use Rattle.bech32_gf.specs.declared.gf32.Fe32.{Fe32}
use Rattle.bech32_hrp.specs.Hrp.{lowered}
use Rattle.bech32_checksum.specs.Encoded.{char_of_element}
use Rattle.bech32_correction.specs.MendedElements.{EndsIn, mended}
use Rattle.b32_replies.proofs.correct.append_mended.Goals as goal

-- bytes with a text in lower case behind them end as that does
behind : (old text now bytes slice front : List ℕ) (elements : List Fe32) → slice ≡ now → now ≡ old ++ lowered bytes → bytes ≡ text → EndsIn (lowered text) front elements
    → EndsIn slice (old ++ front) elements
behind old text now bytes slice front elements whole added same ends =
    whole ∙ added ∙ ap (λ (t : List ℕ). old ++ lowered t) same ∙ ap (λ (t : List ℕ). old ++ t) ends ∙ sym (append_assoc old front (map char_of_element elements))

-- this many of the first items are the first list
first_items : (n : ℕ) (xs ys : List ℕ) → length xs ≡ n → take n (xs ++ ys) ≡ xs
first_items n xs ys e = take-append-le n xs ys (omega arith) ∙ take_all n xs (omega arith)

pub mend-requires : goal.mend-requires
mend-requires c =
    let (front, parts) = c.requires.inside in
    let (elements, ends, inside) = parts in
    let old = c.args.out.now.items in
    let here = behind old c.args.text.now _ _ _ front elements c.as_mut_slice.ensures.value c.append_lowered.ensures.items c.as_bytes.ensures.value ends in
    (old ++ front, (elements, here, inside))

pub returns-clause-items : goal.returns-clause-items
returns-clause-items c front elements ends inside =
    let old = c.args.out.now.items in
    let here = behind old c.args.text.now _ _ _ front elements c.as_mut_slice.ensures.value c.append_lowered.ensures.items c.as_bytes.ensures.value ends in
    let size : length c.mend.new.text ≡ c.append_lowered.new.out.len = omega (arith, c.mend.auto.text, ap length c.as_mut_slice.ensures.value, c.append_lowered.new.out.ok.0) in
    first_items c.append_lowered.new.out.len c.mend.new.text (drop (length c.mend.new.text) c.append_lowered.new.out.items) size
    ∙ c.mend.ensures (old ++ front) elements here inside ∙ append_assoc old front (map char_of_element (mended ops c.args.listing.now elements))
