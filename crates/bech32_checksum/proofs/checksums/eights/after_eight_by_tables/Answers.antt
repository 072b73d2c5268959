use Rattle.std.proofs.Common.{◌≡◌, ◌∷◌, [], ℕ, length, get_or, refl, sym, ap, ◌∙◌, arith}
use Rattle.bech32_checksum.specs.declared.checksums.eights.TheConstants.{TIMES_X7}
use Rattle.bech32_checksum.specs.declared.checksums.products.TheConstants.{PRODUCTS}
use Rattle.bech32_checksum.proofs.EightSteps.{eight_are, eight_after, row_is}
use Rattle.bech32_checksum.proofs.EightTables.{tables_are, times_x6-next, times_x6-lowest}
use Rattle.bech32_checksum.proofs.checksums.eights.after_eight_by_tables.Goals as goal

pub returns : goal.returns
returns x =
    let size : length x.args.elements ≡ 8 = omega arith in
    let a = get_or x.args.elements 0 x.index-elements-0.result in
    let b = get_or x.args.elements 1 x.index-elements-1.result in
    let c = get_or x.args.elements 2 x.index-elements-2.result in
    let d = get_or x.args.elements 3 x.index-elements-3.result in
    let e = get_or x.args.elements 4 x.index-elements-4.result in
    let f = get_or x.args.elements 5 x.index-elements-5.result in
    let g = get_or x.args.elements 6 x.index-elements-6.result in
    let h = get_or x.args.elements 7 x.index-elements-7.result in
    let all : x.args.elements ≡ a ∷ b ∷ c ∷ d ∷ e ∷ f ∷ g ∷ h ∷ [] =
    eight_are x.args.elements a b c d e f g h _ _ _ _ _ _ _ _ size refl refl refl refl refl refl refl refl in
    let both = eight_after x.args.residue x.args.elements a b c d e f g h _ _ _ x.row_of.result all x.requires
    (sym (tables_are x.args.residue x.requires))
    (ap (λ (i : ℕ). get_or TIMES_X7 i 0) x.to_u8.ensures ∙ sym (times_x6-next a.value a.in_field))
    (ap (λ (i : ℕ). get_or PRODUCTS i 0) x.to_u8-2.ensures ∙ sym (times_x6-lowest b.value b.in_field))
    (x.row_of.ensures ∙ sym (row_is c.value d.value e.value f.value g.value h.value)) in
    record { clear = both.0; after = both.1 }
