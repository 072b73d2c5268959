use Rattle.std.proofs.Common.{◌∷◌, sym, subst}
use Rattle.bech32_gf.specs.Fe32 as fe32
use Rattle.bech32_gf.specs.laws.Fe32Laws.{is_field}
use Rattle.bech32_checksum.specs.TextPolynomial.{hrp_elements}
use Rattle.codex32_steady.specs.shares.Shares.{AreDerived}
use Rattle.codex32_steady.proofs.Dealt.{one_dealing_of_strings}
use Rattle.codex32_steady.proofs.OfChecksum.{one, all, back_all}
use Rattle.codex32_steady.proofs.Strings.{text_size}
use Rattle.codex32_steady.proofs.shares.laws.each_secret_has_one_dealing_of_strings.Goals as goal

pub returns : goal.returns
returns c = λ code hrp header n s ds bs q u ps v once apart same some is are.
    let these = one code hrp header n s q u is in
    let size = text_size is_field (hrp_elements hrp) code.generator code.target header n s q u these in
    let h = one_dealing_of_strings is_field (hrp_elements hrp) code.generator code.target header n s q u ds bs ps v once apart same some these (all code hrp header n bs ps v are) in (
      h.0,
      (back_all code hrp header n ds h.0.0 h.0.1 h.1.0, subst (λ m. AreDerived fe32.ops (s ∷ ds) (u ∷ h.0.1) m bs v) (sym size) h.1.1),
      λ b g. h.2 b (all code hrp header n ds b.0 b.1 g.0, subst (λ m. AreDerived fe32.ops (s ∷ ds) (u ∷ b.1) m bs v) size g.1),
    )
