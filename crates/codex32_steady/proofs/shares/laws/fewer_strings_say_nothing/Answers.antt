use Rattle.std.proofs.Common.{◌∷◌, sym, subst}
use Rattle.bech32_gf.specs.Fe32 as fe32
use Rattle.bech32_gf.specs.laws.Fe32Laws.{is_field}
use Rattle.bech32_checksum.specs.TextPolynomial.{hrp_elements}
use Rattle.codex32_steady.specs.shares.Shares.{IsDerived}
use Rattle.codex32_steady.proofs.OfChecksum.{one, all, back}
use Rattle.codex32_steady.proofs.Strings.{one_secret_string, text_size}
use Rattle.codex32_steady.proofs.shares.laws.fewer_strings_say_nothing.Goals as goal

pub returns : goal.returns
returns c = λ code hrp header n xs ps texts s j v t some once are is.
    let size = text_size is_field (hrp_elements hrp) code.generator code.target header n j v t (one code hrp header n j v t is) in
    let h = one_secret_string is_field (hrp_elements hrp) code.generator code.target header n xs ps texts s j v t some once (all code hrp header n xs ps texts are) (one code hrp header n j v t is) in (
      h.0,
      h.1,
      back code hrp header n s h.0 h.1 h.2,
      subst (λ m. IsDerived fe32.ops (s ∷ xs) (h.1 ∷ texts) m j t) (sym size) h.3,
      λ w b of derived. h.4 w b (one code hrp header n s w b of) (subst (λ m. IsDerived fe32.ops (s ∷ xs) (b ∷ texts) m j t) size derived),
    )
