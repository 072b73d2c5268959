use Rattle.std.proofs.Common.{ℕ, List, min, sym, subst}
use Rattle.bech32_near.specs.search.Sketch.{AreForgotten}
use Rattle.bech32_near.proofs.search.pairs.gather_sketched.Goals as goal

pub returns : goal.returns
returns g c = λ few within wide some two.
    c.add_by_rows.ensures few within wide
    (subst (λ (u : List (ℕ × ℕ)). AreForgotten u (min g.Ck.Checksum.CHECKSUM_LENGTH 12) g.Ck.Checksum.code.generator c.args.corrector.now.erasures) (sym c.deref.ensures.value)
    (subst (λ (s : List ℕ). AreForgotten c.in_ok-rows.rows.items (min g.Ck.Checksum.CHECKSUM_LENGTH 12) g.Ck.Checksum.code.generator s) c.erasures.ensures.value c.in_ok-rows.ensures)) some two
