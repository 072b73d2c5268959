use Rattle.std.proofs.Common.{ℕ, List, subst, sym}
use Rattle.bech32_gf.specs.declared.gf32.Fe32.{Fe32}
use Rattle.bech32_correction.specs.Mistyped.{IsPlacedIn}
use Rattle.bech32_correction.proofs.one_call.mended_by.Goals as goal

pub mended_in-requires : goal.mended_in-requires
mended_in-requires g c = subst (λ (l : List (ℕ × Fe32)). IsPlacedIn c.args.text.now l) (sym c.as_slice.ensures) c.requires
