use Rattle.std.proofs.Common.{rules, ℕ, ◌++◌, ◌∷◌, ◌<◌, List, length, map, ap, subst, sym, ◌∙◌}
use Rattle.std.specs.List.{AllByRecursion}
use Rattle.bech32_gf.specs.Fe32.{elements_of, ops}
use Rattle.bech32_gf.specs.declared.gf32.Fe32.{Fe32}
use Rattle.bech32_checksum.specs.Encoded.{char_of_element, spelled}
use Rattle.bech32_correction.specs.MendedElements.{mended}
use Rattle.codex32.specs.Lengths.{may_have}
use Rattle.codex32.specs.ShareParts.{ms}
use Rattle.codex32.specs.Nearest.{AreAdditions}
use Rattle.codex32.proofs.Answered.{few-elements, in_lower_case, placed-from_listed}
use Rattle.codex32.proofs.nearest.nearest_read_in.Goals as goal

pub unreadable_listing_in-requires : goal.unreadable_listing_in-requires
unreadable_listing_in-requires g c = (search rules, (search rules, c.requires))

pub mended_in-requires-clause-few : goal.mended_in-requires-clause-few
mended_in-requires-clause-few g c = few-elements g.Ck.StringChecksum.lengths c.args.part.now c.args.data_part.now c.requires

pub mended_in-requires-clause-of_alphabet : goal.mended_in-requires-clause-of_alphabet
mended_in-requires-clause-of_alphabet g c = c.requires.1.data_bytes

pub mended_in-requires-clause-placed : goal.mended_in-requires-clause-placed
mended_in-requires-clause-placed g c =
    let part = c.args.part.now in
    let data_part = c.args.data_part.now in
    let listed : AreAdditions g.Ck.Checksum.code (part ++ (49 ∷ data_part)) c.args.given.now c.in-Some.listing = rw c.in-Some.is at c.in_ok-listing.ensures in
    subst (λ (l : List (ℕ × Fe32)). AllByRecursion (λ (p : ℕ × Fe32). p.0 < length data_part) l) (sym c.as_slice.ensures)
    (placed-from_listed (may_have g.Ck.StringChecksum.lengths) part data_part c.requires g.Ck.Checksum.code c.args.given.now c.in-Some.listing listed)

pub returns : goal.returns
returns g c =
    let part = c.args.part.now in
    let elements = elements_of c.args.data_part.now in
    record {
      listing = c.in-Some.listing;
      listed = rw c.in-Some.is at c.in_ok-listing.ensures;
      spelling =
          c.in_ok-mended.ensures
          ∙ ap (λ (l : List (ℕ × Fe32)). spelled ms (mended ops l elements)) c.as_slice.ensures
          ∙ ap (λ (h : List ℕ). h ++ (49 ∷ map char_of_element (mended ops c.in-Some.listing elements))) (sym (in_lower_case (may_have g.Ck.StringChecksum.lengths) part c.args.data_part.now c.requires));
    }

pub returns-in_default : goal.returns-in_default
returns-in_default g c = rw c.in_default.is at c.in_ok-listing.ensures
