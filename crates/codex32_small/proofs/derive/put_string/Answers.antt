use Rattle.std.proofs.Common.{◌≡◌, ℕ, length, take, inr, refl, subst, arith}
use Rattle.std.proofs.lemmas.List.{length-map}
use Rattle.bech32_checksum.specs.Encoded.{char_of_element, spelled}
use Rattle.bech32_gf.specs.Fe32 as fe32
use Rattle.codex32.specs.Derive.{count_of, indices_of, rows_of}
use Rattle.codex32_steady.specs.shares.Shares.{IsGiven}
use Rattle.codex32_steady.specs.texts.Parts.{ms}
use Rattle.codex32_small.specs.Parts.{shares_of}
use Rattle.codex32_small.proofs.derive.put_string.Goals as goal

pub returns-then-size-text-clause-refused : goal.returns-then-size-text-clause-refused
returns-then-size-text-clause-refused c =
    let (is, few, whole, given) = c.in-Ok.ensures.outcome in
    let shares = shares_of c.args.parts.now in
    let elements = take c.in-Ok.size c.put_elements.new.room in
    let size : length elements ≡ c.in-Ok.size = given.size in
    inr (
      refl,
      whole,
      spelled ms elements,
      record {
        elements = elements;
        given = subst (λ (n : ℕ). IsGiven fe32.ops (count_of shares) (indices_of shares) (rows_of shares) n c.args.index elements) is given;
        spelling = refl;
      },
      omega (arith, c.if-size-text.true, size, length-map elements char_of_element),
    )
