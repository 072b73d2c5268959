use Rattle.std.proofs.Common.{◌≡◌, ◌+◌, ℕ, List, true, length, sym, ap, subst, refl, arith}
use Rattle.bech32_gf.specs.Alphabet.{is_data}
use Rattle.codex32.proofs.ShareParts.{fits}
use Rattle.codex32.specs.ShareParts.{HasTarget}
use Rattle.codex32.specs.Strings.{is_within_either}
use Rattle.codex32_small.specs.Parts.{share_of_part}
use Rattle.codex32_small.proofs.derive.part_of.Goals as goal

pub header_in-requires : goal.header_in-requires
header_in-requires c =
    let has = c.in_ok-characters.ensures in
    let long = fits (3 + length has.share.data_part.now) has.share.within in
    record {
      size = omega (arith, long.least, ap (λ (l : List ℕ). length l) has.characters);
      of_alphabet = subst (λ (l : List ℕ). is_data l ≡ true) has.characters has.share.of_alphabet;
      tested = has.fine;
    }

pub invariant_of-result : goal.invariant_of-result
invariant_of-result c =
    let has = c.in_ok-characters.ensures in
    record {
      of_alphabet = subst (λ (l : List ℕ). is_data l ≡ true) has.characters has.share.of_alphabet;
      within = subst (λ (l : List ℕ). is_within_either (3 + length l) ≡ true) has.characters has.share.within;
      has_target = subst HasTarget has.characters has.share.has_target;
      header_is = sym c.header_in.ensures;
    }

pub returns : goal.returns
returns c = let has = c.in_ok-characters.ensures in has.every (share_of_part _) refl
