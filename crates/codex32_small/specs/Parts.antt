-- The data parts of strings, and their shares.
use Rattle.std.specs.Prelude.{◌≡◌, ◌≤◌, ℕ, true, None, List, length, map, refl}
use Rattle.bech32_gf.specs.Alphabet.{is_data}
use Rattle.codex32.specs.Share.{IsShareOf, characters_of_share}
use Rattle.codex32.specs.ShareParts.{payload_in}
use Rattle.codex32.specs.Strings.{header_fault}
use Rattle.codex32.specs.declared.share.Share.{Share}
use Rattle.codex32_small.specs.declared.part.Part.{Part}

-- the text is a string of either length, whose data part has these characters
pub record HasDataPart (text data_part : List ℕ) : Type 0 where
  pub share : Share
  pub is_share : IsShareOf text share
  pub characters : characters_of_share share ≡ data_part
  pub fine : header_fault data_part ≡ None
  pub every : (s : Share) → characters_of_share s ≡ data_part → IsShareOf text s

-- the first six characters of a data part were tested: they are those of a header
pub record HasHeader (data_part : List ℕ) : Type 0 where
  pub size : 6 ≤ length data_part
  pub of_alphabet : is_data data_part ≡ true
  pub tested : header_fault data_part ≡ None

-- the share of a part that is kept
abbrev pub share_of_part : Part → Share
share_of_part p = record {
  header = p.header;
  payload = record { ref_ptr = p.characters.ref_ptr; now = payload_in p.characters.now };
  data_part = p.characters;
  of_alphabet = p.of_alphabet;
  within = p.within;
  has_target = p.has_target;
  header_is = p.header_is;
  payload_is = refl;
}

abbrev pub shares_of : List Part → List Share
shares_of parts = map share_of_part parts
