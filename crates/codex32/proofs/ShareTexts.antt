-- Each string is that of a share.
use Rattle.std.specs.List.{AllByRecursion}
use Rattle.std.proofs.Common.{◌≡◌, ℕ, ◌+◌, List, [], ◌∷◌, ◌++◌, length, take, refl, sym, ap, ◌∙◌, arith}
use Rattle.std.proofs.lemmas.List.{length-append, length-map}
use Rattle.std.specs.Char.{to_ascii_lowercase}
use Rattle.bech32_gf.specs.Fe32.{elements_of}
use Rattle.codex32.specs.Share.{AreSharesOf, IsEither, IsShareOf}
use Rattle.codex32.specs.ShareParts.{payload_in}
use Rattle.codex32.specs.Strings.{is_within_either}
use Rattle.codex32.specs.declared.share.Share.{Share}
use Rattle.codex32.proofs.OneString.{six}
use Rattle.codex32.proofs.Refused.{lowered_ms}
use Rattle.codex32.proofs.ShareParts.{take_front, target_of_text}
use Rattle.codex32.proofs.ShareStrings.{share_of_text}

share-exists : (text : List ℕ) → IsEither text → (s : Share) × IsShareOf text s
share-exists text (t, i, x, payload, is) =
    let given : List ℕ = is.front ++ (payload ++ is.checksum) in
    let grammar = is.accepted.grammar in
    let low = lowered_ms is.hrp is.is_ms in
    let two : length is.hrp ≡ 2 = sym (length-map is.hrp to_ascii_lowercase) ∙ ap (λ (l : List ℕ). length l) low in
    let size : length text ≡ 3 + length given =
    let both = ap (λ (l : List ℕ). length l) grammar.split ∙ length-append is.hrp (49 ∷ given) in
    omega (arith, both, two) in
    let front : take 6 given ≡ is.front = take_front is.front (payload ++ is.checksum) 6 (six is.front t i x is.header) in
    let s : Share =
    record {
      header = record { threshold = t; identifier = i; share_index = x; unshared = is.unshared };
      payload = record { ref_ptr = (0, 0); now = payload_in given };
      data_part = record { ref_ptr = (0, 0); now = given };
      of_alphabet = grammar.data_bytes;
      within = ap is_within_either (sym size) ∙ is.within;
      has_target = target_of_text text is.hrp given size low is.accepted.has_target;
      header_is = ap elements_of front ∙ is.header;
      payload_is = refl;
    } in
    (s, share_of_text text is.hrp s grammar is.accepted is.is_ms size)

pub shares-exist : (ts : List (List ℕ)) → AllByRecursion IsEither ts → (ss : List Share) × AreSharesOf ts ss
shares-exist [] all = ([], tt)
shares-exist (t ∷ ts) all =
    let first = share-exists t all.0 in
    let rest = shares-exist ts all.1 in
    (first.0 ∷ rest.0, (first.1, rest.1))
