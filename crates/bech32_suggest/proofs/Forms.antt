-- An address has one form.
use Rattle.std.proofs.Common.{◌≡◌, ◌⊎◌, ℕ, ◌+◌, List, ◌∷◌, ◌++◌, length, length-append, map, sym, ap, subst, ◌∙◌, arith, ⊎_elim}
use Rattle.std.proofs.lemmas.List.{length-map, map-append}
use Rattle.std.specs.Char.{to_ascii_uppercase}
use Rattle.bech32_gf.specs.Fe32.{element_of, elements_of, value}
use Rattle.bech32_gf.specs.declared.gf32.Fe32.{Fe32}
use Rattle.bech32_bits.specs.Bits.{to_fes, to_bytes, fes_count, bytes_count}
use Rattle.bech32_bits.proofs.RoundTrip.{length-to_fes, length-to_bytes}
use Rattle.bech32_hrp.specs.Hrp.{IsHrp}
use Rattle.bech32_decode.specs.Segwit.{segwit_code, IsAddress, IsAddressText, IsDecodedAddress}
use Rattle.bech32_decode.specs.SegwitParts.{IsReadIn}
use Rattle.bech32_decode.proofs.Addresses.{short}
use Rattle.bech32_decode.proofs.Grammar.{only-from_IsText}
use Rattle.bech32_decode.proofs.Spelling.{IsSpelled, spelled-lower, spelled-raised}
use Rattle.bech32_suggest.specs.Forms.{IsAddressInUse, IsFormInUse}
use Rattle.bech32_refusals.specs.SegwitRules.{key_hash_length, script_hash_length}

same_head : (x y : Fe32) (xs ys : List Fe32) → x ∷ xs ≡ y ∷ ys → x ≡ y
same_head x y xs ys e = cc

-- the elements that an address spells
spells : (text hrp : List ℕ) (version : Fe32) (program : List ℕ) → IsHrp hrp → (a : IsAddress hrp version program text)
    → IsSpelled text hrp ((version ∷ to_fes program) ++ a.address.encoded.checksum)
spells text hrp version program is_hrp a =
    let e = a.address.encoded in
    let fes : List Fe32 = (version ∷ to_fes program) ++ e.checksum in
    ⊎_elim
    (λ (same : text ≡ a.lower). subst (λ (t : List ℕ). IsSpelled t hrp fes) (sym (same ∙ e.spelling)) (spelled-lower hrp fes is_hrp))
    (λ (same : text ≡ map to_ascii_uppercase a.lower). subst (λ (t : List ℕ). IsSpelled t hrp fes) (sym (same ∙ ap (map to_ascii_uppercase) e.spelling)) (spelled-raised hrp fes is_hrp))
    a.in_one_case

-- an address has the version that is read of it, and as many bytes
one_form : (text part : List ℕ) (v : Fe32) (characters : List ℕ) → IsReadIn segwit_code text part v characters
    → (hrp : List ℕ) (version : Fe32) (program : List ℕ) → IsDecodedAddress text hrp version program
    → (version ≡ v) × (length program ≡ length (to_bytes (elements_of characters)))
one_form text part v characters r hrp version program (is_hrp, a) =
    let s = spells text hrp version program is_hrp a in
    let sum = a.address.encoded.checksum in
    let read = elements_of characters in
    let read_sum = elements_of r.before.checksum in
    let one = only-from_IsText text part r.data_part r.accepted.grammar s.part s.data_part s.grammar.split s.grammar.data_bytes in
    let all : (version ∷ to_fes program) ++ sum ≡ (v ∷ read) ++ read_sum =
    sym s.elements ∙ ap elements_of one.1
    ∙ (ap elements_of r.before.data_part_is ∙ map-append element_of r.checked r.before.checksum)
    ∙ ap (λ (l : List Fe32). l ++ read_sum) r.elements in
    let size : length sum ≡ length (segwit_code version).generator = a.address.encoded.is_checksum.size in
    let read_size : length read_sum ≡ length (segwit_code v).generator = length-map r.before.checksum element_of ∙ r.before.size in
    let six : length (segwit_code version).generator ≡ 6 = short version in
    let read_six : length (segwit_code v).generator ≡ 6 = short v in
    let whole : length ((version ∷ to_fes program) ++ sum) ≡ length ((v ∷ read) ++ read_sum) = ap length all in
    let left : length ((version ∷ to_fes program) ++ sum) ≡ length (version ∷ to_fes program) + length sum = length-append (version ∷ to_fes program) sum in
    let right : length ((v ∷ read) ++ read_sum) ≡ length (v ∷ read) + length read_sum = length-append (v ∷ read) read_sum in
    let elements : length (to_fes program) ≡ fes_count 0 (length program) = length-to_fes program in
    let bytes : length (to_bytes read) ≡ bytes_count 0 (length read) = length-to_bytes read in
    (same_head version v (to_fes program ++ sum) (read ++ read_sum) all, omega arith)

-- so has an address of a form in use
pub read_in_use : (text part : List ℕ) (v : Fe32) (characters : List ℕ) → IsReadIn segwit_code text part v characters → IsAddressInUse text
    → IsFormInUse v (to_bytes (elements_of characters))
read_in_use text part v characters r (hrp, version, program, is, form) =
    let one = one_form text part v characters r hrp version program is in
    subst (λ (n : ℕ). ((value v ≡ 0) × ((n ≡ key_hash_length) ⊎ (n ≡ script_hash_length))) ⊎ ((value v ≡ 1) × (n ≡ 32))) one.1
    (subst (λ (x : Fe32). IsFormInUse x program) one.0 form)

-- it is an address
pub address_text : (text : List ℕ) → IsAddressInUse text → IsAddressText text
address_text text (hrp, version, program, is, form) = (hrp, version, program, is.0, is.1)
