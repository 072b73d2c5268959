-- Where the good answer is right, no other is.
use Rattle.std.specs.List.{AllByRecursion}
use Rattle.std.specs.Char.{to_ascii_uppercase}
use Rattle.std.specs.Fmt.{decimal}
use Rattle.std.proofs.Common.{◌≡◌, ◌⊎◌, ◌<◌, ◌≤◌, ℕ, inl, inr, List, [], ◌∷◌, ◌++◌, Some, Err, length, map, refl, sym, ap, subst, ◌∙◌, ⊎_elim, arith}
use Rattle.std.proofs.lemmas.Fmt.{decimal_injective}
use Rattle.bech32_gf.specs.Fe32.{ops, path}
use Rattle.bech32_gf.specs.declared.gf32.Fe32.{Fe32}
use Rattle.bech32_bits.specs.Bits.{to_fes}
use Rattle.bech32_checksum.specs.Code.{Code, bech32, bech32m}
use Rattle.bech32_checksum.specs.Roots.{singleton_bound}
use Rattle.bech32_bch.specs.Erasures.{with_erasures}
use Rattle.bech32_bch.specs.Pattern.{Solves}
use Rattle.bech32_hrp.specs.Hrp.{IsHrp}
use Rattle.bech32_hrp.proofs.HrpTexts.{hrp_refusal-none}
use Rattle.bech32_decode.specs.Acceptance.{Accepts, IsAcceptedByEither}
use Rattle.bech32_decode.specs.Segwit.{IsAddressText, IsSegwitRefusal}
use Rattle.bech32_decode.specs.Text.{IsInGrammar}
use Rattle.bech32_decode.proofs.Addresses.{not_refused, parts-from_address}
use Rattle.bech32_decode.proofs.Spelling.{IsSpelled, spelled-lower, spelled-raised}
use Rattle.bech32_refusals.specs.declared.error.SegwitHrpstringError.TheVariants.{Memory}
use Rattle.bech32_encode.specs.TextLength.{encoded_length_of}
use Rattle.bech32.proofs.Decoding.{decoded-from_refusal}
use Rattle.bech32_correction.specs.Mistyped.{AreInside, HasNoListing, IsListingOf}
use Rattle.bech32_segwit.specs.SegwitEncoding.{HasAddress}
use Rattle.bech32_segwit.proofs.SegwitEncoding.{exists-from_outcome}
use Rattle.bech32_numbers.specs.Numbers.{number_of_address_error, number_of_decode_error, number_of_segwit_encode_error}
use Rattle.line_program.specs.Refused.{SaysRefusal, err}
use Rattle.b32_replies.specs.Hex.{bytes_of}
use Rattle.b32_replies.specs.Locations.{AreLocations}
use Rattle.b32_replies.specs.Reply.{IsEncodedAddressFault, IsCorrectAnswer, IsCorrectAtAnswer, IsDecodeAnswer, IsEncodeAnswer, IsSegwitDecodeAnswer, IsSegwitEncodeAnswer, IsVersionWord, SaysAddress, SaysBytes, SaysFine, SaysMended, SaysNone, SaysProgram, SaysText}
use Rattle.b32_replies.proofs.Unrefused.{IsUtf8-from_grammar, accepted_unrefused, grammar-from_accepts, not_both, one_residue, residue_unrefused}

-- ---- `encode`

pub encoded : (code : Code) (hrp hex bytes said : List ℕ) → bytes_of hex ≡ Some bytes → IsHrp hrp → encoded_length_of code hrp (to_fes bytes) ≤ code.code_length → IsEncodeAnswer code hrp hex said
    → SaysText code hrp bytes said
encoded code hrp hex bytes said read is fits answer =
    ⊎_elim (λ (s : SaysText code hrp bytes said). s)
    (λ (over : (code.code_length < encoded_length_of code hrp (to_fes bytes)) × (said ≡ err 51)). let long : code.code_length < encoded_length_of code hrp (to_fes bytes) = over.0 in absurd (omega arith))
    (rw (read, hrp_refusal-none hrp is) at answer)

-- ---- `decode`

pub decoded : (text said : List ℕ) → IsAcceptedByEither text → IsDecodeAnswer text said → SaysBytes text said ⊎ (said ≡ err 91)
decoded text said a (inl s) = inl s
decoded text said a (inr r) =
    inr (r.spelling ∙ ap (λ e. err (number_of_decode_error e)) (decoded-from_refusal {D = ℕ} text (IsUtf8-from_grammar text grammar) (Err r.error) r.is_refusal a))
  where
    grammar : IsInGrammar text
    grammar = ⊎_elim (grammar-from_accepts bech32m text) (grammar-from_accepts bech32 text) a

-- ---- `segwit-encode`

one_version : (word : List ℕ) (v w : Fe32) → IsVersionWord word v → IsVersionWord word w → v ≡ w
one_version word v w is also = let small = v.in_field in let few = w.in_field in path v w (decimal_injective v.value w.value (omega arith) (omega arith) (sym is ∙ also))

no_other_address : (hrp : List ℕ) (version : Fe32) (program said : List ℕ) → HasAddress hrp version program
    → SaysRefusal (IsEncodedAddressFault hrp version program) number_of_segwit_encode_error said → ⊥
no_other_address hrp version program said a r =
    r.is_refusal.1 (exists-from_outcome {S = ℕ} hrp version program (Err r.error) r.is_refusal.0 a)

pub address_encoded : (hrp word hex : List ℕ) (version : Fe32) (program said : List ℕ) → IsVersionWord word version → bytes_of hex ≡ Some program → IsHrp hrp → HasAddress hrp version program
    → IsSegwitEncodeAnswer hrp word hex said → SaysAddress hrp version program said
address_encoded hrp word hex version program said is read part a (inl bad) = absurd (bad.0 version is)
address_encoded hrp word hex version program said is read part a (inr (v, w, answer)) =
    ⊎_elim (λ (s : SaysAddress hrp version program said). s)
    (λ (r : SaysRefusal (IsEncodedAddressFault hrp version program) number_of_segwit_encode_error said). absurd (no_other_address hrp version program said a r))
    (rw (one_version word v version w is, read, hrp_refusal-none hrp part) at answer)

-- ---- `segwit-decode`

grammar-from_address : (text : List ℕ) → IsAddressText text → IsInGrammar text
grammar-from_address text (hrp, version, program, is, a) =
    let e = a.address.encoded in
    let fes : List Fe32 = (version ∷ to_fes program) ++ e.checksum in
    let s : IsSpelled text hrp fes =
    ⊎_elim (λ (same : text ≡ a.lower). subst (λ (t : List ℕ). IsSpelled t hrp fes) (sym (same ∙ e.spelling)) (spelled-lower hrp fes is))
    (λ (same : text ≡ map to_ascii_uppercase a.lower). subst (λ (t : List ℕ). IsSpelled t hrp fes) (sym (same ∙ ap (map to_ascii_uppercase) e.spelling)) (spelled-raised hrp fes is))
    a.in_one_case in
    (s.part, s.data_part, s.grammar)

pub address_decoded : (text said : List ℕ) → IsAddressText text → IsSegwitDecodeAnswer text said → SaysProgram text said ⊎ (said ≡ err 91)
address_decoded text said a (inl s) = inl s
address_decoded text said a (inr r) =
    ⊎_elim
    (λ (h : IsSegwitRefusal text r.error.0). absurd (not_refused text (parts-from_address text a) r.error.0 (IsUtf8-from_grammar text (grammar-from_address text a)) h))
    (λ (m : (r.error.0 ≡ Memory) × IsAddressText text). inr (r.spelling ∙ ap (λ e. err (number_of_address_error e)) m.0))
    r.is_refusal

-- ---- `correct`

-- a text that has a listing does not lack one
not_unlisted : (code : Code) (n : ℕ) (text given : List ℕ) (listing : List (ℕ × Fe32)) → IsListingOf code n text given listing → HasNoListing code n text given → ⊥
not_unlisted code n text given listing h none =
    let s = with_erasures [] given in
    let one = one_residue code text h.hrp h.data_part h.residue none.hrp none.data_part none.residue h.refused.read none.refused.read in
    let here : Solves ops code.generator h.residue s (length none.data_part) n h.only.pattern =
    subst (λ (d : List ℕ). Solves ops code.generator h.residue s (length d) n h.only.pattern) one.0 h.only.explains in
    none.none (subst (λ (d : List ℕ). AreInside d given) one.0 h.inside) h.only.pattern (record {
      pattern = here.pattern;
      remainder = (here.remainder.0, here.remainder.1, λ i. here.remainder.2 i ∙ one.1 i);
      few = here.few;
    })

module _ (code : Code) (text given said : List ℕ) where
  pub fine : Accepts code text → IsCorrectAnswer code text given said → SaysFine code text said
  fine a (inl s) = s
  fine a (inr (inl m)) = let l = m.is_listing in absurd (not_both code text l.hrp l.data_part l.residue a l.refused)
  fine a (inr (inr (inl s))) = let n = s.none in absurd (not_both code text n.hrp n.data_part n.residue a n.refused)
  fine a (inr (inr (inr r))) = absurd (accepted_unrefused code text r.error a r.is_refusal.0)

  pub mends : (listing : List (ℕ × Fe32)) → IsListingOf code (singleton_bound 24 26) text given listing → IsCorrectAnswer code text given said → SaysMended code text given said
  mends listing l (inl s) = absurd (not_both code text l.hrp l.data_part l.residue s.accepted l.refused)
  mends listing l (inr (inl m)) = m
  mends listing l (inr (inr (inl s))) = absurd (not_unlisted code (singleton_bound 24 26) text given listing l s.none)
  mends listing l (inr (inr (inr r))) = absurd (residue_unrefused code text l.hrp l.data_part l.residue r.error l.refused.read r.is_refusal)

  pub lacks : HasNoListing code (singleton_bound 24 26) text given → IsCorrectAnswer code text given said → SaysNone code text given said
  lacks n (inl s) = absurd (not_both code text n.hrp n.data_part n.residue s.accepted n.refused)
  lacks n (inr (inl m)) = absurd (not_unlisted code (singleton_bound 24 26) text given m.listing m.is_listing n)
  lacks n (inr (inr (inl s))) = s
  lacks n (inr (inr (inr r))) = absurd (residue_unrefused code text n.hrp n.data_part n.residue r.error n.refused.read r.is_refusal)

-- ---- a word lists one list of locations

same_first : (a b : List ℕ) (p q : List (List ℕ)) → a ∷ p ≡ b ∷ q → a ≡ b
same_first a b p q e = cc

same_others : (a b : List ℕ) (p q : List (List ℕ)) → a ∷ p ≡ b ∷ q → p ≡ q
same_others a b p q e = cc

same_cons : (x y : ℕ) (xs ys : List ℕ) → x ≡ y → xs ≡ ys → x ∷ xs ≡ y ∷ ys
same_cons x y xs ys e f = cc

same_numbers : (xs ys : List ℕ) → AllByRecursion (λ i. i ≤ 1022) xs → AllByRecursion (λ i. i ≤ 1022) ys → map decimal xs ≡ map decimal ys → xs ≡ ys
same_numbers [] [] a b e = refl
same_numbers [] (y ∷ ys) a b e = absurd (cc)
same_numbers (x ∷ xs) [] a b e = absurd (cc)
same_numbers (x ∷ xs) (y ∷ ys) a b e =
    let small : x ≤ 1022 = a.0 in
    let few : y ≤ 1022 = b.0 in
    same_cons x y xs ys
    (decimal_injective x y (omega arith) (omega arith) (same_first (decimal x) (decimal y) (map decimal xs) (map decimal ys) e))
    (same_numbers xs ys a.1 b.1 (same_others (decimal x) (decimal y) (map decimal xs) (map decimal ys) e))

pub one_list : (word xs ys : List ℕ) → AreLocations word xs → AreLocations word ys → xs ≡ ys
one_list word xs ys a b = same_numbers xs ys a.below b.below (sym a.pieces_are ∙ b.pieces_are)

pub at_locations : (code : Code) (text word given said : List ℕ) → AreLocations word given → IsCorrectAtAnswer code text word said → IsCorrectAnswer code text given said
at_locations code text word given said are (inl none) = absurd (none.0 given are)
at_locations code text word given said are (inr (others, also, answer)) =
    subst (λ g. IsCorrectAnswer code text g said) (one_list word others given also are) answer
