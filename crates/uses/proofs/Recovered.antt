-- Of strings that are recovered.
use Rattle.std.specs.List.{list_all}
use Rattle.std.specs.Prelude.{nat_lt, true, IfSome}
use Rattle.std.proofs.Common.{◌≡◌, ℕ, List, [], ◌∷◌, ◌++◌, inl, length, map, take, Option, Some, None, refl, sym, ap, subst, ◌∙◌, arith}
use Rattle.bech32_hrp.specs.Hrp.{lowered}
use Rattle.bech32_bits.specs.Bits.{to_bytes, to_fes}
use Rattle.bech32_bits.proofs.RoundTrip.{to_bytes-to_fes}
use Rattle.bech32_gf.specs.Fe32.{elements_of}
use Rattle.bech32_gf.specs.declared.gf32.Fe32.{Fe32}
use Rattle.bech32_checksum.specs.Encoded.{char_of_element, spelled}
use Rattle.bech32_decode.proofs.Spelling.{characters-elements, lower_text, spelled-text}
use Rattle.codex32.specs.Derive.{DoContradict, IsDerivedString, IsUnshared, IsWholeSet}
use Rattle.codex32.specs.Encode.{IsEncodedString}
use Rattle.codex32.specs.Header.{header_elements, identifier_of_header, share_index_of_header, threshold_of_header}
use Rattle.codex32.specs.HeaderParts.{secret_index, threshold_number}
use Rattle.codex32.specs.Share.{IsShareOf, IsShareString, bytes_of_share, identifier_of_share, index_of_share, payload_of_share, threshold_of_share}
use Rattle.codex32.specs.ShareParts.{ms}
use Rattle.codex32.specs.Split.{Recovers, text_at}
use Rattle.codex32.specs.declared.header.Header.{Header}
use Rattle.codex32.specs.declared.share.Share.{Share}
use Rattle.codex32.specs.declared.identifier.Identifier.{Identifier}
use Rattle.codex32.specs.declared.threshold.Threshold.{Threshold}
use Rattle.codex32.proofs.OneString as sets
use Rattle.codex32.proofs.ShareStrings.{hrp_of_strings}

-- of a whole set the secret may be asked for
pub at_secret : (ss : List Share) (x : Fe32) → IsWholeSet ss x → IsWholeSet ss secret_index
at_secret ss x whole = record { set = whole.set; once = whole.once; shared = λ u. shared ss u; enough = whole.enough }
  where
    shared : (ss : List Share) → IsUnshared ss secret_index → ⊥
    shared [] u = u
    shared (s ∷ ss) u = u.1 refl

spelled_low : (es : List Fe32) → lowered (spelled ms es) ≡ spelled ms es
spelled_low es = lower_text (spelled ms es) (lowered ms) (map char_of_element es) (spelled-text ms es hrp_of_strings) ∙ ap (spelled ms) (characters-elements es)

-- a string that is made is in lower case
pub encoded_low : (header : Header) (bytes text : List ℕ) → IsEncodedString header bytes text → lowered text ≡ text
encoded_low header bytes text is = ap lowered is.spelling ∙ spelled_low ((header_elements header ++ to_fes bytes) ++ is.checksum) ∙ sym is.spelling

-- what two derived strings give at the index of the secret is the secret's own string
pub same_text : (own other one two : Share) (x y : Fe32) (own_text first second text : List ℕ) (header : Header) (bytes payload : List ℕ) → share_index_of_header header ≡ secret_index
    → IsEncodedString header bytes own_text → IsShareString own_text (threshold_of_header header) (identifier_of_header header) (share_index_of_header header) payload → IsShareOf own_text own
    → IsWholeSet (own ∷ other ∷ []) x → (DoContradict (own ∷ other ∷ []) → ⊥) → IsDerivedString (own ∷ other ∷ []) x first → IsShareOf first one
    → IsWholeSet (own ∷ other ∷ []) y → IsDerivedString (own ∷ other ∷ []) y second → IsShareOf second two
    → IsWholeSet (one ∷ two ∷ []) secret_index → IsDerivedString (one ∷ two ∷ []) secret_index text → text ≡ own_text
same_text own other one two x y own_text first second text header bytes payload secret encoded string of whole_x consistent derived_x of_one whole_y derived_y of_two known recovered =
    let dealt : List Share = own ∷ other ∷ [] in
    let whole = at_secret dealt x whole_x in
    let given_one = (sets.read dealt x first one whole_x derived_x of_one).1 in
    let given_two = (sets.read dealt y second two whole_y derived_y of_two).1 in
    let given : IsDerivedString dealt secret_index text = (sets.same dealt (one ∷ two ∷ []) secret_index text whole consistent known (given_one, (given_two, tt))).0 recovered in
    let index : index_of_share own ≡ secret_index =
    (sets.same_parts own_text (threshold_of_share own) (threshold_of_header header) (identifier_of_share own) (identifier_of_header header) (index_of_share own) (share_index_of_header header) (payload_of_share own) payload of.is_string string).2 ∙ secret in
    let low : IsDerivedString dealt secret_index (lowered own_text) = subst (λ z. IsDerivedString dealt z (lowered own_text)) index (sets.own_text dealt x own own_text whole_x consistent (inl refl) of) in
    let only = sets.one dealt secret_index whole consistent in
    only.2 text given ∙ sym (only.2 (lowered own_text) low) ∙ encoded_low header bytes own_text encoded

-- two shares of a secret that is split give its bytes
pub given_bytes : (t : Threshold) (i : Identifier) (secret : List ℕ) (n : ℕ) (texts : List ℕ) (first third own : Share) (text : List ℕ) → Recovers t i secret 3 n texts → threshold_number t ≡ 2
    → IsShareOf (text_at n texts 0) first → IsShareOf (text_at n texts 2) third → IsWholeSet (first ∷ third ∷ []) secret_index → IsDerivedString (first ∷ third ∷ []) secret_index text → IsShareOf text own
    → bytes_of_share own ≡ secret
given_bytes t i secret n texts first third own text recovers two of_first of_third whole derived of =
    let shares : List Share = first ∷ third ∷ [] in
    let give = recovers shares ((0, omega arith, of_first), ((2, omega arith, of_third), tt)) whole.once (omega (arith, two)) in
    let only = sets.one shares secret_index give.whole give.agree in
    let same : text ≡ give.own = only.2 text derived ∙ sym (only.2 give.own give.is_derived) in
    give.is_read own (subst (λ (u : List ℕ). IsShareOf u own) same of)

-- the bytes of a string of bytes
pub same_bytes : (text bytes payload : List ℕ) (s : Share) (t : Threshold) (i : Identifier) (x : Fe32) → IsShareOf text s → IsShareString text t i x payload → elements_of payload ≡ to_fes bytes
    → list_all (λ b. nat_lt b 256) bytes ≡ true → bytes_of_share s ≡ bytes
same_bytes text bytes payload s t i x of string elements below =
    ap (λ (p : List ℕ). to_bytes (elements_of p)) (sets.same_parts text (threshold_of_share s) t (identifier_of_share s) i (index_of_share s) x (payload_of_share s) payload of.is_string string).3
    ∙ ap to_bytes elements ∙ to_bytes-to_fes bytes below

-- of whatever share a text has, the bytes are those
pub bytes-given : {V : Type 0} (items : V → List ℕ) (text secret : List ℕ) (r : Option V) → IfSome r (λ v. (s : Share) × IsShareOf text s × (items v ≡ bytes_of_share s)) → ((s : Share) → IsShareOf text s → bytes_of_share s ≡ secret)
    → IfSome r (λ v. items v ≡ secret)
bytes-given items text secret (Some v) h same = h.2 ∙ same h.0 h.1
bytes-given items text secret None h same = tt

-- what is put into a buffer of as many bytes
pub taken_front : (n : ℕ) (b rest behind new : List ℕ) → n ≡ length b → new ≡ b ++ rest → take n (new ++ behind) ≡ b
taken_front n b rest behind new e h = ap (λ (k : ℕ). take k (new ++ behind)) e ∙ ap (λ (u : List ℕ). take (length b) (u ++ behind)) h ∙ go b
  where
    go : (b : List ℕ) → take (length b) ((b ++ rest) ++ behind) ≡ b
    go [] = refl
    go (c ∷ cs) = ap (λ (u : List ℕ). c ∷ u) (go cs)
