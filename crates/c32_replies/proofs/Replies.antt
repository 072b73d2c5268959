-- What may be said of a line.
use Rattle.std.specs.Prelude.{◌||◌, true}
use Rattle.std.proofs.Common.{◌≡◌, ℕ, ◌≤◌, ◌<◌, inl, inr, List, [], ◌∷◌, ◌++◌, length, refl, codes, arith, length-append, subst, Some, None, Result}
use Rattle.bech32_gf.specs.Fe32.{path}
use Rattle.bech32_gf.specs.declared.gf32.Fe32.{Fe32}
use Rattle.b32_replies.specs.Hex.{bytes_of, hex_of}
use Rattle.b32_replies.proofs.Sizes.{length-hex_of}
use Rattle.codex32.specs.Derive.{IsDerivedString, IsStringOfSet, IsWholeSet}
use Rattle.codex32.specs.Encode.{IsEncodeStringRefusal, IsEncodedString, is_byte_count, is_long_byte_count}
use Rattle.codex32.specs.Header.{identifier_of_header, share_index_of_header, threshold_of_header}
use Rattle.codex32.specs.HeaderParts.{header_word_fault, secret_index, share_index_of_word, share_index_word_fault}
use Rattle.codex32.specs.Nearest.{IsProposeRefusal}
use Rattle.codex32.specs.Share.{AreSharesOf, IsShareOf, IsShareString, bytes_of_share, identifier_of_share, index_of_share, payload_of_share, threshold_of_share}
use Rattle.codex32.specs.ShareParts.{bits_left_over}
use Rattle.codex32.specs.Strings.{IsStringRefusal}
use Rattle.codex32.specs.declared.error.Codex32Error.{Codex32Error}
use Rattle.codex32.specs.declared.error.EncodeError.{EncodeError}
use Rattle.codex32.specs.declared.error.PayloadError.{PayloadError}
use Rattle.codex32.specs.declared.header.Header.{Header}
use Rattle.codex32.specs.declared.share.Share.{Share}
use Rattle.line_program.specs.Added.{Adds, AddsOrRefuses}
use Rattle.line_program.proofs.Replied.{adds_or_refuses-weaker}
use Rattle.line_program.specs.Refused.{err}
use Rattle.codex32.specs.Numbers.{number_of_codex32_encode_error, number_of_codex32_error, number_of_payload_error}
use Rattle.c32_replies.specs.Numbers.{number_of_codex32_reply}
use Rattle.c32_replies.specs.Reply.{AreWordsOf, IsDeriveAnswer, IsEncodeStringAnswer, IsParseAnswer, IsProposeAnswer, IsShareAnswer, IsSharesAnswer, header_words}
use Rattle.c32_replies.specs.declared.refusal.Refusal.{Refusal}
use Rattle.c32_replies.specs.declared.refusal.Refusal.TheVariants as refusals
use Rattle.c32_replies.proofs.Sizes.{bytes-few, header_words-size, string-size}

-- a text that is not a codex32 string
pub says-no_string : (text : List ℕ) (e : Codex32Error) → IsStringRefusal text e → IsParseAnswer text (err (number_of_codex32_error e))
says-no_string text e h = inr (record { error = e; is_refusal = h; spelling = refl })

-- a text of which no nearest one is looked for
pub says-not_looked : (text : List ℕ) (e : Codex32Error) → IsProposeRefusal text e → IsProposeAnswer text (err (number_of_codex32_error e))
says-not_looked text e h = inr (inr (record { error = e; is_refusal = h; spelling = refl }))

-- ---- shares

pub says-share : (text old new : List ℕ) (s : Share) → IsShareOf text s → bits_left_over (length (payload_of_share s)) ≤ 4
    → new ≡ old ++ (codes "ok " ++ (header_words (threshold_of_share s) (identifier_of_share s) (index_of_share s) ++ hex_of (bytes_of_share s)))
    → Adds (IsShareAnswer text) old new
says-share text old new s h few added =
    let front = header_words (threshold_of_share s) (identifier_of_share s) (index_of_share s) in
    let bytes = bytes_of_share s in
    record {
      said = codes "ok " ++ (front ++ hex_of bytes);
      says = inl (record {
        threshold = threshold_of_share s;
        identifier = identifier_of_share s;
        share_index = index_of_share s;
        payload = payload_of_share s;
        is_string = h.is_string;
        few = few;
        spelling = refl;
      });
      size = omega (
        arith,
        bytes-few s,
        length-hex_of bytes,
        header_words-size (threshold_of_share s) (identifier_of_share s) (index_of_share s),
        length-append front (hex_of bytes),
      );
      added = added;
    }

pub says-left_over : (text : List ℕ) (s : Share) (e : PayloadError) → IsShareOf text s → 4 < bits_left_over (length (payload_of_share s)) → IsShareAnswer text (err (number_of_payload_error e))
says-left_over text s e h many = inr (record {
  error = refusals.Payload e;
  is_refusal = (threshold_of_share s, identifier_of_share s, index_of_share s, payload_of_share s, h.is_string, many);
  spelling = refl;
})

-- ---- strings of bytes

module _ (threshold identifier share_index hex : List ℕ) where
  pub says-not_encoded : (bytes : List ℕ) (e : EncodeError) → bytes_of hex ≡ Some bytes → header_word_fault threshold identifier share_index ≡ None → IsEncodeStringRefusal (length bytes) e
      → IsEncodeStringAnswer threshold identifier share_index hex (err (number_of_codex32_encode_error e))
  says-not_encoded bytes e digits fine h = inr (record { error = refusals.Encode e; is_refusal = (bytes, digits, fine, h); spelling = refl })

  pub says-encoded : (header : Header) (bytes text payload old new : List ℕ) → AreWordsOf threshold identifier share_index header → header_word_fault threshold identifier share_index ≡ None
      → bytes_of hex ≡ Some bytes → is_byte_count (length bytes) || is_long_byte_count (length bytes) ≡ true → IsEncodedString header bytes text → IsShareString text (threshold_of_header header) (identifier_of_header header) (share_index_of_header header) payload
      → new ≡ old ++ (codes "ok " ++ text) → Adds (IsEncodeStringAnswer threshold identifier share_index hex) old new
  says-encoded header bytes text payload old new words fine digits counted is string added = record {
    said = codes "ok " ++ text;
    says = inl (record { header = header; words = words; fine = fine; bytes = bytes; digits = digits; counted = counted; text = text; is_encoded = is; spelling = refl });
    size = omega (arith, string-size text _ _ _ payload string);
    added = added;
  }

-- ---- strings from shares

set-size : (shares : List Share) (x : Fe32) (text : List ℕ) → IsStringOfSet shares x text → length text ≤ 127
set-size [] x text h = absurd h
set-size (s ∷ ss) x text h = string-size text _ _ _ h.0 h.1

module _ (x : Fe32) (texts : List (List ℕ)) where
  pub says-derived : (shares : List Share) (text old new : List ℕ) → AreSharesOf texts shares → IsWholeSet shares x → IsDerivedString shares x text → IsStringOfSet shares x text → new ≡ old ++ (codes "ok " ++ text)
      → Adds (IsSharesAnswer x texts) old new
  says-derived shares text old new are whole is string added = record {
    said = codes "ok " ++ text;
    says = inl (record { shares = shares; are = are; whole = whole; text = text; is_derived = is; is_string = string; spelling = refl });
    size = omega (arith, set-size shares x text string);
    added = added;
  }

-- ---- the same at the index of a word

pub says-at_index : (word : List ℕ) (texts : List (List ℕ)) (x : Fe32) (r : Result (Unit {0}) Refusal) (old new : List ℕ) → share_index_word_fault word ≡ None → x ≡ share_index_of_word word
    → AddsOrRefuses (IsSharesAnswer x texts) number_of_codex32_reply r old new → AddsOrRefuses (IsDeriveAnswer word texts) number_of_codex32_reply r old new
says-at_index word texts x r old new fine is h =
    adds_or_refuses-weaker (IsSharesAnswer x texts) (IsDeriveAnswer word texts) number_of_codex32_reply r old new (λ said s. inr (fine, subst (λ y. IsSharesAnswer y texts said) is s)) h

-- the secret is at the index 16
pub says-at_secret : (texts : List (List ℕ)) (r : Result (Unit {0}) Refusal) (old new : List ℕ) (x : Fe32) → AddsOrRefuses (IsSharesAnswer x texts) number_of_codex32_reply r old new → x.value ≡ 16
    → AddsOrRefuses (IsSharesAnswer secret_index texts) number_of_codex32_reply r old new
says-at_secret texts r old new x h e = subst (λ y. AddsOrRefuses (IsSharesAnswer y texts) number_of_codex32_reply r old new) (path x secret_index e) h
