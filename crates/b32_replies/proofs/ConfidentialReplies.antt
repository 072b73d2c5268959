-- Words of blinding keys, and the sizes of confidential addresses.
use Rattle.std.proofs.Common.{◌≡◌, ◌≤◌, ◌+◌, ◌++◌, ◌∷◌, [], ℕ, List, length, length-append, take, drop, arith, ap, codes, sym, ◌∙◌, None, Some, ⊎_elim}
use Rattle.std.proofs.lemmas.List.{length-map, take_all, take_at}
use Rattle.std.specs.Char.{to_ascii_lowercase}
use Rattle.bech32_gf.specs.declared.gf32.Fe32.{Fe32}
use Rattle.bech32_bits.specs.Bits.{fes_count}
use Rattle.bech32_encode.specs.Buffers.{IsPut}
use Rattle.bech32_hrp.specs.Hrp.{lowered}
use Rattle.liquid.specs.Writing.{IsVersionAndLength, confidential_length}
use Rattle.b32_replies.specs.Hex.{bytes_of}
use Rattle.b32_replies.specs.Reply.{IsKeyWord, IsNoKey}

-- ---- keys

pub no-key-from_none : (word : List ℕ) → bytes_of word ≡ None → IsNoKey word
no-key-from_none word none key is = absurd (let both : None ≡ Some key = sym none ∙ is.0 in cc)

pub no-key-from_size : (word bytes : List ℕ) → bytes_of word ≡ Some bytes → (length bytes ≡ 33 → ⊥) → IsNoKey word
no-key-from_size word bytes some other key is =
    let both : Some bytes ≡ Some key = sym some ∙ is.0 in
    let same : bytes ≡ key = cc in
    other (ap length same ∙ is.1)

-- the bytes of a word fill the room for a key
pub key-from_bytes : (word bytes room : List ℕ) (n : ℕ) → bytes_of word ≡ Some bytes → n ≡ 33 → (n ≤ 33 → take n room ≡ bytes) → length room ≡ 33 → IsKeyWord word room
key-from_bytes word bytes room n some whole there size =
    let all : bytes ≡ room = sym (there (omega (arith, whole))) ∙ take_all n room (omega (arith, whole, size)) in
    (some ∙ ap (λ (l : List ℕ). Some l) all, size)

-- ---- addresses

-- no address has more characters than this
pub address-size : (hrp : List ℕ) (version : Fe32) (n : ℕ) → length hrp ≤ 83 → IsVersionAndLength version n → confidential_length hrp n ≤ 201
address-size hrp version n few lawful =
    ⊎_elim
    (λ (e : n ≡ 20). omega (arith, few, e, ap (λ (k : ℕ). fes_count 0 (33 + k)) e))
    (λ (e : n ≡ 32). omega (arith, few, e, ap (λ (k : ℕ). fes_count 0 (33 + k)) e))
    (lawful.program_length.of_version_0 lawful.version_is)

-- what was put at the front of a buffer stands there
pub put-front : (written old new : List ℕ) (count : ℕ) → IsPut written old new count → take count new ≡ written
put-front written old new count put =
    ap (λ (l : List ℕ). take count l) put.buffer ∙ take_at written (drop (length written) old) count (sym put.count_is)

-- how far a reply goes with its human-readable part
pub behind_part : (out hrp new : List ℕ) → new ≡ out ++ (codes "ok " ++ (lowered hrp ++ 32 ∷ [])) → length new ≡ length out + length hrp + 4
behind_part out hrp new added =
    omega (
      arith,
      ap length added,
      length-append out (codes "ok " ++ (lowered hrp ++ 32 ∷ [])),
      length-append (lowered hrp) (32 ∷ []),
      length-map hrp to_ascii_lowercase,
    )
