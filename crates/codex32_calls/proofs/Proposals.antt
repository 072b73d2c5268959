-- Nothing but memory is wanting where there is a nearest text and room for it.
use Rattle.std.proofs.Common.{◌≡◌, ◌<◌, ℕ, Bool, true, false, cond, List, [], ◌∷◌, length, None, inl, inr, refl, sym, subst, ◌∙◌, arith, eqb, eqb-true}
use Rattle.std.proofs.lemmas.Bool.{and_parts}
use Rattle.std.proofs.lemmas.Str.{IsUtf8-append, IsUtf8-from_ascii}
use Rattle.std.proofs.lemmas.Str.Ascii.{IsAscii-nil, IsAscii-cons}
use Rattle.std.specs.Str.{IsAscii, IsUtf8}
use Rattle.bech32_checksum.specs.Code.{Code}
use Rattle.bech32_gf.proofs.Characters.{below-from_alphabet}
use Rattle.bech32_gf.specs.Alphabet.{is_data, is_of_alphabet}
use Rattle.codex32.specs.Nearest.{IsNearestBy}
use Rattle.codex32.specs.Code.{codex32, long_codex32}
use Rattle.codex32.specs.Damaged.{read_character, read_data, read_text}
use Rattle.codex32.specs.declared.error.Codex32Error.{Codex32Error}
use Rattle.codex32.specs.declared.error.Codex32Error.TheVariants as errors
use Rattle.codex32_calls.specs.Nearest.{IsNearest, IsNearestStringRefusal, damaged_refusal}
use Rattle.codex32_calls.specs.Propose.{CanPropose, IsProposeFault, LacksRoomForNearest}
use Rattle.codex32_calls.specs.declared.propose.Kind.{Kind}
use Rattle.codex32_calls.specs.declared.propose.Kind.TheVariants.{Short, Long}
use Rattle.codex32_calls.specs.declared.refusal.Refusal.{Refusal}
use Rattle.codex32_calls.specs.declared.refusal.Refusal.TheVariants as refusals
use Rattle.codex32_calls.proofs.Letters.{IsUtf8-from_hrp}
use Rattle.codex32_calls.proofs.Sizes.{nearest-long}

-- ---- a damaged text is ASCII

below-read : (c : ℕ) → is_of_alphabet (read_character c) ≡ true → c < 128
below-read c h = go (eqb c 63) refl h
  where
    go : (b : Bool) → eqb c 63 ≡ b → is_of_alphabet (cond b 48 c) ≡ true → c < 128
    go true is h = let same = eqb-true c 63 is in omega (arith, same)
    go false is h = below-from_alphabet c h

IsAscii-from_read : (cs : List ℕ) → is_data (read_data cs) ≡ true → IsAscii cs
IsAscii-from_read [] h = IsAscii-nil
IsAscii-from_read (c ∷ cs) h =
    let parts = and_parts (is_of_alphabet (read_character c)) (is_data (read_data cs)) h in
    IsAscii-cons c cs (below-read c parts.0) (IsAscii-from_read cs parts.1)

utf8-from_nearest : (code : Code) (text nearest : List ℕ) → IsNearestBy code text nearest → IsUtf8 text
utf8-from_nearest code text nearest is =
    subst IsUtf8 (sym is.split)
    (IsUtf8-append is.hrp (49 ∷ is.damaged) (IsUtf8-from_hrp is.hrp is.grammar.is_hrp)
    (IsUtf8-from_ascii (49 ∷ is.damaged) (IsAscii-cons 49 is.damaged (omega arith) (IsAscii-from_read is.damaged is.grammar.data_bytes))))

utf8-from_kind : (kind : Kind) (text nearest : List ℕ) → IsNearest kind text nearest → IsUtf8 text
utf8-from_kind Short text nearest is = utf8-from_nearest codex32 text nearest is
utf8-from_kind Long text nearest is = utf8-from_nearest long_codex32 text nearest is

-- ---- the refusals

memory-left : (kind : Kind) (text : List ℕ) (e : Codex32Error) → damaged_refusal kind text ≡ None → IsNearestStringRefusal kind text e → e ≡ errors.Memory
memory-left Short text e framed (inl h) = h.0
memory-left Short text e framed (inr h) = absurd (let k = sym framed ∙ h in cc)
memory-left Long text e framed (inl h) = h.0
memory-left Long text e framed (inr h) = absurd (let k = sym framed ∙ h in cc)

as_long : (kind : Kind) (text nearest : List ℕ) → IsNearest kind text nearest → length nearest ≡ length (read_text text)
as_long Short text nearest is = nearest-long codex32 text nearest is
as_long Long text nearest is = nearest-long long_codex32 text nearest is

pub no_room : (kind : Kind) (text : List ℕ) (room : ℕ) → CanPropose kind text room → LacksRoomForNearest kind text room → ⊥
no_room kind text room can h =
    let here = as_long kind text can.nearest can.is_nearest in
    let there = as_long kind text h.nearest h.is_nearest in
    absurd (omega (arith, here, there, can.fits, h.lacks))

pub only_memory : (kind : Kind) (text : List ℕ) (room : ℕ) (e : Refusal) → CanPropose kind text room → IsProposeFault kind text room e → e ≡ refusals.Text errors.Memory
only_memory kind text room refusals.NotUtf8 can h = absurd (h (utf8-from_kind kind text can.nearest can.is_nearest))
only_memory kind text room (refusals.Text e) can h = let is = memory-left kind text e can.framed h.1 in cc
only_memory kind text room refusals.NoNearest can h = absurd (h.2 can.nearest can.is_nearest)
only_memory kind text room refusals.NoRoom can h = absurd (no_room kind text room can h)
only_memory kind text room refusals.BadLengths can h = absurd h
only_memory kind text room refusals.InvalidCharacter can h = absurd h
only_memory kind text room refusals.MixedCase can h = absurd h
only_memory kind text room (refusals.Header e) can h = absurd h
only_memory kind text room (refusals.Payload e) can h = absurd h
only_memory kind text room (refusals.Encode e) can h = absurd h
only_memory kind text room (refusals.Derive e) can h = absurd h
only_memory kind text room (refusals.Split e) can h = absurd h

pub utf8-from_can : (kind : Kind) (text : List ℕ) (room : ℕ) → CanPropose kind text room → IsUtf8 text
utf8-from_can kind text room can = utf8-from_kind kind text can.nearest can.is_nearest
